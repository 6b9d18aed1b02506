-- The limits of each version can be counted and written, and what the tests of a script's ranges say together.
use Rattle.std.proofs.Common.{◌≡◌, ℕ, ◌^◌, ◌≤◌, ◌<◌, true, false, length, arith, lit<, lit≤, ◌+◌}
use Rattle.std.specs.Prelude.{nat_le}
use Rattle.std.specs.List.{list_all}
use Rattle.std.proofs.lemmas.Bool.Decides.{nat_tests}
use Rattle.step_tables.specs.Types.{Setting, Workers, Depth, Start, Step, Rounds}
use Rattle.step_tables.specs.declared.tables.Script.{Script}
use Rattle.step_tables.specs.Limits.{newest, limits_of, most_rows, most_delay}
use Rattle.step_tables.specs.Judging.{least, most, outside, byte_limit}
use Rattle.step_tables.specs.Text.{names_of}
use Rattle.step_tables.specs.Sound.{within, is_sound_action, is_sound_task, distinct_names, rising_below, is_sound}
use Rattle.step_tables.proofs.RowsOf.{first_of_both, second_of_both}

pub tasks_small : (version : ℕ) → (limits_of version).tasks < 2 ^ 32
tasks_small version = lit< tt

-- no version has more bytes than the newest
pub bytes_most : (version : ℕ) → (limits_of version).bytes + 1 ≤ byte_limit + 1
bytes_most version = lit≤ tt

-- a setting in its range has at most ten digits
setting_small : (version : ℕ) (setting : Setting) → most (limits_of version) setting < 10 ^ 10
setting_small version Workers = lit< tt
setting_small version Depth = lit< tt
setting_small version Start = lit< tt
setting_small version Step = lit< tt
setting_small version Rounds = lit< tt

pub inside_small : (version : ℕ) (setting : Setting) (n : ℕ) → outside (least setting) (most (limits_of version) setting) n ≡ false → n < 10 ^ 10
inside_small version setting n e = below (least setting) (most (limits_of version) setting) e (setting_small version setting)
  where
    high_enough : (low high : ℕ) → outside low high n ≡ false → n ≤ high
    high_enough low high e = grind (arith, nat_tests)

    below : (low high : ℕ) → outside low high n ≡ false → high < 10 ^ 10 → n < 10 ^ 10
    below low high e h = let most_n = high_enough low high e in omega arith

pub within_outside : (low high n : ℕ) → within low high n ≡ true → outside low high n ≡ false
within_outside low high n e = grind (arith, nat_tests)

pub within_most : (low high n : ℕ) → within low high n ≡ true → (low ≤ n) × (n ≤ high)
within_most low high n e = grind (arith, nat_tests)

within_small : (high n : ℕ) → high < 10 ^ 10 → within 1 high n ≡ true → n < 10 ^ 10
within_small high n h e = let in_range = within_most 1 high n e in omega (arith, in_range.1)

-- so have a number of rows and a number of ticks
pub rows_small : (n : ℕ) → within 1 most_rows n ≡ true → n < 10 ^ 10
rows_small n e = within_small most_rows n (lit< tt) e

pub delay_small : (n : ℕ) → within 1 most_delay n ≡ true → n < 10 ^ 10
delay_small n e = within_small most_delay n (lit< tt) e

-- the settings of a script of version v are in range
pub record AreSettings (v w d t k r : ℕ) : Type 0 where
  pub version : within 1 newest v ≡ true
  pub workers : within 1 (limits_of v).workers w ≡ true
  pub depth : within 1 (limits_of v).depth d ≡ true
  pub start : nat_le t (limits_of v).start ≡ true
  pub step : within 1 (limits_of v).step k ≡ true
  pub rounds : within 1 (limits_of v).rounds r ≡ true

-- no setting of a script in range is outside its own
pub start_inside : (n high : ℕ) → nat_le n high ≡ true → outside 0 high n ≡ false
start_inside n high e = grind (arith, nat_tests)

pub workers_small : (v w d t k r : ℕ) → AreSettings v w d t k r → w < 10 ^ 10
workers_small v w d t k r are = inside_small v Workers w (within_outside 1 (limits_of v).workers w are.workers)

pub rounds_small : (v w d t k r : ℕ) → AreSettings v w d t k r → r < 10 ^ 10
rounds_small v w d t k r are = inside_small v Rounds r (within_outside 1 (limits_of v).rounds r are.rounds)

-- what is known of a script in range
pub record InRange (s : Script) : Type 0 where
  pub settings : AreSettings s.version s.workers s.depth s.start s.step s.rounds
  pub few : nat_le (length s.tasks) (limits_of s.version).tasks ≡ true
  pub tasks : list_all (is_sound_task s.workers (length s.tasks)) s.tasks ≡ true
  pub distinct : distinct_names (names_of s.tasks) ≡ true
  pub few_events : nat_le (length s.events) (limits_of s.version).events ≡ true
  pub actions : list_all (λ e. is_sound_action (length s.tasks) e.action) s.events ≡ true
  pub rising : rising_below 0 s.rounds s.events ≡ true

pub in_range : (s : Script) → is_sound s ≡ true → InRange s
unfolding is_sound
in_range s e =
    let top = limits_of s.version in
    let e_1 = second_of_both (within 1 newest s.version) _ e in
    let e_2 = second_of_both (within 1 top.workers s.workers) _ e_1 in
    let e_3 = second_of_both (within 1 top.depth s.depth) _ e_2 in
    let e_4 = second_of_both (nat_le s.start top.start) _ e_3 in
    let e_5 = second_of_both (within 1 top.step s.step) _ e_4 in
    let e_6 = second_of_both (within 1 top.rounds s.rounds) _ e_5 in
    let e_7 = second_of_both (nat_le (length s.tasks) top.tasks) _ e_6 in
    let e_8 = second_of_both (list_all (is_sound_task s.workers (length s.tasks)) s.tasks) _ e_7 in
    let e_9 = second_of_both (distinct_names (names_of s.tasks)) _ e_8 in
    let e_10 = second_of_both (nat_le (length s.events) top.events) _ e_9 in
    record {
      settings = record {
        version = first_of_both (within 1 newest s.version) _ e;
        workers = first_of_both (within 1 top.workers s.workers) _ e_1;
        depth = first_of_both (within 1 top.depth s.depth) _ e_2;
        start = first_of_both (nat_le s.start top.start) _ e_3;
        step = first_of_both (within 1 top.step s.step) _ e_4;
        rounds = first_of_both (within 1 top.rounds s.rounds) _ e_5;
      };
      few = first_of_both (nat_le (length s.tasks) top.tasks) _ e_6;
      tasks = first_of_both (list_all (is_sound_task s.workers (length s.tasks)) s.tasks) _ e_7;
      distinct = first_of_both (distinct_names (names_of s.tasks)) _ e_8;
      few_events = first_of_both (nat_le (length s.events) top.events) _ e_9;
      actions = first_of_both (list_all (λ e. is_sound_action (length s.tasks) e.action) s.events) _ e_10;
      rising = second_of_both (list_all (λ e. is_sound_action (length s.tasks) e.action) s.events) _ e_10;
    }
