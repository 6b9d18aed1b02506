-- A generated script is in range.
use Rattle.std.proofs.Common.{◌≡◌, ◌≢◌, ℕ, suc, zero, ◌+◌, ◌*◌, ◌%◌, ◌^◌, ◌<◌, ◌≤◌, ℤ, Bool, true, false, not, ◌&&◌, ◌||◌, ◌==◌, List, [], ◌∷◌, map, length, decimal, refl, ap, ◌∙◌, sym, arith, leb, ltb}
use Rattle.std.specs.Prelude.{pos, negsuc, ◌+ℤ◌, ◌≤ℤ◌, int_lt, nat_le, nat_lt, bytes_eq}
use Rattle.std.proofs.lemmas.Int.{ints}
use Rattle.std.specs.List.{list_all, list_any}
use Rattle.std.specs.Str.{all_ascii_digits}
use Rattle.std.specs.Char.{is_ascii_digit, is_ascii_lowercase}
use Rattle.std.proofs.lemmas.Bool.{and_from, and_parts, lt-ltb, le-leb}
use Rattle.std.proofs.lemmas.Bool.Decides.{nat_tests}
use Rattle.std.proofs.lemmas.Fmt.{length-decimal-le, decimal_injective}
use Rattle.std.proofs.lemmas.Slice.Eq.{bytes_eq-Decides}
use Rattle.text_lines.specs.Names.{is_name_byte}
use Rattle.text_lines.proofs.NumbersAgain.{decimal_digits}
use Rattle.step_tables.specs.declared.tables.TaskDef.{TaskDef}
use Rattle.step_tables.specs.Words.{is_name}
use Rattle.step_tables.specs.Sound.{within, is_nice, is_sound, is_sound_task, distinct_names}
use Rattle.script_gen.specs.Draws.{next_draw, next_state, drawn_at, drawn_by, homed, after_four}
use Rattle.script_gen.specs.declared.drawing.Drawn.{Drawn}
use Rattle.script_gen.specs.Generated.{name_of, task_by, tasks_from, generated}
use Rattle.script_gen.proofs.Homed.{friend_within}
use Rattle.script_gen.proofs.Tasks.{tasks_length, all_tasks}

-- what is drawn for a task of so many is in range
pub record IsDrawn (size : ℕ) (d : Drawn) : Type 0 where
  pub delay : within 1 1073741824 d.delay ≡ true
  pub timeout : within 1 1073741824 d.timeout ≡ true
  pub friend : d.friend < size
  pub nice : is_nice d.nice ≡ true

in_nice : (z : ℤ) → negsuc 1023 ≤ℤ z → z ≤ℤ pos 1024 → is_nice z ≡ true
in_nice z low high = by_tests (int_lt z (negsuc 1023)) refl (int_lt (pos 1024) z) refl
  where
    by_tests : (a : Bool) → int_lt z (negsuc 1023) ≡ a → (b : Bool) → int_lt (pos 1024) z ≡ b → (not a && not b) ≡ true
    by_tests true e b f = absurd (omega (arith, ints))
    by_tests false e true f = absurd (omega (arith, ints))
    by_tests false e false f = refl

nice_range : (n : ℕ) → n < 2049 → is_nice (pos n +ℤ negsuc 1023) ≡ true
nice_range n low = in_nice (pos n +ℤ negsuc 1023) (omega (arith, ints)) (omega (arith, ints))

rest_below : (v m : ℕ) → 1 ≤ m → v % m < m
rest_below v m some = grind arith

is_within : (low high n : ℕ) → low ≤ n → n ≤ high → within low high n ≡ true
is_within low high n a b = grind (arith, nat_tests)

pub is_drawn : (size i x : ℕ) → i < size → IsDrawn size (drawn_at size i x)
is_drawn size i x below = drawn (next_draw x) (next_draw (next_state x)) (next_draw (next_state (next_state x))) (next_draw (next_state (next_state (next_state x))))
  where
    drawn : (v1 v2 v3 v4 : ℕ) → IsDrawn size (drawn_by size i v1 v2 v3 v4)
    drawn v1 v2 v3 v4 = record {
      delay = (let r = rest_below v1 500 (omega arith) in is_within 1 1073741824 (1 + v1 % 500) (omega arith) (omega arith));
      timeout = (let r = rest_below v2 400 (omega arith) in is_within 1 1073741824 (100 + v2 % 400) (omega arith) (omega arith));
      friend = friend_within size (i % 4) v3 (rest_below i 4 (omega arith)) (omega arith);
      nice = nice_range (v4 % 2049) (rest_below v4 2049 (omega arith));
    }

-- ---- names

digit_is_name_byte : (d : ℕ) → is_ascii_digit d ≡ true → is_name_byte d ≡ true
digit_is_name_byte d e = by_case (is_ascii_lowercase d)
  where
    by_case : (a : Bool) → (a || (is_ascii_digit d || d == 95)) ≡ true
    by_case true = refl
    by_case false = rw e refl

digits_are_name_bytes : (ds : List ℕ) → all_ascii_digits ds ≡ true → list_all is_name_byte ds ≡ true
digits_are_name_bytes [] all = refl
digits_are_name_bytes (d ∷ ds) all =
    let parts = and_parts (is_ascii_digit d) (all_ascii_digits ds) all in
    and_from _ _ (digit_is_name_byte d parts.0) (digits_are_name_bytes ds parts.1)

name_is_name : (i : ℕ) → i < 4096 → is_name (name_of i) ≡ true
unfolding is_name
name_is_name i low =
    let small : i < 2 ^ 64 = omega arith in
    and_from _ _ (le-leb _ _ (omega (arith, length-decimal-le 15 i (omega arith) (omega arith) small))) (digits_are_name_bytes (decimal i) (decimal_digits i small))

other_name : (j i : ℕ) → j < 4096 → i < 4096 → j ≢ i → bytes_eq (name_of j) (name_of i) ≡ false
other_name j i a b differ = by_test (bytes_eq (decimal j) (decimal i)) refl
  where
    by_test : (t : Bool) → bytes_eq (decimal j) (decimal i) ≡ t → t ≡ false
    by_test true e = absurd (differ (decimal_injective j i (omega arith) (omega arith) ((bytes_eq-Decides (decimal j) (decimal i)).0 e)))
    by_test false e = refl

-- no task from number i on has the name of one before
new_name : (j size i x n : ℕ) → j < i → i + n ≤ 4096 → list_any (λ other. bytes_eq (name_of j) other) (map (λ task. task.name) (tasks_from size i x n)) ≡ false
unfolding tasks_from
new_name j size i x zero before few = refl
new_name j size i x (suc n) before few =
    let first = other_name j i (omega arith) (omega arith) (omega arith) in
    let later = new_name j size (i + 1) (after_four x) n (omega arith) (omega arith) in
    rw (first, later) refl

names_differ : (size i x n : ℕ) → i + n ≤ 4096 → distinct_names (map (λ task. task.name) (tasks_from size i x n)) ≡ true
unfolding tasks_from
names_differ size i x zero few = refl
names_differ size i x (suc n) few =
    and_from _ _ (ap not (new_name i size (i + 1) (after_four x) n (omega arith) (omega arith))) (names_differ size (i + 1) (after_four x) n (omega arith))

-- ---- a task, and the script

task_is_sound : (size i : ℕ) (d : Drawn) → i < size → size ≤ 4096 → IsDrawn size d → is_sound_task 4 size (task_by i d) ≡ true
task_is_sound size i d below few is =
    let friend : nat_lt d.friend size ≡ true = lt-ltb _ _ is.friend in
    let own : nat_lt i size ≡ true = lt-ltb _ _ below in
    let home : nat_lt (i % 4) 4 ≡ true = lt-ltb _ _ (rest_below i 4 (omega arith)) in
    and_from _ _ (name_is_name i (omega arith)) (and_from _ _ (and_from _ _ home is.nice)
    (rw (friend, own, is.delay, is.timeout) refl))

pub script_is_sound : (seed size : ℕ) → 1 ≤ size → size ≤ 4096 → is_sound (generated seed size) ≡ true
unfolding is_sound
script_is_sound seed size some few =
    let count = tasks_length size 0 seed size in
    let tasks = all_tasks (is_sound_task 4 size) size 0 seed size (λ k y low high. task_is_sound size k (drawn_at size k y) (omega arith) few (is_drawn size k y (omega arith))) in
    let names = names_differ size 0 seed size (omega arith) in
    rw count (and_from _ _ (le-leb _ _ few) (and_from _ _ tasks (and_from _ _ names refl)))
