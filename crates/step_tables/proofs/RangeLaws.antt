-- From the tests of a script's ranges to what they say of each part.
use Rattle.std.proofs.lemmas.Bool.{leb-true, ltb-true, and_parts}
use Rattle.std.proofs.Common.{◌≡◌, ℕ, suc, zero, ◌<◌, Bool, true, List, [], ◌∷◌, length, ap, sym, ◌∙◌, arith}
use Rattle.std.specs.Prelude.{Some, nat_le, nat_lt, slice_get}
use Rattle.std.specs.List.{list_all}
use Rattle.std.proofs.lemmas.Option.{none-some}
use Rattle.step_tables.specs.Types.{Action, Wake, Kill, Expiry, Keep, After, Never, Kind, Pinned, Shared, Tasklet, Row, TaskDef, Event}
use Rattle.step_tables.specs.declared.tables.Script.{Script}
use Rattle.step_tables.specs.Limits.{newest, limits_of, most_rows, most_actions, most_delay}
use Rattle.step_tables.specs.Sound.{within, is_nice, is_sound_action, is_sound_expiry, is_sound_kind, is_sound_row, is_sound_task, rising_below, is_sound}
use Rattle.step_tables.specs.Ranges.{ActionRange, ExpiryRange, KindRange, RowRange, TaskRange, ScriptRange}
use Rattle.step_tables.proofs.Bounds.{within_most, in_range}
use Rattle.step_tables.proofs.RowsOf.{first_of_both, second_of_both}

-- the first and the rest of a row of tests
-- an element of a list whose elements all pass
each : {A : Type 0} (test : A → Bool) (xs : List A) (i : ℕ) (x : A) → list_all test xs ≡ true → slice_get xs i ≡ Some x → test x ≡ true
each test [] i x e at = absurd (none-some x at)
each test (y ∷ ys) zero x e at = let same : y ≡ x = cc in ap test (sym same) ∙ first_of_both _ _ e
each test (y ∷ ys) (suc i) x e at = each test ys i x (second_of_both _ _ e) at

action_range : (tasks : ℕ) (action : Action) → is_sound_action tasks action ≡ true → ActionRange tasks action
action_range tasks (Wake i reasons) e =
    let (task, some) = and_parts (nat_lt i.0 tasks) (within 1 127 reasons) e in
    let (low, high) = within_most 1 127 reasons some in
    (ltb-true i.0 tasks task, omega arith, omega arith)
action_range tasks (Kill i) e = ltb-true i.0 tasks e

expiry_range : (kind : Kind) (expiry : Expiry) → is_sound_expiry kind expiry ≡ true → ExpiryRange kind expiry
expiry_range kind Keep e = tt
expiry_range (Pinned home nice) (After ticks) e = within_most 1 most_delay ticks e
expiry_range (Pinned home nice) Never e = tt
expiry_range (Shared nice) (After ticks) e = absurd (cc)
expiry_range (Shared nice) Never e = absurd (cc)
expiry_range (Tasklet home class) (After ticks) e = absurd (cc)
expiry_range (Tasklet home class) Never e = absurd (cc)

kind_range : (workers : ℕ) (kind : Kind) → is_sound_kind workers kind ≡ true → KindRange workers kind
kind_range workers (Pinned home nice) e = let (low, in_range) = and_parts (nat_lt home workers) (is_nice nice) e in (ltb-true home workers low, in_range)
kind_range workers (Shared nice) e = e
kind_range workers (Tasklet home class) e = ltb-true home workers e

row_range : (tasks : ℕ) (kind : Kind) (rows : ℕ) (row : Row) → is_sound_row tasks kind rows row ≡ true → RowRange tasks kind rows row
row_range tasks kind rows row e =
    let (few, e_2) = and_parts (nat_le (length row.actions) most_actions) _ e in
    let (actions, e_3) = and_parts (list_all (is_sound_action tasks) row.actions) _ e_2 in
    let (expiry, next) = and_parts (is_sound_expiry kind row.expiry) (nat_lt row.next rows) e_3 in
    record {
      few = leb-true _ most_actions few;
      actions = λ k action at. action_range tasks action (each (is_sound_action tasks) row.actions k action actions at);
      expiry = expiry_range kind row.expiry expiry;
      next = ltb-true row.next rows next;
    }

task_range : (workers tasks : ℕ) (task : TaskDef) → is_sound_task workers tasks task ≡ true → TaskRange workers tasks task
task_range workers tasks task e =
    let e_2 = second_of_both _ _ e in
    let (kind, e_3) = and_parts (is_sound_kind workers task.kind) _ e_2 in
    let (count, rows) = and_parts (within 1 most_rows (length task.rows)) (list_all (is_sound_row tasks task.kind (length task.rows)) task.rows) e_3 in
    let (some, few) = within_most 1 most_rows (length task.rows) count in
    record {
      kind = kind_range workers task.kind kind;
      some = some;
      few = few;
      rows = λ j row at. row_range tasks task.kind (length task.rows) row (each (is_sound_row tasks task.kind (length task.rows)) task.rows j row rows at);
    }

-- each event's round is below the last
round_below : (from rounds : ℕ) (events : List Event) (k : ℕ) (event : Event) → rising_below from rounds events ≡ true → slice_get events k ≡ Some event → event.round < rounds
round_below from rounds [] k event e at = absurd (none-some event at)
round_below from rounds (f ∷ events) zero event e at = let same : f ≡ event = cc in ltb-true event.round rounds (ap (λ x. nat_lt x.round rounds) (sym same) ∙ first_of_both _ _ (second_of_both _ _ e))
round_below from rounds (f ∷ events) (suc k) event e at = round_below f.round rounds events k event (second_of_both _ _ (second_of_both _ _ e)) at

-- a script in range has each part in range
pub range_of_sound : (s : Script) → is_sound s ≡ true → ScriptRange s
range_of_sound s e =
    let r = in_range s e in
    let of = r.settings in
    let top = limits_of s.version in
    record {
      some_version = (within_most 1 newest s.version of.version).0;
      few_version = (within_most 1 newest s.version of.version).1;
      some_workers = (within_most 1 top.workers s.workers of.workers).0;
      few_workers = (within_most 1 top.workers s.workers of.workers).1;
      some_depth = (within_most 1 top.depth s.depth of.depth).0;
      few_depth = (within_most 1 top.depth s.depth of.depth).1;
      start = leb-true s.start top.start of.start;
      some_step = (within_most 1 top.step s.step of.step).0;
      few_step = (within_most 1 top.step s.step of.step).1;
      some_rounds = (within_most 1 top.rounds s.rounds of.rounds).0;
      few_rounds = (within_most 1 top.rounds s.rounds of.rounds).1;
      few_tasks = leb-true (length s.tasks) top.tasks r.few;
      tasks = λ i task at. task_range s.workers (length s.tasks) task (each (is_sound_task s.workers (length s.tasks)) s.tasks i task r.tasks at);
      few_events = leb-true (length s.events) top.events r.few_events;
      events = λ k event at. record {
        round = round_below 0 s.rounds s.events k event r.rising at;
        action = action_range (length s.tasks) event.action (each (λ x. is_sound_action (length s.tasks) x.action) s.events k event r.actions at);
      };
    }
