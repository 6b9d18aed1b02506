-- What good lines make is in range.
use Rattle.std.proofs.lemmas.Bool.{and_from, or_parts, leb-false, le-leb, ltb-false, lt-ltb}
use Rattle.std.proofs.Common.{◌≡◌, ℕ, ◌<◌, Bool, true, false, cond, List, [], ◌∷◌, map, length, refl, ap, sym, ◌∙◌, arith}
use Rattle.std.specs.Prelude.{Some, None, is_none, unwrap_or, bytes_eq, not, ◌&&◌, nat_le, nat_lt, ℤ}
use Rattle.std.specs.List.{list_all, list_any, position_or_len}
use Rattle.std.proofs.lemmas.Bool.Decides.{nat_tests}
use Rattle.std.proofs.lemmas.List.{length-map}
use Rattle.step_tables.specs.Types.{Kind, Pinned, Shared, Tasklet, TaskDef}
use Rattle.step_tables.specs.declared.progress.Progress.{Progress}
use Rattle.step_tables.specs.Words.{Word, is_name}
use Rattle.step_tables.specs.Shapes.{Order, wakes, kills, Delay, keeps, after, never, Place, pinned, shared, tasklet, TaskLine, RowLine, EventLine}
use Rattle.step_tables.specs.Sound.{within, is_nice, is_sound_action, is_sound_expiry, is_sound_kind, is_sound_row}
use Rattle.step_tables.specs.Limits.{most_rows, most_actions, most_delay}
use Rattle.step_tables.specs.Judging.{value, signed_value, outside, outside_nice, place_outside, delay_outside, named, unknown, order_name, number_named, action_of, expiry_of, kind_of, task_of, row_of, event_of, barred, is_timerless, is_expiry, promised}
use Rattle.step_tables.proofs.Back.{IsOrder, AreOrders}
use Rattle.step_tables.proofs.Good.{GoodRow, GoodEvent, GoodTask}
use Rattle.step_tables.proofs.RowsOf.{IsTaskOf}

pub not_outside : (low high n : ℕ) → outside low high n ≡ false → within low high n ≡ true
not_outside low high n e = grind (arith, nat_tests)

not_outside_nice : (n : ℤ) → outside_nice n ≡ false → is_nice n ≡ true
not_outside_nice n e = let (a, b) = or_parts _ _ e in and_from _ _ (ap not a) (ap not b)

reasons_range : (f : ℕ) → 0 < f → f < 128 → within 1 127 f ≡ true
reasons_range f some few = grind (arith, nat_tests)

-- a known name has a task's number
known_number : (tasks : List TaskDef) (name : Word) → unknown tasks name ≡ false → nat_lt (number_named tasks name) (length tasks) ≡ true
unfolding unknown number_named named
known_number tasks name e = go (nat_lt (position_or_len (λ task. bytes_eq task.name name) tasks) (length tasks)) (position_or_len (λ task. bytes_eq task.name name) tasks) refl e
  where
    go : (b : Bool) (i : ℕ) → nat_lt i (length tasks) ≡ b → is_none (cond b (Some i) None) ≡ false → nat_lt (unwrap_or (cond b (Some i) None) 0) (length tasks) ≡ true
    go true i h f = h
    go false i h f = absurd (cc)

sound_action : (tasks : List TaskDef) (order : Order) → IsOrder order → unknown tasks (order_name order) ≡ false → is_sound_action (length tasks) (action_of tasks order) ≡ true
unfolding action_of
sound_action tasks (wakes name f) is known = and_from _ _ (known_number tasks name known) (reasons_range f is.1 is.2)
sound_action tasks (kills name) is known = known_number tasks name known

sound_actions : (tasks : List TaskDef) (orders : List Order) → AreOrders orders → list_any (λ order. unknown tasks (order_name order)) orders ≡ false → list_all (is_sound_action (length tasks)) (map (action_of tasks) orders) ≡ true
sound_actions tasks [] are known = refl
sound_actions tasks (o ∷ os) are known = let (first, others) = or_parts _ _ known in and_from _ _ (sound_action tasks o are.0 first) (sound_actions tasks os are.1 others)

sound_expiry : (kind : Kind) (delay : Delay) → (is_timerless kind && is_expiry delay) ≡ false → delay_outside delay ≡ false → is_sound_expiry kind (expiry_of delay) ≡ true
unfolding expiry_of delay_outside
sound_expiry kind keeps barred_ range = refl
sound_expiry (Pinned home nice) (after w) barred_ range = not_outside 1 most_delay (value w) range
sound_expiry (Pinned home nice) never barred_ range = refl
sound_expiry (Shared nice) (after w) barred_ range = absurd (cc)
sound_expiry (Shared nice) never barred_ range = absurd (cc)
sound_expiry (Tasklet home class) (after w) barred_ range = absurd (cc)
sound_expiry (Tasklet home class) never barred_ range = absurd (cc)

-- a good row is in range
pub sound_row : (p : Progress) (line : RowLine) (good : GoodRow p line) → AreOrders line.orders → is_sound_row (length p.tasks) good.task.kind (promised p) (row_of p.tasks line) ≡ true
unfolding row_of
sound_row p line good are =
    let few : nat_le (length (map (action_of p.tasks) line.orders)) most_actions ≡ true = ap (λ n. nat_le n most_actions) (length-map line.orders (action_of p.tasks)) ∙ le-leb _ most_actions (ltb-false most_actions _ good.few) in
    let expiry : (is_timerless good.task.kind && is_expiry line.delay) ≡ false = ap (λ d. barred d line.delay) (sym good.target.is_due) ∙ good.expiry in
    and_from _ _ few (and_from _ _ (sound_actions p.tasks line.orders are good.known) (and_from _ _ (sound_expiry good.task.kind line.delay expiry good.ticks) (lt-ltb _ _ good.target.next)))

-- a good task line makes a task in range
pub sound_task : (p : Progress) (line : TaskLine) → GoodTask p line → is_name line.name ≡ true → IsTaskOf p.workers (value line.rows) (task_of line)
unfolding task_of kind_of place_outside
sound_task p line good name = record { name = name; kind = sound_kind line.place good.place; count = not_outside 1 most_rows (value line.rows) good.rows }
  where
    sound_kind : (place : Place) → place_outside p.workers place ≡ false → is_sound_kind p.workers (kind_of place) ≡ true
    sound_kind (pinned home nice) e = let (a, b) = or_parts (nat_le p.workers (value home)) (outside_nice (signed_value nice)) e in and_from (nat_lt (value home) p.workers) (is_nice (signed_value nice)) (lt-ltb (value home) p.workers (leb-false p.workers (value home) a)) (not_outside_nice (signed_value nice) b)
    sound_kind (shared nice) e = not_outside_nice (signed_value nice) e
    sound_kind (tasklet home class) e = lt-ltb (value home) p.workers (leb-false p.workers (value home) e)

-- a good event names a task, and comes in order
pub sound_event : (p : Progress) (line : EventLine) → GoodEvent p line → IsOrder line.order → is_sound_action (length p.tasks) (event_of p.tasks line).action ≡ true
unfolding event_of
sound_event p line good is = sound_action p.tasks line.order is good.known
