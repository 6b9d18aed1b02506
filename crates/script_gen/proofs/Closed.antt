-- A generated script is closed by homes.
use Rattle.std.proofs.Common.{◌≡◌, ℕ, suc, zero, ◌+◌, ◌*◌, ◌%◌, ◌<◌, ◌≤◌, List, [], ◌∷◌, Option, Some, None, refl, ap, ◌∙◌, sym, subst, arith}
use Rattle.std.specs.Prelude.{slice_get}
use Rattle.sched_base.specs.ReasonNames.{msg}
use Rattle.step_tables.specs.declared.tables.Action.{Action}
use Rattle.step_tables.specs.declared.tables.Action.TheVariants.{Wake, Kill}
use Rattle.step_tables.specs.declared.tables.Row.{Row}
use Rattle.step_tables.specs.declared.tables.TaskDef.{TaskDef}
use Rattle.step_tables.specs.Homes.{own_home, task_named, NamesHome, StaysHome, IsClosedByHomes}
use Rattle.script_gen.specs.Draws.{next_state, next_draw, drawn_at, homed}
use Rattle.script_gen.specs.declared.drawing.Drawn.{Drawn}
use Rattle.script_gen.specs.Generated.{rows_of, task_by, tasks_from, generated}
use Rattle.script_gen.proofs.Homed.{friend_within, friend_home}
use Rattle.script_gen.proofs.Tasks.{task_found, task_there}

-- the task of this number is one of its home
named : (seed size k home : ℕ) → k < size → k % 4 ≡ home → (action : Action) → task_named action ≡ k → NamesHome (tasks_from size 0 seed size) home action
named seed size k home below at action is =
    let there = task_there size 0 seed size k below in
    let place : slice_get (tasks_from size 0 seed size) (task_named action) ≡ Some (task_by (0 + k) (drawn_at size (0 + k) there.0)) = ap (λ j. slice_get (tasks_from size 0 seed size) j) is ∙ there.1 in
    (task_by (0 + k) (drawn_at size (0 + k) there.0), place, ap (λ j. Some (j % 4)) (let z : 0 + k ≡ k = omega arith in z) ∙ ap Some at)

some_is : {A : Type 0} {x y : A} → Some x ≡ Some y → x ≡ y
some_is e = cc

abbrev no_actions : List Action
no_actions = []

abbrev no_rows : List Row
no_rows = []

none_among : (k : ℕ) (action : Action) → slice_get no_actions k ≡ Some action → ⊥
none_among zero action e = cc
none_among (suc k) action e = cc

no_row : (j : ℕ) (row : Row) → slice_get no_rows j ≡ Some row → ⊥
no_row zero row e = cc
no_row (suc j) row e = cc

one_among : (one action : Action) (k : ℕ) → slice_get (one ∷ []) k ≡ Some action → one ≡ action
one_among one action zero e = some_is e
one_among one action (suc k) e = absurd (none_among k action e)

-- the actions of a task's rows
rows_stay : (seed size i : ℕ) (d : Drawn) → i < size → d.friend < size → d.friend % 4 ≡ i % 4 → (j : ℕ) (row : Row) → slice_get (rows_of i d) j ≡ Some row → (k : ℕ) (action : Action) → slice_get row.actions k ≡ Some action → NamesHome (tasks_from size 0 seed size) (i % 4) action
rows_stay seed size i d own friend home zero row at k action is =
    absurd (none_among k action (ap (λ (r : Row). slice_get r.actions k) (some_is at) ∙ is))
rows_stay seed size i d own friend home (suc zero) row at k action is =
    let one = one_among (Wake (record { 0 = d.friend }) msg) action k (ap (λ (r : Row). slice_get r.actions k) (some_is at) ∙ is) in
    named seed size d.friend (i % 4) friend home action (ap task_named (sym one))
rows_stay seed size i d own friend home (suc (suc zero)) row at k action is =
    let one = one_among (Kill (record { 0 = i })) action k (ap (λ (r : Row). slice_get r.actions k) (some_is at) ∙ is) in
    named seed size i (i % 4) own refl action (ap task_named (sym one))
rows_stay seed size i d own friend home (suc (suc (suc j))) row at k action is = absurd (no_row j row at)

-- a task that was generated stays at home
task_stays : (seed size i x : ℕ) → i < size → StaysHome (tasks_from size 0 seed size) (task_by i (drawn_at size i x))
task_stays seed size i x below =
    let home_low : i % 4 < 4 = omega arith in
    let within : i % 4 < size = omega arith in
    let v = next_draw (next_state (next_state x)) in
    (i % 4, refl, rows_stay seed size i (drawn_at size i x) below (friend_within size (i % 4) v home_low within) (friend_home (v % homed size (i % 4)) (i % 4) home_low))

pub script_is_closed : (seed size : ℕ) → 1 ≤ size → size ≤ 4096 → IsClosedByHomes (generated seed size)
script_is_closed seed size some few = record {
  tasks = λ i task at.
      let found = task_found size 0 seed size i task at in
      let number : 0 + i ≡ i = omega arith in
      let is : task ≡ task_by i (drawn_at size i found.0) = found.1 ∙ ap (λ k. task_by k (drawn_at size k found.0)) number in
      subst (λ t. StaysHome (tasks_from size 0 seed size) t) (sym is) (task_stays seed size i found.0 found.2);
  events = refl;
}
