-- Bodies that are out (docs/BOARD.md, "Bodies").
use Rattle.std.specs.Prelude.{◌≡◌, ◌≢◌, ℕ, ◌==◌, if◌then◌else◌, List, [], ◌∷◌}
use mathlib.Core.Option.{some}
use lib.ListN.{get_elem?}
use Rattle.task_machine.specs.Own.{Own, away, holding, drawing, running}
use Rattle.wake_board.specs.declared.body.Body.{Body}
use Rattle.wake_board.specs.declared.views.Out.{Out}

-- the body of task i, which went out when the task had t takes
abbrev pub out_of : ℕ → ℕ → Out
out_of i t = record { task = i; takes = t }

-- the body of task i is among those that are out, since the task had t takes
abbrev pub HasBody : List Out → ℕ → ℕ → Type 0
HasBody outs i t = (j : ℕ) × (get_elem? outs j ≡ some (out_of i t))

-- no body of task i is among them
abbrev pub NoBody : List Out → ℕ → Type 0
NoBody outs i = (j : ℕ) (x : Out) → get_elem? outs j ≡ some x → x.task ≢ i

-- those that are not of task i
abbrev pub without : ℕ → List Out → List Out
without i [] = []
without i (x ∷ xs) = if x.task == i then without i xs else x ∷ without i xs

-- by how much the takes of a task grew since its body went out, by what the caller has of it
abbrev pub gained : Own → ℕ
gained running = 1
gained away = 0
gained holding = 0
gained drawing = 0

-- the slots that a seat has are the bodies that are out, in their order
abbrev pub Carries : List (ℕ × Body) → List Out → Type 0
Carries [] [] = Unit {0}
Carries (x ∷ xs) (y ∷ ys) = (x.0 ≡ y.task) × Carries xs ys
Carries [] (y ∷ ys) = ⊥
Carries (x ∷ xs) [] = ⊥
