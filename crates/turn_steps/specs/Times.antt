-- How often a task stands in lists (docs/MODEL.md, "What a caller has").
use Rattle.std.specs.Prelude.{ℕ, ◌+◌, ◌==◌, List, [], ◌∷◌, map}
use Rattle.queue_model.specs.Classes.{Classes}
use Rattle.task_machine.specs.Step.{bit}
use Rattle.run_model.specs.Book.{Book}

-- in a list
abbrev pub times : ℕ → List ℕ → ℕ
times i [] = 0
times i (j ∷ js) = bit (i == j) + times i js

-- in the lists of all classes
abbrev pub in_classes : ℕ → Classes (List ℕ) → ℕ
in_classes i c = times i c.urgent + (times i c.normal + (times i c.bulk + times i c.heavy))

-- in the run list and the class lists of a book
abbrev pub listed : ℕ → Book → ℕ
listed i b = times i (map (λ y. y.task) b.run.items) + in_classes i b.lists
