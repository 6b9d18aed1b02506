-- The four class lists as contracts see them (docs/MODEL.md, "Class lists").
use Rattle.std.specs.Prelude.{ℕ, Bool, ◌||◌, ◌==◌, List, [], ◌∷◌}
use Rattle.std.specs.List.{list_any}
use Rattle.sched_base.specs.declared.names.Class.{Class}
use Rattle.queue_model.specs.Classes.{Classes}

-- how many tasks there are, and the list of each class
pub record ClassLists : Type 0 where
  pub tasks : ℕ
  pub lists : Classes (List ℕ)

-- whether task i stands in a list
abbrev pub stands_in : ℕ → List ℕ → Bool
stands_in i is = list_any (λ j. i == j) is

-- whether task i stands in the list of some class
abbrev pub is_pushed : ℕ → Classes (List ℕ) → Bool
is_pushed i c = stands_in i c.urgent || (stands_in i c.normal || (stands_in i c.bulk || stands_in i c.heavy))

-- four empty lists
abbrev pub no_lists : Classes (List ℕ)
no_lists = record { urgent = []; normal = []; bulk = []; heavy = [] }

-- a number for each class, in the order of the classes
abbrev pub in_order : Classes ℕ → List ℕ
in_order q = q.urgent ∷ q.normal ∷ q.bulk ∷ q.heavy ∷ []
