-- What the plain lists mean: their rows, root by root (docs/MODEL.md, "Keyed lists").
use Rattle.std.specs.Prelude.{◌≡◌, ℕ, ◌+◌, ◌<◌, ◌==◌, Bool, false, List, [], ◌∷◌, filter, map}
use Rattle.std.specs.List.{AllByRecursion, list_any}
use Rattle.sched_base.specs.declared.plain_lists.Row.{Row}
use Rattle.sched_base.specs.KeyedList.{KeyedItem, KeyedList, IsRising}

-- the items of one root, in the order of the rows
abbrev pub items_of : ℕ → List Row → List KeyedItem
items_of root rows = map (λ y. record { key = y.key; entry = y.entry }) (filter (λ y. y.root == root) rows)

-- the lists of all roots from this one on, of which these are the insertions
abbrev pub lists_from : ℕ → List Row → List ℕ → List KeyedList
lists_from root rows [] = []
lists_from root rows (n ∷ ns) = record { items = items_of root rows; insertions = n } ∷ lists_from (root + 1) rows ns

-- a row's numbers are below those of roots and entries
pub record IsWithin (roots entries : ℕ) (y : Row) : Type 0 where
  pub root : y.root < roots
  pub entry : y.entry < entries

-- whether an entry has a row
abbrev pub has_row : ℕ → List Row → Bool
has_row entry rows = list_any (λ y. y.entry == entry) rows

-- no entry has two rows
abbrev pub AreApart : List Row → Type 0
AreApart [] = Unit {0}
AreApart (x ∷ xs) = (has_row x.entry xs ≡ false) × AreApart xs

-- no entry has two rows, all rows are within the numbers of roots and entries, and keys never fall along a root's rows
pub record AreSound (roots entries : ℕ) (rows : List Row) : Type 0 where
  pub apart : AreApart rows
  pub within : AllByRecursion (IsWithin roots entries) rows
  pub rising : (root : ℕ) → IsRising (items_of root rows)
