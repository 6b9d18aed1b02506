-- The head of an entry's key (docs/TREES.md, "Walks").
use Rattle.std.specs.Prelude.{◌≡◌, ℕ, ◌<◌, List, ◌++◌}
use Rattle.sched_base.specs.KeyedList.{KeyedItem}
use Rattle.eb_arena.specs.declared.links.Place.{Place}
use Rattle.eb_arena.specs.Parts.{Parts}
use Rattle.eb_arena.specs.Shape.{Tree, Split, AllKeys}
use Rattle.eb_arena.specs.Way.{Step, plug, before, after, Leads}

-- at the place hangs all of key k that is in xs, an item of this key, and ys
pub record IsHead (a : Parts) (place : Place) (xs : List KeyedItem) (k : ℕ) (ys : List KeyedItem) : Type 0 where
  pub root : ℕ
  pub way : List Step
  pub tree : Tree
  pub leads : Leads a root place way
  pub split : Split (plug way tree)
  pub left : List KeyedItem
  pub right : List KeyedItem
  pub xs_is : xs ≡ before way ++ left
  pub ys_is : ys ≡ right ++ after way
  pub left_same : AllKeys (λ x. x ≡ k) left
  pub right_same : AllKeys (λ x. x ≡ k) right
  pub low : AllKeys (λ x. x < k) (before way)
  pub high : AllKeys (λ x. k < x) (after way)
