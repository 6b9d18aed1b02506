-- Ordered lists of numbered entries under keys (docs/MODEL.md, "Keyed lists").
use Rattle.std.specs.Prelude.{◌≡◌, ℕ, ◌+◌, ◌<◌, ◌≤◌, ◌==◌, nat_le, not, Bool, true, false, List, [], ◌∷◌, if◌then◌else◌, filter, find, Option, None, Some, length, slice_index_or, slice_set}
use Rattle.std.specs.List.{list_any, AllByRecursion}
use Rattle.std.specs.Option.{option_map}

-- the list with x behind those items at its front that stay before it
abbrev pub inserted : {X : Type 0} → (X → Bool) → X → List X → List X
inserted stays x [] = x ∷ []
inserted stays x (y ∷ ys) = if stays y then y ∷ inserted stays x ys else x ∷ y ∷ ys

-- one item: an entry, and the key under which it stands
pub record KeyedItem : Type 0 where
  pub key : ℕ
  pub entry : ℕ

-- one root: its items in order, and how many insertions were ever made into it
pub record KeyedList : Type 0 where
  pub items : List KeyedItem
  pub insertions : ℕ

-- an insertion, behind all items of at most this key
abbrev pub with_entry : ℕ → ℕ → KeyedList → KeyedList
with_entry key entry l = record {
  items = inserted (λ y. nat_le y.key key) (record { key = key; entry = entry }) l.items;
  insertions = l.insertions + 1;
}

-- whether an item is that of an entry
abbrev pub is_entry : ℕ → KeyedItem → Bool
is_entry entry y = y.entry == entry

-- a deletion, of the item with this entry
abbrev pub without_entry : ℕ → KeyedList → KeyedList
without_entry entry l = record l { items = filter (λ y. not (is_entry entry y)) l.items }

-- whether an entry stands in a root's list
abbrev pub holds : ℕ → KeyedList → Bool
holds entry l = list_any (is_entry entry) l.items

-- the first entry of some items
abbrev pub first_entry : List KeyedItem → Option ℕ
first_entry [] = None
first_entry (y ∷ ys) = Some y.entry

-- the entry that follows this one
abbrev pub next_entry : ℕ → List KeyedItem → Option ℕ
next_entry entry [] = None
next_entry entry (y ∷ ys) = if is_entry entry y then first_entry ys else next_entry entry ys

-- the first entry whose key is at least this one
abbrev pub entry_from : ℕ → List KeyedItem → Option ℕ
entry_from key items = option_map (λ y. y.entry) (find (λ y. nat_le key y.key) items)

-- the key under which an entry stands
abbrev pub key_of_entry : ℕ → List KeyedItem → Option ℕ
key_of_entry entry items = option_map (λ y. y.key) (find (is_entry entry) items)

-- keys never fall along these items
abbrev pub IsRising : List KeyedItem → Type 0
IsRising [] = Unit {0}
IsRising (x ∷ xs) = AllByRecursion (λ y. x.key ≤ y.key) xs × IsRising xs

-- no entry stands twice among these items
abbrev pub IsOnce : List KeyedItem → Type 0
IsOnce [] = Unit {0}
IsOnce (x ∷ xs) = (list_any (is_entry x.entry) xs ≡ false) × IsOnce xs

-- a root whose keys never fall, and where no entry stands twice
pub record IsKeyed (l : KeyedList) : Type 0 where
  pub rising : IsRising l.items
  pub once : IsOnce l.items

-- all roots, and over how many entries they go
pub record KeyedRoots : Type 0 where
  pub roots : List KeyedList
  pub entries : ℕ

-- a root without items, into which nothing was ever inserted
abbrev pub blank : KeyedList
blank = record { items = []; insertions = 0 }

-- the list of a root
abbrev pub root_at : ℕ → KeyedRoots → KeyedList
root_at root s = slice_index_or s.roots root blank

-- the list of one root changed; all other roots stay, and so do the numbers of roots and entries
abbrev pub with_root : ℕ → KeyedList → KeyedRoots → KeyedRoots
with_root root l s = record s { roots = slice_set s.roots root l }

-- an insertion into a root
abbrev pub inserted_into : ℕ → ℕ → ℕ → KeyedRoots → KeyedRoots
inserted_into root entry key s = with_root root (with_entry key entry (root_at root s)) s

-- a deletion from a root
abbrev pub deleted_from : ℕ → ℕ → KeyedRoots → KeyedRoots
deleted_from root entry s = with_root root (without_entry entry (root_at root s)) s

-- an entry stands in a root
pub record StandsIn (root entry : ℕ) (s : KeyedRoots) : Type 0 where
  pub exists : root < length s.roots
  pub held : holds entry (root_at root s) ≡ true

-- an entry stands in some root
abbrev pub IsPlaced : ℕ → KeyedRoots → Type 0
IsPlaced entry s = (root : ℕ) × StandsIn root entry s

-- an entry stands in no root
abbrev pub IsFree : ℕ → KeyedRoots → Type 0
IsFree entry s = (root : ℕ) → root < length s.roots → holds entry (root_at root s) ≡ false

-- in each root keys never fall and no entry stands twice, and no entry stands in two roots
pub record AreKeyed (s : KeyedRoots) : Type 0 where
  pub keyed : (root : ℕ) → root < length s.roots → IsKeyed (root_at root s)
  pub one : (entry root other : ℕ) → StandsIn root entry s → StandsIn other entry s → root ≡ other

-- what changes one root alone: all others stay, and so do the numbers of roots and entries
pub record ChangesRoot (root : ℕ) (old new : KeyedRoots) : Type 0 where
  pub roots : length new.roots ≡ length old.roots
  pub entries : new.entries ≡ old.entries
  pub others : (other : ℕ) → (other ≡ root → ⊥) → root_at other new ≡ root_at other old
