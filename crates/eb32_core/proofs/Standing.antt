-- In which root's list an entry stands.
use Rattle.std.proofs.Common.{◌≡◌, ℕ, ◌+◌, ◌<◌, inl, inr, Bool, true, false, eqb, List, [], ◌∷◌, ◌++◌, length, refl, sym, ap, ◌∙◌, subst, arith, eq-eqb, eqb-true, append_assoc, length-append}
use Rattle.std.specs.Prelude.{◌||◌, Option, Some, None, IsSomeAnd, slice_index, nat_le}
use Rattle.std.specs.List.{filter, list_any}
use Rattle.std.specs.Option.{is_some}
use Rattle.std.proofs.lemmas.Bool.{cases_Bool, or_parts, false≢true}
use Rattle.std.proofs.lemmas.List.Folds.{list_any-append}
use Rattle.sched_base.specs.KeyedList.{KeyedItem, KeyedList, KeyedRoots, root_at, is_entry, holds, first_entry, next_entry, entry_from, key_of_entry, AreKeyed, IsKeyed, IsOnce, StandsIn, IsPlaced, IsFree}
use Rattle.eb_arena.specs.declared.links.Place.{Place}
use Rattle.eb_arena.specs.declared.links.Place.TheVariants as places
use Rattle.eb_arena.specs.Links.{is_nowhere}
use Rattle.eb_arena.specs.Parts.{Parts, element_at}
use Rattle.eb_arena.specs.Shape.{Tree, tip, fork, items, HasLeaf, IsRoot, HasShape, InSome, list_of}
use Rattle.eb_arena.specs.Laws.{OnePosition}
use Rattle.eb_arena.proofs.Reading.{list_of_is}
use Rattle.eb_arena.proofs.Rising.{ordered}
use Rattle.eb_arena.proofs.Ways.{LeafWay, leaf_way}
use Rattle.eb_arena.proofs.Unique.{parts_hang, stand_once}
use Rattle.eb32_walk.specs.Ends.{IsIn, AtEntry}
use Rattle.eb32_walk.proofs.Entries.{EntryWay, entry_way}
use Rattle.eb32_core.specs.Forest.{Grove, IsTended, seen_of}
use Rattle.eb32_core.proofs.Groves.{lists-length, lists-get}

or_true : (b c : Bool) → c ≡ true → (b || c) ≡ true
or_true true c h = refl
or_true false c h = h

-- an entry with a leaf in a tree stands in the tree's list
pub leaf_held : (e : ℕ) (t : Tree) → HasLeaf e t → list_any (is_entry e) (items t) ≡ true
leaf_held e (tip x k) h = rw (eq-eqb x e (sym h)) refl
leaf_held e (fork i b l r) h =
    list_any-append (is_entry e) (items l) (items r) ∙ elim h [
      | inl g ↦ rw (leaf_held e l g) refl
      | inr g ↦ or_true _ _ (leaf_held e r g)
    ]

held_leaf : (e : ℕ) (t : Tree) → list_any (is_entry e) (items t) ≡ true → HasLeaf e t
held_leaf e (tip x k) h =
    elim (cases_Bool (eqb x e)) [ inl g ↦ sym (eqb-true x e g) | inr n ↦ absurd (false≢true (rw n at h)) ]
held_leaf e (fork i b l r) h =
    let s : (list_any (is_entry e) (items l) || list_any (is_entry e) (items r)) ≡ true = sym (list_any-append (is_entry e) (items l) (items r)) ∙ h in
    elim (cases_Bool (list_any (is_entry e) (items l))) [ inl k ↦ inl (held_leaf e l k) | inr k ↦ inr (held_leaf e r (rw k at s)) ]

-- where an entry stands in a list
pub record Position (e : ℕ) (xs : List KeyedItem) : Type 0 where
  pub key : ℕ
  pub front : List KeyedItem
  pub back : List KeyedItem
  pub list_is : xs ≡ front ++ record { key = key; entry = e } ∷ back
  pub first : list_any (is_entry e) front ≡ false

pub position_of : (e : ℕ) (xs : List KeyedItem) → list_any (is_entry e) xs ≡ true → Position e xs
position_of e [] h = absurd (false≢true h)
position_of e (x ∷ xs) h =
    elim (cases_Bool (eqb x.entry e)) [
      | inl t ↦ record { key = x.key; front = []; back = xs; list_is = ap (λ z. let y : KeyedItem = record { key = x.key; entry = z } in y ∷ xs) (eqb-true x.entry e t); first = refl }
      | inr f ↦
          let p : Position e xs = position_of e xs (rw f at h) in
          record { key = p.key; front = x ∷ p.front; back = p.back; list_is = ap (λ l. x ∷ l) p.list_is; first = rw f p.first }
    ]

next_at : (e k : ℕ) (us vs : List KeyedItem) → list_any (is_entry e) us ≡ false → next_entry e (us ++ record { key = k; entry = e } ∷ vs) ≡ first_entry vs
next_at e k [] vs h = rw (eq-eqb e e refl) refl
next_at e k (u ∷ us) vs h = let r = or_parts (eqb u.entry e) (list_any (is_entry e) us) h in rw r.0 (next_at e k us vs r.1)

key_at : (e k : ℕ) (us vs : List KeyedItem) → list_any (is_entry e) us ≡ false → key_of_entry e (us ++ record { key = k; entry = e } ∷ vs) ≡ Some k
key_at e k [] vs h = rw (eq-eqb e e refl) refl
key_at e k (u ∷ us) vs h = let r = or_parts (eqb u.entry e) (list_any (is_entry e) us) h in rw r.0 (key_at e k us vs r.1)

from_found : (key : ℕ) (xs : List KeyedItem) → first_entry (filter (λ x. nat_le key x.key) xs) ≡ entry_from key xs
from_found key [] = refl
from_found key (x ∷ xs) =
    elim (cases_Bool (nat_le key x.key)) [ inl k ↦ rw k refl | inr k ↦ rw k (from_found key xs) ]

-- what is known of each forest: its arena has the shape, and each root has its count
pub record Stood (f : Grove) : Type 0 where
  pub counts : length f.made ≡ length f.parts.links
  pub shape : HasShape f.parts

pub tended : (f : Grove) → IsTended f → Stood f
tended f t = record { counts = t.counts; shape = (t.trees, t.shape) }

pub roots_counted : (f : Grove) → Stood f → length (seen_of f).roots ≡ length f.parts.links
unfolding seen_of
roots_counted f s = lists-length f.parts 0 f.made ∙ s.counts

pub entries_are : (f : Grove) → (seen_of f).entries ≡ length f.parts.elements
unfolding seen_of
entries_are f = refl

pub entry_counted : (f : Grove) (e n : ℕ) → n ≡ length f.parts.elements → e < n → e < (seen_of f).entries
entry_counted f e n is h = subst (λ m. e < m) (is ∙ sym (entries_are f)) h

pub root_fits : (f : Grove) (q : ℕ) → Stood f → q < length (seen_of f).roots → q < length f.parts.links
root_fits f q s h = subst (λ n. q < n) (roots_counted f s) h

pub root_seen : (f : Grove) (q : ℕ) → Stood f → q < length f.parts.links → q < length (seen_of f).roots
root_seen f q s h = subst (λ n. q < n) (sym (roots_counted f s)) h

pub root_counted : (f : Grove) (q n : ℕ) → Stood f → n ≡ length f.parts.links → q < n → q < length (seen_of f).roots
root_counted f q n s e h = root_seen f q s (subst (λ m. q < m) e h)

pub root_is : (f : Grove) (q : ℕ) → Stood f → q < length f.parts.links → root_at q (seen_of f) ≡ record { items = list_of f.parts q; insertions = slice_index f.made q }
unfolding seen_of
root_is f q s h =
    let e : 0 + q ≡ q = omega arith in
    lists-get f.parts 0 f.made q (subst (λ n. q < n) (sym s.counts) h) ∙ ap (λ n. let l : KeyedList = record { items = list_of f.parts n; insertions = slice_index f.made q } in l) e

pub made_is : (f : Grove) (q : ℕ) → Stood f → q < length (seen_of f).roots → (root_at q (seen_of f)).insertions ≡ slice_index f.made q
made_is f q s h = ap (λ (l : KeyedList). l.insertions) (root_is f q s (root_fits f q s h))

pub items_are : (f : Grove) (q : ℕ) → Stood f → q < length f.parts.links → (root_at q (seen_of f)).items ≡ list_of f.parts q
items_are f q s h = ap (λ (l : KeyedList). l.items) (root_is f q s h)

-- an entry stands in a root where the root's list has it
pub stands : (f : Grove) (q e : ℕ) → Stood f → q < length f.parts.links → list_any (is_entry e) (list_of f.parts q) ≡ true → StandsIn q e (seen_of f)
stands f q e s h k = record { exists = root_seen f q s h; held = ap (list_any (is_entry e)) (items_are f q s h) ∙ k }

-- the same read back
pub record Held (f : Grove) (q e : ℕ) : Type 0 where
  pub exists : q < length f.parts.links
  pub held : list_any (is_entry e) (list_of f.parts q) ≡ true

pub stood : (f : Grove) (q e : ℕ) → Stood f → StandsIn q e (seen_of f) → Held f q e
stood f q e s h =
    let x : q < length f.parts.links = root_fits f q s h.exists in
    record { exists = x; held = sym (ap (list_any (is_entry e)) (items_are f q s x)) ∙ h.held }

-- an entry that stands in a root is in a tree
pub leaf_at : (a : Parts) (q e : ℕ) (o : Option Tree) → IsRoot a q o → list_any (is_entry e) (list_of a q) ≡ true → IsSomeAnd o (HasLeaf e)
leaf_at a q e None r h = absurd (false≢true (ap (list_any (is_entry e)) (sym (list_of_is a q None r)) ∙ h))
leaf_at a q e (Some t) r h = held_leaf e t (ap (list_any (is_entry e)) (sym (list_of_is a q (Some t) r)) ∙ h)

fits_at : (a : Parts) (q e : ℕ) (o : Option Tree) → IsRoot a q o → IsSomeAnd o (HasLeaf e) → e < length a.elements
fits_at a q e None r h = absurd h
fits_at a q e (Some t) r h = let w : LeafWay a q t e = leaf_way a q t [] _ _ e r.0 refl h in w.fits

pub held_in : (f : Grove) (q e : ℕ) → Stood f → Held f q e → IsIn f.parts e
held_in f q e s h =
    let r : IsRoot f.parts q (s.shape.0 q) = s.shape.1.roots q h.exists in
    let l : IsSomeAnd (s.shape.0 q) (HasLeaf e) = leaf_at f.parts q e (s.shape.0 q) r h.held in
    (fits_at f.parts q e (s.shape.0 q) r l, (parts_hang f.parts s.shape.0 s.shape.1 e).0 (q, (h.exists, l)))

pub stands_in : (f : Grove) (q e : ℕ) → Stood f → StandsIn q e (seen_of f) → IsIn f.parts e
stands_in f q e s h = held_in f q e s (stood f q e s h)

pub placed_in : (f : Grove) (e : ℕ) → Stood f → IsPlaced e (seen_of f) → IsIn f.parts e
placed_in f e s h = stands_in f h.0 e s h.1

-- an entry stands in one root
pub one_root : (f : Grove) (q r e : ℕ) → Stood f → Held f q e → Held f r e → q ≡ r
one_root f q r e s h g =
    let p : Position e (list_of f.parts q) = position_of e (list_of f.parts q) h.held in
    let o : Position e (list_of f.parts r) = position_of e (list_of f.parts r) g.held in
    let x : OnePosition q r p.key o.key p.front p.back o.front o.back = stand_once f.parts q r e p.key o.key p.front p.back o.front o.back s.shape h.exists g.exists p.list_is o.list_is in
    x.root

held_at : (a : Parts) (q e : ℕ) (o : Option Tree) → IsRoot a q o → IsSomeAnd o (HasLeaf e) → list_any (is_entry e) (list_of a q) ≡ true
held_at a q e None r h = absurd h
held_at a q e (Some t) r h = ap (list_any (is_entry e)) (list_of_is a q (Some t) r) ∙ leaf_held e t h

free_at : (f : Grove) (e : ℕ) (place : Place) → Stood f → e < length f.parts.elements → IsFree e (seen_of f) → (element_at f.parts e).leaf_p ≡ place → place ≡ places.Nowhere
free_at f e places.Nowhere s h free is = refl
free_at f e (places.Under i d) s h free is =
    let away : (element_at f.parts e).leaf_p ≡ places.Nowhere → ⊥ = λ y. let z : places.Under i d ≡ places.Nowhere = sym is ∙ y in cc in
    let x : InSome f.parts s.shape.0 (HasLeaf e) = s.shape.1.leaves e h away in
    let k : StandsIn x.0 e (seen_of f) = stands f x.0 e s x.1.0 (held_at f.parts x.0 e (s.shape.0 x.0) (s.shape.1.roots x.0 x.1.0) x.1.1) in
    absurd (false≢true (sym (free x.0 k.exists) ∙ k.held))

-- an entry that stands in no root hangs nowhere
pub free_nowhere : (f : Grove) (e : ℕ) → Stood f → e < length f.parts.elements → IsFree e (seen_of f) → (element_at f.parts e).leaf_p ≡ places.Nowhere
free_nowhere f e s h free = free_at f e _ s h free refl

-- what a walk answers of the entry's list is what the keyed list answers
pub next_is : (f : Grove) (e : ℕ) (result : Option ℕ) → Stood f → AtEntry f.parts e (λ xs k ys. result ≡ first_entry ys) → (q : ℕ) → StandsIn q e (seen_of f) → result ≡ next_entry e (root_at q (seen_of f)).items
next_is f e result s h q g =
    let k : Held f q e = stood f q e s g in
    let p : Position e (list_of f.parts q) = position_of e (list_of f.parts q) k.held in
    h q p.key p.front p.back k.exists p.list_is ∙ (sym (next_at e p.key p.front p.back p.first) ∙ (sym (ap (next_entry e) p.list_is) ∙ sym (ap (next_entry e) (items_are f q s k.exists))))

-- an entry in no tree stands in no root
pub out : (f : Grove) (e : ℕ) → Stood f → (IsIn f.parts e → ⊥) → (q : ℕ) → StandsIn q e (seen_of f) → None ≡ Some q
out f e s n q h = absurd (n (stands_in f q e s h))

pub nowhere_is : (place : Place) → is_nowhere place ≡ true → place ≡ places.Nowhere
nowhere_is places.Nowhere h = refl
nowhere_is (places.Under i d) h = absurd (false≢true h)

pub somewhere_is : (place : Place) → is_nowhere place ≡ false → place ≡ places.Nowhere → ⊥
somewhere_is places.Nowhere h e = false≢true (sym h)
somewhere_is (places.Under i d) h e = let x : places.Under i d ≡ places.Nowhere = e in cc

-- the root that was found is the only one
pub only : (f : Grove) (r e : ℕ) → Stood f → r < length f.parts.links → list_any (is_entry e) (list_of f.parts r) ≡ true → (q : ℕ) → StandsIn q e (seen_of f) → Some r ≡ Some q
only f r e s x h q g = ap (λ (n : ℕ). Some n) (one_root f r q e s (record { exists = x; held = h }) (stood f q e s g))

-- the key of an entry's element is the one under which it stands
pub key_is : (f : Grove) (e k : ℕ) → Stood f → k ≡ (element_at f.parts e).key → (q : ℕ) → StandsIn q e (seen_of f) → key_of_entry e (root_at q (seen_of f)).items ≡ Some k
key_is f e k s h q g =
    let x : Held f q e = stood f q e s g in
    let p : Position e (list_of f.parts q) = position_of e (list_of f.parts q) x.held in
    let w : EntryWay f.parts q e p.key p.front p.back = entry_way f.parts q e p.key p.front p.back s.shape x.exists p.list_is in
    ap (key_of_entry e) (items_are f q s x.exists) ∙ (ap (key_of_entry e) p.list_is ∙ (key_at e p.key p.front p.back p.first ∙ ap (λ (n : ℕ). Some n) (sym w.key_is ∙ sym h)))

-- what the walks answer of a root is what the keyed list answers
pub first_is : (f : Grove) (q : ℕ) (result : Option ℕ) → Stood f → q < length (seen_of f).roots → result ≡ first_entry (list_of f.parts q) → result ≡ first_entry (root_at q (seen_of f)).items
first_is f q result s h g = g ∙ sym (ap first_entry (items_are f q s (root_fits f q s h)))

pub from_is : (f : Grove) (q key : ℕ) (result : Option ℕ) → Stood f → q < length (seen_of f).roots → result ≡ first_entry (filter (λ x. nat_le key x.key) (list_of f.parts q)) → result ≡ entry_from key (root_at q (seen_of f)).items
from_is f q key result s h g =
    g ∙ (from_found key (list_of f.parts q) ∙ sym (ap (entry_from key) (items_are f q s (root_fits f q s h))))

-- an entry for which no root was found is free
pub free_is : (s : KeyedRoots) (e : ℕ) (o : Option ℕ) → ((q : ℕ) → StandsIn q e s → o ≡ Some q) → is_some o ≡ false → IsFree e s
free_is s e o h n q x =
    elim (cases_Bool (holds e (root_at q s))) [
      | inl k ↦ absurd (false≢true (sym n ∙ ap is_some (h q (record { exists = x; held = k }))))
      | inr k ↦ k
    ]

some_held : (a : Parts) (q e : ℕ) (o : Option Tree) → IsRoot a q o → IsSomeAnd o (HasLeaf e) → list_any (is_entry e) (list_of a q) ≡ true
some_held a q e None r h = absurd h
some_held a q e (Some t) r h = ap (list_any (is_entry e)) (list_of_is a q (Some t) r) ∙ leaf_held e t h

-- an entry in a tree stands in a root
pub in_placed : (f : Grove) (e : ℕ) → Stood f → IsIn f.parts e → IsPlaced e (seen_of f)
in_placed f e s h =
    let x : InSome f.parts s.shape.0 (HasLeaf e) = s.shape.1.leaves e h.0 h.1 in
    (x.0, stands f x.0 e s x.1.0 (some_held f.parts x.0 e (s.shape.0 x.0) (s.shape.1.roots x.0 x.1.0) x.1.1))

-- ---- the keyed lists of a forest

-- an entry that a list has at one position stands there once
once_behind : (whole pre xs : List KeyedItem) → whole ≡ pre ++ xs → ((e k m : ℕ) (us vs ps qs : List KeyedItem) → whole ≡ us ++ record { key = k; entry = e } ∷ vs → whole ≡ ps ++ record { key = m; entry = e } ∷ qs → us ≡ ps) → IsOnce xs
once_behind whole pre [] is one = tt
once_behind whole pre (x ∷ xs) is one =
    let step : pre ++ x ∷ xs ≡ (pre ++ x ∷ []) ++ xs = sym (append_assoc pre (x ∷ []) xs) in
    let rest : IsOnce xs = once_behind whole (pre ++ x ∷ []) xs (is ∙ step) one in
    elim (cases_Bool (list_any (is_entry x.entry) xs)) [
      | inl k ↦
          let p : Position x.entry xs = position_of x.entry xs k in
          let again : whole ≡ (pre ++ x ∷ p.front) ++ record { key = p.key; entry = x.entry } ∷ p.back = is ∙ ap (λ (ys : List KeyedItem). pre ++ x ∷ ys) p.list_is ∙ sym (append_assoc pre (x ∷ p.front) (record { key = p.key; entry = x.entry } ∷ p.back)) in
          let front : pre ≡ pre ++ x ∷ p.front = one x.entry x.key p.key pre xs (pre ++ x ∷ p.front) p.back is again in
          let long : length pre ≡ length (pre ++ x ∷ p.front) = ap length front in
          absurd (omega (arith, long, length-append pre (x ∷ p.front)))
      | inr k ↦ (k, rest)
    ]

-- a forest's lists are keyed
pub forest_keyed : (f : Grove) → Stood f → AreKeyed (seen_of f)
forest_keyed f s = record {
  keyed = λ q g.
      let x : q < length f.parts.links = root_fits f q s g in
      let items : (root_at q (seen_of f)).items ≡ list_of f.parts q = items_are f q s x in
      let one : (e k m : ℕ) (us vs ps qs : List KeyedItem) → list_of f.parts q ≡ us ++ record { key = k; entry = e } ∷ vs → list_of f.parts q ≡ ps ++ record { key = m; entry = e } ∷ qs → us ≡ ps = λ e k m us vs ps qs h g.
      let o : OnePosition q q k m us vs ps qs = stand_once f.parts q q e k m us vs ps qs s.shape x x h g in
      o.front in
      record { rising = rw items (ordered f.parts q s.shape x); once = rw items (once_behind (list_of f.parts q) [] (list_of f.parts q) refl one) };
  one = λ e q r h g. one_root f q r e s (stood f q e s h) (stood f r e s g);
}
