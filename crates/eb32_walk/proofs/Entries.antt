-- Where an entry stands in a root's list, and the way up from it.
use Rattle.std.proofs.Common.{◌≡◌, ◌≢◌, ℕ, ◌<◌, List, [], ◌∷◌, ◌++◌, length, reverse, Bool, true, false, eq-eqb, ne_eqb, refl, sym, ap, ◌∙◌, subst, append_assoc}
use Rattle.std.specs.Prelude.{Option, Some, None, IsSomeAnd, ◌==◌, if◌then◌else◌}
use Rattle.std.specs.Option.{unwrap_or}
use Rattle.std.proofs.lemmas.List.{append-nil, reverse-append, reverse-reverse}
use Rattle.sched_base.specs.KeyedList.{KeyedItem, first_entry}
use Rattle.eb_arena.specs.declared.links.Side.{Side}
use Rattle.eb_arena.specs.declared.links.Side.TheVariants as sides
use Rattle.eb_arena.specs.declared.links.Target.{Target}
use Rattle.eb_arena.specs.declared.links.Target.TheVariants as targets
use Rattle.eb_arena.specs.declared.links.Place.TheVariants as places
use Rattle.eb_arena.specs.Links.{is_nothing}
use Rattle.eb_arena.specs.Parts.{Parts, element_at, link_at}
use Rattle.eb_arena.specs.Shape.{Tree, tip, items_of, Split, HasLeaf, IsRoot, root_place, HasShape, InSome, list_of, list_below}
use Rattle.eb_arena.specs.Way.{Step, plug, before, after, Leads}
use Rattle.eb_arena.proofs.Reading.{list_of_is}
use Rattle.eb_arena.proofs.Ways.{ItemWay, item_way, LeafWay, leaf_way}
use Rattle.eb32_walk.specs.Ends.{IsIn, IsTree, IsPlace, AtEntry, AtPlace, end_entry, last_entry, first_under, last_under}

-- what hangs on a root, where something does, is a tree
root_tree_at : (a : Parts) (q : ℕ) (o : Option Tree) → IsRoot a q o → (link_at a q ≡ targets.Nothing → ⊥) → IsTree a (link_at a q)
root_tree_at a q None h n = absurd (n h)
root_tree_at a q (Some t) h n =
    let away : root_place a q ≢ places.Nowhere = λ x. cc in
    record { place = root_place a q; tree = t; hangs = away; stands = h.0; split = h.1 }

pub root_tree : (a : Parts) (q : ℕ) → HasShape a → q < length a.links → (link_at a q ≡ targets.Nothing → ⊥) → IsTree a (link_at a q)
root_tree a q h f n = root_tree_at a q (h.0 q) (h.1.roots q f) n

-- an empty root has no end
pub empty_end : (a : Parts) (q : ℕ) (side : Side) → link_at a q ≡ targets.Nothing → end_entry side (list_of a q) ≡ None
empty_end a q sides.Left e = ap (λ t. first_entry (list_below a t)) e
empty_end a q sides.Right e = ap (λ t. last_entry (list_below a t)) e

place_at : (a : Parts) (q : ℕ) (o : Option Tree) (e : ℕ) → IsRoot a q o → IsSomeAnd o (HasLeaf e) → IsPlace a (element_at a e).leaf_p
place_at a q None e h s = absurd s
place_at a q (Some t) e h s =
    let w : LeafWay a q t e = leaf_way a q t [] _ _ e h.0 refl s in
    record { root = q; way = w.way; tree = tip e (element_at a e).key; leads = w.leads; split = subst Split (sym w.whole_is) h.1 }

-- an entry that is in a tree has a place
pub entry_place : (a : Parts) (e : ℕ) → HasShape a → IsIn a e → IsPlace a (element_at a e).leaf_p
entry_place a e h i =
    let s : InSome a h.0 (HasLeaf e) = h.1.leaves e i.0 i.1 in
    place_at a s.0 (h.0 s.0) e (h.1.roots s.0 s.1.0) s.1.1

-- the way up from an item of a root's list
pub record EntryWay (a : Parts) (q e k : ℕ) (xs ys : List KeyedItem) : Type 0 where
  pub way : List Step
  pub leads : Leads a q (element_at a e).leaf_p way
  pub split : Split (plug way (tip e k))
  pub before_is : before way ≡ xs
  pub after_is : after way ≡ ys
  pub fits : e < length a.elements
  pub key_is : (element_at a e).key ≡ k

no_item : (xs ys : List KeyedItem) (y : KeyedItem) → [] ≡ xs ++ y ∷ ys → ⊥
no_item [] ys y h = cc
no_item (x ∷ xs) ys y h = let g : [] ≡ x ∷ (xs ++ y ∷ ys) = h in cc

entry_way_at : (a : Parts) (q : ℕ) (o : Option Tree) (e k : ℕ) (xs ys : List KeyedItem) → IsRoot a q o → items_of o ≡ xs ++ record { key = k; entry = e } ∷ ys → EntryWay a q e k xs ys
entry_way_at a q None e k xs ys r h = absurd (no_item xs ys (record { key = k; entry = e }) h)
entry_way_at a q (Some t) e k xs ys r h =
    let w : ItemWay a q t e k xs ys = item_way a q t [] _ _ e k xs ys xs ys r.0 refl h refl (append-nil ys) in
    record { way = w.way; leads = w.leads; split = subst Split (sym w.whole_is) r.1; before_is = w.before_is; after_is = w.after_is; fits = w.fits; key_is = w.key_is }

pub entry_way : (a : Parts) (q e k : ℕ) (xs ys : List KeyedItem) → HasShape a → q < length a.links → list_of a q ≡ xs ++ record { key = k; entry = e } ∷ ys → EntryWay a q e k xs ys
entry_way a q e k xs ys h f is = entry_way_at a q (h.0 q) e k xs ys (h.1.roots q f) (sym (list_of_is a q (h.0 q) (h.1.roots q f)) ∙ is)

-- what is next to an entry's place is next to it in the list
pub after_entry : (a : Parts) (e : ℕ) (r : Option ℕ) → HasShape a → AtPlace a (element_at a e).leaf_p (λ w. r ≡ first_entry (after w)) → AtEntry a e (λ xs k ys. r ≡ first_entry ys)
after_entry a e r h p q k xs ys f is =
    let w : EntryWay a q e k xs ys = entry_way a q e k xs ys h f is in
    p q w.way (tip e k) w.leads w.split ∙ ap first_entry w.after_is

pub before_entry : (a : Parts) (e : ℕ) (r : Option ℕ) → HasShape a → AtPlace a (element_at a e).leaf_p (λ w. r ≡ last_entry (before w)) → AtEntry a e (λ xs k ys. r ≡ last_entry xs)
before_entry a e r h p q k xs ys f is =
    let w : EntryWay a q e k xs ys = entry_way a q e k xs ys h f is in
    p q w.way (tip e k) w.leads w.split ∙ ap last_entry w.before_is

-- what the test of the keys makes of the entry that was found after another
pub next_is_dup : (a : Parts) (e g : ℕ) → HasShape a → AtEntry a e (λ xs k ys. Some g ≡ first_entry ys) → AtEntry a e (λ xs k ys. (if (element_at a g).key == (element_at a e).key then Some g else None) ≡ first_under k ys)
next_is_dup a e g h n q k xs [] f is = let x : Some g ≡ None = n q k xs [] f is in cc
next_is_dup a e g h n q k xs (y ∷ ys) f is =
    let o : Some g ≡ Some y.entry = n q k xs (y ∷ ys) f is in
    let x : g ≡ y.entry = ap (λ z. unwrap_or z 0) o in
    let w : EntryWay a q e k xs (y ∷ ys) = entry_way a q e k xs (y ∷ ys) h f is in
    let item : KeyedItem = record { key = k; entry = e } in
    let v : EntryWay a q y.entry y.key (xs ++ item ∷ []) ys = entry_way a q y.entry y.key (xs ++ item ∷ []) ys h f (is ∙ sym (append_assoc xs (item ∷ []) (y ∷ ys))) in
    let m : (element_at a g).key ≡ y.key = ap (λ z. (element_at a z).key) x ∙ v.key_is in
    ap (λ z. if (element_at a z).key == (element_at a e).key then Some z else None) x ∙ (ap (λ z. if z == (element_at a e).key then Some y.entry else None) v.key_is ∙ ap (λ z. if y.key == z then Some y.entry else None) w.key_is)

pub next_no_dup : (a : Parts) (e : ℕ) → AtEntry a e (λ xs k ys. None ≡ first_entry ys) → AtEntry a e (λ xs k ys. None ≡ first_under k ys)
next_no_dup a e n q k xs [] f is = refl
next_no_dup a e n q k xs (y ∷ ys) f is = let x : None ≡ Some y.entry = n q k xs (y ∷ ys) f is in cc

prev_at : (a : Parts) (e g q k : ℕ) (xs zs ys : List KeyedItem) → HasShape a → reverse xs ≡ zs → q < length a.links → list_of a q ≡ xs ++ record { key = k; entry = e } ∷ ys → Some g ≡ first_entry zs → (if (element_at a g).key == (element_at a e).key then Some g else None) ≡ first_under k zs
prev_at a e g q k xs [] ys h r f is o = let x : Some g ≡ None = o in cc
prev_at a e g q k xs (y ∷ zs) ys h r f is o =
    let x : g ≡ y.entry = ap (λ z. unwrap_or z 0) o in
    let item : KeyedItem = record { key = k; entry = e } in
    let w : EntryWay a q e k xs ys = entry_way a q e k xs ys h f is in
    let u : xs ≡ reverse zs ++ y ∷ [] = sym (reverse-reverse xs) ∙ (ap reverse r ∙ reverse-append (y ∷ []) zs) in
    let v : EntryWay a q y.entry y.key (reverse zs) (item ∷ ys) = entry_way a q y.entry y.key (reverse zs) (item ∷ ys) h f (is ∙ (ap (λ l. l ++ item ∷ ys) u ∙ append_assoc (reverse zs) (y ∷ []) (item ∷ ys))) in
    ap (λ z. if (element_at a z).key == (element_at a e).key then Some z else None) x ∙ (ap (λ z. if z == (element_at a e).key then Some y.entry else None) v.key_is ∙ ap (λ z. if y.key == z then Some y.entry else None) w.key_is)

pub prev_is_dup : (a : Parts) (e g : ℕ) → HasShape a → AtEntry a e (λ xs k ys. Some g ≡ last_entry xs) → AtEntry a e (λ xs k ys. (if (element_at a g).key == (element_at a e).key then Some g else None) ≡ last_under k xs)
prev_is_dup a e g h n q k xs ys f is = prev_at a e g q k xs (reverse xs) ys h refl f is (n q k xs ys f is)

none_first : (k : ℕ) (zs : List KeyedItem) → None ≡ first_entry zs → None ≡ first_under k zs
none_first k [] h = refl
none_first k (z ∷ zs) h = let x : None ≡ Some z.entry = h in cc

pub prev_no_dup : (a : Parts) (e : ℕ) → AtEntry a e (λ xs k ys. None ≡ last_entry xs) → AtEntry a e (λ xs k ys. None ≡ last_under k xs)
prev_no_dup a e n q k xs ys f is = none_first k (reverse xs) (n q k xs ys f is)

if_same : (g x y : ℕ) → x ≡ y → Some g ≡ (if x == y then Some g else None)
if_same g x y h = sym (ap (λ b. if b then Some g else None) (eq-eqb x y h))

if_other : (g x y : ℕ) → (x ≡ y → ⊥) → None ≡ (if x == y then Some g else None)
if_other g x y h = sym (ap (λ b. if b then Some g else None) (ne_eqb x y h))

pub next_same : (a : Parts) (e g x y : ℕ) → HasShape a → AtEntry a e (λ xs k ys. Some g ≡ first_entry ys) → x ≡ (element_at a g).key → y ≡ (element_at a e).key → x ≡ y → AtEntry a e (λ xs k ys. Some g ≡ first_under k ys)
next_same a e g x y h n i j s q k xs ys f is = if_same g (element_at a g).key (element_at a e).key (sym i ∙ (s ∙ j)) ∙ next_is_dup a e g h n q k xs ys f is

pub next_other : (a : Parts) (e g x y : ℕ) → HasShape a → AtEntry a e (λ xs k ys. Some g ≡ first_entry ys) → x ≡ (element_at a g).key → y ≡ (element_at a e).key → (x ≡ y → ⊥) → AtEntry a e (λ xs k ys. None ≡ first_under k ys)
next_other a e g x y h n i j s q k xs ys f is = if_other g (element_at a g).key (element_at a e).key (λ z. s (i ∙ (z ∙ sym j))) ∙ next_is_dup a e g h n q k xs ys f is

pub prev_same : (a : Parts) (e g x y : ℕ) → HasShape a → AtEntry a e (λ xs k ys. Some g ≡ last_entry xs) → x ≡ (element_at a g).key → y ≡ (element_at a e).key → x ≡ y → AtEntry a e (λ xs k ys. Some g ≡ last_under k xs)
prev_same a e g x y h n i j s q k xs ys f is = if_same g (element_at a g).key (element_at a e).key (sym i ∙ (s ∙ j)) ∙ prev_is_dup a e g h n q k xs ys f is

pub prev_other : (a : Parts) (e g x y : ℕ) → HasShape a → AtEntry a e (λ xs k ys. Some g ≡ last_entry xs) → x ≡ (element_at a g).key → y ≡ (element_at a e).key → (x ≡ y → ⊥) → AtEntry a e (λ xs k ys. None ≡ last_under k xs)
prev_other a e g x y h n i j s q k xs ys f is = if_other g (element_at a g).key (element_at a e).key (λ z. s (i ∙ (z ∙ sym j))) ∙ prev_is_dup a e g h n q k xs ys f is

-- what the test of nothing says of a target
pub nothing_is : (t : Target) (b : Bool) → b ≡ is_nothing t → b ≡ true → t ≡ targets.Nothing
nothing_is targets.Nothing b e h = refl
nothing_is (targets.Leaf i) b e h = let x : true ≡ false = sym h ∙ e in cc
nothing_is (targets.Node i) b e h = let x : true ≡ false = sym h ∙ e in cc

pub something_is : (t : Target) (b : Bool) → b ≡ is_nothing t → b ≡ false → t ≡ targets.Nothing → ⊥
something_is targets.Nothing b e h g = let x : true ≡ false = sym e ∙ h in cc
something_is (targets.Leaf i) b e h g = let x : targets.Leaf i ≡ targets.Nothing = g in cc
something_is (targets.Node i) b e h g = let x : targets.Node i ≡ targets.Nothing = g in cc
