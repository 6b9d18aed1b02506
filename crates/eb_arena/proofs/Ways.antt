-- Ways up from a part of a tree.
use Rattle.std.proofs.Common.{◌≡◌, ℕ, ◌<◌, ◌⊎◌, inl, inr, List, [], ◌∷◌, ◌++◌, length, get_or, drop, refl, sym, ap, ◌∙◌, subst, append_assoc}
use Rattle.std.proofs.lemmas.List.{append-nil}
use Rattle.sched_base.specs.KeyedList.{KeyedItem}
use Rattle.eb_arena.specs.declared.links.Target.{Target}
use Rattle.eb_arena.specs.declared.links.Place.{Place}
use Rattle.eb_arena.specs.Parts.{Parts, element_at}
use Rattle.eb_arena.specs.Shape.{Tree, tip, fork, items, Hangs, Split, HasLeaf}
use Rattle.eb_arena.specs.Way.{Step, from_left, from_right, plug, before, after, Leads}
use Rattle.eb_arena.proofs.Trees.{Has}

-- a part of a split tree is split
pub part_split : (w : List Step) (t : Tree) → Split (plug w t) → Split t
part_split [] t s = s
part_split (from_left i b r ∷ w) t s = (part_split w (fork i b t r) s).3
part_split (from_right i b l ∷ w) t s = (part_split w (fork i b l t) s).4

-- the items of a whole tree, around those of a part
pub items-plug : (w : List Step) (t : Tree) → items (plug w t) ≡ before w ++ (items t ++ after w)
items-plug [] t = sym (append-nil (items t))
items-plug (from_left i b r ∷ w) t =
    items-plug w (fork i b t r) ∙ ap (λ xs. before w ++ xs) (append_assoc (items t) (items r) (after w))
items-plug (from_right i b l ∷ w) t =
    items-plug w (fork i b l t) ∙ (ap (λ xs. before w ++ xs) (append_assoc (items l) (items t) (after w)) ∙ sym (append_assoc (before w) (items l) (items t ++ after w)))

-- the leaf of an item of a tree, and the way up from it
pub record ItemWay (a : Parts) (q : ℕ) (whole : Tree) (e k : ℕ) (xs ys : List KeyedItem) : Type 0 where
  pub way : List Step
  pub leads : Leads a q (element_at a e).leaf_p way
  pub whole_is : plug way (tip e k) ≡ whole
  pub before_is : before way ≡ xs
  pub after_is : after way ≡ ys
  pub fits : e < length a.elements
  pub key_is : (element_at a e).key ≡ k

-- where an item of two lists in a row stands
pub record InFront (ls rs xs ys : List KeyedItem) (y : KeyedItem) : Type 0 where
  pub zs : List KeyedItem
  pub front : ls ≡ xs ++ y ∷ zs
  pub back : zs ++ rs ≡ ys

pub record InBack (ls rs xs ys : List KeyedItem) (y : KeyedItem) : Type 0 where
  pub zs : List KeyedItem
  pub front : ls ++ zs ≡ xs
  pub back : rs ≡ zs ++ y ∷ ys

pub split_append : (ls rs xs ys : List KeyedItem) (y : KeyedItem) → ls ++ rs ≡ xs ++ y ∷ ys → InFront ls rs xs ys y ⊎ InBack ls rs xs ys y
split_append [] rs xs ys y h = inr (record { zs = xs; front = refl; back = h })
split_append (l ∷ ls) rs [] ys y h =
    inl (record { zs = ls; front = ap (λ x. x ∷ ls) (ap (λ zs. get_or zs 0 y) h); back = ap (drop 1) h })
split_append (l ∷ ls) rs (x ∷ xs) ys y h =
    let e : l ≡ x = ap (λ zs. get_or zs 0 y) h in
    elim (split_append ls rs xs ys y (ap (drop 1) h)) [
      | inl f ↦ inl (record { zs = f.zs; front = ap (λ z. z ∷ ls) e ∙ ap (λ zs. x ∷ zs) f.front; back = f.back })
      | inr f ↦ inr (record { zs = f.zs; front = ap (λ z. z ∷ (ls ++ f.zs)) e ∙ ap (λ zs. x ∷ zs) f.front; back = f.back })
    ]

tip_item : (x y : KeyedItem) (xs ys : List KeyedItem) → x ∷ [] ≡ xs ++ y ∷ ys → (x ≡ y) × (xs ≡ []) × (ys ≡ [])
tip_item x y [] ys h = (ap (λ zs. get_or zs 0 y) h, refl, sym (ap (drop 1) h))
tip_item x y (z ∷ []) ys h = let e : [] ≡ y ∷ ys = ap (drop 1) h in cc
tip_item x y (z ∷ w ∷ xs) ys h = let e : [] ≡ w ∷ (xs ++ y ∷ ys) = ap (drop 1) h in cc

pub item_way : (a : Parts) (q : ℕ) (t : Tree) (c : List Step) (target : Target) (place : Place) (e k : ℕ) (xs ys us vs : List KeyedItem) → Hangs a target place t → Leads a q place c → items t ≡ xs ++ record { key = k; entry = e } ∷ ys → before c ++ xs ≡ us → ys ++ after c ≡ vs → ItemWay a q (plug c t) e k us vs
item_way a q (tip f m) c target place e k xs ys us vs s w h u v =
    let y : KeyedItem = record { key = k; entry = e } in
    let g : (record { key = m; entry = f } ≡ y) × (xs ≡ []) × (ys ≡ []) = tip_item (record { key = m; entry = f }) y xs ys h in
    let ke : m ≡ k = ap (λ z. z.key) g.0 in
    let ee : f ≡ e = ap (λ z. z.entry) g.0 in
    record {
      way = c;
      leads = subst (λ p. Leads a q p c) (sym s.2 ∙ ap (λ n. (element_at a n).leaf_p) ee) w;
      whole_is = ap (λ n. plug c (tip n k)) (sym ee) ∙ ap (λ n. plug c (tip f n)) (sym ke);
      before_is = sym (append-nil (before c)) ∙ (ap (λ zs. before c ++ zs) (sym g.1) ∙ u);
      after_is = ap (λ zs. zs ++ after c) (sym g.2) ∙ v;
      fits = subst (λ n. n < length a.elements) ee s.1;
      key_is = ap (λ n. (element_at a n).key) (sym ee) ∙ (s.3 ∙ ke);
    }
item_way a q (fork i b l r) c target place e k xs ys us vs s w h u v =
    let up : Leads a q (element_at a i).node_p c = subst (λ p. Leads a q p c) (sym s.2) w in
    elim (split_append (items l) (items r) xs ys (record { key = k; entry = e }) h) [
      | inl f ↦ item_way a q l (from_left i b r ∷ c) _ _ e k xs f.zs us vs s.4 (refl, s.1, s.3, s.5, up) f.front u (sym (append_assoc f.zs (items r) (after c)) ∙ (ap (λ zs. zs ++ after c) f.back ∙ v))
      | inr f ↦ item_way a q r (from_right i b l ∷ c) _ _ e k f.zs ys us vs s.5 (refl, s.1, s.3, s.4, up) f.back (append_assoc (before c) (items l) f.zs ∙ (ap (λ zs. before c ++ zs) f.front ∙ u)) v
    ]

-- the way up from an entry that a tree has
pub record LeafWay (a : Parts) (q : ℕ) (whole : Tree) (e : ℕ) : Type 0 where
  pub way : List Step
  pub leads : Leads a q (element_at a e).leaf_p way
  pub whole_is : plug way (tip e (element_at a e).key) ≡ whole
  pub fits : e < length a.elements

pub leaf_way : (a : Parts) (q : ℕ) (t : Tree) (c : List Step) (target : Target) (place : Place) (e : ℕ) → Hangs a target place t → Leads a q place c → HasLeaf e t → LeafWay a q (plug c t) e
leaf_way a q (tip f m) c target place e s w h =
    record {
      way = c;
      leads = subst (λ p. Leads a q p c) (sym s.2 ∙ ap (λ n. (element_at a n).leaf_p) (sym h)) w;
      whole_is = ap (λ n. plug c (tip n (element_at a n).key)) h ∙ ap (λ n. plug c (tip f n)) s.3;
      fits = subst (λ n. n < length a.elements) (sym h) s.1;
    }
leaf_way a q (fork i b l r) c target place e s w h =
    let up : Leads a q (element_at a i).node_p c = subst (λ p. Leads a q p c) (sym s.2) w in
    elim h [
      | inl g ↦ leaf_way a q l (from_left i b r ∷ c) _ _ e s.4 (refl, s.1, s.3, s.5, up) g
      | inr g ↦ leaf_way a q r (from_right i b l ∷ c) _ _ e s.5 (refl, s.1, s.3, s.4, up) g
    ]

-- the key of an entry that a tree has stands in it
pub leaf_key : (a : Parts) (t : Tree) (target : Target) (place : Place) (e : ℕ) → Hangs a target place t → HasLeaf e t → Has (element_at a e).key t
leaf_key a (tip f m) target place e s h = sym s.3 ∙ ap (λ n. (element_at a n).key) (sym h)
leaf_key a (fork i b l r) target place e s h =
    elim h [ inl g ↦ inl (leaf_key a l _ _ e s.4 g) | inr g ↦ inr (leaf_key a r _ _ e s.5 g) ]
