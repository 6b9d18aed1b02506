-- From one place one way leads up.
use Rattle.std.proofs.Common.{◌≡◌, ◌≢◌, ℕ, ◌+◌, ◌<◌, inl, inr, List, [], ◌∷◌, ◌++◌, length, refl, sym, ap, ◌∙◌, subst, arith}
use Rattle.std.specs.Prelude.{ℤ, Option, Some, None, IsSomeAnd}
use Rattle.std.proofs.lemmas.List.{append-nil}
use Rattle.sched_base.specs.KeyedList.{KeyedItem}
use Rattle.eb_arena.specs.declared.links.Side.{Side}
use Rattle.eb_arena.specs.declared.links.Side.TheVariants as sides
use Rattle.eb_arena.specs.declared.links.Target.{Target}
use Rattle.eb_arena.specs.declared.links.Target.TheVariants as targets
use Rattle.eb_arena.specs.declared.links.Place.{Place}
use Rattle.eb_arena.specs.declared.links.Place.TheVariants as places
use Rattle.eb_arena.specs.Links.{index_of, place_index, place_side}
use Rattle.eb_arena.specs.Parts.{Parts, element_at, link_at}
use Rattle.eb_arena.specs.Shape.{Tree, tip, fork, items_of, Hangs, HasLeaf, HasNode, IsRoot, root_place, Shape, HasShape, InSome, list_of}
use Rattle.eb_arena.specs.Way.{Step, from_left, from_right, plug, before, after, Leads}
use Rattle.eb_arena.specs.Laws.{LeafTells, NodeTells, OnePosition}
use Rattle.eb_arena.proofs.Reading.{same_tree, list_of_is}
use Rattle.eb_arena.proofs.Ways.{ItemWay, item_way, LeafWay, leaf_way}

node_from : (a : Parts) (q : ℕ) (place : Place) (i : ℕ) (s : Side) → place ≡ root_place a q → place ≡ places.Under i s → i < length a.elements → ⊥
node_from a q place i s h g f = let x : length a.elements + q ≡ i = sym (ap place_index h) ∙ ap place_index g in absurd (omega arith)

pub one_way : (a : Parts) (q r : ℕ) (place : Place) (w v : List Step) → Leads a q place w → Leads a r place v → (q ≡ r) × (w ≡ v)
one_way a q r place [] [] h g =
    let x : length a.elements + q ≡ length a.elements + r = sym (ap place_index h) ∙ ap place_index g in
    (omega arith, refl)
one_way a q r place [] (from_left i b t ∷ v) h g = absurd (node_from a q place i sides.Left h g.0 g.1)
one_way a q r place [] (from_right i b t ∷ v) h g = absurd (node_from a q place i sides.Right h g.0 g.1)
one_way a q r place (from_left i b t ∷ w) [] h g = absurd (node_from a r place i sides.Left g h.0 h.1)
one_way a q r place (from_right i b t ∷ w) [] h g = absurd (node_from a r place i sides.Right g h.0 h.1)
one_way a q r place (from_left i b t ∷ w) (from_right j c u ∷ v) h g = let x : sides.Left ≡ sides.Right = sym (ap place_side h.0) ∙ ap place_side g.0 in cc
one_way a q r place (from_right i b t ∷ w) (from_left j c u ∷ v) h g = let x : sides.Right ≡ sides.Left = sym (ap place_side h.0) ∙ ap place_side g.0 in cc
one_way a q r place (from_left i b t ∷ w) (from_left j c u ∷ v) h g =
    let e : j ≡ i = sym (ap place_index g.0) ∙ ap place_index h.0 in
    let bits : b ≡ c = sym h.2 ∙ (ap (λ m. (element_at a m).bit) (sym e) ∙ g.2) in
    let trees : t ≡ u = same_tree a t u _ _ _ h.3 (subst (λ m. Hangs a (element_at a m).right (places.Under m sides.Right) u) e g.3) in
    let up : (q ≡ r) × (w ≡ v) = one_way a q r (element_at a i).node_p w v h.4 (subst (λ m. Leads a r (element_at a m).node_p v) e g.4) in
    (up.0, ap (λ m. from_left m b t ∷ w) (sym e) ∙ (ap (λ m. from_left j m t ∷ w) bits ∙ (ap (λ m. from_left j c m ∷ w) trees ∙ ap (λ m. from_left j c u ∷ m) up.1)))
one_way a q r place (from_right i b t ∷ w) (from_right j c u ∷ v) h g =
    let e : j ≡ i = sym (ap place_index g.0) ∙ ap place_index h.0 in
    let bits : b ≡ c = sym h.2 ∙ (ap (λ m. (element_at a m).bit) (sym e) ∙ g.2) in
    let trees : t ≡ u = same_tree a t u _ _ _ h.3 (subst (λ m. Hangs a (element_at a m).left (places.Under m sides.Left) u) e g.3) in
    let up : (q ≡ r) × (w ≡ v) = one_way a q r (element_at a i).node_p w v h.4 (subst (λ m. Leads a r (element_at a m).node_p v) e g.4) in
    (up.0, ap (λ m. from_right m b t ∷ w) (sym e) ∙ (ap (λ m. from_right j m t ∷ w) bits ∙ (ap (λ m. from_right j c m ∷ w) trees ∙ ap (λ m. from_right j c u ∷ m) up.1)))

-- the way up from a node that a tree has
pub record NodeWay (a : Parts) (q : ℕ) (whole : Tree) (n : ℕ) : Type 0 where
  pub way : List Step
  pub bit : ℤ
  pub left : Tree
  pub right : Tree
  pub leads : Leads a q (element_at a n).node_p way
  pub whole_is : plug way (fork n bit left right) ≡ whole
  pub fits : n < length a.elements

pub node_way : (a : Parts) (q : ℕ) (t : Tree) (c : List Step) (target : Target) (place : Place) (n : ℕ) → Hangs a target place t → Leads a q place c → HasNode n t → NodeWay a q (plug c t) n
node_way a q (tip f m) c target place n s w h = absurd h
node_way a q (fork i b l r) c target place n s w h =
    let up : Leads a q (element_at a i).node_p c = subst (λ p. Leads a q p c) (sym s.2) w in
    elim h [
      | inl e ↦ record { way = c; bit = b; left = l; right = r; leads = subst (λ m. Leads a q (element_at a m).node_p c) (sym e) up; whole_is = ap (λ m. plug c (fork m b l r)) e; fits = subst (λ m. m < length a.elements) (sym e) s.1 }
      | inr g ↦ elim g [
        | inl g ↦ node_way a q l (from_left i b r ∷ c) _ _ n s.4 (refl, s.1, s.3, s.5, up) g
        | inr g ↦ node_way a q r (from_right i b l ∷ c) _ _ n s.5 (refl, s.1, s.3, s.4, up) g
      ]
    ]

pub leads_somewhere : (a : Parts) (q : ℕ) (place : Place) (w : List Step) → Leads a q place w → place ≡ places.Nowhere → ⊥
leads_somewhere a q place [] h e = let x : places.Nowhere ≡ places.Under (length a.elements + q) sides.Left = sym e ∙ h in cc
leads_somewhere a q place (from_left i b r ∷ w) h e = let x : places.Nowhere ≡ places.Under i sides.Left = sym e ∙ h.0 in cc
leads_somewhere a q place (from_right i b l ∷ w) h e = let x : places.Nowhere ≡ places.Under i sides.Right = sym e ∙ h.0 in cc

leaf_hangs : (a : Parts) (q : ℕ) (o : Option Tree) (e : ℕ) → IsRoot a q o → IsSomeAnd o (HasLeaf e) → (element_at a e).leaf_p ≢ places.Nowhere
leaf_hangs a q None e h s = absurd s
leaf_hangs a q (Some t) e h s =
    let w : LeafWay a q t e = leaf_way a q t [] _ _ e h.0 refl s in
    leads_somewhere a q (element_at a e).leaf_p w.way w.leads

node_hangs : (a : Parts) (q : ℕ) (o : Option Tree) (n : ℕ) → IsRoot a q o → IsSomeAnd o (HasNode n) → (element_at a n).node_p ≢ places.Nowhere
node_hangs a q None n h s = absurd s
node_hangs a q (Some t) n h s =
    let w : NodeWay a q t n = node_way a q t [] _ _ n h.0 refl s in
    leads_somewhere a q (element_at a n).node_p w.way w.leads

pub parts_hang : (a : Parts) (ts : ℕ → Option Tree) → Shape a ts → (i : ℕ) → (InSome a ts (HasLeaf i) → (element_at a i).leaf_p ≢ places.Nowhere) × (InSome a ts (HasNode i) → (element_at a i).node_p ≢ places.Nowhere)
parts_hang a ts h i = (λ s. leaf_hangs a s.0 (ts s.0) i (h.roots s.0 s.1.0) s.1.1, λ s. node_hangs a s.0 (ts s.0) i (h.roots s.0 s.1.0) s.1.1)

no_item : (xs ys : List KeyedItem) (y : KeyedItem) → [] ≡ xs ++ y ∷ ys → ⊥
no_item [] ys y h = cc
no_item (x ∷ xs) ys y h = let g : [] ≡ x ∷ (xs ++ y ∷ ys) = h in cc

-- the way up from an item of a root's list
pub record Found (a : Parts) (q e k : ℕ) (xs ys : List KeyedItem) : Type 0 where
  pub way : List Step
  pub leads : Leads a q (element_at a e).leaf_p way
  pub before_is : before way ≡ xs
  pub after_is : after way ≡ ys
  pub key_is : (element_at a e).key ≡ k

found_at : (a : Parts) (q : ℕ) (o : Option Tree) (e k : ℕ) (xs ys : List KeyedItem) → IsRoot a q o → items_of o ≡ xs ++ record { key = k; entry = e } ∷ ys → Found a q e k xs ys
found_at a q None e k xs ys r h = absurd (no_item xs ys (record { key = k; entry = e }) h)
found_at a q (Some t) e k xs ys r h =
    let w : ItemWay a q t e k xs ys = item_way a q t [] _ _ e k xs ys xs ys r.0 refl h refl (append-nil ys) in
    record { way = w.way; leads = w.leads; before_is = w.before_is; after_is = w.after_is; key_is = w.key_is }

pub stand_once : (a : Parts) (q r e k m : ℕ) (xs ys us vs : List KeyedItem) → HasShape a → q < length a.links → r < length a.links → list_of a q ≡ xs ++ record { key = k; entry = e } ∷ ys → list_of a r ≡ us ++ record { key = m; entry = e } ∷ vs → OnePosition q r k m xs ys us vs
stand_once a q r e k m xs ys us vs h f g x y =
    let w : Found a q e k xs ys = found_at a q (h.0 q) e k xs ys (h.1.roots q f) (sym (list_of_is a q (h.0 q) (h.1.roots q f)) ∙ x) in
    let v : Found a r e m us vs = found_at a r (h.0 r) e m us vs (h.1.roots r g) (sym (list_of_is a r (h.0 r) (h.1.roots r g)) ∙ y) in
    let u : (q ≡ r) × (w.way ≡ v.way) = one_way a q r (element_at a e).leaf_p w.way v.way w.leads v.leads in
    record {
      root = u.0;
      key = sym w.key_is ∙ v.key_is;
      front = sym w.before_is ∙ (ap before u.1 ∙ v.before_is);
      back = sym w.after_is ∙ (ap after u.1 ∙ v.after_is);
    }

pub nothing_stands : (a : Parts) (place : Place) (t : Tree) → Hangs a targets.Nothing place t → ⊥
nothing_stands a place (tip e k) s = let x : targets.Nothing ≡ targets.Leaf e = s.0 in cc
nothing_stands a place (fork j b l r) s = let x : targets.Nothing ≡ targets.Node j = s.0 in cc

pub same_option : (a : Parts) (q : ℕ) (o p : Option Tree) → IsRoot a q o → IsRoot a q p → o ≡ p
same_option a q None None h g = refl
same_option a q None (Some u) h g = absurd (nothing_stands a (root_place a q) u (subst (λ x. Hangs a x (root_place a q) u) h g.0))
same_option a q (Some t) None h g = absurd (nothing_stands a (root_place a q) t (subst (λ x. Hangs a x (root_place a q) t) g h.0))
same_option a q (Some t) (Some u) h g = ap (λ x. Some x) (same_tree a t u _ _ _ h.0 g.0)

pub determined : (a : Parts) (ts us : ℕ → Option Tree) → Shape a ts → Shape a us → (q : ℕ) → q < length a.links → (ts q ≡ us q) × (list_of a q ≡ items_of (ts q))
determined a ts us h g q f = (same_option a q (ts q) (us q) (h.roots q f) (g.roots q f), list_of_is a q (ts q) (h.roots q f))

leaf_tells : (a : Parts) (place : Place) (i : ℕ) (t : Tree) → Hangs a (targets.Leaf i) place t → LeafTells a place i t
leaf_tells a place i (tip e k) s =
    let x : e ≡ i = sym (ap index_of s.0) in
    record {
      fits = subst (λ m. m < length a.elements) x s.1;
      tree_is = ap (λ m. tip m k) x ∙ ap (λ m. tip i m) (sym s.3 ∙ ap (λ m. (element_at a m).key) x);
      hangs = ap (λ m. (element_at a m).leaf_p) (sym x) ∙ s.2;
    }
leaf_tells a place i (fork j b l r) s = let x : targets.Leaf i ≡ targets.Node j = s.0 in cc

pub node_tells : (a : Parts) (place : Place) (i : ℕ) (t : Tree) → Hangs a (targets.Node i) place t → NodeTells a place i t
node_tells a place i (tip e k) s = let x : targets.Node i ≡ targets.Leaf e = s.0 in cc
node_tells a place i (fork j b l r) s =
    let x : j ≡ i = sym (ap index_of s.0) in
    record {
      fits = subst (λ m. m < length a.elements) x s.1;
      left = l;
      right = r;
      tree_is = ap (λ m. fork m b l r) x ∙ ap (λ m. fork i m l r) (sym s.3 ∙ ap (λ m. (element_at a m).bit) x);
      hangs = ap (λ m. (element_at a m).node_p) (sym x) ∙ s.2;
      left_stands = subst (λ m. Hangs a (element_at a m).left (places.Under m sides.Left) l) x s.4;
      right_stands = subst (λ m. Hangs a (element_at a m).right (places.Under m sides.Right) r) x s.5;
    }

pub tells : (a : Parts) (place : Place) (i : ℕ) (t : Tree) → (Hangs a (targets.Leaf i) place t → LeafTells a place i t) × (Hangs a (targets.Node i) place t → NodeTells a place i t)
tells a place i t = (leaf_tells a place i t, node_tells a place i t)

-- a part of a root's tree, and the way up from it
pub record PartAt (a : Parts) (q : ℕ) (w : List Step) (t : Tree) : Type 0 where
  pub target : Target
  pub place : Place
  pub stands : Hangs a target place t
  pub leads : Leads a q place w

pub part_at : (a : Parts) (q : ℕ) (w : List Step) (t : Tree) → Hangs a (link_at a q) (root_place a q) (plug w t) → PartAt a q w t
part_at a q [] t s = record { target = link_at a q; place = root_place a q; stands = s; leads = refl }
part_at a q (from_left i b r ∷ w) t s =
    let p : PartAt a q w (fork i b t r) = part_at a q w (fork i b t r) s in
    let h : Hangs a p.target p.place (fork i b t r) = p.stands in
    record { target = (element_at a i).left; place = places.Under i sides.Left; stands = h.4; leads = (refl, h.1, h.3, h.5, subst (λ o. Leads a q o w) (sym h.2) p.leads) }
part_at a q (from_right i b l ∷ w) t s =
    let p : PartAt a q w (fork i b l t) = part_at a q w (fork i b l t) s in
    let h : Hangs a p.target p.place (fork i b l t) = p.stands in
    record { target = (element_at a i).right; place = places.Under i sides.Right; stands = h.5; leads = (refl, h.1, h.3, h.4, subst (λ o. Leads a q o w) (sym h.2) p.leads) }

-- the way up from a node
node_leads : (a : Parts) (ts : ℕ → Option Tree) (q i : ℕ) (b : ℤ) (w : List Step) (l r : Tree) → Shape a ts → q < length a.links → ts q ≡ Some (plug w (fork i b l r)) → Leads a q (element_at a i).node_p w
node_leads a ts q i b w l r h f e =
    let root : IsRoot a q (Some (plug w (fork i b l r))) = subst (IsRoot a q) e (h.roots q f) in
    let p : PartAt a q w (fork i b l r) = part_at a q w (fork i b l r) root.0 in
    let s : Hangs a p.target p.place (fork i b l r) = p.stands in
    subst (λ o. Leads a q o w) (sym s.2) p.leads

pub nodes_once : (a : Parts) (ts : ℕ → Option Tree) (q r i : ℕ) (b c : ℤ) (w v : List Step) (left right low high : Tree) → Shape a ts → q < length a.links → r < length a.links → ts q ≡ Some (plug w (fork i b left right)) → ts r ≡ Some (plug v (fork i c low high)) → (q ≡ r) × (w ≡ v)
nodes_once a ts q r i b c w v left right low high h f g x y =
    one_way a q r (element_at a i).node_p w v (node_leads a ts q i b w left right h f x) (node_leads a ts r i c v low high h g y)
