-- The leaf of an entry, the node above it, and what is on its other side.
use Rattle.std.proofs.Common.{◌≡◌, ℕ, ◌+◌, ◌<◌, ◌≤◌, inl, inr, Bool, true, false, eqb, eq-eqb, ne_eqb, List, [], ◌∷◌, length, refl, sym, ap, ◌∙◌, subst, arith}
use Rattle.std.specs.Prelude.{ℤ, ◌||◌, Option, Some, None, IsSomeAnd}
use Rattle.std.proofs.lemmas.Bool.{cases_eq}
use Rattle.eb_arena.specs.declared.links.Side.{Side}
use Rattle.eb_arena.specs.declared.links.Side.TheVariants as sides
use Rattle.eb_arena.specs.declared.links.Target.{Target}
use Rattle.eb_arena.specs.declared.links.Target.TheVariants as targets
use Rattle.eb_arena.specs.declared.links.Place.{Place}
use Rattle.eb_arena.specs.declared.links.Place.TheVariants as places
use Rattle.eb_arena.specs.Links.{index_of, is_nowhere, place_index, place_side, opposite}
use Rattle.eb_arena.specs.Parts.{Parts, element_at, link_at, child}
use Rattle.eb_arena.specs.Shape.{Tree, tip, fork, Hangs, Split, HasLeaf, IsRoot, root_place, InSome, Shape, HasShape}
use Rattle.eb_arena.specs.Way.{Step, from_left, from_right, plug, Leads}
use Rattle.eb_arena.proofs.Ways.{LeafWay, leaf_way, part_split}
use Rattle.eb_arena.proofs.Unique.{leads_somewhere}
use Rattle.eb32_walk.specs.Ends.{IsIn}
use Rattle.eb_dups.proofs.LeftOfRoot.{left_of_root}
use Rattle.eb_dups.proofs.Distinct.{Distinct, distinct, part_distinct, node_leaf}
use Rattle.eb_dups.proofs.Regrown.{top_node}
use Rattle.eb32_core.proofs.UnlinkSteps.{Apart, pair_apart}
use Rattle.eb32_core.specs.Removal.{Unlinked, Unlinks, paired}
use Rattle.eb32_core.proofs.UnlinkWrites.{cut}
use Rattle.eb32_core.proofs.UnlinkCut.{part_in, Hanging, Cut}
use Rattle.eb32_core.proofs.UnlinkFoot.{cut_is}
use Rattle.eb32_core.proofs.UnlinkWhole.{unlinked_by}

-- what is on the other side of the node at a place
abbrev pub beside : Parts → Place → Target
beside a place = child (opposite (place_side place)) (element_at a (place_index place))

-- the leaf of entry e hangs at the place
pub record Foot (a : Parts) (q : ℕ) (t : Tree) (e : ℕ) (place : Place) : Type 0 where
  pub way : List Step
  pub bit : ℤ
  pub far : Tree
  pub whole_is : plug way (paired (place_side place) (place_index place) bit (tip e (element_at a e).key) far) ≡ t
  pub hanging : Hanging a q way (place_side place) e (place_index place) (element_at a e).key bit (beside a place) far

foot_on : (a : Parts) (q : ℕ) (t : Tree) (e : ℕ) (place : Place) (w : List Step) → q < length a.links → Hangs a (link_at a q) (root_place a q) t → Split t → Leads a q place w → plug w (tip e (element_at a e).key) ≡ t → e < length a.elements → place_index place < length a.elements → Foot a q t e place
foot_on a q t e place [] f s p l is fe fp = let x : place_index place ≡ length a.elements + q = ap place_index l in absurd (omega arith)
foot_on a q t e place (from_left i b r ∷ w) f s p l is fe fp =
    let x : Foot a q t e (places.Under i sides.Left) = record {
      way = w;
      bit = b;
      far = r;
      whole_is = is;
      hanging = record { root = f; whole = subst (Hangs a (link_at a q) (root_place a q)) (sym is) s; split = subst Split (sym is) p; leads = l.4; stands = l.3; leaf_in = fe; node_in = l.1 };
    } in
    subst (Foot a q t e) (sym l.0) x
foot_on a q t e place (from_right i b r ∷ w) f s p l is fe fp =
    let x : Foot a q t e (places.Under i sides.Right) = record {
      way = w;
      bit = b;
      far = r;
      whole_is = is;
      hanging = record { root = f; whole = subst (Hangs a (link_at a q) (root_place a q)) (sym is) s; split = subst Split (sym is) p; leads = l.4; stands = l.3; leaf_in = fe; node_in = l.1 };
    } in
    subst (Foot a q t e) (sym l.0) x

pub foot : (a : Parts) (q : ℕ) (t : Tree) (e : ℕ) → q < length a.links → IsRoot a q (Some t) → HasLeaf e t → place_index (element_at a e).leaf_p < length a.elements → Foot a q t e (element_at a e).leaf_p
foot a q t e f r h fp =
    let w : LeafWay a q t e = leaf_way a q t [] _ _ e r.0 refl h in
    foot_on a q t e (element_at a e).leaf_p w.way f r.0 r.1 w.leads w.whole_is w.fits fp

-- the arena without the leaf of an entry and the node above it
abbrev pub unlinked : Parts → ℕ → Parts
unlinked a e = let place : Place = (element_at a e).leaf_p in cut a e (place_index place) (beside a place) (element_at a (place_index place)).node_p

unlinks_in : (a : Parts) (e : ℕ) (ts : ℕ → Option Tree) (q : ℕ) (o : Option Tree) → Shape a ts → q < length a.links → ts q ≡ o → IsRoot a q o → IsSomeAnd o (HasLeaf e) → place_index (element_at a e).leaf_p < length a.elements → Unlinked a (unlinked a e) ts q e (place_index (element_at a e).leaf_p)
unlinks_in a e ts q None sh f is r h fp = absurd h
unlinks_in a e ts q (Some t) sh f is r h fp =
    let place : Place = (element_at a e).leaf_p in
    let x : Foot a q t e place = foot a q t e f r h fp in
    let c : Cut a (unlinked a e) q x.way e (place_index place) (beside a place) (paired (place_side place) (place_index place) x.bit (tip e (element_at a e).key) x.far) x.far = cut_is a q x.way (place_side place) e (place_index place) (element_at a e).key x.bit (beside a place) x.far x.hanging in
    unlinked_by a (unlinked a e) ts q x.way (place_side place) e (place_index place) (element_at a e).key x.bit (beside a place) x.far sh (is ∙ ap (λ y. Some y) (sym x.whole_is)) x.hanging c

pub unlinks : (a : Parts) (e : ℕ) → place_index (element_at a e).leaf_p < length a.elements → Unlinks a (unlinked a e) e (place_index (element_at a e).leaf_p)
unlinks a e fp ts q sh f h = unlinks_in a e ts q (ts q) sh f refl (sh.roots q f) h fp

-- the four writes may be done
pub record MayUnlink (a : Parts) (e : ℕ) (place : Place) : Type 0 where
  pub some : beside a place ≡ targets.Nothing → ⊥
  pub exists : index_of (beside a place) < length a.elements
  pub above : (element_at a (place_index place)).node_p ≡ places.Nowhere → ⊥
  pub above_exists : place_index (element_at a (place_index place)).node_p < length a.elements + length a.links
  pub above_left : length a.elements ≤ place_index (element_at a (place_index place)).node_p → place_side (element_at a (place_index place)).node_p ≡ sides.Left

part_some : (a : Parts) (part : Target) (place : Place) (t : Tree) → Hangs a part place t → part ≡ targets.Nothing → ⊥
part_some a part place (tip e k) s h = let z : targets.Nothing ≡ targets.Leaf e = sym h ∙ s.0 in cc
part_some a part place (fork i b l r) s h = let z : targets.Nothing ≡ targets.Node i = sym h ∙ s.0 in cc

place_in : (a : Parts) (q : ℕ) (place : Place) (w : List Step) → q < length a.links → Leads a q place w → place_index place < length a.elements + length a.links
place_in a q place [] f l = let x : place_index place ≡ length a.elements + q = ap place_index l in omega arith
place_in a q place (from_left i b r ∷ w) f l = let x : place_index place ≡ i = ap place_index l.0 in let y : i < length a.elements = l.1 in omega arith
place_in a q place (from_right i b r ∷ w) f l = let x : place_index place ≡ i = ap place_index l.0 in let y : i < length a.elements = l.1 in omega arith

may_in : (a : Parts) (e : ℕ) (q : ℕ) (o : Option Tree) → q < length a.links → IsRoot a q o → IsSomeAnd o (HasLeaf e) → place_index (element_at a e).leaf_p < length a.elements → MayUnlink a e (element_at a e).leaf_p
may_in a e q None f r h fp = absurd h
may_in a e q (Some t) f r h fp =
    let place : Place = (element_at a e).leaf_p in
    let x : Foot a q t e place = foot a q t e f r h fp in
    record {
      some = part_some a (beside a place) (places.Under (place_index place) (opposite (place_side place))) x.far x.hanging.stands;
      exists = part_in a (beside a place) (places.Under (place_index place) (opposite (place_side place))) x.far x.hanging.stands;
      above = leads_somewhere a q (element_at a (place_index place)).node_p x.way x.hanging.leads;
      above_exists = place_in a q (element_at a (place_index place)).node_p x.way f x.hanging.leads;
      above_left = left_of_root a q (element_at a (place_index place)).node_p x.way x.hanging.leads;
    }

pub may_unlink : (a : Parts) (e : ℕ) → HasShape a → IsIn a e → place_index (element_at a e).leaf_p < length a.elements → MayUnlink a e (element_at a e).leaf_p
may_unlink a e h i fp =
    let s : InSome a h.0 (HasLeaf e) = h.1.leaves e i.0 i.1 in
    may_in a e s.0 (h.0 s.0) s.1.0 (h.1.roots s.0 s.1.0) s.1.1 fp

far_split : (side : Side) (p : ℕ) (b : ℤ) (t u : Tree) → Split (paired side p b t u) → Split u
far_split sides.Left p b t u s = s.4
far_split sides.Right p b t u s = s.3

or_none : (b : Bool) → (b || false) ≡ b
or_none true = refl
or_none false = refl

or_some : (b : Bool) → (b || true) ≡ true
or_some true = refl
or_some false = refl

-- the node of the entry is used afterwards where it was used and is not the one that went
own_in : (a : Parts) (e q : ℕ) (o : Option Tree) → q < length a.links → IsRoot a q o → IsSomeAnd o (HasLeaf e) → place_index (element_at a e).leaf_p < length a.elements → is_nowhere (element_at (unlinked a e) e).node_p ≡ (is_nowhere (element_at a e).node_p || eqb (place_index (element_at a e).leaf_p) e)
own_in a e q None f r h fp = absurd h
own_in a e q (Some t) f r h fp =
    let place : Place = (element_at a e).leaf_p in
    let p : ℕ = place_index place in
    let side : Side = place_side place in
    let x : Foot a q t e place = foot a q t e f r h fp in
    let leaf : Tree = tip e (element_at a e).key in
    let z : Parts = unlinked a e in
    let c : Cut a z q x.way e p (beside a place) (paired side p x.bit leaf x.far) x.far = cut_is a q x.way side e p (element_at a e).key x.bit (beside a place) x.far x.hanging in
    elim (cases_eq p e) [
      | inl same ↦
          let out : (element_at z e).node_p ≡ places.Nowhere = subst (λ n. (element_at z n).node_p ≡ places.Nowhere) same c.loose.unused in
          ap is_nowhere out ∙ sym (ap (λ b. is_nowhere (element_at a e).node_p || b) (eq-eqb p e same) ∙ or_some (is_nowhere (element_at a e).node_p))
      | inr ne ↦
          let d : Distinct (plug x.way (paired side p x.bit leaf x.far)) = distinct a q (plug x.way (paired side p x.bit leaf x.far)) [] _ _ x.hanging.whole refl x.hanging.split in
          let v : Apart p leaf x.far = pair_apart side p x.bit leaf x.far (part_distinct x.way (paired side p x.bit leaf x.far) d) in
          let fs : Split x.far = far_split side p x.bit leaf x.far (part_split x.way (paired side p x.bit leaf x.far) x.hanging.split) in
          let away : beside a place ≡ targets.Node e → ⊥ = λ m. v.share.leaves e refl (node_leaf x.far e fs (top_node a (beside a place) (places.Under p (opposite side)) x.far e x.hanging.stands m)) in
          let same : (element_at z e).node_p ≡ (element_at a e).node_p = c.nodes e (λ y. elim y [ inl y ↦ ne (sym y) | inr y ↦ away y ]) in
          ap is_nowhere same ∙ sym (ap (λ b. is_nowhere (element_at a e).node_p || b) (ne_eqb p e ne) ∙ or_none (is_nowhere (element_at a e).node_p))
    ]

pub own_node : (a : Parts) (e : ℕ) → HasShape a → IsIn a e → place_index (element_at a e).leaf_p < length a.elements → is_nowhere (element_at (unlinked a e) e).node_p ≡ (is_nowhere (element_at a e).node_p || eqb (place_index (element_at a e).leaf_p) e)
own_node a e h i fp =
    let s : InSome a h.0 (HasLeaf e) = h.1.leaves e i.0 i.1 in
    own_in a e s.0 (h.0 s.0) s.1.0 (h.1.roots s.0 s.1.0) s.1.1 fp
