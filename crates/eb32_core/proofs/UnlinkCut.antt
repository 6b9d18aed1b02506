-- A root's tree without a leaf and the node above it stands.
use Rattle.std.proofs.Common.{◌≡◌, ℕ, ◌<◌, inl, inr, List, [], length, refl, sym, ap, subst}
use Rattle.std.specs.Prelude.{ℤ}
use Rattle.eb_arena.specs.declared.links.Side.{Side}
use Rattle.eb_arena.specs.declared.links.Target.{Target}
use Rattle.eb_arena.specs.declared.links.Place.{Place}
use Rattle.eb_arena.specs.declared.links.Place.TheVariants as places
use Rattle.eb_arena.specs.Links.{index_of, opposite}
use Rattle.eb_arena.specs.Parts.{Parts, element_at, link_at}
use Rattle.eb_arena.specs.Shape.{Tree, tip, fork, Hangs, Split, HasLeaf, HasNode, root_place}
use Rattle.eb_arena.specs.Way.{Step, plug, Leads}
use Rattle.eb_arena.specs.Laws.{SameLeaf, SameOn}
use Rattle.eb_arena.proofs.Frame.{kept, moved}
use Rattle.eb_dups.proofs.Distinct.{NoShare, Distinct, distinct, part_distinct}
use Rattle.eb_dups.proofs.Regrown.{top_leaf, top_node}
use Rattle.eb32_core.specs.Removal.{paired}
use Rattle.eb32_core.proofs.UnlinkSteps.{pair_near_leaf, pair_far_leaf, pair_far_node, pair_top, Apart, pair_apart}
use Rattle.eb32_core.proofs.UnlinkSpares.{Spares, spares_on}
use Rattle.eb32_core.proofs.UnlinkWrites.{loosened, raised, CutLeaf, CutNode, spares_loosened, spares_raised, Loose, loose_raised, raised_links}

-- a leaf of root q's tree with a node above it, on whose other side is a part
pub record Hanging (a : Parts) (q : ℕ) (w : List Step) (side : Side) (e p k : ℕ) (b : ℤ) (part : Target) (u : Tree) : Type 0 where
  pub root : q < length a.links
  pub whole : Hangs a (link_at a q) (root_place a q) (plug w (paired side p b (tip e k) u))
  pub split : Split (plug w (paired side p b (tip e k) u))
  pub leads : Leads a q (element_at a p).node_p w
  pub stands : Hangs a part (places.Under p (opposite side)) u
  pub leaf_in : e < length a.elements
  pub node_in : p < length a.elements

-- what follows of the arena without them
pub record Cut (a z : Parts) (q : ℕ) (w : List Step) (e p : ℕ) (part : Target) (s u : Tree) : Type 0 where
  pub count : length z.elements ≡ length a.elements
  pub roots : length z.links ≡ length a.links
  pub loose : Loose z e p
  pub stands : Hangs z (link_at z q) (root_place z q) (plug w u)
  pub others : (r : ℕ) → (r ≡ q → ⊥) → link_at z r ≡ link_at a r
  pub leaves : (x : ℕ) → (CutLeaf e part x → ⊥) → SameLeaf a z x
  pub nodes : (x : ℕ) → (CutNode p part x → ⊥) → (element_at z x).node_p ≡ (element_at a x).node_p
  pub away_from : (t : Tree) → NoShare (plug w s) t → SameOn a z t

-- what the arena is before the link down
pub record Raised (a c : Parts) (w : List Step) (side : Side) (e p k : ℕ) (b : ℤ) (part : Target) (u : Tree) (above : Place) : Type 0 where
  pub spares : Spares a c (CutLeaf e part) (CutNode p part)
  pub links : c.links ≡ a.links
  pub loose : Loose c e p
  pub stands : Hangs c part above u
  pub whole : Distinct (plug w (paired side p b (tip e k) u))
  pub leaf_there : (x : ℕ) → CutLeaf e part x → HasLeaf x (paired side p b (tip e k) u)
  pub node_there : (x : ℕ) → CutNode p part x → HasNode x (paired side p b (tip e k) u)

-- a part of a tree is an element
pub part_in : (a : Parts) (part : Target) (place : Place) (s : Tree) → Hangs a part place s → index_of part < length a.elements
part_in a part place (tip e k) s = subst (λ n. n < length a.elements) (sym (ap index_of s.0)) s.1
part_in a part place (fork i b l r) s = subst (λ n. n < length a.elements) (sym (ap index_of s.0)) s.1

pub raised_is : (a : Parts) (q : ℕ) (w : List Step) (side : Side) (e p k : ℕ) (b : ℤ) (part : Target) (u : Tree) (above : Place) → Hanging a q w side e p k b part u → Raised a (raised a e p part above) w side e p k b part u above
raised_is a q w side e p k b part u above h =
    let place : Place = places.Under p (opposite side) in
    let s : Tree = paired side p b (tip e k) u in
    let d : Distinct (plug w s) = distinct a q (plug w s) [] _ _ h.whole refl h.split in
    let v : Apart p (tip e k) u = pair_apart side p b (tip e k) u (part_distinct w s d) in
    let f : index_of part < length a.elements = part_in a part place u h.stands in
    let l : Spares a (loosened a e p) (λ x. x ≡ e) (λ x. x ≡ p) = spares_loosened a e p h.leaf_in h.node_in in
    let on : SameOn a (loosened a e p) u = spares_on a (loosened a e p) _ _ u l (λ x y z. v.share.leaves x y z) (λ x y z. v.far (subst (λ m. HasNode m u) y z)) in
    record {
      spares = spares_raised a e p part above h.leaf_in h.node_in f;
      links = raised_links a e p part above;
      loose = loose_raised a e p part above h.leaf_in h.node_in f (λ y. v.share.leaves e refl (top_leaf a part place u e h.stands y)) (λ y. v.far (top_node a part place u p h.stands y));
      stands = moved (loosened a e p) part place above u (kept a (loosened a e p) part place u l.count on h.stands);
      whole = d;
      leaf_there = λ x y. elim y [
        | inl y ↦ pair_near_leaf side p x b (tip e k) u y
        | inr y ↦ pair_far_leaf side p x b (tip e k) u (top_leaf a part place u x h.stands y)
      ];
      node_there = λ x y. elim y [
        | inl y ↦ pair_top side p x b (tip e k) u y
        | inr y ↦ pair_far_node side p x b (tip e k) u (top_node a part place u x h.stands y)
      ];
    }
