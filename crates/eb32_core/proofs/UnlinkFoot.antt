-- A root's tree without a leaf and the node above it, by where this node hangs.
use Rattle.std.proofs.Common.{◌≡◌, ℕ, ◌+◌, ◌<◌, ◌⊎◌, inl, inr, List, [], ◌∷◌, length, get_or, refl, sym, ap, ◌∙◌, subst}
use Rattle.std.specs.Prelude.{ℤ}
use Rattle.std.proofs.lemmas.Bool.{cases_eq}
use Rattle.std.proofs.lemmas.List.{length-set, get_or-set_same, get_or-set_other}
use Rattle.eb_arena.specs.declared.links.Side.{Side}
use Rattle.eb_arena.specs.declared.links.Side.TheVariants as sides
use Rattle.eb_arena.specs.declared.links.Target.{Target}
use Rattle.eb_arena.specs.declared.links.Target.TheVariants as targets
use Rattle.eb_arena.specs.declared.links.Place.{Place}
use Rattle.eb_arena.specs.declared.links.Place.TheVariants as places
use Rattle.eb_arena.specs.declared.element.Element.{Element}
use Rattle.eb_arena.specs.Links.{opposite}
use Rattle.eb_arena.specs.Parts.{Parts, element_at, link_at, with_element, with_link, child, with_child, linked}
use Rattle.eb_arena.specs.Shape.{Tree, tip, Hangs, HasLeaf, HasNode, root_place}
use Rattle.eb_arena.specs.Way.{Step, from_left, from_right, plug}
use Rattle.eb_arena.specs.Laws.{SameNode}
use Rattle.eb_arena.proofs.Frame.{kept, at_set}
use Rattle.eb_dups.proofs.Distinct.{part_distinct, away}
use Rattle.eb_dups.proofs.Moves.{LinkedNode, linked_node, linked_root}
use Rattle.eb_dups.proofs.Regrown.{plug_leaf, plug_node, SameWay, lift}
use Rattle.eb32_core.specs.Removal.{step, paired}
use Rattle.eb32_core.proofs.UnlinkSteps.{pair_near_leaf, pair_near_node, pair_far_node, pair_top, Apart, pair_apart, PairStands, pair_stands, stands_pair, StepLeads, step_leads, Rechild, rechild}
use Rattle.eb32_core.proofs.UnlinkSpares.{Spares, spares_then, spares_less, spares_child, spares_link, spares_on, spares_way}
use Rattle.eb32_core.proofs.UnlinkWrites.{raised, cut, CutLeaf, CutNode, loose_later}
use Rattle.eb32_core.proofs.UnlinkCut.{Hanging, Cut, Raised, raised_is}

same_child : (s : Side) (a z : Parts) (i : ℕ) → SameNode a z i → child s (element_at z i) ≡ child s (element_at a i)
same_child sides.Left a z i h = h.left
same_child sides.Right a z i h = h.right

-- the part comes onto the root
root_cut : (a : Parts) (q : ℕ) (side : Side) (e p k : ℕ) (b : ℤ) (part : Target) (u : Tree) → Hanging a q [] side e p k b part u → Cut a (cut a e p part (root_place a q)) q [] e p part (paired side p b (tip e k) u) u
root_cut a q side e p k b part u h =
    let place : Place = root_place a q in
    let s : Tree = paired side p b (tip e k) u in
    let c : Parts = raised a e p part place in
    let z : Parts = with_link c q part in
    let r : Raised a c [] side e p k b part u place = raised_is a q [] side e p k b part u place h in
    let l : Spares c z (λ x. ⊥) (λ x. ⊥) = spares_link c q part in
    let t : Spares a z (CutLeaf e part) (CutNode p part) = spares_less a z (λ x. CutLeaf e part x ⊎ ⊥) (λ x. CutNode p part x ⊎ ⊥) (CutLeaf e part) (CutNode p part) (λ x y. elim y [ inl y ↦ y | inr y ↦ absurd y ]) (λ x y. elim y [ inl y ↦ y | inr y ↦ absurd y ]) (spares_then a c z (CutLeaf e part) (CutNode p part) (λ x. ⊥) (λ x. ⊥) r.spares l) in
    let n : length z.elements ≡ length a.elements = t.count in
    let there : q < length c.links = subst (λ y. q < length y) (sym r.links) h.root in
    let lk : link_at z q ≡ part = get_or-set_same c.links q part targets.Nothing there in
    let o : place ≡ root_place z q = ap (λ y. places.Under (y + q) sides.Left) (sym n) in
    let st : Hangs z part place u = kept c z part place u refl (spares_on c z (λ x. ⊥) (λ x. ⊥) u l (λ x y v. y) (λ x y v. y)) r.stands in
    let is : linked c place part ≡ z = ap (λ y. linked c (places.Under (y + q) sides.Left) part) (sym r.spares.count) ∙ linked_root c q sides.Left part in
    let x : Cut a z q [] e p part s u = record {
      count = n;
      roots = length-set c.links q part ∙ ap length r.links;
      loose = loose_later c z (λ x. ⊥) (λ x. ⊥) e p l (λ y. y) (λ y. y) r.loose;
      stands = subst (λ y. Hangs z y (root_place z q) u) (sym lk) (subst (λ y. Hangs z part y u) o st);
      others = λ y ne. get_or-set_other c.links q y part targets.Nothing ne ∙ ap (λ v. get_or v y targets.Nothing) r.links;
      leaves = λ y f. t.leaves y f;
      nodes = λ y f. (t.nodes y f).node_p;
      away_from = λ v ns. spares_on a z (CutLeaf e part) (CutNode p part) v t (λ y f g. ns.leaves y (r.leaf_there y f) g) (λ y f g. ns.nodes y (r.node_there y f) g);
    } in
    subst (λ y. Cut a y q [] e p part s u) (sym is) x

-- the part comes to a side of a node
node_cut : (a : Parts) (q : ℕ) (far_side : Side) (i : ℕ) (c : ℤ) (r : Tree) (w : List Step) (side : Side) (e p k : ℕ) (b : ℤ) (part : Target) (u : Tree) → Hanging a q (step far_side i c r ∷ w) side e p k b part u → i < length a.elements → Hangs a (child (opposite far_side) (element_at a i)) (places.Under i (opposite far_side)) r → Cut a (cut a e p part (places.Under i far_side)) q (step far_side i c r ∷ w) e p part (paired side p b (tip e k) u) u
node_cut a q far_side i c r w side e p k b part u h fi fr =
    let place : Place = places.Under i far_side in
    let s : Tree = paired side p b (tip e k) u in
    let t : Tree = paired far_side i c s r in
    let m : Parts = raised a e p part place in
    let g : Raised a m (step far_side i c r ∷ w) side e p k b part u place = raised_is a q (step far_side i c r ∷ w) side e p k b part u place h in
    let d : Element = with_child far_side part (element_at m i) in
    let z : Parts = with_element m i d in
    let fm : i < length m.elements = subst (λ y. i < y) (sym g.spares.count) fi in
    let v : Apart i s r = pair_apart far_side i c s r (part_distinct w t g.whole) in
    let l : Spares m z (λ x. ⊥) (λ x. x ≡ i) = spares_child m i far_side part fm in
    let all : Spares a z (λ x. CutLeaf e part x ⊎ ⊥) (λ x. CutNode p part x ⊎ (x ≡ i)) = spares_then a m z (CutLeaf e part) (CutNode p part) (λ x. ⊥) (λ x. x ≡ i) g.spares l in
    let leaf_up : (x : ℕ) → CutLeaf e part x ⊎ ⊥ → HasLeaf x t = λ x y. elim y [ inl y ↦ pair_near_leaf far_side i x c s r (g.leaf_there x y) | inr y ↦ absurd y ] in
    let node_up : (x : ℕ) → CutNode p part x ⊎ (x ≡ i) → HasNode x t = λ x y. elim y [ inl y ↦ pair_near_node far_side i x c s r (g.node_there x y) | inr y ↦ pair_top far_side i x c s r y ] in
    let at : element_at z i ≡ d = at_set m i d fm in
    let ch : Rechild far_side part (element_at m i) = rechild far_side part (element_at m i) in
    let same : SameNode a m i = g.spares.nodes i (λ y. v.near (g.node_there i y)) in
    let node_p : (element_at z i).node_p ≡ (element_at a i).node_p = ap (λ y. y.node_p) at ∙ (ch.node_p ∙ same.node_p) in
    let bit : (element_at z i).bit ≡ (element_at a i).bit = ap (λ y. y.bit) at ∙ (ch.bit ∙ same.bit) in
    let near : child far_side (element_at z i) ≡ part = ap (child far_side) at ∙ ch.near in
    let far : child (opposite far_side) (element_at z i) ≡ child (opposite far_side) (element_at a i) = ap (child (opposite far_side)) at ∙ (ch.far ∙ same_child (opposite far_side) a m i same) in
    let near_stands : Hangs z part place u = kept m z part place u l.count (spares_on m z (λ x. ⊥) (λ x. x ≡ i) u l (λ x y f. y) (λ x y f. v.near (subst (λ n. HasNode n s) y (pair_far_node side p x b (tip e k) u f)))) g.stands in
    let far_stands : Hangs z (child (opposite far_side) (element_at a i)) (places.Under i (opposite far_side)) r = kept a z _ _ r all.count (spares_on a z (λ x. CutLeaf e part x ⊎ ⊥) (λ x. CutNode p part x ⊎ (x ≡ i)) r all (λ x y f. elim y [ inl y ↦ v.share.leaves x (g.leaf_there x y) f | inr y ↦ y ]) (λ x y f. elim y [ inl y ↦ v.share.nodes x (g.node_there x y) f | inr y ↦ v.far (subst (λ n. HasNode n r) y f) ])) fr in
    let top : (o : Target) (pl : Place) → Hangs a o pl t → Hangs z o pl (paired far_side i c u r) = λ o pl hs.
    let x : PairStands a far_side i c s r o pl = pair_stands a far_side i c s r o pl hs in
    stands_pair z far_side i c u r o pl (record {
      is = x.is;
      fits = subst (λ y. i < y) (sym all.count) x.fits;
      hangs = node_p ∙ x.hangs;
      bit = bit ∙ x.bit;
      near = subst (λ y. Hangs z y place u) (sym near) near_stands;
      far = subst (λ y. Hangs z y (places.Under i (opposite far_side)) r) (sym far) far_stands;
    })
    in
    let sw : SameWay a z w = spares_way a z (λ x. CutLeaf e part x ⊎ ⊥) (λ x. CutNode p part x ⊎ (x ≡ i)) w t all (away w t g.whole) leaf_up node_up in
    let up : Hangs z (link_at a q) (root_place a q) (plug w (paired far_side i c u r)) = lift a z w t (paired far_side i c u r) all.count sw top (link_at a q) (root_place a q) h.whole in
    let lk : link_at a q ≡ link_at z q = ap (λ y. get_or y q targets.Nothing) (sym g.links) in
    let o : root_place a q ≡ root_place z q = ap (λ y. places.Under (y + q) sides.Left) (sym all.count) in
    let is : LinkedNode m (linked m place part) i far_side part = linked_node m i far_side part fm in
    let x : Cut a z q (step far_side i c r ∷ w) e p part s u = record {
      count = all.count;
      roots = ap length g.links;
      loose = loose_later m z (λ x. ⊥) (λ x. x ≡ i) e p l (λ y. y) (λ y. v.near (subst (λ n. HasNode n s) y (pair_top side p p b (tip e k) u refl))) g.loose;
      stands = subst (λ y. Hangs z y (root_place z q) (plug w (paired far_side i c u r))) lk (subst (λ y. Hangs z (link_at a q) y (plug w (paired far_side i c u r))) o up);
      others = λ y ne. ap (λ n. get_or n y targets.Nothing) g.links;
      leaves = λ y f. all.leaves y (λ n. elim n [ inl n ↦ f n | inr n ↦ n ]);
      nodes = λ y f. elim (cases_eq y i) [
        | inl n ↦ subst (λ j. (element_at z j).node_p ≡ (element_at a j).node_p) (sym n) node_p
        | inr n ↦ (all.nodes y (λ j. elim j [ inl j ↦ f j | inr j ↦ n j ])).node_p
      ];
      away_from = λ y ns. spares_on a z (λ x. CutLeaf e part x ⊎ ⊥) (λ x. CutNode p part x ⊎ (x ≡ i)) y all (λ j f n. ns.leaves j (plug_leaf w t j (leaf_up j f)) n) (λ j f n. ns.nodes j (plug_node w t j (node_up j f)) n);
    } in
    subst (λ y. Cut a y q (step far_side i c r ∷ w) e p part s u) (sym is.is) x

-- wherever it hangs
pub cut_is : (a : Parts) (q : ℕ) (w : List Step) (side : Side) (e p k : ℕ) (b : ℤ) (part : Target) (u : Tree) → Hanging a q w side e p k b part u → Cut a (cut a e p part (element_at a p).node_p) q w e p part (paired side p b (tip e k) u) u
cut_is a q [] side e p k b part u h =
    subst (λ y. Cut a (cut a e p part y) q [] e p part (paired side p b (tip e k) u) u) (sym h.leads) (root_cut a q side e p k b part u h)
cut_is a q (from_left i c r ∷ w) side e p k b part u h =
    let l : StepLeads a q sides.Left i c r w (element_at a p).node_p = step_leads a q sides.Left i c r w (element_at a p).node_p h.leads in
    subst (λ y. Cut a (cut a e p part y) q (from_left i c r ∷ w) e p part (paired side p b (tip e k) u) u) (sym l.place_is) (node_cut a q sides.Left i c r w side e p k b part u h l.fits l.far)
cut_is a q (from_right i c r ∷ w) side e p k b part u h =
    let l : StepLeads a q sides.Right i c r w (element_at a p).node_p = step_leads a q sides.Right i c r w (element_at a p).node_p h.leads in
    subst (λ y. Cut a (cut a e p part y) q (from_right i c r ∷ w) e p part (paired side p b (tip e k) u) u) (sym l.place_is) (node_cut a q sides.Right i c r w side e p k b part u h l.fits l.far)
