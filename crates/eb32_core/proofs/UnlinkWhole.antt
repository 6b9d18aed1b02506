-- The arena without an entry's leaf and the node above it is what the contract says.
use Rattle.std.proofs.Common.{◌≡◌, ℕ, ◌+◌, ◌<◌, ◌≤◌, ◌⊎◌, inl, inr, List, [], ◌∷◌, length, refl, sym, ap, ◌∙◌, subst, arith}
use Rattle.std.specs.Prelude.{ℤ, Option, Some, None, IsSomeAnd}
use Rattle.std.proofs.lemmas.Bool.{cases_eq}
use Rattle.eb_arena.specs.declared.links.Side.{Side}
use Rattle.eb_arena.specs.declared.links.Side.TheVariants as sides
use Rattle.eb_arena.specs.declared.links.Target.{Target}
use Rattle.eb_arena.specs.declared.links.Target.TheVariants as targets
use Rattle.eb_arena.specs.declared.links.Place.{Place}
use Rattle.eb_arena.specs.declared.links.Place.TheVariants as places
use Rattle.eb_arena.specs.Links.{index_of, opposite}
use Rattle.eb_arena.specs.Parts.{Parts, element_at, link_at}
use Rattle.eb_arena.specs.Shape.{Tree, tip, fork, items_of, Hangs, HasLeaf, HasNode, IsRoot, root_place, InSome, Shape}
use Rattle.eb_arena.specs.Way.{Step, from_left, from_right, plug}
use Rattle.eb_arena.specs.Laws.{SameLeaf}
use Rattle.eb_arena.proofs.Frame.{kept}
use Rattle.eb_dups.specs.Grown.{with_tree}
use Rattle.eb_dups.proofs.Distinct.{NoShare, Distinct, distinct, roots_apart}
use Rattle.eb_dups.proofs.Regrown.{top_leaf, top_node, plug_leaf, plug_node, tree_at, tree_other}
use Rattle.eb_dups.specs.Spine.{spine_of}
use Rattle.eb32_core.specs.Planted.{spine_in}
use Rattle.eb32_core.specs.Removal.{Unlinked, paired}
use Rattle.eb32_core.proofs.UnlinkSplit.{Shrinks, shrinks}
use Rattle.eb32_core.proofs.UnlinkItems.{others, others_are}
use Rattle.eb32_core.proofs.Values.{value_shrinks}
use Rattle.eb32_core.proofs.UnlinkCut.{Hanging, Cut}

is_leaf_of : (t : Target) (i : ℕ) → (t ≡ targets.Leaf i) ⊎ (t ≡ targets.Leaf i → ⊥)
is_leaf_of targets.Nothing i = inr (λ h. let z : targets.Nothing ≡ targets.Leaf i = h in cc)
is_leaf_of (targets.Node j) i = inr (λ h. let z : targets.Node j ≡ targets.Leaf i = h in cc)
is_leaf_of (targets.Leaf j) i = elim (cases_eq j i) [ inl e ↦ inl (ap (λ m. targets.Leaf m) e) | inr n ↦ inr (λ h. n (ap index_of h)) ]

is_node_of : (t : Target) (i : ℕ) → (t ≡ targets.Node i) ⊎ (t ≡ targets.Node i → ⊥)
is_node_of targets.Nothing i = inr (λ h. let z : targets.Nothing ≡ targets.Node i = h in cc)
is_node_of (targets.Leaf j) i = inr (λ h. let z : targets.Leaf j ≡ targets.Node i = h in cc)
is_node_of (targets.Node j) i = elim (cases_eq j i) [ inl e ↦ inl (ap (λ m. targets.Node m) e) | inr n ↦ inr (λ h. n (ap index_of h)) ]

-- the other nodes stay in the tree
nodes_up : (w : List Step) (s g : Tree) (x : ℕ) → (HasNode x s → HasNode x g) → HasNode x (plug w s) → HasNode x (plug w g)
nodes_up [] s g x f h = f h
nodes_up (from_left i b r ∷ w) s g x f h = nodes_up w (fork i b s r) (fork i b g r) x (λ y. elim y [ inl y ↦ inl y | inr y ↦ elim y [ inl y ↦ inr (inl (f y)) | inr y ↦ inr (inr y) ] ]) h
nodes_up (from_right i b l ∷ w) s g x f h = nodes_up w (fork i b l s) (fork i b l g) x (λ y. elim y [ inl y ↦ inl y | inr y ↦ elim y [ inl y ↦ inr (inl y) | inr y ↦ inr (inr (f y)) ] ]) h

pair_nodes : (side : Side) (e p k x : ℕ) (b : ℤ) (u : Tree) → (x ≡ p → ⊥) → HasNode x (paired side p b (tip e k) u) → HasNode x u
pair_nodes sides.Left e p k x b u n h = elim h [ inl y ↦ absurd (n y) | inr y ↦ elim y [ inl y ↦ absurd y | inr y ↦ y ] ]
pair_nodes sides.Right e p k x b u n h = elim h [ inl y ↦ absurd (n y) | inr y ↦ elim y [ inl y ↦ y | inr y ↦ absurd y ] ]

-- what a root's tree has is in the trees with that on the root
some_later : (a z : Parts) (ts : ℕ → Option Tree) (q : ℕ) (t u : Tree) (P : Tree → Type 0) → length z.links ≡ length a.links → ts q ≡ Some t → (P t → P u) → InSome a ts P → InSome z (with_tree ts q (Some u)) P
some_later a z ts q t u P n is f s = (
  s.0,
  (
    subst (λ m. s.0 < m) (sym n) s.1.0,
    elim (cases_eq s.0 q) [
      | inl e ↦
          let x : IsSomeAnd (Some t) P = subst (λ y. IsSomeAnd y P) (ap ts e ∙ is) s.1.1 in
          subst (λ y. IsSomeAnd (with_tree ts q (Some u) y) P) (sym e) (subst (λ y. IsSomeAnd y P) (sym (tree_at ts q (Some u))) (f x))
      | inr o ↦ subst (λ y. IsSomeAnd y P) (sym (tree_other ts q s.0 (Some u) o)) s.1.1
    ],
  ),
)

here : (z : Parts) (ts : ℕ → Option Tree) (q : ℕ) (u : Tree) (P : Tree → Type 0) → q < length z.links → P u → InSome z (with_tree ts q (Some u)) P
here z ts q u P f h = (q, (f, subst (λ y. IsSomeAnd y P) (sym (tree_at ts q (Some u))) h))

-- all other roots stay
other_root : (a z : Parts) (q : ℕ) (w : List Step) (side : Side) (e p k : ℕ) (b : ℤ) (part : Target) (u : Tree) (r : ℕ) (o : Option Tree) → Hanging a q w side e p k b part u → Cut a z q w e p part (paired side p b (tip e k) u) u → (r ≡ q → ⊥) → IsRoot a r o → IsRoot z r o
other_root a z q w side e p k b part u r None h c n i = c.others r n ∙ i
other_root a z q w side e p k b part u r (Some t) h c n i =
    let ns : NoShare (plug w (paired side p b (tip e k) u)) t = roots_apart a q r _ _ (plug w (paired side p b (tip e k) u)) t h.whole i.0 h.split i.1 (λ y. n (sym y)) in
    let s : Hangs z (link_at a r) (root_place a r) t = kept a z _ _ t c.count (c.away_from t ns) i.0 in
    let o : root_place a r ≡ root_place z r = ap (λ y. places.Under (y + r) sides.Left) (sym c.count) in
    (subst (λ y. Hangs z y (root_place z r) t) (sym (c.others r n)) (subst (λ y. Hangs z (link_at a r) y t) o s), i.1)

-- the arena after the cut is as the contract says
pub unlinked_by : (a z : Parts) (ts : ℕ → Option Tree) (q : ℕ) (w : List Step) (side : Side) (e p k : ℕ) (b : ℤ) (part : Target) (u : Tree) → Shape a ts → ts q ≡ Some (plug w (paired side p b (tip e k) u)) → Hanging a q w side e p k b part u → Cut a z q w e p part (paired side p b (tip e k) u) u → Unlinked a z ts q e p
unlinked_by a z ts q w side e p k b part u sh is h c =
    let s : Tree = paired side p b (tip e k) u in
    let place : Place = places.Under p (opposite side) in
    let us : ℕ → Option Tree = with_tree ts q (Some (plug w u)) in
    let d : Distinct (plug w s) = distinct a q (plug w s) [] _ _ h.whole refl h.split in
    let y : Shrinks e p (plug w s) (plug w u) = shrinks w side e p k b u h.split d in
    let root : q < length z.links = subst (λ m. q < m) (sym c.roots) h.root in
    record {
      after = plug w u;
      elements = c.count;
      roots = c.roots;
      loose = record {
        fits = let f : length a.links + length a.elements < 2147483647 = sh.fits in let n : length z.elements ≡ length a.elements = c.count in let m : length z.links ≡ length a.links = c.roots in omega arith;
        exists = root;
        tree = plug w u;
        tree_is = tree_at ts q (Some (plug w u));
        stands = c.stands;
        split = y.split;
        others = λ r f n. subst (IsRoot z r) (sym (tree_other ts q r (Some (plug w u)) n)) (other_root a z q w side e p k b part u r (ts r) h c n (sh.roots r (subst (λ m. r < m) c.roots f)));
        leaves = λ i f n. elim (is_leaf_of part i) [
          | inl m ↦ here z ts q (plug w u) (HasLeaf i) root (plug_leaf w u i (top_leaf a part place u i h.stands m))
          | inr m ↦
              let ne : i ≡ e → ⊥ = λ x. n (subst (λ j. (element_at z j).leaf_p ≡ places.Nowhere) (sym x) c.loose.out) in
              let v : SameLeaf a z i = c.leaves i (λ x. elim x [ inl x ↦ ne x | inr x ↦ m x ]) in
              some_later a z ts q (plug w s) (plug w u) (HasLeaf i) c.roots is (λ x. y.keep i ne x) (sh.leaves i (subst (λ j. i < j) c.count f) (λ x. n (v.leaf_p ∙ x)))
        ];
        nodes = λ i f n. elim (is_node_of part i) [
          | inl m ↦ here z ts q (plug w u) (HasNode i) root (plug_node w u i (top_node a part place u i h.stands m))
          | inr m ↦
              let ne : i ≡ p → ⊥ = λ x. n (subst (λ j. (element_at z j).node_p ≡ places.Nowhere) (sym x) c.loose.unused) in
              let v : (element_at z i).node_p ≡ (element_at a i).node_p = c.nodes i (λ x. elim x [ inl x ↦ ne x | inr x ↦ m x ]) in
              some_later a z ts q (plug w s) (plug w u) (HasNode i) c.roots is (nodes_up w s u i (pair_nodes side e p k i b u ne)) (sh.nodes i (subst (λ j. i < j) c.count f) (λ x. n (v ∙ x)))
        ];
        entry_exists = subst (λ m. e < m) (sym c.count) h.leaf_in;
        heir_exists = subst (λ m. p < m) (sym c.count) h.node_in;
        out = c.loose.out;
        unused = c.loose.unused;
      };
      items_are = sym (others_are w side e p k b u d) ∙ ap (λ o. others e (items_of o)) (sym is);
      pair = record { way = w; side = side; bit = b; key = k; other = u; was = is; is = refl };
      spines = λ key. subst (λ o. spine_of key (plug w u) ≤ spine_in key o) (sym is) (value_shrinks w side e p k key b u h.split);
    }
