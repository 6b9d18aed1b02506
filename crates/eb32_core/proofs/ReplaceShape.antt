-- The arena where one node was put in the place of another has the shape.
use Rattle.std.proofs.Common.{◌≡◌, ◌≢◌, ℕ, ◌+◌, ◌<◌, inl, inr, List, [], ◌∷◌, length, refl, sym, ap, ◌∙◌, subst, arith}
use Rattle.std.specs.Prelude.{Option, Some, None, IsSomeAnd}
use Rattle.std.proofs.lemmas.Bool.{cases_eq}
use Rattle.eb_arena.specs.declared.links.Side.TheVariants as sides
use Rattle.eb_arena.specs.declared.links.Target.{Target}
use Rattle.eb_arena.specs.declared.links.Target.TheVariants as targets
use Rattle.eb_arena.specs.declared.links.Place.{Place}
use Rattle.eb_arena.specs.declared.links.Place.TheVariants as places
use Rattle.eb_arena.specs.Links.{index_of, place_index}
use Rattle.eb_arena.specs.Parts.{Parts, element_at, link_at, up_of}
use Rattle.eb_arena.specs.Shape.{Tree, tip, fork, Hangs, HasLeaf, HasNode, IsRoot, root_place, Shape, InSome}
use Rattle.eb_arena.specs.Way.{Step, from_left, from_right, Leads}
use Rattle.eb_arena.specs.Laws.{NodeTells}
use Rattle.eb_arena.proofs.Ways.{LeafWay, leaf_way}
use Rattle.eb_arena.proofs.Unique.{NodeWay, node_way, leads_somewhere, nothing_stands, node_tells}
use Rattle.eb_arena.proofs.Frame.{Inner, inner, not_below}
use Rattle.eb_dups.specs.Grown.{with_tree}
use Rattle.eb_dups.proofs.Distinct.{node_leaf}
use Rattle.eb_dups.proofs.Regrown.{top_node, tree_at, tree_other}
use Rattle.eb_dups.proofs.Ending.{up_of_is, place_bound}
use Rattle.eb_dups.proofs.LeftOfRoot.{left_of_root}
use Rattle.eb32_core.specs.Removal.{renamed, IsLoose, MayReplace, Replaces}
use Rattle.eb32_core.proofs.ReplaceHeld.{held, held_node}
use Rattle.eb32_core.proofs.ReplaceWrites.{Replaceable, Replacing, replaced, replacing}
use Rattle.eb32_core.proofs.UnlinkNames.{renamed_leaf}
use Rattle.eb32_core.proofs.ReplaceNames.{renamed_target, renamed_node, renamed_heir, renamed_none}
use Rattle.eb32_core.proofs.ReplaceTrees.{root_held, root_renamed, root_stands}

-- where a leaf is out, its node is in no tree that is split
pub no_node : (a : Parts) (q e : ℕ) (o : Option Tree) → IsRoot a q o → (element_at a e).leaf_p ≡ places.Nowhere → IsSomeAnd o (HasNode e) → ⊥
no_node a q e None r n s = absurd s
no_node a q e (Some t) r n s =
    let w : LeafWay a q t e = leaf_way a q t [] _ _ e r.0 refl (node_leaf t e r.1 s) in
    leads_somewhere a q (element_at a e).leaf_p w.way w.leads n

pub loose_node : (a : Parts) (ts : ℕ → Option Tree) (q e h : ℕ) (l : IsLoose a ts q e h) → (element_at a e).node_p ≢ places.Nowhere → HasNode e l.tree
loose_node a ts q e h l u =
    let s : InSome a ts (HasNode e) = l.nodes e l.entry_exists u in
    elim (cases_eq s.0 q) [
      | inl k ↦ subst (λ o. IsSomeAnd o (HasNode e)) (ap ts k ∙ l.tree_is) s.1.1
      | inr n ↦ absurd (no_node a s.0 e (ts s.0) (l.others s.0 s.1.0 n) l.out s.1.1)
    ]

-- a node of a tree is what hangs where it hangs
node_held : (a : Parts) (e : ℕ) (t : Tree) (target : Target) (place : Place) → Hangs a target place t → held a place ≡ target → HasNode e t → held a (element_at a e).node_p ≡ targets.Node e
node_held a e (tip x k) target place s f g = absurd g
node_held a e (fork i b l r) target place s f g =
    elim g [
      | inl k ↦ ap (λ m. held a (element_at a m).node_p) k ∙ (ap (held a) s.2 ∙ (f ∙ (s.0 ∙ ap (λ m. targets.Node m) (sym k))))
      | inr g ↦ elim g [
        | inl g ↦ node_held a e l _ _ s.4 (held_node a i sides.Left s.1) g
        | inr g ↦ node_held a e r _ _ s.5 (held_node a i sides.Right s.1) g
      ]
    ]

-- no way goes over an unused node
way_not : (a : Parts) (q h : ℕ) (place : Place) (w : List Step) → Leads a q place w → h < length a.elements → (element_at a h).node_p ≡ places.Nowhere → place_index place ≡ h → ⊥
way_not a q h place [] l f n k = let x : length a.elements + q ≡ h = sym (ap place_index l) ∙ k in absurd (omega arith)
way_not a q h place (from_left i b r ∷ w) l f n k = leads_somewhere a q (element_at a i).node_p w l.4 (ap (λ m. (element_at a m).node_p) (sym (ap place_index l.0) ∙ k) ∙ n)
way_not a q h place (from_right i b r ∷ w) l f n k = leads_somewhere a q (element_at a i).node_p w l.4 (ap (λ m. (element_at a m).node_p) (sym (ap place_index l.0) ∙ k) ∙ n)

target_in : (a : Parts) (target : Target) (place : Place) (t : Tree) → Hangs a target place t → index_of target < length a.elements
target_in a target place (tip e k) s = subst (λ n. n < length a.elements) (sym (ap index_of s.0)) s.1
target_in a target place (fork i b l r) s = subst (λ n. n < length a.elements) (sym (ap index_of s.0)) s.1

pub replaceable : (a : Parts) (ts : ℕ → Option Tree) (q e h : ℕ) → IsLoose a ts q e h → (element_at a e).node_p ≢ places.Nowhere → Replaceable a e h
replaceable a ts q e h l u =
    let n : HasNode e l.tree = loose_node a ts q e h l u in
    let w : NodeWay a q l.tree e = node_way a q l.tree [] _ _ e l.stands refl n in
    let i : Inner a e l.tree = inner a e l.tree _ _ l.stands n in
    let t : NodeTells a i.place e i.tree = node_tells a i.place e i.tree i.stands in
    let whole : Hangs a (targets.Node e) i.place (fork e (element_at a e).bit t.left t.right) = subst (Hangs a (targets.Node e) i.place) t.tree_is i.stands in
    record {
      entry_exists = l.entry_exists;
      heir_exists = l.heir_exists;
      differ = λ k. u (ap (λ m. (element_at a m).node_p) k ∙ l.unused);
      left_some = λ k. nothing_stands a (places.Under e sides.Left) t.left (subst (λ m. Hangs a m (places.Under e sides.Left) t.left) k t.left_stands);
      right_some = λ k. nothing_stands a (places.Under e sides.Right) t.right (subst (λ m. Hangs a m (places.Under e sides.Right) t.right) k t.right_stands);
      left_exists = target_in a (element_at a e).left (places.Under e sides.Left) t.left t.left_stands;
      right_exists = target_in a (element_at a e).right (places.Under e sides.Right) t.right t.right_stands;
      left_up = up_of_is a (element_at a e).left (places.Under e sides.Left) t.left t.left_stands;
      right_up = up_of_is a (element_at a e).right (places.Under e sides.Right) t.right t.right_stands;
      left_not = λ k. not_below a e (element_at a e).bit t.left t.right (targets.Node e) i.place whole (inl (top_node a (element_at a e).left (places.Under e sides.Left) t.left e t.left_stands k));
      right_not = λ k. not_below a e (element_at a e).bit t.left t.right (targets.Node e) i.place whole (inr (top_node a (element_at a e).right (places.Under e sides.Right) t.right e t.right_stands k));
      unused = l.unused;
      hangs = u;
      place_exists = place_bound a q (element_at a e).node_p w.way w.leads l.exists;
      place_left = left_of_root a q (element_at a e).node_p w.way w.leads;
      place_not = way_not a q h (element_at a e).node_p w.way w.leads l.heir_exists l.unused;
      place_held = node_held a e l.tree (link_at a q) (root_place a q) l.stands (root_held a q) n;
    }

-- what hung nowhere hangs nowhere, but for the heir's node
still_nowhere : (a z : Parts) (e h : ℕ) (u : Target) → Replaceable a e h → Replacing a z e h → (targets.Node h ≡ u → ⊥) → up_of a u ≡ places.Nowhere → up_of z u ≡ places.Nowhere
still_nowhere a z e h u r g n k =
    g.up_other
    u
    (λ y. let x : places.Under e sides.Left ≡ places.Nowhere = sym r.left_up ∙ (ap (up_of a) y ∙ k) in cc)
    (λ y. let x : places.Under e sides.Right ≡ places.Nowhere = sym r.right_up ∙ (ap (up_of a) y ∙ k) in cc)
    (λ y. r.hangs (ap (up_of a) y ∙ k))
    n
    ∙ k

-- the tree of another root is as it was
other_root : (a z : Parts) (e h q : ℕ) (o : Option Tree) → Replaceable a e h → Replacing a z e h → (element_at a e).leaf_p ≡ places.Nowhere → IsRoot a q o → IsRoot z q o
other_root a z e h q None r g n k =
    let no : link_at a q ≡ targets.Node e → (element_at a e).node_p ≡ root_place a q = λ y. let x : targets.Nothing ≡ targets.Node e = sym k ∙ y in cc in
    root_renamed a z e h q r g no ∙ ap (renamed_target e h) k
other_root a z e h q (Some t) r g n k =
    (subst (Hangs z (link_at z q) (root_place z q)) (renamed_none e h t (no_node a q e (Some t) k n)) (root_stands a z e h q t r g k.0), k.1)

-- what a tree has is in the trees afterwards
later : (ts : ℕ → Option Tree) (q r : ℕ) (t u : Tree) (P : Tree → Type 0) → ts q ≡ Some t → (P t → P u) → IsSomeAnd (ts r) P → IsSomeAnd (with_tree ts q (Some u) r) P
later ts q r t u P h f s =
    elim (cases_eq r q) [
      | inl e ↦
          let x : IsSomeAnd (Some t) P = subst (λ y. IsSomeAnd y P) (ap ts e ∙ h) s in
          subst (λ y. IsSomeAnd (with_tree ts q (Some u) y) P) (sym e) (subst (λ y. IsSomeAnd y P) (sym (tree_at ts q (Some u))) (f x))
      | inr n ↦ subst (λ y. IsSomeAnd y P) (sym (tree_other ts q r (Some u) n)) s
    ]

later_in : (a z : Parts) (ts : ℕ → Option Tree) (q : ℕ) (t u : Tree) (P : Tree → Type 0) → length z.links ≡ length a.links → ts q ≡ Some t → (P t → P u) → InSome a ts P → InSome z (with_tree ts q (Some u)) P
later_in a z ts q t u P c h f s = (s.0, (subst (λ m. s.0 < m) (sym c) s.1.0, later ts q s.0 t u P h f s.1.1))

pub loose_shape : (a z : Parts) (ts : ℕ → Option Tree) (q e h : ℕ) (l : IsLoose a ts q e h) → (element_at a e).node_p ≢ places.Nowhere → Replacing a z e h → Shape z (with_tree ts q (Some (renamed e h l.tree)))
loose_shape a z ts q e h l u g =
    let r : Replaceable a e h = replaceable a ts q e h l u in
    let new : Tree = renamed e h l.tree in
    let us : ℕ → Option Tree = with_tree ts q (Some new) in
    let here : IsRoot z q (Some new) = (root_stands a z e h q l.tree r g l.stands, l.split) in
    let heir : InSome z us (HasNode h) = (q, (subst (λ m. q < m) (sym g.roots) l.exists, subst (λ y. IsSomeAnd y (HasNode h)) (sym (tree_at ts q (Some new))) (renamed_heir e h l.tree (loose_node a ts q e h l u)))) in
    record {
      fits = let x : length a.links + length a.elements < 2147483647 = l.fits in let y : length z.elements ≡ length a.elements = g.count in let w : length z.links ≡ length a.links = g.roots in omega arith;
      roots = λ p f. elim (cases_eq p q) [
        | inl k ↦ subst (λ y. IsRoot z y (us y)) (sym k) (subst (IsRoot z q) (sym (tree_at ts q (Some new))) here)
        | inr n ↦ subst (IsRoot z p) (sym (tree_other ts q p (Some new) n)) (other_root a z e h p (ts p) r g l.out (l.others p (subst (λ m. p < m) g.roots f) n))
      ];
      leaves = λ i f n.
          let x : InSome a ts (HasLeaf i) = l.leaves i (subst (λ m. i < m) g.count f) (λ k. n (still_nowhere a z e h (targets.Leaf i) r g (λ y. let w : targets.Node h ≡ targets.Leaf i = y in cc) k)) in
          later_in a z ts q l.tree new (HasLeaf i) g.roots l.tree_is (renamed_leaf e h l.tree i) x;
      nodes = λ i f n. elim (cases_eq i h) [
        | inl k ↦ subst (λ y. InSome z us (HasNode y)) (sym k) heir
        | inr d ↦
            let x : InSome a ts (HasNode i) = l.nodes i (subst (λ m. i < m) g.count f) (λ k. n (still_nowhere a z e h (targets.Node i) r g (λ y. d (sym (ap index_of y))) k)) in
            let ne : i ≡ e → ⊥ = λ k. n (ap (λ m. (element_at z m).node_p) k ∙ g.up_entry) in
            later_in a z ts q l.tree new (HasNode i) g.roots l.tree_is (renamed_node e h i l.tree ne) x
      ];
    }

same_some : (t u : Tree) → Some t ≡ Some u → t ≡ u
same_some t u h = cc

pub replaces : (a : Parts) (e h : ℕ) → (element_at a e).node_p ≢ places.Nowhere → Replaces a (replaced a e h) e h
replaces a e h u ts q l =
    let z : Parts = replaced a e h in
    let g : Replacing a z e h = replacing a e h (replaceable a ts q e h l u) in
    record {
      elements = g.count;
      roots = g.roots;
      shape = λ t k. subst (λ m. Shape z (with_tree ts q (Some (renamed e h m)))) (same_some l.tree t (sym l.tree_is ∙ k)) (loose_shape a z ts q e h l u g);
    }

-- what the code asks of the arena
pub may_replaceable : (a : Parts) (e h : ℕ) → MayReplace a e h → (element_at a e).node_p ≢ places.Nowhere → Replaceable a e h
may_replaceable a e h m u = replaceable a m.0 m.1.0 e h m.1.1 u
