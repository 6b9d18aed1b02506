-- A root whose only entry is taken out.
use Rattle.std.proofs.Common.{◌≡◌, ℕ, ◌+◌, ◌-◌, ◌<◌, ◌≤◌, inl, inr, List, [], ◌∷◌, length, cond, not, refl, sym, ap, ◌∙◌, subst, arith, eq-eqb}
use Rattle.std.specs.Prelude.{Option, Some, None, IsSomeAnd, filter}
use Rattle.std.proofs.lemmas.Bool.{cases_eq}
use Rattle.std.proofs.lemmas.List.{length-set, get_or-set_same, get_or-set_other}
use Rattle.sched_base.specs.KeyedList.{KeyedItem, is_entry}
use Rattle.eb_arena.specs.declared.links.Side.TheVariants as sides
use Rattle.eb_arena.specs.declared.links.Target.{Target}
use Rattle.eb_arena.specs.declared.links.Target.TheVariants as targets
use Rattle.eb_arena.specs.declared.links.Place.TheVariants as places
use Rattle.eb_arena.specs.declared.element.Element.{Element}
use Rattle.eb_arena.specs.Links.{index_of, place_index, place_side}
use Rattle.eb_arena.specs.Parts.{Parts, element_at, link_at, with_link, hung, linked}
use Rattle.eb_arena.specs.Shape.{Tree, tip, fork, items_of, Hangs, HasLeaf, HasNode, IsRoot, root_place, Shape, HasShape, InSome}
use Rattle.eb_arena.specs.Way.{Step, from_left, from_right, plug, Leads}
use Rattle.eb_arena.specs.Laws.{SameLeaf, SameNode, SameOn}
use Rattle.eb_arena.proofs.Ways.{LeafWay, leaf_way}
use Rattle.eb_arena.proofs.Frame.{kept, at_set, at_other}
use Rattle.eb32_walk.specs.Ends.{IsIn}
use Rattle.eb_dups.specs.Grown.{with_tree}
use Rattle.eb_dups.proofs.Distinct.{NoShare, roots_apart}
use Rattle.eb_dups.proofs.Moves.{hung_leaf, hung_node, hung_count}
use Rattle.eb_dups.proofs.Regrown.{tree_at, tree_other}
use Rattle.eb_dups.proofs.Ending.{place_bound}
use Rattle.eb_dups.proofs.LeftOfRoot.{left_of_root}
use Rattle.eb32_core.specs.Removal.{Uprooted, Uproots}
use Rattle.eb32_core.proofs.ReplaceHeld.{on_root}

-- the arena where the leaf of an entry and the link down to it are gone
abbrev pub cleared : Parts → ℕ → Parts
cleared a e = linked (hung a (targets.Leaf e) places.Nowhere) (element_at a e).leaf_p targets.Nothing

-- the same by the root
abbrev pub emptied : Parts → ℕ → ℕ → Parts
emptied a q e = with_link (hung a (targets.Leaf e) places.Nowhere) q targets.Nothing

cleared_is : (a : Parts) (q e : ℕ) → (element_at a e).leaf_p ≡ root_place a q → cleared a e ≡ emptied a q e
cleared_is a q e h =
    let b : Parts = hung a (targets.Leaf e) places.Nowhere in
    let c : length b.elements ≡ length a.elements = length-set a.elements e (record (element_at a e) { leaf_p = places.Nowhere }) in
    let le : length b.elements ≤ length a.elements + q = omega arith in
    let m : length a.elements + q - length b.elements ≡ q = omega arith in
    ap (λ p. linked b p targets.Nothing) h ∙ (on_root b (length a.elements + q) sides.Left targets.Nothing le ∙ ap (λ x. with_link b x targets.Nothing) m)

-- the leaf that hangs at a root is its whole tree
pub record Alone (a : Parts) (q e : ℕ) (o : Option Tree) : Type 0 where
  pub tree_is : o ≡ Some (tip e (element_at a e).key)
  pub hangs : (element_at a e).leaf_p ≡ root_place a q
  pub fits : e < length a.elements

alone_way : (a : Parts) (q e : ℕ) (t : Tree) (w : List Step) → Leads a q (element_at a e).leaf_p w → plug w (tip e (element_at a e).key) ≡ t → length a.elements ≤ place_index (element_at a e).leaf_p → e < length a.elements → Alone a q e (Some t)
alone_way a q e t [] l p n f = record { tree_is = ap (λ x. Some x) (sym p); hangs = l; fits = f }
alone_way a q e t (from_left i b r ∷ w) l p n f = let x : place_index (element_at a e).leaf_p ≡ i = ap place_index l.0 in let y : i < length a.elements = l.1 in absurd (omega arith)
alone_way a q e t (from_right i b r ∷ w) l p n f = let x : place_index (element_at a e).leaf_p ≡ i = ap place_index l.0 in let y : i < length a.elements = l.1 in absurd (omega arith)

alone : (a : Parts) (q e : ℕ) (o : Option Tree) → IsRoot a q o → IsSomeAnd o (HasLeaf e) → length a.elements ≤ place_index (element_at a e).leaf_p → Alone a q e o
alone a q e None r s n = absurd s
alone a q e (Some t) r s n =
    let w : LeafWay a q t e = leaf_way a q t [] _ _ e r.0 refl s in
    alone_way a q e t w.way w.leads w.whole_is n w.fits

-- a tree without the leaf is the same
same_without : (a : Parts) (q e : ℕ) (t : Tree) → e < length a.elements → (HasLeaf e t → ⊥) → SameOn a (emptied a q e) t
same_without a q e (tip x k) f n =
    let s : SameLeaf a (hung a (targets.Leaf e) places.Nowhere) x = hung_leaf a (targets.Leaf e) places.Nowhere x f (λ y. n (ap index_of y)) in
    record { leaf_p = s.leaf_p; key = s.key }
same_without a q e (fork i b l r) f n =
    let s : SameNode a (hung a (targets.Leaf e) places.Nowhere) i = hung_node a (targets.Leaf e) places.Nowhere i f (λ y. let z : targets.Leaf e ≡ targets.Node i = y in cc) in (
      record { node_p = s.node_p; bit = s.bit; left = s.left; right = s.right },
      same_without a q e l f (λ g. n (inl g)),
      same_without a q e r f (λ g. n (inr g)),
    )

other_root : (a : Parts) (q r e : ℕ) (o : Option Tree) → IsRoot a q (Some (tip e (element_at a e).key)) → e < length a.elements → (r ≡ q → ⊥) → IsRoot a r o → IsRoot (emptied a q e) r o
other_root a q r e None s f n h = get_or-set_other a.links q r targets.Nothing targets.Nothing n ∙ h
other_root a q r e (Some u) s f n h =
    let z : Parts = emptied a q e in
    let t : Tree = tip e (element_at a e).key in
    let c : length z.elements ≡ length a.elements = length-set a.elements e (record (element_at a e) { leaf_p = places.Nowhere }) in
    let l : link_at a r ≡ link_at z r = sym (get_or-set_other a.links q r targets.Nothing targets.Nothing n) in
    let p : root_place a r ≡ root_place z r = ap (λ y. places.Under (y + r) sides.Left) (sym c) in
    let ns : NoShare t u = roots_apart a q r (link_at a q) (link_at a r) t u s.0 h.0 s.1 h.1 (λ k. n (sym k)) in
    let k : Hangs z (link_at a r) (root_place a r) u = kept a z (link_at a r) (root_place a r) u c (same_without a q e u f (λ g. ns.leaves e refl g)) h.0 in
    (subst (λ y. Hangs z y (root_place z r) u) l (subst (λ y. Hangs z (link_at a r) y u) p k), h.1)

-- what is in a tree, and not in that of the root, is in it afterwards
still : (ts : ℕ → Option Tree) (q r : ℕ) (t : Tree) (P : Tree → Type 0) → ts q ≡ Some t → (P t → ⊥) → IsSomeAnd (ts r) P → IsSomeAnd (with_tree ts q None r) P
still ts q r t P h n s =
    elim (cases_eq r q) [
      | inl e ↦ absurd (n (subst (λ y. IsSomeAnd y P) (ap ts e ∙ h) s))
      | inr d ↦ subst (λ y. IsSomeAnd y P) (sym (tree_other ts q r None d)) s
    ]

no_items : (e k : ℕ) → filter (λ y. not (is_entry e y)) (record { key = k; entry = e } ∷ []) ≡ []
no_items e k =
    let x : KeyedItem = record { key = k; entry = e } in
    ap (λ b. cond (not b) (x ∷ []) []) (eq-eqb e e refl)

emptied_uprooted : (a : Parts) (ts : ℕ → Option Tree) (q e : ℕ) → Shape a ts → q < length a.links → Alone a q e (ts q) → Uprooted a (emptied a q e) ts q e
emptied_uprooted a ts q e sh f al =
    let z : Parts = emptied a q e in
    let t : Tree = tip e (element_at a e).key in
    let us : ℕ → Option Tree = with_tree ts q None in
    let el : Element = record (element_at a e) { leaf_p = places.Nowhere } in
    let c : length z.elements ≡ length a.elements = length-set a.elements e el in
    let cl : length z.links ≡ length a.links = length-set a.links q targets.Nothing in
    let root : IsRoot a q (Some t) = subst (IsRoot a q) al.tree_is (sh.roots q f) in
    let gone : element_at z e ≡ el = at_set a e el al.fits in
    record {
      after = None;
      elements = c;
      roots = cl;
      shape = record {
        fits = let x : length a.links + length a.elements < 2147483647 = sh.fits in omega (arith, x, c, cl);
        roots = λ r g. elim (cases_eq r q) [
          | inl h ↦ subst (λ y. IsRoot z y (us y)) (sym h) (subst (IsRoot z q) (sym (tree_at ts q None)) (get_or-set_same a.links q targets.Nothing targets.Nothing f))
          | inr n ↦ subst (IsRoot z r) (sym (tree_other ts q r None n)) (other_root a q r e (ts r) root al.fits n (sh.roots r (subst (λ m. r < m) cl g)))
        ];
        leaves = λ i g n.
            let ne : i ≡ e → ⊥ = λ h. n (ap (λ m. (element_at z m).leaf_p) h ∙ ap (λ m. m.leaf_p) gone) in
            let x : InSome a ts (HasLeaf i) = sh.leaves i (subst (λ m. i < m) c g) (λ h. n (ap (λ m. m.leaf_p) (at_other a e i el ne) ∙ h)) in
            (x.0, (subst (λ m. x.0 < m) (sym cl) x.1.0, still ts q x.0 t (HasLeaf i) al.tree_is ne x.1.1));
        nodes = λ i g n.
            let s : SameNode a (hung a (targets.Leaf e) places.Nowhere) i = hung_node a (targets.Leaf e) places.Nowhere i al.fits (λ y. let w : targets.Leaf e ≡ targets.Node i = y in cc) in
            let x : InSome a ts (HasNode i) = sh.nodes i (subst (λ m. i < m) c g) (λ h. n (s.node_p ∙ h)) in
            (x.0, (subst (λ m. x.0 < m) (sym cl) x.1.0, still ts q x.0 t (HasNode i) al.tree_is (λ h. h) x.1.1));
      };
      items_are = sym (ap (λ o. filter (λ y. not (is_entry e y)) (items_of o)) al.tree_is ∙ no_items e (element_at a e).key);
      loses = ((element_at a e).key, al.tree_is);
      spines = λ key. omega arith;
    }

pub clears : (a : Parts) (e : ℕ) → length a.elements ≤ place_index (element_at a e).leaf_p → Uproots a (cleared a e) e
clears a e n ts q sh f s =
    let al : Alone a q e (ts q) = alone a q e (ts q) (sh.roots q f) s n in
    subst (λ z. Uprooted a z ts q e) (sym (cleared_is a q e al.hangs)) (emptied_uprooted a ts q e sh f al)

-- the place of an entry that is in a tree
bound_at : (a : Parts) (q e : ℕ) (o : Option Tree) → IsRoot a q o → IsSomeAnd o (HasLeaf e) → q < length a.links → place_index (element_at a e).leaf_p < length a.elements + length a.links
bound_at a q e None r s f = absurd s
bound_at a q e (Some t) r s f =
    let w : LeafWay a q t e = leaf_way a q t [] _ _ e r.0 refl s in
    place_bound a q (element_at a e).leaf_p w.way w.leads f

leaf_bound : (a : Parts) (e : ℕ) → HasShape a → IsIn a e → place_index (element_at a e).leaf_p < length a.elements + length a.links
leaf_bound a e h i =
    let s : InSome a h.0 (HasLeaf e) = h.1.leaves e i.0 i.1 in
    bound_at a s.0 e (h.0 s.0) (h.1.roots s.0 s.1.0) s.1.1 s.1.0

pub place_exists : (a b : Parts) (e : ℕ) (n : Element) (t : Target) → HasShape a → IsIn a e → n ≡ element_at a e → b ≡ hung a t places.Nowhere → place_index n.leaf_p < length b.elements + length b.links
place_exists a b e n t h i hn hb =
    let c : length b.elements ≡ length a.elements = ap (λ m. length m.elements) hb ∙ (hung_count a t places.Nowhere).0 in
    let l : length b.links ≡ length a.links = ap (λ m. length m.links) hb ∙ ap length (hung_count a t places.Nowhere).1 in
    let f : place_index n.leaf_p < length a.elements + length a.links = subst (λ m. place_index m.leaf_p < length a.elements + length a.links) (sym hn) (leaf_bound a e h i) in
    omega (arith, c, l, f)

-- at a root it is the left side
left_at : (a : Parts) (q e : ℕ) (o : Option Tree) → IsRoot a q o → IsSomeAnd o (HasLeaf e) → length a.elements ≤ place_index (element_at a e).leaf_p → place_side (element_at a e).leaf_p ≡ sides.Left
left_at a q e None r s f = absurd s
left_at a q e (Some t) r s f =
    let w : LeafWay a q t e = leaf_way a q t [] _ _ e r.0 refl s in
    left_of_root a q (element_at a e).leaf_p w.way w.leads f

pub place_left : (a b : Parts) (e : ℕ) (n : Element) (t : Target) → HasShape a → IsIn a e → n ≡ element_at a e → b ≡ hung a t places.Nowhere → length b.elements ≤ place_index n.leaf_p → place_side n.leaf_p ≡ sides.Left
place_left a b e n t h i hn hb f =
    let s : InSome a h.0 (HasLeaf e) = h.1.leaves e i.0 i.1 in
    let c : length b.elements ≡ length a.elements = ap (λ m. length m.elements) hb ∙ (hung_count a t places.Nowhere).0 in
    let g : length a.elements ≤ place_index (element_at a e).leaf_p = subst (λ m. length a.elements ≤ place_index m.leaf_p) hn (subst (λ m. m ≤ place_index n.leaf_p) c f) in
    ap (λ m. place_side m.leaf_p) hn ∙ left_at a s.0 e (h.0 s.0) (h.1.roots s.0 s.1.0) s.1.1 g

-- the writes, step by step
pub cleared_by : (a b z : Parts) (e : ℕ) (n : Element) (t : Target) → n ≡ element_at a e → t ≡ targets.Leaf e → b ≡ hung a t places.Nowhere → z ≡ linked b n.leaf_p targets.Nothing → z ≡ cleared a e
cleared_by a b z e n t hn ht hb hz =
    hz ∙ (ap (λ m. linked m n.leaf_p targets.Nothing) (hb ∙ ap (λ m. hung a m places.Nowhere) ht) ∙ ap (λ m. linked (hung a (targets.Leaf e) places.Nowhere) m.leaf_p targets.Nothing) hn)
