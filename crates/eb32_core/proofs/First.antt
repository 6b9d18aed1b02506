-- The first entry of a root.
use Rattle.std.proofs.Common.{◌≡◌, ℕ, ◌+◌, ◌<◌, inl, inr, [], length, refl, sym, ap, ◌∙◌, subst, arith}
use Rattle.std.specs.Prelude.{Option, Some, None, IsSomeAnd, nat_le}
use Rattle.sched_base.specs.KeyedList.{inserted}
use Rattle.eb_arena.specs.Links.{index_of}
use Rattle.std.proofs.lemmas.Bool.{cases_eq, false≢true}
use Rattle.std.proofs.lemmas.List.{length-set, get_or-set_same, get_or-set_other}
use Rattle.eb_arena.specs.declared.links.Side.TheVariants as sides
use Rattle.eb_arena.specs.declared.links.Target.TheVariants as targets
use Rattle.eb_arena.specs.declared.links.Place.TheVariants as places
use Rattle.eb_arena.specs.declared.element.Element.{Element}
use Rattle.eb_arena.specs.Parts.{Parts, element_at, link_at, with_link, hung}
use Rattle.eb_arena.specs.Shape.{Tree, tip, fork, items_of, Hangs, HasLeaf, HasNode, IsRoot, root_place, InSome}
use Rattle.eb_arena.specs.Laws.{SameLeaf, SameNode, SameOn}
use Rattle.eb_arena.proofs.Frame.{kept, at_set, at_other}
use Rattle.eb_arena.proofs.Unique.{nothing_stands}
use Rattle.eb_dups.specs.Grown.{with_tree}
use Rattle.eb_dups.proofs.Distinct.{Fresh, fresh}
use Rattle.eb_dups.proofs.Moves.{hung_leaf, hung_node}
use Rattle.eb_dups.proofs.Regrown.{tree_at, tree_other}
use Rattle.eb32_core.specs.Planted.{Plants, GrowsIn, has_key, spine_in}

-- the arena with an entry alone on a root
abbrev pub rooted : Parts → ℕ → ℕ → Parts
rooted a q e = with_link (hung a (targets.Leaf e) (root_place a q)) q (targets.Leaf e)

-- a tree without the entry is the same
same_fresh : (a : Parts) (q e : ℕ) (t : Tree) → e < length a.elements → Fresh e t → SameOn a (rooted a q e) t
same_fresh a q e (tip x k) f h =
    let s : SameLeaf a (hung a (targets.Leaf e) (root_place a q)) x = hung_leaf a (targets.Leaf e) (root_place a q) x f (λ y. let z : targets.Leaf e ≡ targets.Leaf x = y in h.leaf (ap index_of z)) in
    record { leaf_p = s.leaf_p; key = s.key }
same_fresh a q e (fork i b l r) f h =
    let s : SameNode a (hung a (targets.Leaf e) (root_place a q)) i = hung_node a (targets.Leaf e) (root_place a q) i f (λ y. let z : targets.Leaf e ≡ targets.Node i = y in cc) in (
      record { node_p = s.node_p; bit = s.bit; left = s.left; right = s.right },
      same_fresh a q e l f (record { leaf = λ y. h.leaf (inl y); node = λ y. h.node (inr (inl y)) }),
      same_fresh a q e r f (record { leaf = λ y. h.leaf (inr y); node = λ y. h.node (inr (inr y)) }),
    )

empty_tree : (a : Parts) (q : ℕ) (o : Option Tree) → IsRoot a q o → link_at a q ≡ targets.Nothing → o ≡ None
empty_tree a q None h e = refl
empty_tree a q (Some t) h e = absurd (nothing_stands a (root_place a q) t (subst (λ y. Hangs a y (root_place a q) t) e h.0))

other_root : (a : Parts) (q r e : ℕ) (o : Option Tree) → e < length a.elements → (element_at a e).leaf_p ≡ places.Nowhere → (r ≡ q → ⊥) → IsRoot a r o → IsRoot (rooted a q e) r o
other_root a q r e None f n ne h = get_or-set_other a.links q r (targets.Leaf e) targets.Nothing ne ∙ h
other_root a q r e (Some t) f n ne h =
    let z : Parts = rooted a q e in
    let c : length z.elements ≡ length a.elements = length-set a.elements e (record (element_at a e) { leaf_p = root_place a q }) in
    let l : link_at a r ≡ link_at z r = sym (get_or-set_other a.links q r (targets.Leaf e) targets.Nothing ne) in
    let p : root_place a r ≡ root_place z r = ap (λ y. places.Under (y + r) sides.Left) (sym c) in
    let k : Hangs z (link_at a r) (root_place a r) t = kept a z _ _ t c (same_fresh a q e t f (fresh a r e t _ _ [] h.0 refl h.1 n)) h.0 in
    (subst (λ y. Hangs z y (root_place z r) t) l (subst (λ y. Hangs z (link_at a r) y t) p k), h.1)

some_other : (ts : ℕ → Option Tree) (q r : ℕ) (o : Option Tree) (P : Tree → Type 0) → ts q ≡ None → IsSomeAnd (ts r) P → IsSomeAnd (with_tree ts q o r) P
some_other ts q r o P n s =
    elim (cases_eq r q) [
      | inl e ↦ absurd (subst (λ y. IsSomeAnd y P) (ap ts e ∙ n) s)
      | inr d ↦ subst (λ y. IsSomeAnd y P) (sym (tree_other ts q r o d)) s
    ]

pub first_planted : (a : Parts) (q e : ℕ) → q < length a.links → e < length a.elements → link_at a q ≡ targets.Nothing → (element_at a e).leaf_p ≡ places.Nowhere → Plants a (rooted a q e) q e
first_planted a q e fq fe em fr ts sh =
    let z : Parts = rooted a q e in
    let key : ℕ = (element_at a e).key in
    let el : Element = record (element_at a e) { leaf_p = root_place a q } in
    let c : length z.elements ≡ length a.elements = length-set a.elements e el in
    let cl : length z.links ≡ length a.links = length-set a.links q (targets.Leaf e) in
    let at : element_at z e ≡ el = at_set a e el fe in
    let none : ts q ≡ None = empty_tree a q (ts q) (sh.roots q fq) em in
    let t : Tree = tip e key in
    let us : ℕ → Option Tree = with_tree ts q (Some t) in
    let p : root_place a q ≡ root_place z q = ap (λ y. places.Under (y + q) sides.Left) (sym c) in
    let here : IsRoot z q (Some t) = ((get_or-set_same a.links q (targets.Leaf e) targets.Nothing fq, subst (λ m. e < m) (sym c) fe, ap (λ m. m.leaf_p) at ∙ p, ap (λ m. m.key) at), tt) in
    let is_in : InSome z us (HasLeaf e) = (q, (subst (λ m. q < m) (sym cl) fq, subst (λ y. IsSomeAnd y (HasLeaf e)) (sym (tree_at ts q (Some t))) refl)) in
    record {
      after = t;
      elements = c;
      roots = cl;
      shape = record {
        fits = let x : length a.links + length a.elements < 2147483647 = sh.fits in omega (arith, x, c, cl);
        roots = λ r f. elim (cases_eq r q) [
          | inl h ↦ subst (λ y. IsRoot z y (us y)) (sym h) (subst (IsRoot z q) (sym (tree_at ts q (Some t))) here)
          | inr n ↦ subst (IsRoot z r) (sym (tree_other ts q r (Some t) n)) (other_root a q r e (ts r) fe fr n (sh.roots r (subst (λ m. r < m) cl f)))
        ];
        leaves = λ i f n. elim (cases_eq i e) [
          | inl h ↦ subst (λ y. InSome z us (HasLeaf y)) (sym h) is_in
          | inr ne ↦
              let x : InSome a ts (HasLeaf i) = sh.leaves i (subst (λ m. i < m) c f) (λ h. n (ap (λ m. m.leaf_p) (at_other a e i el ne) ∙ h)) in
              (x.0, (subst (λ m. x.0 < m) (sym cl) x.1.0, some_other ts q x.0 (Some t) (HasLeaf i) none x.1.1))
        ];
        nodes = λ i f n.
            let s : SameNode a (hung a (targets.Leaf e) (root_place a q)) i = hung_node a (targets.Leaf e) (root_place a q) i fe (λ y. let w : targets.Leaf e ≡ targets.Node i = y in cc) in
            let x : InSome a ts (HasNode i) = sh.nodes i (subst (λ m. i < m) c f) (λ h. n (s.node_p ∙ h)) in
            (x.0, (subst (λ m. x.0 < m) (sym cl) x.1.0, some_other ts q x.0 (Some t) (HasNode i) none x.1.1));
      };
      items_are = let y : items_of (ts q) ≡ [] = ap items_of none in ap (inserted (λ w. nat_le w.key key) (record { key = key; entry = e })) (sym y);
      grows = subst (λ o. GrowsIn o e key t) (sym none) refl;
      rises = record {
        same_key = λ h. absurd (false≢true (ap (λ o. has_key key (items_of o)) (sym none) ∙ h));
        new_key = λ h. ap (spine_in key) (sym none);
        other_keys = λ k n. ap (spine_in k) (sym none);
      };
    }
