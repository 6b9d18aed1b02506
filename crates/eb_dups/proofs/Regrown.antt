-- The arena in which a tree grew has the shape.
use Rattle.std.proofs.Common.{◌≡◌, ◌≢◌, ℕ, ◌+◌, ◌<◌, ◌⊎◌, inl, inr, List, [], ◌∷◌, length, get_or, refl, sym, ap, ◌∙◌, subst, arith, eq-eqb, ne_eqb}
use Rattle.std.specs.Prelude.{ℤ, Option, Some, None, IsSomeAnd, if◌then◌else◌}
use Rattle.std.proofs.lemmas.Bool.{cases_eq}
use Rattle.std.proofs.lemmas.List.{get_or-set_same, get_or-set_other}
use Rattle.eb_arena.specs.declared.links.Side.{Side}
use Rattle.eb_arena.specs.declared.links.Side.TheVariants as sides
use Rattle.eb_arena.specs.declared.links.Target.{Target}
use Rattle.eb_arena.specs.declared.links.Target.TheVariants as targets
use Rattle.eb_arena.specs.declared.links.Place.{Place}
use Rattle.eb_arena.specs.declared.links.Place.TheVariants as places
use Rattle.eb_arena.specs.Links.{index_of, place_index, opposite}
use Rattle.eb_arena.specs.Parts.{Parts, element_at, link_at}
use Rattle.eb_arena.specs.Shape.{Tree, tip, fork, Hangs, Split, HasLeaf, HasNode, IsRoot, root_place, Shape, InSome}
use Rattle.eb_arena.specs.Way.{Step, from_left, from_right, plug, Leads}
use Rattle.eb_arena.specs.Laws.{SameLeaf, SameNode, SameOn}
use Rattle.eb_arena.proofs.Frame.{kept}
use Rattle.eb_dups.specs.Grown.{grown, attached, with_tree}
use Rattle.eb_dups.proofs.Distinct.{NoShare, Distinct, Away, Fresh, FreshWay, distinct, part_distinct, away, roots_apart, fresh, fresh_part, fresh_way}
use Rattle.eb_dups.proofs.Growing.{Grew, GrewAt, GrewRoot, grew_at, grew_root}

-- the part on top of a tree is in it
pub top_leaf : (a : Parts) (part : Target) (place : Place) (s : Tree) (x : ℕ) → Hangs a part place s → part ≡ targets.Leaf x → HasLeaf x s
top_leaf a part place (tip e k) x s h = ap index_of (sym h ∙ s.0)
top_leaf a part place (fork i b l r) x s h = let z : targets.Leaf x ≡ targets.Node i = sym h ∙ s.0 in cc

pub top_node : (a : Parts) (part : Target) (place : Place) (s : Tree) (x : ℕ) → Hangs a part place s → part ≡ targets.Node x → HasNode x s
top_node a part place (tip e k) x s h = let z : targets.Node x ≡ targets.Leaf e = sym h ∙ s.0 in cc
top_node a part place (fork i b l r) x s h = inl (ap index_of (sym h ∙ s.0))

-- what an arena has the same as another of a tree without the entry, the part and the node above it
pub same_on : (a z : Parts) (part : Target) (place : Place) (e : ℕ) (side : Side) (bit : ℤ) (t : Tree) → Grew a z part place e side bit → Fresh e t → ((x : ℕ) → part ≡ targets.Leaf x → HasLeaf x t → ⊥) → ((x : ℕ) → part ≡ targets.Node x → HasNode x t → ⊥) → (HasNode (place_index place) t → ⊥) → SameOn a z t
same_on a z part place e side bit (tip x k) g f p q n = g.leaves x (λ h. f.leaf (sym h)) (λ h. p x h refl)
same_on a z part place e side bit (fork i b l r) g f p q n = (
  g.nodes i (λ h. f.node (inl (sym h))) (λ h. q i h (inl refl)) (λ h. n (inl h)),
  same_on a z part place e side bit l g (record { leaf = λ h. f.leaf (inl h); node = λ h. f.node (inr (inl h)) }) (λ x h m. p x h (inl m)) (λ x h m. q x h (inr (inl m))) (λ h. n (inr (inl h))),
  same_on a z part place e side bit r g (record { leaf = λ h. f.leaf (inr h); node = λ h. f.node (inr (inr h)) }) (λ x h m. p x h (inr m)) (λ x h m. q x h (inr (inr m))) (λ h. n (inr (inr h))),
)

-- the part itself stands below the new node
moved_part : (a z : Parts) (part : Target) (place : Place) (e : ℕ) (side : Side) (bit : ℤ) (s : Tree) → Grew a z part place e side bit → Hangs a part place s → Distinct s → Fresh e s → (HasNode (place_index place) s → ⊥) → Hangs z part (places.Under e (opposite side)) s
moved_part a z part place e side bit (tip x k) g s d f n =
    let u : ((element_at z x).leaf_p ≡ places.Under e (opposite side)) × ((element_at z x).key ≡ (element_at a x).key) = g.leaf_up x s.0 in
    (s.0, subst (λ m. x < m) (sym g.count) s.1, u.0, u.1 ∙ s.3)
moved_part a z part place e side bit (fork i b l r) g s d f n =
    let u : ((element_at z i).node_p ≡ places.Under e (opposite side)) × ((element_at z i).bit ≡ (element_at a i).bit) × ((element_at z i).left ≡ (element_at a i).left) × ((element_at z i).right ≡ (element_at a i).right) = g.node_up i s.0 in
    let no_leaf : (x : ℕ) → part ≡ targets.Leaf x → ⊥ = λ x h. let y : targets.Leaf x ≡ targets.Node i = sym h ∙ s.0 in cc in
    let is : (x : ℕ) → part ≡ targets.Node x → x ≡ i = λ x h. ap index_of (sym h ∙ s.0) in
    let ls : SameOn a z l = same_on a z part place e side bit l g (record { leaf = λ h. f.leaf (inl h); node = λ h. f.node (inr (inl h)) }) (λ x h m. no_leaf x h) (λ x h m. d.1 (subst (λ y. HasNode y l) (is x h) m)) (λ h. n (inr (inl h))) in
    let rs : SameOn a z r = same_on a z part place e side bit r g (record { leaf = λ h. f.leaf (inr h); node = λ h. f.node (inr (inr h)) }) (λ x h m. no_leaf x h) (λ x h m. d.2 (subst (λ y. HasNode y r) (is x h) m)) (λ h. n (inr (inr h))) in (
      s.0,
      subst (λ m. i < m) (sym g.count) s.1,
      u.0,
      u.1 ∙ s.3,
      subst (λ m. Hangs z m (places.Under i sides.Left) l) (sym u.2) (kept a z _ _ l g.count ls s.4),
      subst (λ m. Hangs z m (places.Under i sides.Right) r) (sym u.3) (kept a z _ _ r g.count rs s.5),
    )

-- the new node stands where the part hung
new_stands : (a z : Parts) (part : Target) (place : Place) (e : ℕ) (side : Side) (bit : ℤ) (s : Tree) → Grew a z part place e side bit → e < length a.elements → Hangs z part (places.Under e (opposite side)) s → Hangs z (targets.Node e) place (grown side e bit (element_at a e).key s)
new_stands a z part place e sides.Left bit s g f h =
    let n : e < length z.elements = subst (λ m. e < m) (sym g.count) f in
    (refl, n, ap (λ m. m.node_p) g.own, ap (λ m. m.bit) g.own, (ap (λ m. m.left) g.own, n, ap (λ m. m.leaf_p) g.own, ap (λ m. m.key) g.own), subst (λ m. Hangs z m (places.Under e sides.Right) s) (sym (ap (λ m. m.right) g.own)) h)
new_stands a z part place e sides.Right bit s g f h =
    let n : e < length z.elements = subst (λ m. e < m) (sym g.count) f in
    (refl, n, ap (λ m. m.node_p) g.own, ap (λ m. m.bit) g.own, subst (λ m. Hangs z m (places.Under e sides.Left) s) (sym (ap (λ m. m.left) g.own)) h, (ap (λ m. m.right) g.own, n, ap (λ m. m.leaf_p) g.own, ap (λ m. m.key) g.own))

-- the nodes of a way and the trees beside it are the same
abbrev pub SameWay : Parts → Parts → List Step → Type 0
SameWay a z [] = Unit {0}
SameWay a z (from_left i b r ∷ w) = SameNode a z i × SameOn a z r × SameWay a z w
SameWay a z (from_right i b l ∷ w) = SameNode a z i × SameOn a z l × SameWay a z w

-- a change at the foot of such a way goes up
pub lift : (a z : Parts) (w : List Step) (s g : Tree) → length z.elements ≡ length a.elements → SameWay a z w → ((t : Target) (p : Place) → Hangs a t p s → Hangs z t p g) → (t : Target) (p : Place) → Hangs a t p (plug w s) → Hangs z t p (plug w g)
lift a z [] s g n m f = f
lift a z (from_left i b r ∷ w) s g n m f =
    lift a z w (fork i b s r) (fork i b g r) n m.2 (λ t p h. (
      h.0,
      subst (λ x. i < x) (sym n) h.1,
      m.0.node_p ∙ h.2,
      m.0.bit ∙ h.3,
      subst (λ x. Hangs z x (places.Under i sides.Left) g) (sym m.0.left) (f _ _ h.4),
      subst (λ x. Hangs z x (places.Under i sides.Right) r) (sym m.0.right) (kept a z _ _ r n m.1 h.5),
    ))
lift a z (from_right i b l ∷ w) s g n m f =
    lift a z w (fork i b l s) (fork i b l g) n m.2 (λ t p h. (
      h.0,
      subst (λ x. i < x) (sym n) h.1,
      m.0.node_p ∙ h.2,
      m.0.bit ∙ h.3,
      subst (λ x. Hangs z x (places.Under i sides.Left) l) (sym m.0.left) (kept a z _ _ l n m.1 h.4),
      subst (λ x. Hangs z x (places.Under i sides.Right) g) (sym m.0.right) (f _ _ h.5),
    ))

-- what is away from a tree with the part and the node above it is the same
same_way : (a z : Parts) (part : Target) (place : Place) (e : ℕ) (side : Side) (bit : ℤ) (w : List Step) (t : Tree) → Grew a z part place e side bit → FreshWay e w → Away w t → ((x : ℕ) → part ≡ targets.Leaf x → HasLeaf x t) → ((x : ℕ) → part ≡ targets.Node x → HasNode x t) → HasNode (place_index place) t → SameWay a z w
same_way a z part place e side bit [] t g f v p q n = tt
same_way a z part place e side bit (from_left i b r ∷ w) t g f v p q n = (
  g.nodes i f.0 (λ h. v.0 (q i h)) (λ h. v.0 (subst (λ m. HasNode m t) h n)),
  same_on a z part place e side bit r g f.1 (λ x h m. v.1.leaves x (p x h) m) (λ x h m. v.1.nodes x (q x h) m) (λ m. v.1.nodes (place_index place) n m),
  same_way a z part place e side bit w t g f.2 v.2 p q n,
)
same_way a z part place e side bit (from_right i b l ∷ w) t g f v p q n = (
  g.nodes i f.0 (λ h. v.0 (q i h)) (λ h. v.0 (subst (λ m. HasNode m t) h n)),
  same_on a z part place e side bit l g f.1 (λ x h m. v.1.leaves x (p x h) m) (λ x h m. v.1.nodes x (q x h) m) (λ m. v.1.nodes (place_index place) n m),
  same_way a z part place e side bit w t g f.2 v.2 p q n,
)

-- the arena a, an entry that is to be put in above a part of root q's tree
pub record Growth (a : Parts) (ts : ℕ → Option Tree) (q : ℕ) (w : List Step) (part : Target) (place : Place) (s : Tree) (e : ℕ) : Type 0 where
  pub shape : Shape a ts
  pub root : q < length a.links
  pub tree_is : ts q ≡ Some (plug w s)
  pub leads : Leads a q place w
  pub stands : Hangs a part place s
  pub free : (element_at a e).leaf_p ≡ places.Nowhere
  pub exists : e < length a.elements

-- what follows of the arena after it
pub record Outcome (a z : Parts) (q : ℕ) (w : List Step) (part : Target) (place : Place) (s : Tree) (e : ℕ) (side : Side) (bit : ℤ) : Type 0 where
  pub grew : Grew a z part place e side bit
  pub stands : Hangs z (link_at z q) (root_place z q) (plug w (grown side e bit (element_at a e).key s))
  pub others : (r : ℕ) → (r ≡ q → ⊥) → link_at z r ≡ link_at a r
  pub nodes_hang : (x : ℕ) → (x ≡ e → ⊥) → (part ≡ targets.Node x → ⊥) → (element_at z x).node_p ≡ (element_at a x).node_p
  pub away_from : (t : Tree) (o : Target) (p : Place) → Hangs a o p t → Fresh e t → NoShare (plug w s) t → SameOn a z t

root_stands : (a : Parts) (ts : ℕ → Option Tree) (q : ℕ) (t : Tree) → Shape a ts → q < length a.links → ts q ≡ Some t → Hangs a (link_at a q) (root_place a q) t × Split t
root_stands a ts q t h f e = subst (IsRoot a q) e (h.roots q f)

pub plug_leaf : (w : List Step) (t : Tree) (x : ℕ) → HasLeaf x t → HasLeaf x (plug w t)
plug_leaf [] t x h = h
plug_leaf (from_left i b r ∷ w) t x h = plug_leaf w (fork i b t r) x (inl h)
plug_leaf (from_right i b l ∷ w) t x h = plug_leaf w (fork i b l t) x (inr h)

pub plug_node : (w : List Step) (t : Tree) (x : ℕ) → HasNode x t → HasNode x (plug w t)
plug_node [] t x h = h
plug_node (from_left i b r ∷ w) t x h = plug_node w (fork i b t r) x (inr (inl h))
plug_node (from_right i b l ∷ w) t x h = plug_node w (fork i b l t) x (inr (inr h))

part_in : (a : Parts) (part : Target) (place : Place) (s : Tree) → Hangs a part place s → index_of part < length a.elements
part_in a part place (tip e k) s = subst (λ n. n < length a.elements) (sym (ap index_of s.0)) s.1
part_in a part place (fork i b l r) s = subst (λ n. n < length a.elements) (sym (ap index_of s.0)) s.1

part_not : (a : Parts) (part : Target) (place : Place) (s : Tree) (e : ℕ) → Hangs a part place s → Fresh e s → index_of part ≡ e → ⊥
part_not a part place (tip x k) e s f h = f.leaf (sym h ∙ ap index_of s.0)
part_not a part place (fork i b l r) e s f h = f.node (inl (sym h ∙ ap index_of s.0))

no_node_at_root : (a : Parts) (q : ℕ) (target : Target) (place : Place) (t : Tree) → Hangs a target place t → HasNode (length a.elements + q) t → ⊥
no_node_at_root a q target place (tip x k) s h = absurd h
no_node_at_root a q target place (fork i b l r) s h =
    elim h [
      | inl e ↦ let f : i < length a.elements = s.1 in absurd (omega arith)
      | inr g ↦ elim g [ inl g ↦ no_node_at_root a q _ _ l s.4 g | inr g ↦ no_node_at_root a q _ _ r s.5 g ]
    ]

root_outcome : (a z : Parts) (q : ℕ) (part : Target) (s : Tree) (e : ℕ) (side : Side) (bit : ℤ) → GrewRoot a z part q e side bit → e < length a.elements → q < length a.links → Hangs a part (root_place a q) s → Distinct s → Fresh e s → Split s → Outcome a z q [] part (root_place a q) s e side bit
root_outcome a z q part s e side bit x f fq h d fr p =
    let g : Grew a z part (root_place a q) e side bit = x.grew in
    let m : Hangs z part (places.Under e (opposite side)) s = moved_part a z part (root_place a q) e side bit s g h d fr (no_node_at_root a q part (root_place a q) s h) in
    let n : Hangs z (targets.Node e) (root_place a q) (grown side e bit (element_at a e).key s) = new_stands a z part (root_place a q) e side bit s g f m in
    let l : link_at z q ≡ targets.Node e = ap (λ y. get_or y q targets.Nothing) x.links ∙ get_or-set_same a.links q (targets.Node e) targets.Nothing fq in
    let o : root_place a q ≡ root_place z q = ap (λ y. places.Under (y + q) sides.Left) (sym g.count) in
    record {
      grew = g;
      stands = subst (λ y. Hangs z y (root_place z q) (grown side e bit (element_at a e).key s)) (sym l) (subst (λ y. Hangs z (targets.Node e) y (grown side e bit (element_at a e).key s)) o n);
      others = λ r ne. ap (λ y. get_or y r targets.Nothing) x.links ∙ get_or-set_other a.links q r (targets.Node e) targets.Nothing ne;
      nodes_hang = x.hang;
      away_from = λ t o p st ft ns. same_on a z part (root_place a q) e side bit t g ft (λ y k v. ns.leaves y (top_leaf a part (root_place a q) s y h k) v) (λ y k v. ns.nodes y (top_node a part (root_place a q) s y h k) v) (no_node_at_root a q o p t st);
    }

on_root : (a : Parts) (ts : ℕ → Option Tree) (q : ℕ) (part : Target) (place : Place) (s : Tree) (e : ℕ) (side : Side) (bit : ℤ) → Growth a ts q [] part place s e → Outcome a (attached a part place e side bit) q [] part place s e side bit
on_root a ts q part place s e side bit g =
    let r : Hangs a (link_at a q) (root_place a q) s × Split s = root_stands a ts q s g.shape g.root g.tree_is in
    let d : Distinct s = distinct a q s [] part place g.stands g.leads r.1 in
    let f : Fresh e s = fresh a q e s part place [] g.stands g.leads r.1 g.free in
    let here : (p : Place) → p ≡ root_place a q → Outcome a (attached a part p e side bit) q [] part p s e side bit = λ p h.
    let x : GrewRoot a (attached a part (root_place a q) e side bit) part q e side bit = grew_root a part q e side bit g.exists (part_in a part place s g.stands) (part_not a part place s e g.stands f) in
    subst (λ m. Outcome a (attached a part m e side bit) q [] part m s e side bit) (sym h) (root_outcome a (attached a part (root_place a q) e side bit) q part s e side bit x g.exists g.root (subst (λ m. Hangs a part m s) g.leads g.stands) d f r.1)
    in here place g.leads

on_left : (a : Parts) (ts : ℕ → Option Tree) (q j : ℕ) (b : ℤ) (r : Tree) (w : List Step) (part : Target) (s : Tree) (e : ℕ) (side : Side) (bit : ℤ) → Growth a ts q (from_left j b r ∷ w) part (places.Under j sides.Left) s e → Outcome a (attached a part (places.Under j sides.Left) e side bit) q (from_left j b r ∷ w) part (places.Under j sides.Left) s e side bit
on_left a ts q j b r w part s e side bit g =
    let place : Place = places.Under j sides.Left in
    let t : Tree = fork j b s r in
    let root : Hangs a (link_at a q) (root_place a q) (plug w t) × Split (plug w t) = root_stands a ts q (plug w t) g.shape g.root g.tree_is in
    let dw : Distinct (plug w t) = distinct a q (plug w t) [] _ _ root.0 refl root.1 in
    let d : Distinct t = part_distinct w t dw in
    let fw : Fresh e (plug w t) = fresh a q e (plug w t) _ _ [] root.0 refl root.1 g.free in
    let f : Fresh e t = fresh_part w t e fw in
    let fs : Fresh e s = record { leaf = λ h. f.leaf (inl h); node = λ h. f.node (inr (inl h)) } in
    let fo : Fresh e r = record { leaf = λ h. f.leaf (inr h); node = λ h. f.node (inr (inr h)) } in
    let ne : j ≡ e → ⊥ = λ h. f.node (inl (sym h)) in
    let np : part ≡ targets.Node j → ⊥ = λ h. d.1 (top_node a part place s j g.stands h) in
    let x : GrewAt a (attached a part place e side bit) part j sides.Left e side bit = grew_at a part j sides.Left e side bit g.exists (part_in a part place s g.stands) (part_not a part place s e g.stands fs) g.leads.1 ne np in
    let z : Parts = attached a part place e side bit in
    let gr : Grew a z part place e side bit = x.grew in
    let m : Hangs z part (places.Under e (opposite side)) s = moved_part a z part place e side bit s gr g.stands d.3 fs d.1 in
    let new : Tree = grown side e bit (element_at a e).key s in
    let n : Hangs z (targets.Node e) place new = new_stands a z part place e side bit s gr g.exists m in
    let so : SameOn a z r = same_on a z part place e side bit r gr fo (λ y k v. d.0.leaves y (top_leaf a part place s y g.stands k) v) (λ y k v. d.0.nodes y (top_node a part place s y g.stands k) v) d.2 in
    let top : (o : Target) (p : Place) → Hangs a o p t → Hangs z o p (fork j b new r) = λ o p h. (
      h.0,
      subst (λ y. j < y) (sym gr.count) h.1,
      x.node_p ∙ h.2,
      x.node_bit ∙ h.3,
      subst (λ y. Hangs z y (places.Under j sides.Left) new) (sym (ap (λ y. y.left) x.node)) n,
      subst (λ y. Hangs z y (places.Under j sides.Right) r) (sym x.far) (kept a z _ _ r gr.count so h.5),
    ) in
    let sw : SameWay a z w = same_way a z part place e side bit w t gr (fresh_way w t e fw) (away w t dw) (λ y k. inl (top_leaf a part place s y g.stands k)) (λ y k. inr (inl (top_node a part place s y g.stands k))) (inl refl) in
    let up : Hangs z (link_at a q) (root_place a q) (plug w (fork j b new r)) = lift a z w t (fork j b new r) gr.count sw top (link_at a q) (root_place a q) root.0 in
    let lk : link_at a q ≡ link_at z q = ap (λ y. get_or y q targets.Nothing) (sym x.links) in
    let o : root_place a q ≡ root_place z q = ap (λ y. places.Under (y + q) sides.Left) (sym gr.count) in
    record {
      grew = gr;
      stands = subst (λ y. Hangs z y (root_place z q) (plug w (fork j b new r))) lk (subst (λ y. Hangs z (link_at a q) y (plug w (fork j b new r))) o up);
      others = λ r k. ap (λ y. get_or y r targets.Nothing) x.links;
      nodes_hang = λ y m k. elim (cases_eq j y) [ inl h ↦ subst (λ v. (element_at z v).node_p ≡ (element_at a v).node_p) h x.node_p | inr o ↦ (gr.nodes y m k o).node_p ];
      away_from = λ u o p st ft ns. same_on a z part place e side bit u gr ft (λ y k v. ns.leaves y (plug_leaf w t y (inl (top_leaf a part place s y g.stands k))) v) (λ y k v. ns.nodes y (plug_node w t y (inr (inl (top_node a part place s y g.stands k)))) v) (λ v. ns.nodes j (plug_node w t j (inl refl)) v);
    }

on_right : (a : Parts) (ts : ℕ → Option Tree) (q j : ℕ) (b : ℤ) (l : Tree) (w : List Step) (part : Target) (s : Tree) (e : ℕ) (side : Side) (bit : ℤ) → Growth a ts q (from_right j b l ∷ w) part (places.Under j sides.Right) s e → Outcome a (attached a part (places.Under j sides.Right) e side bit) q (from_right j b l ∷ w) part (places.Under j sides.Right) s e side bit
on_right a ts q j b l w part s e side bit g =
    let place : Place = places.Under j sides.Right in
    let t : Tree = fork j b l s in
    let root : Hangs a (link_at a q) (root_place a q) (plug w t) × Split (plug w t) = root_stands a ts q (plug w t) g.shape g.root g.tree_is in
    let dw : Distinct (plug w t) = distinct a q (plug w t) [] _ _ root.0 refl root.1 in
    let d : Distinct t = part_distinct w t dw in
    let fw : Fresh e (plug w t) = fresh a q e (plug w t) _ _ [] root.0 refl root.1 g.free in
    let f : Fresh e t = fresh_part w t e fw in
    let fs : Fresh e s = record { leaf = λ h. f.leaf (inr h); node = λ h. f.node (inr (inr h)) } in
    let fo : Fresh e l = record { leaf = λ h. f.leaf (inl h); node = λ h. f.node (inr (inl h)) } in
    let ne : j ≡ e → ⊥ = λ h. f.node (inl (sym h)) in
    let np : part ≡ targets.Node j → ⊥ = λ h. d.2 (top_node a part place s j g.stands h) in
    let x : GrewAt a (attached a part place e side bit) part j sides.Right e side bit = grew_at a part j sides.Right e side bit g.exists (part_in a part place s g.stands) (part_not a part place s e g.stands fs) g.leads.1 ne np in
    let z : Parts = attached a part place e side bit in
    let gr : Grew a z part place e side bit = x.grew in
    let m : Hangs z part (places.Under e (opposite side)) s = moved_part a z part place e side bit s gr g.stands d.4 fs d.2 in
    let new : Tree = grown side e bit (element_at a e).key s in
    let n : Hangs z (targets.Node e) place new = new_stands a z part place e side bit s gr g.exists m in
    let so : SameOn a z l = same_on a z part place e side bit l gr fo (λ y k v. d.0.leaves y v (top_leaf a part place s y g.stands k)) (λ y k v. d.0.nodes y v (top_node a part place s y g.stands k)) d.1 in
    let top : (o : Target) (p : Place) → Hangs a o p t → Hangs z o p (fork j b l new) = λ o p h. (
      h.0,
      subst (λ y. j < y) (sym gr.count) h.1,
      x.node_p ∙ h.2,
      x.node_bit ∙ h.3,
      subst (λ y. Hangs z y (places.Under j sides.Left) l) (sym x.far) (kept a z _ _ l gr.count so h.4),
      subst (λ y. Hangs z y (places.Under j sides.Right) new) (sym (ap (λ y. y.right) x.node)) n,
    ) in
    let sw : SameWay a z w = same_way a z part place e side bit w t gr (fresh_way w t e fw) (away w t dw) (λ y k. inr (top_leaf a part place s y g.stands k)) (λ y k. inr (inr (top_node a part place s y g.stands k))) (inl refl) in
    let up : Hangs z (link_at a q) (root_place a q) (plug w (fork j b l new)) = lift a z w t (fork j b l new) gr.count sw top (link_at a q) (root_place a q) root.0 in
    let lk : link_at a q ≡ link_at z q = ap (λ y. get_or y q targets.Nothing) (sym x.links) in
    let o : root_place a q ≡ root_place z q = ap (λ y. places.Under (y + q) sides.Left) (sym gr.count) in
    record {
      grew = gr;
      stands = subst (λ y. Hangs z y (root_place z q) (plug w (fork j b l new))) lk (subst (λ y. Hangs z (link_at a q) y (plug w (fork j b l new))) o up);
      others = λ r k. ap (λ y. get_or y r targets.Nothing) x.links;
      nodes_hang = λ y m k. elim (cases_eq j y) [ inl h ↦ subst (λ v. (element_at z v).node_p ≡ (element_at a v).node_p) h x.node_p | inr o ↦ (gr.nodes y m k o).node_p ];
      away_from = λ u o p st ft ns. same_on a z part place e side bit u gr ft (λ y k v. ns.leaves y (plug_leaf w t y (inr (top_leaf a part place s y g.stands k))) v) (λ y k v. ns.nodes y (plug_node w t y (inr (inr (top_node a part place s y g.stands k)))) v) (λ v. ns.nodes j (plug_node w t j (inl refl)) v);
    }

-- the outcome on any way
pub outcome : (a : Parts) (ts : ℕ → Option Tree) (q : ℕ) (w : List Step) (part : Target) (place : Place) (s : Tree) (e : ℕ) (side : Side) (bit : ℤ) → Growth a ts q w part place s e → Outcome a (attached a part place e side bit) q w part place s e side bit
outcome a ts q [] part place s e side bit g = on_root a ts q part place s e side bit g
outcome a ts q (from_left j b r ∷ w) part place s e side bit g =
    let h : Growth a ts q (from_left j b r ∷ w) part (places.Under j sides.Left) s e = subst (λ p. Growth a ts q (from_left j b r ∷ w) part p s e) g.leads.0 g in
    subst (λ p. Outcome a (attached a part p e side bit) q (from_left j b r ∷ w) part p s e side bit) (sym g.leads.0) (on_left a ts q j b r w part s e side bit h)
outcome a ts q (from_right j b l ∷ w) part place s e side bit g =
    let h : Growth a ts q (from_right j b l ∷ w) part (places.Under j sides.Right) s e = subst (λ p. Growth a ts q (from_right j b l ∷ w) part p s e) g.leads.0 g in
    subst (λ p. Outcome a (attached a part p e side bit) q (from_right j b l ∷ w) part p s e side bit) (sym g.leads.0) (on_right a ts q j b l w part s e side bit h)

-- what the grown tree has
pub grown_leaf : (side : Side) (e : ℕ) (bit : ℤ) (k : ℕ) (s : Tree) (x : ℕ) → HasLeaf x s → HasLeaf x (grown side e bit k s)
grown_leaf sides.Left e bit k s x h = inr h
grown_leaf sides.Right e bit k s x h = inl h

grown_node : (side : Side) (e : ℕ) (bit : ℤ) (k : ℕ) (s : Tree) (x : ℕ) → HasNode x s → HasNode x (grown side e bit k s)
grown_node sides.Left e bit k s x h = inr (inr h)
grown_node sides.Right e bit k s x h = inr (inl h)

pub own_leaf : (side : Side) (e : ℕ) (bit : ℤ) (k : ℕ) (s : Tree) → HasLeaf e (grown side e bit k s)
own_leaf sides.Left e bit k s = inl refl
own_leaf sides.Right e bit k s = inr refl

own_node : (side : Side) (e : ℕ) (bit : ℤ) (k : ℕ) (s : Tree) → HasNode e (grown side e bit k s)
own_node sides.Left e bit k s = inl refl
own_node sides.Right e bit k s = inl refl

pub plug_leaves : (w : List Step) (s g : Tree) (x : ℕ) → ((y : ℕ) → HasLeaf y s → HasLeaf y g) → HasLeaf x (plug w s) → HasLeaf x (plug w g)
plug_leaves [] s g x f h = f x h
plug_leaves (from_left i b r ∷ w) s g x f h = plug_leaves w (fork i b s r) (fork i b g r) x (λ y k. elim k [ inl k ↦ inl (f y k) | inr k ↦ inr k ]) h
plug_leaves (from_right i b l ∷ w) s g x f h = plug_leaves w (fork i b l s) (fork i b l g) x (λ y k. elim k [ inl k ↦ inl k | inr k ↦ inr (f y k) ]) h

plug_nodes : (w : List Step) (s g : Tree) (x : ℕ) → ((y : ℕ) → HasNode y s → HasNode y g) → HasNode x (plug w s) → HasNode x (plug w g)
plug_nodes [] s g x f h = f x h
plug_nodes (from_left i b r ∷ w) s g x f h = plug_nodes w (fork i b s r) (fork i b g r) x (λ y k. elim k [ inl k ↦ inl k | inr k ↦ elim k [ inl k ↦ inr (inl (f y k)) | inr k ↦ inr (inr k) ] ]) h
plug_nodes (from_right i b l ∷ w) s g x f h = plug_nodes w (fork i b l s) (fork i b l g) x (λ y k. elim k [ inl k ↦ inl k | inr k ↦ elim k [ inl k ↦ inr (inl k) | inr k ↦ inr (inr (f y k)) ] ]) h

pub tree_at : (ts : ℕ → Option Tree) (q : ℕ) (o : Option Tree) → with_tree ts q o q ≡ o
tree_at ts q o = ap (λ b. if b then o else ts q) (eq-eqb q q refl)

pub tree_other : (ts : ℕ → Option Tree) (q r : ℕ) (o : Option Tree) → (r ≡ q → ⊥) → with_tree ts q o r ≡ ts r
tree_other ts q r o n = ap (λ b. if b then o else ts r) (ne_eqb r q n)

root_same : (a z : Parts) (r q : ℕ) (o : Option Tree) (t : Tree) (e : ℕ) → length z.elements ≡ length a.elements → link_at z r ≡ link_at a r → IsRoot a r o → (r ≡ q → ⊥) → Hangs a (link_at a q) (root_place a q) t → Split t → (element_at a e).leaf_p ≡ places.Nowhere → ((u : Tree) (g : Target) (p : Place) → Hangs a g p u → Fresh e u → NoShare t u → SameOn a z u) → IsRoot z r o
root_same a z r q None t e n l h ne s p fr f = l ∙ h
root_same a z r q (Some u) t e n l h ne s p fr f =
    let o : root_place a r ≡ root_place z r = ap (λ y. places.Under (y + r) sides.Left) (sym n) in
    let fu : Fresh e u = fresh a r e u _ _ [] h.0 refl h.1 fr in
    let ns : NoShare t u = roots_apart a q r _ _ t u s h.0 p h.1 (λ k. ne (sym k)) in
    let k : Hangs z (link_at a r) (root_place a r) u = kept a z _ _ u n (f u _ _ h.0 fu ns) h.0 in
    (subst (λ y. Hangs z y (root_place z r) u) (sym l) (subst (λ y. Hangs z (link_at a r) y u) o k), h.1)

some_later : (ts : ℕ → Option Tree) (q r : ℕ) (t u : Tree) (P : Tree → Type 0) → ts q ≡ Some t → (P t → P u) → IsSomeAnd (ts r) P → IsSomeAnd (with_tree ts q (Some u) r) P
some_later ts q r t u P h f s =
    elim (cases_eq r q) [
      | inl e ↦
          let x : IsSomeAnd (Some t) P = subst (λ y. IsSomeAnd y P) (ap ts e ∙ h) s in
          subst (λ y. IsSomeAnd (with_tree ts q (Some u) y) P) (sym e) (subst (λ y. IsSomeAnd y P) (sym (tree_at ts q (Some u))) (f x))
      | inr n ↦ subst (λ y. IsSomeAnd y P) (sym (tree_other ts q r (Some u) n)) s
    ]

is_target : (p q : Target) → ((p ≡ q) ⊎ (p ≡ q → ⊥))
is_target targets.Nothing targets.Nothing = inl refl
is_target targets.Nothing (targets.Leaf j) = inr (λ h. let z : targets.Nothing ≡ targets.Leaf j = h in cc)
is_target targets.Nothing (targets.Node j) = inr (λ h. let z : targets.Nothing ≡ targets.Node j = h in cc)
is_target (targets.Leaf i) targets.Nothing = inr (λ h. let z : targets.Leaf i ≡ targets.Nothing = h in cc)
is_target (targets.Leaf i) (targets.Node j) = inr (λ h. let z : targets.Leaf i ≡ targets.Node j = h in cc)
is_target (targets.Leaf i) (targets.Leaf j) = elim (cases_eq i j) [ inl e ↦ inl (ap (λ m. targets.Leaf m) e) | inr n ↦ inr (λ h. n (ap index_of h)) ]
is_target (targets.Node i) targets.Nothing = inr (λ h. let z : targets.Node i ≡ targets.Nothing = h in cc)
is_target (targets.Node i) (targets.Leaf j) = inr (λ h. let z : targets.Node i ≡ targets.Leaf j = h in cc)
is_target (targets.Node i) (targets.Node j) = elim (cases_eq i j) [ inl e ↦ inl (ap (λ m. targets.Node m) e) | inr n ↦ inr (λ h. n (ap index_of h)) ]

-- a leaf that hangs afterwards is in a tree
later_leaf : (a z : Parts) (ts : ℕ → Option Tree) (q : ℕ) (w : List Step) (part : Target) (place : Place) (s : Tree) (e : ℕ) (side : Side) (bit : ℤ) (i : ℕ) → Growth a ts q w part place s e → Grew a z part place e side bit → i < length z.elements → (element_at z i).leaf_p ≢ places.Nowhere → (i ≡ e → ⊥) → InSome z (with_tree ts q (Some (plug w (grown side e bit (element_at a e).key s)))) (HasLeaf i)
later_leaf a z ts q w part place s e side bit i g gr f n ne =
    let new : Tree = grown side e bit (element_at a e).key s in
    let move : HasLeaf i (plug w s) → HasLeaf i (plug w new) = plug_leaves w s new i (grown_leaf side e bit (element_at a e).key s) in
    elim (is_target part (targets.Leaf i)) [
      | inl h ↦ (q, (subst (λ m. q < m) (sym gr.roots) g.root, subst (λ y. IsSomeAnd y (HasLeaf i)) (sym (tree_at ts q (Some (plug w new)))) (move (plug_leaf w s i (top_leaf a part place s i g.stands h)))))
      | inr other ↦
          let u : SameLeaf a z i = gr.leaves i ne other in
          let x : InSome a ts (HasLeaf i) = g.shape.leaves i (subst (λ m. i < m) gr.count f) (λ h. n (u.leaf_p ∙ h)) in
          (x.0, (subst (λ m. x.0 < m) (sym gr.roots) x.1.0, some_later ts q x.0 (plug w s) (plug w new) (HasLeaf i) g.tree_is move x.1.1))
    ]

-- and so is a node
later_node : (a z : Parts) (ts : ℕ → Option Tree) (q : ℕ) (w : List Step) (part : Target) (place : Place) (s : Tree) (e : ℕ) (side : Side) (bit : ℤ) (i : ℕ) → Growth a ts q w part place s e → Grew a z part place e side bit → ((x : ℕ) → (x ≡ e → ⊥) → (part ≡ targets.Node x → ⊥) → (element_at z x).node_p ≡ (element_at a x).node_p) → i < length z.elements → (element_at z i).node_p ≢ places.Nowhere → (i ≡ e → ⊥) → InSome z (with_tree ts q (Some (plug w (grown side e bit (element_at a e).key s)))) (HasNode i)
later_node a z ts q w part place s e side bit i g gr nh f n ne =
    let new : Tree = grown side e bit (element_at a e).key s in
    let move : HasNode i (plug w s) → HasNode i (plug w new) = plug_nodes w s new i (grown_node side e bit (element_at a e).key s) in
    elim (is_target part (targets.Node i)) [
      | inl h ↦ (q, (subst (λ m. q < m) (sym gr.roots) g.root, subst (λ y. IsSomeAnd y (HasNode i)) (sym (tree_at ts q (Some (plug w new)))) (move (plug_node w s i (top_node a part place s i g.stands h)))))
      | inr other ↦
          let x : InSome a ts (HasNode i) = g.shape.nodes i (subst (λ m. i < m) gr.count f) (λ h. n (nh i ne other ∙ h)) in
          (x.0, (subst (λ m. x.0 < m) (sym gr.roots) x.1.0, some_later ts q x.0 (plug w s) (plug w new) (HasNode i) g.tree_is move x.1.1))
    ]

-- the arena in which a tree grew has the shape
pub grown_shape : (a : Parts) (ts : ℕ → Option Tree) (q : ℕ) (w : List Step) (part : Target) (place : Place) (s : Tree) (e : ℕ) (side : Side) (bit : ℤ) → Growth a ts q w part place s e → Split (plug w (grown side e bit (element_at a e).key s)) → Shape (attached a part place e side bit) (with_tree ts q (Some (plug w (grown side e bit (element_at a e).key s))))
grown_shape a ts q w part place s e side bit g sp =
    let z : Parts = attached a part place e side bit in
    let o : Outcome a z q w part place s e side bit = outcome a ts q w part place s e side bit g in
    let new : Tree = grown side e bit (element_at a e).key s in
    let us : ℕ → Option Tree = with_tree ts q (Some (plug w new)) in
    let rt : Hangs a (link_at a q) (root_place a q) (plug w s) × Split (plug w s) = root_stands a ts q (plug w s) g.shape g.root g.tree_is in
    let here : InSome z us (HasLeaf e) = (q, (subst (λ m. q < m) (sym o.grew.roots) g.root, subst (λ y. IsSomeAnd y (HasLeaf e)) (sym (tree_at ts q (Some (plug w new)))) (plug_leaf w new e (own_leaf side e bit (element_at a e).key s)))) in
    let node_here : InSome z us (HasNode e) = (q, (subst (λ m. q < m) (sym o.grew.roots) g.root, subst (λ y. IsSomeAnd y (HasNode e)) (sym (tree_at ts q (Some (plug w new)))) (plug_node w new e (own_node side e bit (element_at a e).key s)))) in
    record {
      fits = let f : length a.links + length a.elements < 2147483647 = g.shape.fits in let x : length z.elements ≡ length a.elements = o.grew.count in let y : length z.links ≡ length a.links = o.grew.roots in omega arith;
      roots = λ r f. elim (cases_eq r q) [
        | inl h ↦ subst (λ y. IsRoot z y (us y)) (sym h) (subst (IsRoot z q) (sym (tree_at ts q (Some (plug w new)))) (o.stands, sp))
        | inr n ↦ subst (IsRoot z r) (sym (tree_other ts q r (Some (plug w new)) n)) (root_same a z r q (ts r) (plug w s) e o.grew.count (o.others r n) (g.shape.roots r (subst (λ m. r < m) o.grew.roots f)) n rt.0 rt.1 g.free o.away_from)
      ];
      leaves = λ i f n. elim (cases_eq i e) [
        | inl h ↦ subst (λ y. InSome z us (HasLeaf y)) (sym h) here
        | inr ne ↦ later_leaf a z ts q w part place s e side bit i g o.grew f n ne
      ];
      nodes = λ i f n. elim (cases_eq i e) [
        | inl h ↦ subst (λ y. InSome z us (HasNode y)) (sym h) node_here
        | inr ne ↦ later_node a z ts q w part place s e side bit i g o.grew o.nodes_hang f n ne
      ];
    }
