-- What a change of an arena leaves as it was.
use Rattle.std.proofs.Common.{◌≡◌, ◌≢◌, ℕ, ◌+◌, ◌<◌, ◌≤◌, ◌⊎◌, inl, inr, length, sym, ap, ◌∙◌, subst, arith}
use Rattle.std.specs.Prelude.{ℤ}
use Rattle.std.proofs.lemmas.Bool.{cases_eq}
use Rattle.std.proofs.lemmas.List.{get_or-set_same, get_or-set_other, length-set}
use Rattle.eb_arena.specs.declared.links.Side.TheVariants as sides
use Rattle.eb_arena.specs.declared.links.Target.{Target}
use Rattle.eb_arena.specs.declared.links.Target.TheVariants as targets
use Rattle.eb_arena.specs.declared.links.Place.{Place}
use Rattle.eb_arena.specs.declared.links.Place.TheVariants as places
use Rattle.eb_arena.specs.declared.element.Element.{Element}
use Rattle.eb_arena.specs.Parts.{Parts, element_at, with_element, unused, hung}
use Rattle.eb_arena.specs.Shape.{Tree, tip, fork, Hangs, HasNode}
use Rattle.eb_arena.specs.Laws.{SameLeaf, SameOn}
use Rattle.eb_arena.proofs.Reading.{same_tree}

pub kept : (a z : Parts) (target : Target) (place : Place) (t : Tree) → length z.elements ≡ length a.elements → SameOn a z t → Hangs a target place t → Hangs z target place t
kept a z target place (tip e k) n h s =
    (s.0, subst (λ m. e < m) (sym n) s.1, h.leaf_p ∙ s.2, h.key ∙ s.3)
kept a z target place (fork i b l r) n h s =
    let x : Hangs z (element_at a i).left (places.Under i sides.Left) l = kept a z _ _ l n h.1 s.4 in
    let y : Hangs z (element_at a i).right (places.Under i sides.Right) r = kept a z _ _ r n h.2 s.5 in
    (s.0, subst (λ m. i < m) (sym n) s.1, h.0.node_p ∙ s.2, h.0.bit ∙ s.3, subst (λ m. Hangs z m (places.Under i sides.Left) l) (sym h.0.left) x, subst (λ m. Hangs z m (places.Under i sides.Right) r) (sym h.0.right) y)

-- how many parts a tree has
abbrev pub size : Tree → ℕ
size (tip e k) = 1
size (fork i b l r) = size l + size r + 1

-- a node that a tree has stands for a tree that is no greater
pub record Inner (a : Parts) (n : ℕ) (t : Tree) : Type 0 where
  pub place : Place
  pub tree : Tree
  pub stands : Hangs a (targets.Node n) place tree
  pub small : size tree ≤ size t

pub inner : (a : Parts) (n : ℕ) (t : Tree) (target : Target) (place : Place) → Hangs a target place t → HasNode n t → Inner a n t
inner a n (tip e k) target place s h = absurd h
inner a n (fork i b l r) target place s h =
    elim h [
      | inl e ↦ record { place = place; tree = fork i b l r; stands = subst (λ m. Hangs a m place (fork i b l r)) (s.0 ∙ ap (λ m. targets.Node m) (sym e)) s; small = omega arith }
      | inr g ↦ elim g [
        | inl g ↦ let x : Inner a n l = inner a n l _ _ s.4 g in record { place = x.place; tree = x.tree; stands = x.stands; small = let y : size x.tree ≤ size l = x.small in omega arith }
        | inr g ↦ let x : Inner a n r = inner a n r _ _ s.5 g in record { place = x.place; tree = x.tree; stands = x.stands; small = let y : size x.tree ≤ size r = x.small in omega arith }
      ]
    ]

-- a node is not below itself
pub not_below : (a : Parts) (i : ℕ) (b : ℤ) (l r : Tree) (target : Target) (place : Place) → Hangs a target place (fork i b l r) → HasNode i l ⊎ HasNode i r → ⊥
not_below a i b l r target place s h =
    let here : Hangs a (targets.Node i) place (fork i b l r) = subst (λ m. Hangs a m place (fork i b l r)) s.0 s in
    elim h [
      | inl g ↦ let x : Inner a i l = inner a i l _ _ s.4 g in let y : size x.tree ≡ size (fork i b l r) = ap size (same_tree a x.tree (fork i b l r) (targets.Node i) x.place place x.stands here) in let z : size x.tree ≤ size l = x.small in absurd (omega arith)
      | inr g ↦ let x : Inner a i r = inner a i r _ _ s.5 g in let y : size x.tree ≡ size (fork i b l r) = ap size (same_tree a x.tree (fork i b l r) (targets.Node i) x.place place x.stands here) in let z : size x.tree ≤ size r = x.small in absurd (omega arith)
    ]

pub at_set : (a : Parts) (i : ℕ) (e : Element) → i < length a.elements → element_at (with_element a i e) i ≡ e
at_set a i e f = get_or-set_same a.elements i e unused f

pub at_other : (a : Parts) (i j : ℕ) (e : Element) → j ≢ i → element_at (with_element a i e) j ≡ element_at a j
at_other a i j e n = get_or-set_other a.elements i j e unused n

-- a new link up at a node leaves all leaves as they were
leaf_same : (a : Parts) (i j : ℕ) (p : Place) → i < length a.elements → SameLeaf a (with_element a i (record (element_at a i) { node_p = p })) j
leaf_same a i j p f =
    elim (cases_eq j i) [
      | inl e ↦ let x : element_at (with_element a i (record (element_at a i) { node_p = p })) j ≡ record (element_at a i) { node_p = p } = ap (element_at (with_element a i (record (element_at a i) { node_p = p }))) e ∙ at_set a i (record (element_at a i) { node_p = p }) f in
          record { leaf_p = ap (λ m. m.leaf_p) x ∙ ap (λ m. (element_at a m).leaf_p) (sym e); key = ap (λ m. m.key) x ∙ ap (λ m. (element_at a m).key) (sym e) }
      | inr n ↦ let x : element_at (with_element a i (record (element_at a i) { node_p = p })) j ≡ element_at a j = at_other a i j (record (element_at a i) { node_p = p }) n in
          record { leaf_p = ap (λ m. m.leaf_p) x; key = ap (λ m. m.key) x }
    ]

-- and all trees without that node
pub node_hung_same : (a : Parts) (i : ℕ) (p : Place) (t : Tree) → i < length a.elements → (HasNode i t → ⊥) → SameOn a (with_element a i (record (element_at a i) { node_p = p })) t
node_hung_same a i p (tip e k) f n = leaf_same a i e p f
node_hung_same a i p (fork j b l r) f n =
    let d : j ≢ i = λ e. n (inl (sym e)) in
    let x : element_at (with_element a i (record (element_at a i) { node_p = p })) j ≡ element_at a j = at_other a i j (record (element_at a i) { node_p = p }) d in
    (record { node_p = ap (λ m. m.node_p) x; bit = ap (λ m. m.bit) x; left = ap (λ m. m.left) x; right = ap (λ m. m.right) x }, node_hung_same a i p l f (λ h. n (inr (inl h))), node_hung_same a i p r f (λ h. n (inr (inr h))))

moved_leaf : (a : Parts) (e k : ℕ) (target : Target) (place next : Place) → Hangs a target place (tip e k) → Hangs (hung a (targets.Leaf e) next) target next (tip e k)
moved_leaf a e k target place next s =
    let el : Element = record (element_at a e) { leaf_p = next } in
    let x : element_at (with_element a e el) e ≡ el = at_set a e el s.1 in
    (s.0, subst (λ m. e < m) (sym (length-set a.elements e el)) s.1, ap (λ m. m.leaf_p) x, ap (λ m. m.key) x ∙ s.3)

moved_node : (a : Parts) (i : ℕ) (b : ℤ) (l r : Tree) (target : Target) (place next : Place) → Hangs a target place (fork i b l r) → Hangs (hung a (targets.Node i) next) target next (fork i b l r)
moved_node a i b l r target place next s =
    let el : Element = record (element_at a i) { node_p = next } in
    let z : Parts = with_element a i el in
    let n : length z.elements ≡ length a.elements = length-set a.elements i el in
    let x : element_at z i ≡ el = at_set a i el s.1 in
    let ls : Hangs z (element_at a i).left (places.Under i sides.Left) l = kept a z _ _ l n (node_hung_same a i next l s.1 (λ h. not_below a i b l r target place s (inl h))) s.4 in
    let rs : Hangs z (element_at a i).right (places.Under i sides.Right) r = kept a z _ _ r n (node_hung_same a i next r s.1 (λ h. not_below a i b l r target place s (inr h))) s.5 in
    (s.0, subst (λ m. i < m) (sym n) s.1, ap (λ m. m.node_p) x, ap (λ m. m.bit) x ∙ s.3, subst (λ m. Hangs z m (places.Under i sides.Left) l) (sym (ap (λ m. m.left) x)) ls, subst (λ m. Hangs z m (places.Under i sides.Right) r) (sym (ap (λ m. m.right) x)) rs)

pub moved : (a : Parts) (target : Target) (place next : Place) (t : Tree) → Hangs a target place t → Hangs (hung a target next) target next t
moved a target place next (tip e k) s = subst (λ m. Hangs (hung a m next) target next (tip e k)) (sym s.0) (moved_leaf a e k target place next s)
moved a target place next (fork i b l r) s = subst (λ m. Hangs (hung a m next) target next (fork i b l r)) (sym s.0) (moved_node a i b l r target place next s)
