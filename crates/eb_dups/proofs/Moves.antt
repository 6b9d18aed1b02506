-- What putting in a new node leaves as it was, and what it writes.
use Rattle.std.proofs.Common.{◌≡◌, ℕ, ◌+◌, ◌-◌, ◌<◌, inl, inr, length, cond, refl, sym, ap, ◌∙◌, arith, lt-ltb, le-ltb}
use Rattle.std.proofs.lemmas.Bool.{cases_eq}
use Rattle.std.proofs.lemmas.List.{length-set}
use Rattle.eb_arena.specs.declared.links.Side.{Side}
use Rattle.eb_arena.specs.declared.links.Target.{Target}
use Rattle.eb_arena.specs.declared.links.Target.TheVariants as targets
use Rattle.eb_arena.specs.declared.links.Place.{Place}
use Rattle.eb_arena.specs.declared.links.Place.TheVariants as places
use Rattle.eb_arena.specs.declared.element.Element.{Element}
use Rattle.eb_arena.specs.Links.{index_of}
use Rattle.eb_arena.specs.Parts.{Parts, element_at, with_element, with_link, with_child, hung, linked}
use Rattle.eb_arena.specs.Laws.{SameLeaf, SameNode}
use Rattle.eb_arena.proofs.Frame.{at_set, at_other}

leaf_by : (a z : Parts) (x : ℕ) → element_at z x ≡ element_at a x → SameLeaf a z x
leaf_by a z x e = record { leaf_p = ap (λ m. m.leaf_p) e; key = ap (λ m. m.key) e }

node_by : (a z : Parts) (x : ℕ) → element_at z x ≡ element_at a x → SameNode a z x
node_by a z x e = record { node_p = ap (λ m. m.node_p) e; bit = ap (λ m. m.bit) e; left = ap (λ m. m.left) e; right = ap (λ m. m.right) e }

pub leaf_then : (a b z : Parts) (x : ℕ) → SameLeaf a b x → SameLeaf b z x → SameLeaf a z x
leaf_then a b z x h g = record { leaf_p = g.leaf_p ∙ h.leaf_p; key = g.key ∙ h.key }

pub node_then : (a b z : Parts) (x : ℕ) → SameNode a b x → SameNode b z x → SameNode a z x
node_then a b z x h g = record { node_p = g.node_p ∙ h.node_p; bit = g.bit ∙ h.bit; left = g.left ∙ h.left; right = g.right ∙ h.right }

-- the element that was written, read under an equal number
read_set : (a : Parts) (i x : ℕ) (e : Element) → x ≡ i → i < length a.elements → element_at (with_element a i e) x ≡ e
read_set a i x e h f = ap (element_at (with_element a i e)) h ∙ at_set a i e f

-- a link up written at a part
pub hung_leaf : (a : Parts) (part : Target) (p : Place) (x : ℕ) → index_of part < length a.elements → (part ≡ targets.Leaf x → ⊥) → SameLeaf a (hung a part p) x
hung_leaf a targets.Nothing p x f n = leaf_by a a x refl
hung_leaf a (targets.Leaf i) p x f n = leaf_by a _ x (at_other a i x (record (element_at a i) { leaf_p = p }) (λ e. n (ap (λ m. targets.Leaf m) (sym e))))
hung_leaf a (targets.Node i) p x f n =
    elim (cases_eq x i) [
      | inl e ↦ let r : element_at (hung a (targets.Node i) p) x ≡ record (element_at a i) { node_p = p } = read_set a i x (record (element_at a i) { node_p = p }) e f in
          record { leaf_p = ap (λ m. m.leaf_p) r ∙ ap (λ m. (element_at a m).leaf_p) (sym e); key = ap (λ m. m.key) r ∙ ap (λ m. (element_at a m).key) (sym e) }
      | inr d ↦ leaf_by a _ x (at_other a i x (record (element_at a i) { node_p = p }) d)
    ]

pub hung_node : (a : Parts) (part : Target) (p : Place) (x : ℕ) → index_of part < length a.elements → (part ≡ targets.Node x → ⊥) → SameNode a (hung a part p) x
hung_node a targets.Nothing p x f n = node_by a a x refl
hung_node a (targets.Node i) p x f n = node_by a _ x (at_other a i x (record (element_at a i) { node_p = p }) (λ e. n (ap (λ m. targets.Node m) (sym e))))
hung_node a (targets.Leaf i) p x f n =
    elim (cases_eq x i) [
      | inl e ↦ let r : element_at (hung a (targets.Leaf i) p) x ≡ record (element_at a i) { leaf_p = p } = read_set a i x (record (element_at a i) { leaf_p = p }) e f in
          record { node_p = ap (λ m. m.node_p) r ∙ ap (λ m. (element_at a m).node_p) (sym e); bit = ap (λ m. m.bit) r ∙ ap (λ m. (element_at a m).bit) (sym e); left = ap (λ m. m.left) r ∙ ap (λ m. (element_at a m).left) (sym e); right = ap (λ m. m.right) r ∙ ap (λ m. (element_at a m).right) (sym e) }
      | inr d ↦ node_by a _ x (at_other a i x (record (element_at a i) { leaf_p = p }) d)
    ]

pub hung_count : (a : Parts) (part : Target) (p : Place) → (length (hung a part p).elements ≡ length a.elements) × ((hung a part p).links ≡ a.links)
hung_count a targets.Nothing p = (refl, refl)
hung_count a (targets.Leaf i) p = (length-set a.elements i (record (element_at a i) { leaf_p = p }), refl)
hung_count a (targets.Node i) p = (length-set a.elements i (record (element_at a i) { node_p = p }), refl)

-- a link down written at a node
pub record LinkedNode (a z : Parts) (i : ℕ) (s : Side) (t : Target) : Type 0 where
  pub is : z ≡ with_element a i (with_child s t (element_at a i))
  pub count : length z.elements ≡ length a.elements
  pub links : z.links ≡ a.links

pub linked_node : (a : Parts) (i : ℕ) (s : Side) (t : Target) → i < length a.elements → LinkedNode a (linked a (places.Under i s) t) i s t
linked_node a i s t f =
    let e : linked a (places.Under i s) t ≡ with_element a i (with_child s t (element_at a i)) = ap (λ x. cond x (with_element a i (with_child s t (element_at a i))) (with_link a (i - length a.elements) t)) (lt-ltb i (length a.elements) f) in
    record { is = e; count = ap (λ z. length z.elements) e ∙ length-set a.elements i (with_child s t (element_at a i)); links = ap (λ z. z.links) e }

-- or on a root
pub linked_root : (a : Parts) (q : ℕ) (s : Side) (t : Target) → linked a (places.Under (length a.elements + q) s) t ≡ with_link a q t
linked_root a q s t =
    let n : length a.elements + q - length a.elements ≡ q = omega arith in
    ap (λ x. cond x (with_element a (length a.elements + q) (with_child s t (element_at a (length a.elements + q)))) (with_link a (length a.elements + q - length a.elements) t)) (le-ltb (length a.elements + q) (length a.elements) (omega arith)) ∙ ap (λ m. with_link a m t) n
