-- What hangs at a place, and what is read after links are written.
use Rattle.std.proofs.Common.{◌≡◌, ℕ, ◌+◌, ◌-◌, ◌<◌, ◌≤◌, inl, inr, length, cond, refl, sym, ap, ◌∙◌, subst, arith, lt-ltb, le-ltb}
use Rattle.std.specs.Prelude.{nat_lt, if◌then◌else◌}
use Rattle.std.proofs.lemmas.Bool.{cases_eq, cases_lt}
use Rattle.std.proofs.lemmas.List.{length-set, get_or-set_same, get_or-set_other}
use Rattle.eb_arena.specs.declared.links.Side.{Side}
use Rattle.eb_arena.specs.declared.links.Side.TheVariants as sides
use Rattle.eb_arena.specs.declared.links.Target.{Target}
use Rattle.eb_arena.specs.declared.links.Target.TheVariants as targets
use Rattle.eb_arena.specs.declared.links.Place.{Place}
use Rattle.eb_arena.specs.declared.links.Place.TheVariants as places
use Rattle.eb_arena.specs.declared.element.Element.{Element}
use Rattle.eb_arena.specs.Links.{index_of, place_index, place_side}
use Rattle.eb_arena.specs.Parts.{Parts, element_at, link_at, child, up_of, with_element, with_link, with_child, hung, linked}
use Rattle.eb_arena.proofs.Frame.{at_set, at_other}
use Rattle.eb_dups.proofs.Moves.{hung_leaf, hung_node, LinkedNode, linked_node}

-- what hangs at a place, which is at a node or on a root
abbrev pub held : Parts → Place → Target
held a places.Nowhere = targets.Nothing
held a (places.Under i s) = if nat_lt i (length a.elements) then child s (element_at a i) else link_at a (i - length a.elements)

pub held_node : (a : Parts) (i : ℕ) (s : Side) → i < length a.elements → held a (places.Under i s) ≡ child s (element_at a i)
held_node a i s f = ap (λ x. cond x (child s (element_at a i)) (link_at a (i - length a.elements))) (lt-ltb i (length a.elements) f)

pub held_root : (a : Parts) (i : ℕ) (s : Side) → length a.elements ≤ i → held a (places.Under i s) ≡ link_at a (i - length a.elements)
held_root a i s f = ap (λ x. cond x (child s (element_at a i)) (link_at a (i - length a.elements))) (le-ltb i (length a.elements) f)

-- what is the same where the place is
pub same_held : (a z : Parts) (o : Place) → length z.elements ≡ length a.elements → child (place_side o) (element_at z (place_index o)) ≡ child (place_side o) (element_at a (place_index o)) → (length a.elements ≤ place_index o → link_at z (place_index o - length a.elements) ≡ link_at a (place_index o - length a.elements)) → held z o ≡ held a o
same_held a z places.Nowhere c f l = refl
same_held a z (places.Under i s) c f l =
    elim (cases_lt i (length a.elements)) [
      | inl lt ↦ held_node z i s (subst (λ m. i < m) (sym c) lt) ∙ (f ∙ sym (held_node a i s lt))
      | inr le ↦ held_root z i s (subst (λ m. m ≤ i) (sym c) le) ∙ (ap (λ m. link_at z (i - m)) c ∙ (l le ∙ sym (held_root a i s le)))
    ]

-- a field that a write leaves is the same everywhere
pub read_same : {A : Type 0} (a : Parts) (i x : ℕ) (d : Element) (P : Element → A) → i < length a.elements → P d ≡ P (element_at a i) → P (element_at (with_element a i d) x) ≡ P (element_at a x)
read_same a i x d P f h =
    elim (cases_eq x i) [
      | inl e ↦ ap (λ m. P (element_at (with_element a i d) m)) e ∙ (ap P (at_set a i d f) ∙ (h ∙ ap (λ m. P (element_at a m)) (sym e)))
      | inr n ↦ ap P (at_other a i x d n)
    ]

same_up : (a z : Parts) (u : Target) → (element_at z (index_of u)).leaf_p ≡ (element_at a (index_of u)).leaf_p → (element_at z (index_of u)).node_p ≡ (element_at a (index_of u)).node_p → up_of z u ≡ up_of a u
same_up a z targets.Nothing l n = refl
same_up a z (targets.Leaf x) l n = l
same_up a z (targets.Node x) l n = n

-- two arenas with the same elements but for their links up
pub record SameDown (a z : Parts) : Type 0 where
  pub count : length z.elements ≡ length a.elements
  pub links : z.links ≡ a.links
  pub left : (x : ℕ) → (element_at z x).left ≡ (element_at a x).left
  pub right : (x : ℕ) → (element_at z x).right ≡ (element_at a x).right
  pub key : (x : ℕ) → (element_at z x).key ≡ (element_at a x).key
  pub bit : (x : ℕ) → (element_at z x).bit ≡ (element_at a x).bit

pub hung_down : (a : Parts) (t : Target) (p : Place) → index_of t < length a.elements → SameDown a (hung a t p)
hung_down a targets.Nothing p f = record { count = refl; links = refl; left = λ x. refl; right = λ x. refl; key = λ x. refl; bit = λ x. refl }
hung_down a (targets.Leaf i) p f =
    let d : Element = record (element_at a i) { leaf_p = p } in
    record {
      count = length-set a.elements i d;
      links = refl;
      left = λ x. read_same a i x d (λ m. m.left) f refl;
      right = λ x. read_same a i x d (λ m. m.right) f refl;
      key = λ x. read_same a i x d (λ m. m.key) f refl;
      bit = λ x. read_same a i x d (λ m. m.bit) f refl;
    }
hung_down a (targets.Node i) p f =
    let d : Element = record (element_at a i) { node_p = p } in
    record {
      count = length-set a.elements i d;
      links = refl;
      left = λ x. read_same a i x d (λ m. m.left) f refl;
      right = λ x. read_same a i x d (λ m. m.right) f refl;
      key = λ x. read_same a i x d (λ m. m.key) f refl;
      bit = λ x. read_same a i x d (λ m. m.bit) f refl;
    }

pub down_then : (a b z : Parts) → SameDown a b → SameDown b z → SameDown a z
down_then a b z h g = record {
  count = g.count ∙ h.count;
  links = g.links ∙ h.links;
  left = λ x. g.left x ∙ h.left x;
  right = λ x. g.right x ∙ h.right x;
  key = λ x. g.key x ∙ h.key x;
  bit = λ x. g.bit x ∙ h.bit x;
}

same_child : (s : Side) (d e : Element) → d.left ≡ e.left → d.right ≡ e.right → child s d ≡ child s e
same_child sides.Left d e l r = l
same_child sides.Right d e l r = r

pub down_held : (a z : Parts) (o : Place) → SameDown a z → held z o ≡ held a o
down_held a z o h = same_held a z o h.count (same_child (place_side o) (element_at z (place_index o)) (element_at a (place_index o)) (h.left (place_index o)) (h.right (place_index o))) (λ f. ap (λ l. link_at (record z { links = l }) (place_index o - length a.elements)) h.links)

-- a link up that was written
pub hung_up : (a : Parts) (t : Target) (p : Place) → (t ≡ targets.Nothing → ⊥) → index_of t < length a.elements → up_of (hung a t p) t ≡ p
hung_up a targets.Nothing p n f = absurd (n refl)
hung_up a (targets.Leaf i) p n f = ap (λ m. m.leaf_p) (at_set a i (record (element_at a i) { leaf_p = p }) f)
hung_up a (targets.Node i) p n f = ap (λ m. m.node_p) (at_set a i (record (element_at a i) { node_p = p }) f)

-- and all others
pub hung_other : (a : Parts) (t u : Target) (p : Place) → index_of t < length a.elements → (t ≡ u → ⊥) → up_of (hung a t p) u ≡ up_of a u
hung_other a t targets.Nothing p f n = refl
hung_other a t (targets.Leaf x) p f n = (hung_leaf a t p x f n).leaf_p
hung_other a t (targets.Node x) p f n = (hung_node a t p x f n).node_p

-- a link down that is written on a root
pub on_root : (a : Parts) (i : ℕ) (s : Side) (t : Target) → length a.elements ≤ i → linked a (places.Under i s) t ≡ with_link a (i - length a.elements) t
on_root a i s t f = ap (λ x. cond x (with_element a i (with_child s t (element_at a i))) (with_link a (i - length a.elements) t)) (le-ltb i (length a.elements) f)

-- a field that is no link down is the same after a link down is written
pub linked_read : {A : Type 0} (a : Parts) (p : Place) (t : Target) (x : ℕ) (P : Element → A) → ((s : Side) (d : Element) → P (with_child s t d) ≡ P d) → P (element_at (linked a p t) x) ≡ P (element_at a x)
linked_read a places.Nowhere t x P h = refl
linked_read a (places.Under i s) t x P h =
    elim (cases_lt i (length a.elements)) [
      | inl lt ↦ ap (λ m. P (element_at m x)) (linked_node a i s t lt).is ∙ read_same a i x (with_child s t (element_at a i)) P lt (h s (element_at a i))
      | inr le ↦ ap (λ m. P (element_at m x)) (on_root a i s t le)
    ]

pub linked_count : (a : Parts) (p : Place) (t : Target) → (length (linked a p t).elements ≡ length a.elements) × (length (linked a p t).links ≡ length a.links)
linked_count a places.Nowhere t = (refl, refl)
linked_count a (places.Under i s) t =
    elim (cases_lt i (length a.elements)) [
      | inl lt ↦ let l : LinkedNode a (linked a (places.Under i s) t) i s t = linked_node a i s t lt in (l.count, ap length l.links)
      | inr le ↦ (ap (λ m. length m.elements) (on_root a i s t le), ap (λ m. length m.links) (on_root a i s t le) ∙ length-set a.links (i - length a.elements) t)
    ]

child_leaf_p : (t : Target) (s : Side) (d : Element) → (with_child s t d).leaf_p ≡ d.leaf_p
child_leaf_p t sides.Left d = refl
child_leaf_p t sides.Right d = refl

child_node_p : (t : Target) (s : Side) (d : Element) → (with_child s t d).node_p ≡ d.node_p
child_node_p t sides.Left d = refl
child_node_p t sides.Right d = refl

child_key : (t : Target) (s : Side) (d : Element) → (with_child s t d).key ≡ d.key
child_key t sides.Left d = refl
child_key t sides.Right d = refl

child_bit : (t : Target) (s : Side) (d : Element) → (with_child s t d).bit ≡ d.bit
child_bit t sides.Left d = refl
child_bit t sides.Right d = refl

pub linked_key : (a : Parts) (p : Place) (t : Target) (x : ℕ) → (element_at (linked a p t) x).key ≡ (element_at a x).key
linked_key a p t x = linked_read a p t x (λ m. m.key) (child_key t)

pub linked_bit : (a : Parts) (p : Place) (t : Target) (x : ℕ) → (element_at (linked a p t) x).bit ≡ (element_at a x).bit
linked_bit a p t x = linked_read a p t x (λ m. m.bit) (child_bit t)

pub linked_up : (a : Parts) (p : Place) (t u : Target) → up_of (linked a p t) u ≡ up_of a u
linked_up a p t u = same_up a (linked a p t) u (linked_read a p t (index_of u) (λ m. m.leaf_p) (child_leaf_p t)) (linked_read a p t (index_of u) (λ m. m.node_p) (child_node_p t))

own_child : (s : Side) (t : Target) (d : Element) → child s (with_child s t d) ≡ t
own_child sides.Left t d = refl
own_child sides.Right t d = refl

-- what hangs where a link down was written
pub linked_held : (a : Parts) (p : Place) (t : Target) → (p ≡ places.Nowhere → ⊥) → place_index p < length a.elements + length a.links → held (linked a p t) p ≡ t
linked_held a places.Nowhere t n f = absurd (n refl)
linked_held a (places.Under i s) t n f =
    elim (cases_lt i (length a.elements)) [
      | inl lt ↦
          let d : Element = with_child s t (element_at a i) in
          ap (λ m. held m (places.Under i s)) (linked_node a i s t lt).is ∙ (held_node (with_element a i d) i s (subst (λ m. i < m) (sym (length-set a.elements i d)) lt) ∙ (ap (child s) (at_set a i d lt) ∙ own_child s t (element_at a i)))
      | inr le ↦
          let r : i - length a.elements < length a.links = omega arith in
          ap (λ m. held m (places.Under i s)) (on_root a i s t le) ∙ (held_root (with_link a (i - length a.elements) t) i s le ∙ get_or-set_same a.links (i - length a.elements) t targets.Nothing r)
    ]

far_child : (s r : Side) (t : Target) (d : Element) → (r ≡ s → ⊥) → child r (with_child s t d) ≡ child r d
far_child sides.Left sides.Left t d n = absurd (n refl)
far_child sides.Left sides.Right t d n = refl
far_child sides.Right sides.Left t d n = refl
far_child sides.Right sides.Right t d n = absurd (n refl)

node_other : (a : Parts) (i : ℕ) (s : Side) (t : Target) (o : Place) → i < length a.elements → (o ≡ places.Under i s → ⊥) → held (with_element a i (with_child s t (element_at a i))) o ≡ held a o
node_other a i s t places.Nowhere f n = refl
node_other a i s t (places.Under j r) f n =
    let d : Element = with_child s t (element_at a i) in
    let c : child r (element_at (with_element a i d) j) ≡ child r (element_at a j) = elim (cases_eq j i) [
      | inl e ↦ ap (λ m. child r (element_at (with_element a i d) m)) e ∙ (ap (child r) (at_set a i d f) ∙ (far_child s r t (element_at a i) (λ k. n (ap (λ m. places.Under m r) e ∙ ap (λ m. places.Under i m) k)) ∙ ap (λ m. child r (element_at a m)) (sym e)))
      | inr k ↦ ap (child r) (at_other a i j d k)
    ] in
    same_held a (with_element a i d) (places.Under j r) (length-set a.elements i d) c (λ g. refl)

root_other : (a : Parts) (i : ℕ) (s : Side) (t : Target) (o : Place) → length a.elements ≤ i → (held a o ≡ held a (places.Under i s) → ⊥) → held (with_link a (i - length a.elements) t) o ≡ held a o
root_other a i s t places.Nowhere f n = refl
root_other a i s t (places.Under j r) f n =
    same_held a (with_link a (i - length a.elements) t) (places.Under j r) refl refl (λ g. get_or-set_other a.links (i - length a.elements) (j - length a.elements) t targets.Nothing (λ k. n (held_root a j r g ∙ (ap (link_at a) k ∙ sym (held_root a i s f)))))

-- what hangs at all other places
pub linked_other : (a : Parts) (p o : Place) (t : Target) → (held a o ≡ held a p → ⊥) → held (linked a p t) o ≡ held a o
linked_other a places.Nowhere o t n = refl
linked_other a (places.Under i s) o t n =
    elim (cases_lt i (length a.elements)) [
      | inl lt ↦ ap (λ m. held m o) (linked_node a i s t lt).is ∙ node_other a i s t o lt (λ k. n (ap (held a) k))
      | inr le ↦ ap (λ m. held m o) (on_root a i s t le) ∙ root_other a i s t o le n
    ]
