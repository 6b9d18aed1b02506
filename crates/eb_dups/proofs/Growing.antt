-- A tree of an arena grows by one entry, and the arena keeps the shape.
use Rattle.std.proofs.Common.{◌≡◌, ℕ, ◌+◌, ◌<◌, inl, inr, length, set, refl, sym, ap, ◌∙◌, subst}
use Rattle.std.specs.Prelude.{ℤ}
use Rattle.std.proofs.lemmas.Bool.{cases_eq}
use Rattle.std.proofs.lemmas.List.{length-set}
use Rattle.eb_arena.specs.declared.links.Side.{Side}
use Rattle.eb_arena.specs.declared.links.Side.TheVariants as sides
use Rattle.eb_arena.specs.declared.links.Target.{Target}
use Rattle.eb_arena.specs.declared.links.Target.TheVariants as targets
use Rattle.eb_arena.specs.declared.links.Place.{Place}
use Rattle.eb_arena.specs.declared.links.Place.TheVariants as places
use Rattle.eb_arena.specs.declared.element.Element.{Element}
use Rattle.eb_arena.specs.Links.{index_of, place_index, opposite}
use Rattle.eb_arena.specs.Parts.{Parts, element_at, with_element, with_link, with_child, child, hung, linked}
use Rattle.eb_arena.specs.Shape.{root_place}
use Rattle.eb_arena.specs.Laws.{SameLeaf, SameNode}
use Rattle.eb_arena.proofs.Frame.{at_set, at_other}
use Rattle.eb_dups.specs.Grown.{grown_element, attached}
use Rattle.eb_dups.proofs.Moves.{hung_leaf, hung_node, hung_count, leaf_then, node_then, LinkedNode, linked_node, linked_root}

-- what the arena z has of the arena a, where the node of entry e was put in above a part at a place
pub record Grew (a z : Parts) (part : Target) (place : Place) (e : ℕ) (side : Side) (bit : ℤ) : Type 0 where
  pub count : length z.elements ≡ length a.elements
  pub roots : length z.links ≡ length a.links
  pub leaves : (x : ℕ) → (x ≡ e → ⊥) → (part ≡ targets.Leaf x → ⊥) → SameLeaf a z x
  pub nodes : (x : ℕ) → (x ≡ e → ⊥) → (part ≡ targets.Node x → ⊥) → (place_index place ≡ x → ⊥) → SameNode a z x
  pub own : element_at z e ≡ grown_element part place e side bit (element_at a e).key
  pub leaf_up : (x : ℕ) → part ≡ targets.Leaf x → ((element_at z x).leaf_p ≡ places.Under e (opposite side)) × ((element_at z x).key ≡ (element_at a x).key)
  pub node_up : (x : ℕ) → part ≡ targets.Node x → ((element_at z x).node_p ≡ places.Under e (opposite side)) × ((element_at z x).bit ≡ (element_at a x).bit) × ((element_at z x).left ≡ (element_at a x).left) × ((element_at z x).right ≡ (element_at a x).right)

-- what is read after a write of one element
set_leaf : (a : Parts) (i x : ℕ) (d : Element) → (x ≡ i → ⊥) → SameLeaf a (with_element a i d) x
set_leaf a i x d n = let e : element_at (with_element a i d) x ≡ element_at a x = at_other a i x d n in record { leaf_p = ap (λ m. m.leaf_p) e; key = ap (λ m. m.key) e }

set_node : (a : Parts) (i x : ℕ) (d : Element) → (x ≡ i → ⊥) → SameNode a (with_element a i d) x
set_node a i x d n = let e : element_at (with_element a i d) x ≡ element_at a x = at_other a i x d n in record { node_p = ap (λ m. m.node_p) e; bit = ap (λ m. m.bit) e; left = ap (λ m. m.left) e; right = ap (λ m. m.right) e }

child_leaf : (s : Side) (t : Target) (d : Element) → ((with_child s t d).leaf_p ≡ d.leaf_p) × ((with_child s t d).key ≡ d.key) × ((with_child s t d).node_p ≡ d.node_p) × ((with_child s t d).bit ≡ d.bit)
child_leaf sides.Left t d = (refl, refl, refl, refl)
child_leaf sides.Right t d = (refl, refl, refl, refl)

-- a link down at a node changes no leaf
link_leaf : (a : Parts) (i x : ℕ) (s : Side) (t : Target) → i < length a.elements → SameLeaf a (with_element a i (with_child s t (element_at a i))) x
link_leaf a i x s t f =
    elim (cases_eq x i) [
      | inl e ↦
          let d : Element = with_child s t (element_at a i) in
          let r : element_at (with_element a i d) x ≡ d = ap (element_at (with_element a i d)) e ∙ at_set a i d f in
          record { leaf_p = ap (λ m. m.leaf_p) r ∙ ((child_leaf s t (element_at a i)).0 ∙ ap (λ m. (element_at a m).leaf_p) (sym e)); key = ap (λ m. m.key) r ∙ ((child_leaf s t (element_at a i)).1 ∙ ap (λ m. (element_at a m).key) (sym e)) }
      | inr n ↦ set_leaf a i x (with_child s t (element_at a i)) n
    ]

-- the two writes before the link down
record Before (a b : Parts) (part : Target) (place : Place) (e : ℕ) (side : Side) (bit : ℤ) : Type 0 where
  count : length b.elements ≡ length a.elements
  links : b.links ≡ a.links
  leaves : (x : ℕ) → (x ≡ e → ⊥) → (part ≡ targets.Leaf x → ⊥) → SameLeaf a b x
  nodes : (x : ℕ) → (x ≡ e → ⊥) → (part ≡ targets.Node x → ⊥) → SameNode a b x
  own : element_at b e ≡ grown_element part place e side bit (element_at a e).key
  leaf_up : (x : ℕ) → part ≡ targets.Leaf x → ((element_at b x).leaf_p ≡ places.Under e (opposite side)) × ((element_at b x).key ≡ (element_at a x).key)
  node_up : (x : ℕ) → part ≡ targets.Node x → ((element_at b x).node_p ≡ places.Under e (opposite side)) × ((element_at b x).bit ≡ (element_at a x).bit) × ((element_at b x).left ≡ (element_at a x).left) × ((element_at b x).right ≡ (element_at a x).right)

hung_at_leaf : (a : Parts) (x : ℕ) (p : Place) → x < length a.elements → element_at (hung a (targets.Leaf x) p) x ≡ record (element_at a x) { leaf_p = p }
hung_at_leaf a x p f = at_set a x (record (element_at a x) { leaf_p = p }) f

hung_at_node : (a : Parts) (x : ℕ) (p : Place) → x < length a.elements → element_at (hung a (targets.Node x) p) x ≡ record (element_at a x) { node_p = p }
hung_at_node a x p f = at_set a x (record (element_at a x) { node_p = p }) f

before_link : (a : Parts) (part : Target) (place : Place) (e : ℕ) (side : Side) (bit : ℤ) → e < length a.elements → index_of part < length a.elements → (index_of part ≡ e → ⊥) → Before a (with_element (hung a part (places.Under e (opposite side))) e (grown_element part place e side bit (element_at a e).key)) part place e side bit
before_link a part place e side bit f g n =
    let p : Place = places.Under e (opposite side) in
    let h : Parts = hung a part p in
    let d : Element = grown_element part place e side bit (element_at a e).key in
    let c : (length h.elements ≡ length a.elements) × (h.links ≡ a.links) = hung_count a part p in
    record {
      count = length-set h.elements e d ∙ c.0;
      links = c.1;
      leaves = λ x m k. leaf_then a h (with_element h e d) x (hung_leaf a part p x g k) (set_leaf h e x d m);
      nodes = λ x m k. node_then a h (with_element h e d) x (hung_node a part p x g k) (set_node h e x d m);
      own = at_set h e d (subst (λ m. e < m) (sym c.0) f);
      leaf_up = λ x k.
          let i : index_of part ≡ x = ap index_of k in
          let o : x ≡ e → ⊥ = λ z. n (i ∙ z) in
          let r : element_at h x ≡ record (element_at a x) { leaf_p = p } = ap (λ m. element_at (hung a m p) x) k ∙ hung_at_leaf a x p (subst (λ m. m < length a.elements) i g) in
          let s : SameLeaf h (with_element h e d) x = set_leaf h e x d o in
          (s.leaf_p ∙ ap (λ m. m.leaf_p) r, s.key ∙ ap (λ m. m.key) r);
      node_up = λ x k.
          let i : index_of part ≡ x = ap index_of k in
          let o : x ≡ e → ⊥ = λ z. n (i ∙ z) in
          let r : element_at h x ≡ record (element_at a x) { node_p = p } = ap (λ m. element_at (hung a m p) x) k ∙ hung_at_node a x p (subst (λ m. m < length a.elements) i g) in
          let s : SameNode h (with_element h e d) x = set_node h e x d o in
          (s.node_p ∙ ap (λ m. m.node_p) r, s.bit ∙ ap (λ m. m.bit) r, s.left ∙ ap (λ m. m.left) r, s.right ∙ ap (λ m. m.right) r);
    }

-- put in above a part at a node
pub record GrewAt (a z : Parts) (part : Target) (i : ℕ) (s : Side) (e : ℕ) (side : Side) (bit : ℤ) : Type 0 where
  pub grew : Grew a z part (places.Under i s) e side bit
  pub links : z.links ≡ a.links
  pub node : element_at z i ≡ with_child s (targets.Node e) (element_at z i)
  pub node_p : (element_at z i).node_p ≡ (element_at a i).node_p
  pub node_bit : (element_at z i).bit ≡ (element_at a i).bit
  pub far : child (opposite s) (element_at z i) ≡ child (opposite s) (element_at a i)

child_twice : (s : Side) (t : Target) (d : Element) → with_child s t d ≡ with_child s t (with_child s t d)
child_twice sides.Left t d = refl
child_twice sides.Right t d = refl

child_far : (s : Side) (t : Target) (d : Element) → child (opposite s) (with_child s t d) ≡ child (opposite s) d
child_far sides.Left t d = refl
child_far sides.Right t d = refl

same_far : (s : Side) (a b : Parts) (i : ℕ) → SameNode a b i → child s (element_at b i) ≡ child s (element_at a i)
same_far sides.Left a b i h = h.left
same_far sides.Right a b i h = h.right

pub grew_at : (a : Parts) (part : Target) (i : ℕ) (s : Side) (e : ℕ) (side : Side) (bit : ℤ) → e < length a.elements → index_of part < length a.elements → (index_of part ≡ e → ⊥) → i < length a.elements → (i ≡ e → ⊥) → (part ≡ targets.Node i → ⊥) → GrewAt a (attached a part (places.Under i s) e side bit) part i s e side bit
grew_at a part i s e side bit f g n fi ni np =
    let b : Parts = with_element (hung a part (places.Under e (opposite side))) e (grown_element part (places.Under i s) e side bit (element_at a e).key) in
    let r : Before a b part (places.Under i s) e side bit = before_link a part (places.Under i s) e side bit f g n in
    let fb : i < length b.elements = subst (λ m. i < m) (sym r.count) fi in
    let l : LinkedNode b (linked b (places.Under i s) (targets.Node e)) i s (targets.Node e) = linked_node b i s (targets.Node e) fb in
    let d : Element = with_child s (targets.Node e) (element_at b i) in
    let z : Parts = with_element b i d in
    let at : element_at z i ≡ d = at_set b i d fb in
    let same : SameNode a b i = r.nodes i ni np in
    let c : ((d.leaf_p ≡ (element_at b i).leaf_p)) × (d.key ≡ (element_at b i).key) × (d.node_p ≡ (element_at b i).node_p) × (d.bit ≡ (element_at b i).bit) = child_leaf s (targets.Node e) (element_at b i) in
    let x : GrewAt a z part i s e side bit = record {
      grew = record {
        count = length-set b.elements i d ∙ r.count;
        roots = ap length r.links;
        leaves = λ x m k. leaf_then a b z x (r.leaves x m k) (link_leaf b i x s (targets.Node e) fb);
        nodes = λ x m k j. node_then a b z x (r.nodes x m k) (set_node b i x d (λ y. j (sym y)));
        own = at_other b i e d (λ y. ni (sym y)) ∙ r.own;
        leaf_up = λ x k. let u : SameLeaf b z x = link_leaf b i x s (targets.Node e) fb in (u.leaf_p ∙ (r.leaf_up x k).0, u.key ∙ (r.leaf_up x k).1);
        node_up = λ x k.
            let o : x ≡ i → ⊥ = λ y. np (k ∙ ap (λ m. targets.Node m) y) in
            let u : SameNode b z x = set_node b i x d o in
            (u.node_p ∙ (r.node_up x k).0, u.bit ∙ (r.node_up x k).1, u.left ∙ (r.node_up x k).2, u.right ∙ (r.node_up x k).3);
      };
      links = r.links;
      node = at ∙ (child_twice s (targets.Node e) (element_at b i) ∙ ap (with_child s (targets.Node e)) (sym at));
      node_p = ap (λ m. m.node_p) at ∙ (c.2 ∙ same.node_p);
      node_bit = ap (λ m. m.bit) at ∙ (c.3 ∙ same.bit);
      far = ap (child (opposite s)) at ∙ (child_far s (targets.Node e) (element_at b i) ∙ same_far (opposite s) a b i same);
    } in
    subst (λ m. GrewAt a m part i s e side bit) (sym l.is) x

-- put in above a part on a root
pub record GrewRoot (a z : Parts) (part : Target) (q : ℕ) (e : ℕ) (side : Side) (bit : ℤ) : Type 0 where
  pub grew : Grew a z part (root_place a q) e side bit
  pub links : z.links ≡ set a.links q (targets.Node e)
  pub hang : (x : ℕ) → (x ≡ e → ⊥) → (part ≡ targets.Node x → ⊥) → (element_at z x).node_p ≡ (element_at a x).node_p

pub grew_root : (a : Parts) (part : Target) (q e : ℕ) (side : Side) (bit : ℤ) → e < length a.elements → index_of part < length a.elements → (index_of part ≡ e → ⊥) → GrewRoot a (attached a part (root_place a q) e side bit) part q e side bit
grew_root a part q e side bit f g n =
    let p : Place = root_place a q in
    let b : Parts = with_element (hung a part (places.Under e (opposite side))) e (grown_element part p e side bit (element_at a e).key) in
    let r : Before a b part p e side bit = before_link a part p e side bit f g n in
    let l : linked b (places.Under (length b.elements + q) sides.Left) (targets.Node e) ≡ with_link b q (targets.Node e) = linked_root b q sides.Left (targets.Node e) in
    let is : linked b p (targets.Node e) ≡ with_link b q (targets.Node e) = ap (λ m. linked b (places.Under (m + q) sides.Left) (targets.Node e)) (sym r.count) ∙ l in
    let x : GrewRoot a (with_link b q (targets.Node e)) part q e side bit = record {
      grew = record {
        count = r.count;
        roots = length-set b.links q (targets.Node e) ∙ ap length r.links;
        leaves = λ x m k. let u : SameLeaf a b x = r.leaves x m k in record { leaf_p = u.leaf_p; key = u.key };
        nodes = λ x m k j. let u : SameNode a b x = r.nodes x m k in record { node_p = u.node_p; bit = u.bit; left = u.left; right = u.right };
        own = r.own;
        leaf_up = r.leaf_up;
        node_up = r.node_up;
      };
      links = ap (λ m. set m q (targets.Node e)) r.links;
      hang = λ x m k. (r.nodes x m k).node_p;
    } in
    subst (λ m. GrewRoot a m part q e side bit) (sym is) x
