-- What is read where one node was put in the place of another.
use Rattle.std.proofs.Common.{◌≡◌, ℕ, ◌+◌, ◌<◌, ◌≤◌, length, refl, sym, ap, ◌∙◌, subst}
use Rattle.std.proofs.lemmas.List.{length-set}
use Rattle.eb_arena.specs.declared.links.Side.{Side}
use Rattle.eb_arena.specs.declared.links.Side.TheVariants as sides
use Rattle.eb_arena.specs.declared.links.Target.{Target}
use Rattle.eb_arena.specs.declared.links.Target.TheVariants as targets
use Rattle.eb_arena.specs.declared.links.Place.{Place}
use Rattle.eb_arena.specs.declared.links.Place.TheVariants as places
use Rattle.eb_arena.specs.declared.element.Element.{Element}
use Rattle.eb_arena.specs.Links.{index_of, place_index, place_side}
use Rattle.eb_arena.specs.Parts.{Parts, element_at, child, up_of, with_element, hung, linked}
use Rattle.eb_arena.proofs.Frame.{at_set, at_other}
use Rattle.eb32_core.proofs.ReplaceHeld.{held, held_node, same_held, read_same, SameDown, hung_down, down_then, down_held, hung_up, hung_other, linked_count, linked_key, linked_bit, linked_up, linked_held, linked_other}

-- the links up are written
abbrev pub rehung : Parts → ℕ → ℕ → Parts
rehung a e h = hung (hung (hung a (element_at a e).left (places.Under h sides.Left)) (element_at a e).right (places.Under h sides.Right)) (targets.Node e) places.Nowhere

-- the heir's element with the node of the entry
abbrev pub heir_element : Parts → ℕ → ℕ → Element
heir_element a e h = record (element_at (rehung a e h) h) { left = (element_at a e).left; right = (element_at a e).right; node_p = (element_at a e).node_p; bit = (element_at a e).bit }

-- it is written
abbrev pub moved : Parts → ℕ → ℕ → Parts
moved a e h = with_element (rehung a e h) h (heir_element a e h)

-- the link down to the node is written, which is the whole change
abbrev pub replaced : Parts → ℕ → ℕ → Parts
replaced a e h = linked (moved a e h) (element_at a e).node_p (targets.Node h)

-- what it asks of the arena
pub record Replaceable (a : Parts) (e h : ℕ) : Type 0 where
  pub entry_exists : e < length a.elements
  pub heir_exists : h < length a.elements
  pub differ : e ≡ h → ⊥
  pub left_some : (element_at a e).left ≡ targets.Nothing → ⊥
  pub right_some : (element_at a e).right ≡ targets.Nothing → ⊥
  pub left_exists : index_of (element_at a e).left < length a.elements
  pub right_exists : index_of (element_at a e).right < length a.elements
  pub left_up : up_of a (element_at a e).left ≡ places.Under e sides.Left
  pub right_up : up_of a (element_at a e).right ≡ places.Under e sides.Right
  pub left_not : (element_at a e).left ≡ targets.Node e → ⊥
  pub right_not : (element_at a e).right ≡ targets.Node e → ⊥
  pub unused : (element_at a h).node_p ≡ places.Nowhere
  pub hangs : (element_at a e).node_p ≡ places.Nowhere → ⊥
  pub place_exists : place_index (element_at a e).node_p < length a.elements + length a.links
  pub place_left : length a.elements ≤ place_index (element_at a e).node_p → place_side (element_at a e).node_p ≡ sides.Left
  pub place_not : place_index (element_at a e).node_p ≡ h → ⊥
  pub place_held : held a (element_at a e).node_p ≡ targets.Node e

-- what the arena z has of the arena a
pub record Replacing (a z : Parts) (e h : ℕ) : Type 0 where
  pub count : length z.elements ≡ length a.elements
  pub roots : length z.links ≡ length a.links
  pub key : (x : ℕ) → (element_at z x).key ≡ (element_at a x).key
  pub bit : (x : ℕ) → (x ≡ h → ⊥) → (element_at z x).bit ≡ (element_at a x).bit
  pub bit_heir : (element_at z h).bit ≡ (element_at a e).bit
  pub held_heir : (s : Side) → held z (places.Under h s) ≡ child s (element_at a e)
  pub held_place : held z (element_at a e).node_p ≡ targets.Node h
  pub held_other : (o : Place) → (place_index o ≡ h → ⊥) → (held a o ≡ targets.Node e → ⊥) → held z o ≡ held a o
  pub up_left : up_of z (element_at a e).left ≡ places.Under h sides.Left
  pub up_right : up_of z (element_at a e).right ≡ places.Under h sides.Right
  pub up_heir : up_of z (targets.Node h) ≡ (element_at a e).node_p
  pub up_entry : up_of z (targets.Node e) ≡ places.Nowhere
  pub up_other : (u : Target) → ((element_at a e).left ≡ u → ⊥) → ((element_at a e).right ≡ u → ⊥) → (targets.Node e ≡ u → ⊥) → (targets.Node h ≡ u → ⊥) → up_of z u ≡ up_of a u

-- the two sides of the node are two parts, and neither is a node that is unused
sides_differ : (a : Parts) (e h : ℕ) → Replaceable a e h → (element_at a e).right ≡ (element_at a e).left → ⊥
sides_differ a e h r k = let x : places.Under e sides.Right ≡ places.Under e sides.Left = sym r.right_up ∙ (ap (up_of a) k ∙ r.left_up) in cc

left_heir : (a : Parts) (e h : ℕ) → Replaceable a e h → targets.Node h ≡ (element_at a e).left → ⊥
left_heir a e h r k = let x : places.Nowhere ≡ places.Under e sides.Left = sym r.unused ∙ (ap (up_of a) k ∙ r.left_up) in cc

right_heir : (a : Parts) (e h : ℕ) → Replaceable a e h → targets.Node h ≡ (element_at a e).right → ⊥
right_heir a e h r k = let x : places.Nowhere ≡ places.Under e sides.Right = sym r.unused ∙ (ap (up_of a) k ∙ r.right_up) in cc

-- after the links up
record Rehung (a c : Parts) (e h : ℕ) : Type 0 where
  down : SameDown a c
  left : up_of c (element_at a e).left ≡ places.Under h sides.Left
  right : up_of c (element_at a e).right ≡ places.Under h sides.Right
  own : up_of c (targets.Node e) ≡ places.Nowhere
  other : (u : Target) → ((element_at a e).left ≡ u → ⊥) → ((element_at a e).right ≡ u → ⊥) → (targets.Node e ≡ u → ⊥) → up_of c u ≡ up_of a u

rehung_is : (a : Parts) (e h : ℕ) → Replaceable a e h → Rehung a (rehung a e h) e h
rehung_is a e h r =
    let l : Target = (element_at a e).left in
    let m : Target = (element_at a e).right in
    let n : Target = targets.Node e in
    let p : Place = places.Under h sides.Left in
    let o : Place = places.Under h sides.Right in
    let b : Parts = hung a l p in
    let c : Parts = hung b m o in
    let db : SameDown a b = hung_down a l p r.left_exists in
    let fm : index_of m < length b.elements = subst (λ x. index_of m < x) (sym db.count) r.right_exists in
    let dc : SameDown a c = down_then a b c db (hung_down b m o fm) in
    let fn : e < length c.elements = subst (λ x. e < x) (sym dc.count) r.entry_exists in
    let z : Parts = hung c n places.Nowhere in
    let some : n ≡ targets.Nothing → ⊥ = λ k. cc in
    record {
      down = down_then a c z dc (hung_down c n places.Nowhere fn);
      left = hung_other c n l places.Nowhere fn (λ k. r.left_not (sym k)) ∙ (hung_other b m l o fm (sides_differ a e h r) ∙ hung_up a l p r.left_some r.left_exists);
      right = hung_other c n m places.Nowhere fn (λ k. r.right_not (sym k)) ∙ hung_up b m o r.right_some fm;
      own = hung_up c n places.Nowhere some fn;
      other = λ u x y w. hung_other c n u places.Nowhere fn w ∙ (hung_other b m u o fm y ∙ hung_other a l u p r.left_exists x);
    }

-- the node of an element is written, and its leaf stays
wide_up : (a : Parts) (h : ℕ) (d : Element) (u : Target) → h < length a.elements → d.leaf_p ≡ (element_at a h).leaf_p → (targets.Node h ≡ u → ⊥) → up_of (with_element a h d) u ≡ up_of a u
wide_up a h d targets.Nothing f l n = refl
wide_up a h d (targets.Leaf x) f l n = read_same a h x d (λ m. m.leaf_p) f l
wide_up a h d (targets.Node x) f l n = ap (λ m. m.node_p) (at_other a h x d (λ k. n (ap (λ m. targets.Node m) (sym k))))

wide_held : (a : Parts) (h : ℕ) (d : Element) (o : Place) → (place_index o ≡ h → ⊥) → held (with_element a h d) o ≡ held a o
wide_held a h d o n = same_held a (with_element a h d) o (length-set a.elements h d) (ap (child (place_side o)) (at_other a h (place_index o) d n)) (λ f. refl)

wide_own : (a : Parts) (h : ℕ) (d : Element) (s : Side) → h < length a.elements → held (with_element a h d) (places.Under h s) ≡ child s d
wide_own a h d s f = held_node (with_element a h d) h s (subst (λ m. h < m) (sym (length-set a.elements h d)) f) ∙ ap (child s) (at_set a h d f)

heir_child : (a : Parts) (e h : ℕ) (s : Side) → child s (heir_element a e h) ≡ child s (element_at a e)
heir_child a e h sides.Left = refl
heir_child a e h sides.Right = refl

side_not : (a : Parts) (e h : ℕ) (s : Side) → Replaceable a e h → child s (element_at a e) ≡ targets.Node e → ⊥
side_not a e h sides.Left r k = r.left_not k
side_not a e h sides.Right r k = r.right_not k

pub replacing : (a : Parts) (e h : ℕ) → Replaceable a e h → Replacing a (replaced a e h) e h
replacing a e h r =
    let place : Place = (element_at a e).node_p in
    let c : Parts = rehung a e h in
    let up : Rehung a c e h = rehung_is a e h r in
    let el : Element = heir_element a e h in
    let d : Parts = with_element c h el in
    let t : Target = targets.Node h in
    let z : Parts = linked d place t in
    let fh : h < length c.elements = subst (λ x. h < x) (sym up.down.count) r.heir_exists in
    let n : length d.elements ≡ length a.elements = length-set c.elements h el ∙ up.down.count in
    let ln : d.links ≡ a.links = up.down.links in
    let own : held d place ≡ targets.Node e = wide_held c h el place r.place_not ∙ (down_held a c place up.down ∙ r.place_held) in
    let fp : place_index place < length d.elements + length d.links = subst (λ x. place_index place < x + length d.links) (sym n) (subst (λ x. place_index place < length a.elements + length x) (sym ln) r.place_exists) in
    let node : targets.Node h ≡ targets.Node e → ⊥ = λ k. r.differ (sym (ap index_of k)) in
    let cn : (length z.elements ≡ length d.elements) × (length z.links ≡ length d.links) = linked_count d place t in
    record {
      count = cn.0 ∙ n;
      roots = cn.1 ∙ ap length ln;
      key = λ x. linked_key d place t x ∙ (read_same c h x el (λ m. m.key) fh refl ∙ up.down.key x);
      bit = λ x k. linked_bit d place t x ∙ (ap (λ m. m.bit) (at_other c h x el k) ∙ up.down.bit x);
      bit_heir = linked_bit d place t h ∙ ap (λ m. m.bit) (at_set c h el fh);
      held_heir = λ s.
          let w : held d (places.Under h s) ≡ child s (element_at a e) = wide_own c h el s fh ∙ heir_child a e h s in
          linked_other d place (places.Under h s) t (λ k. side_not a e h s r (sym w ∙ (k ∙ own))) ∙ w;
      held_place = linked_held d place t r.hangs fp;
      held_other = λ o k m.
          let w : held d o ≡ held a o = wide_held c h el o k ∙ down_held a c o up.down in
          linked_other d place o t (λ y. m (sym w ∙ (y ∙ own))) ∙ w;
      up_left = linked_up d place t (element_at a e).left ∙ (wide_up c h el (element_at a e).left fh refl (left_heir a e h r) ∙ up.left);
      up_right = linked_up d place t (element_at a e).right ∙ (wide_up c h el (element_at a e).right fh refl (right_heir a e h r) ∙ up.right);
      up_heir = linked_up d place t (targets.Node h) ∙ ap (λ m. m.node_p) (at_set c h el fh);
      up_entry = linked_up d place t (targets.Node e) ∙ (wide_up c h el (targets.Node e) fh refl node ∙ up.own);
      up_other = λ u x y w v. linked_up d place t u ∙ (wide_up c h el u fh refl v ∙ up.other u x y w);
    }

-- the arena before the link down, step by step
pub written : (a b c d w : Parts) (e h : ℕ) (n el : Element) (p o : Place) (t : Target) → n ≡ element_at a e → p ≡ places.Under h sides.Left → b ≡ hung a n.left p → o ≡ places.Under h sides.Right → c ≡ hung b n.right o → t ≡ targets.Node e → d ≡ hung c t places.Nowhere → el ≡ element_at d h → w ≡ with_element d h (record el { left = n.left; right = n.right; node_p = n.node_p; bit = n.bit }) → w ≡ moved a e h
written a b c d w e h n el p o t hn hp hb ho hc ht hd he hw =
    let m : Element = element_at a e in
    let left : Parts = hung a m.left (places.Under h sides.Left) in
    let eb : b ≡ left = hb ∙ (ap (λ x. hung a x.left p) hn ∙ ap (hung a m.left) hp) in
    let ec : c ≡ hung left m.right (places.Under h sides.Right) = hc ∙ (ap (λ x. hung x n.right o) eb ∙ (ap (λ x. hung left x.right o) hn ∙ ap (hung left m.right) ho)) in
    let ed : d ≡ rehung a e h = hd ∙ (ap (λ x. hung c x places.Nowhere) ht ∙ ap (λ x. hung x (targets.Node e) places.Nowhere) ec) in
    let ee : el ≡ element_at (rehung a e h) h = he ∙ ap (λ x. element_at x h) ed in
    let put : Element → Element → Element = λ x y. record x { left = y.left; right = y.right; node_p = y.node_p; bit = y.bit } in
    hw ∙ (ap (λ x. with_element x h (put el n)) ed ∙ (ap (λ x. with_element (rehung a e h) h (put x n)) ee ∙ ap (λ x. with_element (rehung a e h) h (put (element_at (rehung a e h) h) x)) hn))

-- it has as many elements
moved_count : (a : Parts) (e h : ℕ) → Replaceable a e h → length (moved a e h).elements ≡ length a.elements
moved_count a e h r = length-set (rehung a e h).elements h (heir_element a e h) ∙ (rehung_is a e h r).down.count

-- the place of the node exists in it
pub written_place : (a b c d w : Parts) (e h : ℕ) (n el : Element) (p o : Place) (t : Target) → Replaceable a e h → n ≡ element_at a e → p ≡ places.Under h sides.Left → b ≡ hung a n.left p → o ≡ places.Under h sides.Right → c ≡ hung b n.right o → t ≡ targets.Node e → d ≡ hung c t places.Nowhere → el ≡ element_at d h → w ≡ with_element d h (record el { left = n.left; right = n.right; node_p = n.node_p; bit = n.bit }) → place_index n.node_p < length w.elements + length w.links
written_place a b c d w e h n el p o t r hn hp hb ho hc ht hd he hw =
    let is : w ≡ moved a e h = written a b c d w e h n el p o t hn hp hb ho hc ht hd he hw in
    let up : Rehung a (rehung a e h) e h = rehung_is a e h r in
    let count : length (moved a e h).elements ≡ length a.elements = moved_count a e h r in
    let f : place_index (element_at a e).node_p < length w.elements + length w.links = subst (λ x. place_index (element_at a e).node_p < length x.elements + length x.links) (sym is) (subst (λ x. place_index (element_at a e).node_p < x + length (rehung a e h).links) (sym count) (subst (λ x. place_index (element_at a e).node_p < length a.elements + length x) (sym up.down.links) r.place_exists)) in
    subst (λ x. place_index x.node_p < length w.elements + length w.links) (sym hn) f

-- and is a left side at a root
pub written_left : (a w : Parts) (e h : ℕ) (n : Element) → Replaceable a e h → n ≡ element_at a e → w ≡ moved a e h → length w.elements ≤ place_index n.node_p → place_side n.node_p ≡ sides.Left
written_left a w e h n r hn hw f =
    let c : length w.elements ≡ length a.elements = ap (λ x. length x.elements) hw ∙ moved_count a e h r in
    subst (λ x. length a.elements ≤ place_index x.node_p → place_side x.node_p ≡ sides.Left) (sym hn) r.place_left (subst (λ x. x ≤ place_index n.node_p) c f)

-- and after it
pub linked_is : (a w : Parts) (e h : ℕ) (n : Element) (t : Target) → n ≡ element_at a e → t ≡ targets.Node h → w ≡ moved a e h → linked w n.node_p t ≡ replaced a e h
linked_is a w e h n t hn ht hw =
    ap (λ x. linked x n.node_p t) hw ∙ (ap (λ x. linked (moved a e h) x.node_p t) hn ∙ ap (linked (moved a e h) (element_at a e).node_p) ht)
