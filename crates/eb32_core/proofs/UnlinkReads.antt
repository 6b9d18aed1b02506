-- What is read before a leaf and the node above it go, and what the writes then make of the arena.
use Rattle.std.proofs.Common.{◌≡◌, ℕ, ◌+◌, ◌<◌, ◌≤◌, length, refl, sym, ap, ◌∙◌, subst, arith, eqb}
use Rattle.std.specs.Prelude.{◌||◌}
use Rattle.eb_arena.specs.declared.links.Side.TheVariants as sides
use Rattle.eb_arena.specs.declared.links.Target.{Target}
use Rattle.eb_arena.specs.declared.links.Target.TheVariants as targets
use Rattle.eb_arena.specs.declared.links.Place.{Place}
use Rattle.eb_arena.specs.declared.links.Place.TheVariants as places
use Rattle.eb_arena.specs.declared.element.Element.{Element}
use Rattle.eb_arena.specs.Links.{index_of, is_nowhere, place_index, place_side}
use Rattle.eb_arena.specs.Parts.{Parts, element_at, hung, linked}
use Rattle.eb_arena.specs.Shape.{HasShape}
use Rattle.eb_dups.proofs.Moves.{hung_count}
use Rattle.eb32_walk.specs.Ends.{IsIn}
use Rattle.eb32_core.specs.Removal.{Unlinks}
use Rattle.eb32_core.proofs.UnlinkWrites.{loosened, raised, cut}
use Rattle.eb32_core.proofs.UnlinkEntry.{beside, unlinked, unlinks, MayUnlink, may_unlink, own_node}

-- what is read
pub record Reads (a : Parts) (e : ℕ) (up : Element) (freed : ℕ) (sibling : Target) (above : Place) : Type 0 where
  pub shape : HasShape a
  pub in_tree : IsIn a e
  pub below_node : place_index (element_at a e).leaf_p < length a.elements
  pub up_is : up ≡ element_at a e
  pub freed_is : freed ≡ place_index up.leaf_p
  pub sibling_is : sibling ≡ beside a up.leaf_p
  pub above_is : above ≡ (element_at a (place_index up.leaf_p)).node_p

freed_at : (a : Parts) (e : ℕ) (up : Element) (freed : ℕ) (sibling : Target) (above : Place) → Reads a e up freed sibling above → freed ≡ place_index (element_at a e).leaf_p
freed_at a e up freed sibling above r = r.freed_is ∙ ap (λ x. place_index x.leaf_p) r.up_is

sibling_at : (a : Parts) (e : ℕ) (up : Element) (freed : ℕ) (sibling : Target) (above : Place) → Reads a e up freed sibling above → sibling ≡ beside a (element_at a e).leaf_p
sibling_at a e up freed sibling above r = r.sibling_is ∙ ap (λ x. beside a x.leaf_p) r.up_is

above_at : (a : Parts) (e : ℕ) (up : Element) (freed : ℕ) (sibling : Target) (above : Place) → Reads a e up freed sibling above → above ≡ (element_at a (place_index (element_at a e).leaf_p)).node_p
above_at a e up freed sibling above r = r.above_is ∙ ap (λ x. (element_at a (place_index x.leaf_p)).node_p) r.up_is

pub reads : {a : Parts} {e : ℕ} {up : Element} {freed : ℕ} {sibling : Target} {above : Place} → HasShape a → IsIn a e → place_index (element_at a e).leaf_p < length a.elements → up ≡ element_at a e → freed ≡ place_index up.leaf_p → sibling ≡ beside a up.leaf_p → above ≡ (element_at a (place_index up.leaf_p)).node_p → Reads a e up freed sibling above
reads s i b u f g o = record { shape = s; in_tree = i; below_node = b; up_is = u; freed_is = f; sibling_is = g; above_is = o }

-- that the writes may be done
pub record MayWrite (a : Parts) (sibling : Target) (above : Place) : Type 0 where
  pub some : sibling ≡ targets.Nothing → ⊥
  pub exists : index_of sibling < length a.elements
  pub above_some : above ≡ places.Nowhere → ⊥
  pub above_exists : place_index above < length a.elements + length a.links
  pub above_left : length a.elements ≤ place_index above → place_side above ≡ sides.Left

pub may_write : {a : Parts} {e : ℕ} {up : Element} {freed : ℕ} {sibling : Target} {above : Place} → Reads a e up freed sibling above → MayWrite a sibling above
may_write {a = a} {e = e} {up = up} {freed = freed} {sibling = sibling} {above = above} r =
    let m : MayUnlink a e (element_at a e).leaf_p = may_unlink a e r.shape r.in_tree r.below_node in
    let s : sibling ≡ beside a (element_at a e).leaf_p = sibling_at a e up freed sibling above r in
    let n : above ≡ (element_at a (place_index (element_at a e).leaf_p)).node_p = above_at a e up freed sibling above r in
    record {
      some = λ h. m.some (sym s ∙ h);
      exists = subst (λ x. index_of x < length a.elements) (sym s) m.exists;
      above_some = λ h. m.above (sym n ∙ h);
      above_exists = subst (λ x. place_index x < length a.elements + length a.links) (sym n) m.above_exists;
      above_left = subst (λ x. length a.elements ≤ place_index x → place_side x ≡ sides.Left) (sym n) m.above_left;
    }

-- what is written
pub record Writes (a b c d z : Parts) (e freed : ℕ) (leaf top sibling : Target) (none above : Place) : Type 0 where
  pub none_is : none ≡ places.Nowhere
  pub leaf_is : leaf ≡ targets.Leaf e
  pub top_is : top ≡ targets.Node freed
  pub first : b ≡ hung a leaf none
  pub second : c ≡ hung b top none
  pub third : d ≡ hung c sibling above
  pub fourth : z ≡ linked d above sibling

-- the numbers of elements and roots stay
pub record SameCounts (a z : Parts) : Type 0 where
  pub elements : length z.elements ≡ length a.elements
  pub links : length z.links ≡ length a.links

pub counts_same : (a : Parts) → SameCounts a a
counts_same a = record { elements = refl; links = refl }

pub counts_hung : {a b z : Parts} (part : Target) (place : Place) → SameCounts a b → z ≡ hung b part place → SameCounts a z
counts_hung {a = a} {b = b} {z = z} part place s e =
    record {
      elements = ap (λ x. length x.elements) e ∙ ((hung_count b part place).0 ∙ s.elements);
      links = ap (λ x. length x.links) e ∙ (ap length (hung_count b part place).1 ∙ s.links);
    }

-- the part is an element there too
pub part_stays : {a c : Parts} (part : Target) → SameCounts a c → index_of part < length a.elements → index_of part < length c.elements
part_stays {a = a} {c = c} part s f = subst (λ n. index_of part < n) (sym s.elements) f

-- and the place is there
pub place_stays : {a c : Parts} (place : Place) → SameCounts a c → place_index place < length a.elements + length a.links → place_index place < length c.elements + length c.links
place_stays {a = a} {c = c} place s f =
    let x : length c.elements ≡ length a.elements = s.elements in
    let y : length c.links ≡ length a.links = s.links in
    omega arith

-- on its side of a root
pub place_left : {a c : Parts} (place : Place) → SameCounts a c → (length a.elements ≤ place_index place → place_side place ≡ sides.Left) → length c.elements ≤ place_index place → place_side place ≡ sides.Left
place_left {a = a} {c = c} place s l f = l (subst (λ n. n ≤ place_index place) s.elements f)

written : (a b c d z : Parts) (e freed : ℕ) (leaf top sibling : Target) (none above : Place) → Writes a b c d z e freed leaf top sibling none above → z ≡ cut a e freed sibling above
written a b c d z e freed leaf top sibling none above w =
    let x : b ≡ hung a (targets.Leaf e) places.Nowhere = w.first ∙ (ap (λ t. hung a t none) w.leaf_is ∙ ap (hung a (targets.Leaf e)) w.none_is) in
    let y : c ≡ loosened a e freed = w.second ∙ (ap (λ t. hung b t none) w.top_is ∙ (ap (hung b (targets.Node freed)) w.none_is ∙ ap (λ t. hung t (targets.Node freed) places.Nowhere) x)) in
    let v : d ≡ raised a e freed sibling above = w.third ∙ ap (λ t. hung t sibling above) y in
    w.fourth ∙ ap (λ t. linked t above sibling) v

-- what the writes made of the arena
read_is : (a b c d z : Parts) (e : ℕ) (up : Element) (freed : ℕ) (sibling leaf top : Target) (none above : Place) → Reads a e up freed sibling above → Writes a b c d z e freed leaf top sibling none above → z ≡ unlinked a e
read_is a b c d z e up freed sibling leaf top none above r w =
    let f : freed ≡ place_index (element_at a e).leaf_p = freed_at a e up freed sibling above r in
    let s : sibling ≡ beside a (element_at a e).leaf_p = sibling_at a e up freed sibling above r in
    let n : above ≡ (element_at a (place_index (element_at a e).leaf_p)).node_p = above_at a e up freed sibling above r in
    written a b c d z e freed leaf top sibling none above w ∙ (ap (λ x. cut a e x sibling above) f ∙ (ap (λ x. cut a e (place_index (element_at a e).leaf_p) x above) s ∙ ap (cut a e (place_index (element_at a e).leaf_p) (beside a (element_at a e).leaf_p)) n))

pub read_own : {a b c d z : Parts} {e : ℕ} {up : Element} {freed : ℕ} {sibling leaf top : Target} {none above : Place} → Reads a e up freed sibling above → Writes a b c d z e freed leaf top sibling none above → is_nowhere (element_at z e).node_p ≡ (is_nowhere (element_at a e).node_p || eqb (place_index (element_at a e).leaf_p) e)
read_own {a = a} {b = b} {c = c} {d = d} {z = z} {e = e} {up = up} {freed = freed} {sibling = sibling} {leaf = leaf} {top = top} {none = none} {above = above} r w =
    let is : z ≡ unlinked a e = read_is a b c d z e up freed sibling leaf top none above r w in
    ap (λ x. is_nowhere (element_at x e).node_p) is ∙ own_node a e r.shape r.in_tree r.below_node

pub read_unlinks : {a b c d z : Parts} {e : ℕ} {up : Element} {freed : ℕ} {sibling leaf top : Target} {none above : Place} → Reads a e up freed sibling above → Writes a b c d z e freed leaf top sibling none above → Unlinks a z e freed
read_unlinks {a = a} {b = b} {c = c} {d = d} {z = z} {e = e} {up = up} {freed = freed} {sibling = sibling} {leaf = leaf} {top = top} {none = none} {above = above} r w =
    let f : freed ≡ place_index (element_at a e).leaf_p = freed_at a e up freed sibling above r in
    let is : z ≡ unlinked a e = read_is a b c d z e up freed sibling leaf top none above r w in
    let x : Unlinks a (unlinked a e) e (place_index (element_at a e).leaf_p) = unlinks a e r.below_node in
    subst (λ y. Unlinks a y e freed) (sym is) (subst (Unlinks a (unlinked a e) e) (sym f) x)
