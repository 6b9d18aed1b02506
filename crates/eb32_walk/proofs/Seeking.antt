-- The descent by key: what lies before and after the part that it has come to.
use Rattle.std.proofs.Common.{◌≡◌, ◌≢◌, ℕ, ◌+◌, ◌*◌, ◌/◌, ◌%◌, ◌^◌, ◌<◌, ◌≤◌, List, [], ◌∷◌, ◌++◌, length, Bool, true, false, refl, sym, ap, ◌∙◌, subst, arith, append_assoc, eqb-true, eq-eqb}
use Rattle.std.specs.Prelude.{pos, negsuc, Option, Some, None, IfSome, MatchOption, ◌==◌, if◌then◌else◌}
use Rattle.std.specs.Option.{unwrap_or}
use Rattle.std.proofs.lemmas.List.{append-nil}
use Rattle.std.proofs.lemmas.Bool.{eqb-false}
use Rattle.std.proofs.lemmas.Nat.{pow_pos}
use Rattle.eb_arena.specs.declared.links.Side.{Side}
use Rattle.eb_arena.specs.declared.links.Side.TheVariants as sides
use Rattle.eb_arena.specs.declared.links.Target.{Target}
use Rattle.eb_arena.specs.declared.links.Target.TheVariants as targets
use Rattle.eb_arena.specs.declared.links.Place.{Place}
use Rattle.eb_arena.specs.declared.links.Place.TheVariants as places
use Rattle.eb_arena.specs.declared.element.Element.{Element}
use Rattle.eb_arena.specs.Links.{index_of, side_number}
use Rattle.eb_arena.specs.Parts.{Parts, element_at, link_at, child}
use Rattle.eb_arena.specs.Shape.{Tree, tip, fork, items, items_of, Keys, IsBit, Hangs, Split, DividesAt, Equals, IsRoot, root_place, HasShape, list_of, list_below}
use Rattle.eb_arena.specs.Way.{Step, from_left, from_right, plug, before, after, Leads}
use Rattle.eb_arena.proofs.Trees.{Has, keys_at, keys_map, bit_rank, tree_rank, falls_left, falls_right, lt_by_div, div_le_div}
use Rattle.eb_arena.proofs.Reading.{list_of_is}
use Rattle.eb_arena.proofs.Ways.{part_split, leaf_key}
use Rattle.eb_arena.specs.Shape.{AllKeys}
use Rattle.eb32_walk.specs.Search.{Fits, Narrow, IsFound, IsBare, Reaches, Stops, own_key, turn_of}
use Rattle.eb_arena.proofs.Keyed.{all-append, all_items}
use Rattle.eb32_walk.proofs.Climbing.{greater}
use Rattle.eb32_walk.proofs.Down.{target_rank, target_rank_is, not_nothing}

-- what a turn at a bit says of the key
pub record TurnIs (b own key : ℕ) (side : Side) : Type 0 where
  pub above : key / 2 ^ b / 2 ≡ own / 2 ^ b / 2
  pub here : key / 2 ^ b % 2 ≡ side_number side

turn_tests : (x y z : ℕ) (side : Side) (p r : Bool) → (x == y) ≡ p → (z == 0) ≡ r → z < 2 → (if p then (if r then Some sides.Left else Some sides.Right) else None) ≡ Some side → (x ≡ y) × (z ≡ side_number side)
turn_tests x y z side false r h g f e = let n : None ≡ Some side = e in cc
turn_tests x y z side true true h g f e =
    let s : sides.Left ≡ side = ap (λ o. unwrap_or o sides.Left) e in
    (eqb-true x y h, eqb-true z 0 g ∙ ap side_number s)
turn_tests x y z side true false h g f e =
    let s : sides.Right ≡ side = ap (λ o. unwrap_or o sides.Left) e in
    let n : z ≢ 0 = eqb-false z 0 g in
    let o : z ≡ 1 = omega arith in
    (eqb-true x y h, o ∙ ap side_number s)

pub turn_is : (own b key : ℕ) (side : Side) → turn_of own (pos b) key ≡ Some side → TurnIs b own key side
turn_is own b key side h =
    let z : key / 2 ^ b % 2 < 2 = omega arith in
    let t : (key / 2 ^ b / 2 ≡ own / 2 ^ b / 2) × (key / 2 ^ b % 2 ≡ side_number side) = turn_tests (key / 2 ^ b / 2) (own / 2 ^ b / 2) (key / 2 ^ b % 2) side (key / 2 ^ b / 2 == own / 2 ^ b / 2) (key / 2 ^ b % 2 == 0) refl refl z h in
    record { above = t.0; here = t.1 }

none_tests : (p r : Bool) → (if p then (if r then Some sides.Left else Some sides.Right) else None) ≡ None → p ≡ true → ⊥
none_tests false r h e = let x : true ≡ false = sym e in cc
none_tests true true h e = let x : Some sides.Left ≡ None = h in cc
none_tests true false h e = let x : Some sides.Right ≡ None = h in cc

pub turn_none : (own b key : ℕ) → turn_of own (pos b) key ≡ None → key / 2 ^ b / 2 ≡ own / 2 ^ b / 2 → ⊥
turn_none own b key h e = none_tests (key / 2 ^ b / 2 == own / 2 ^ b / 2) (key / 2 ^ b % 2 == 0) h (eq-eqb (key / 2 ^ b / 2) (own / 2 ^ b / 2) e)

-- above the bit the keys of a node's sides agree
above_bit : (b : ℕ) (l r : Tree) (d : DividesAt b l r) → Keys (λ x. x / 2 ^ b / 2 ≡ d.q) l × Keys (λ x. x / 2 ^ b / 2 ≡ d.q) r
above_bit b l r d =
    (keys_map (λ x. x / 2 ^ b ≡ 2 * d.q) (λ x. x / 2 ^ b / 2 ≡ d.q) l (λ x e. omega arith) d.left, keys_map (λ x. x / 2 ^ b ≡ 2 * d.q + 1) (λ x. x / 2 ^ b / 2 ≡ d.q) r (λ x e. omega arith) d.right)

own_above : (a : Parts) (b i : ℕ) (l r : Tree) (target : Target) (place : Place) (d : DividesAt b l r) → Hangs a target place (fork i (pos b) l r) → Split (fork i (pos b) l r) → (element_at a i).key / 2 ^ b / 2 ≡ d.q
own_above a b i l r target place d s p =
    let k : Has (element_at a i).key (fork i (pos b) l r) = leaf_key a (fork i (pos b) l r) target place i s p.0 in
    keys_at (λ x. x / 2 ^ b / 2 ≡ d.q) (fork i (pos b) l r) (element_at a i).key (above_bit b l r d) k

-- one turn of the descent
pub record Turned (a : Parts) (q key : ℕ) (part next : Target) (steps : ℕ) : Type 0 where
  pub narrow : Narrow a q key next
  pub longer : length narrow.way ≡ steps + 1
  pub falls : target_rank a next < target_rank a part

turn_left : (a : Parts) (q key i b : ℕ) (l r : Tree) (place : Place) (w : List Step) → Hangs a (targets.Node i) place (fork i (pos b) l r) → Leads a q place w → Split (plug w (fork i (pos b) l r)) → list_of a q ≡ before w ++ (items (fork i (pos b) l r) ++ after w) → AllKeys (λ x. x < key) (before w) → AllKeys (λ x. key < x) (after w) → Fits key w → IsRoot a q (Some (plug w (fork i (pos b) l r))) → TurnIs b (element_at a i).key key sides.Left → Turned a q key (targets.Node i) (element_at a i).left (length w)
turn_left a q key i b l r place w s h p g low high ft wh t =
    let k : Split (fork i (pos b) l r) = part_split w (fork i (pos b) l r) p in
    let d : DividesAt b l r = k.2 in
    let o : (element_at a i).key / 2 ^ b / 2 ≡ d.q = own_above a b i l r (targets.Node i) place d s k in
    let e : key / 2 ^ b ≡ 2 * d.q = let x : key / 2 ^ b / 2 ≡ (element_at a i).key / 2 ^ b / 2 = t.above in let y : key / 2 ^ b % 2 ≡ 0 = t.here in omega arith in
    let m : Keys (λ x. key < x) r = keys_map (λ x. x / 2 ^ b ≡ 2 * d.q + 1) (λ x. key < x) r (λ x f. greater b d.q key x e f) d.right in
    record {
      narrow = record {
        place = places.Under i sides.Left;
        way = from_left i (pos b) r ∷ w;
        tree = l;
        leads = (refl, s.1, s.3, s.5, subst (λ z. Leads a q z w) (sym s.2) h);
        stands = s.4;
        split = p;
        list_is = g ∙ ap (λ z. before w ++ z) (append_assoc (items l) (items r) (after w));
        low = low;
        high = all-append (λ x. key < x) (items r) (after w) (all_items (λ x. key < x) r m) high;
        fits = ((d.q, (e, d.right)), ft);
        whole = wh;
      };
      longer = omega arith;
      falls = let x : target_rank a (element_at a i).left ≡ tree_rank l = target_rank_is a _ _ l s.4 in let y : tree_rank l < bit_rank (pos b) = falls_left i (pos b) l r k in let z : bit_rank (element_at a i).bit ≡ bit_rank (pos b) = ap bit_rank s.3 in omega arith;
    }

turn_right : (a : Parts) (q key i b : ℕ) (l r : Tree) (place : Place) (w : List Step) → Hangs a (targets.Node i) place (fork i (pos b) l r) → Leads a q place w → Split (plug w (fork i (pos b) l r)) → list_of a q ≡ before w ++ (items (fork i (pos b) l r) ++ after w) → AllKeys (λ x. x < key) (before w) → AllKeys (λ x. key < x) (after w) → Fits key w → IsRoot a q (Some (plug w (fork i (pos b) l r))) → TurnIs b (element_at a i).key key sides.Right → Turned a q key (targets.Node i) (element_at a i).right (length w)
turn_right a q key i b l r place w s h p g low high ft wh t =
    let k : Split (fork i (pos b) l r) = part_split w (fork i (pos b) l r) p in
    let d : DividesAt b l r = k.2 in
    let o : (element_at a i).key / 2 ^ b / 2 ≡ d.q = own_above a b i l r (targets.Node i) place d s k in
    let e : key / 2 ^ b ≡ 2 * d.q + 1 = let x : key / 2 ^ b / 2 ≡ (element_at a i).key / 2 ^ b / 2 = t.above in let y : key / 2 ^ b % 2 ≡ 1 = t.here in omega arith in
    let m : Keys (λ x. x < key) l = keys_map (λ x. x / 2 ^ b ≡ 2 * d.q) (λ x. x < key) l (λ x f. greater b d.q x key f e) d.left in
    record {
      narrow = record {
        place = places.Under i sides.Right;
        way = from_right i (pos b) l ∷ w;
        tree = r;
        leads = (refl, s.1, s.3, s.4, subst (λ z. Leads a q z w) (sym s.2) h);
        stands = s.5;
        split = p;
        list_is = g ∙ (ap (λ z. before w ++ z) (append_assoc (items l) (items r) (after w)) ∙ sym (append_assoc (before w) (items l) (items r ++ after w)));
        low = all-append (λ x. x < key) (before w) (items l) low (all_items (λ x. x < key) l m);
        fits = ((d.q, (e, d.left)), ft);
        whole = wh;
        high = high;
      };
      longer = omega arith;
      falls = let x : target_rank a (element_at a i).right ≡ tree_rank r = target_rank_is a _ _ r s.5 in let y : tree_rank r < bit_rank (pos b) = falls_right i (pos b) l r k in let z : bit_rank (element_at a i).bit ≡ bit_rank (pos b) = ap bit_rank s.3 in omega arith;
    }

turn_by : (a : Parts) (q key i : ℕ) (side : Side) (place : Place) (w : List Step) (t : Tree) → Hangs a (targets.Node i) place t → Leads a q place w → Split (plug w t) → list_of a q ≡ before w ++ (items t ++ after w) → AllKeys (λ x. x < key) (before w) → AllKeys (λ x. key < x) (after w) → Fits key w → IsRoot a q (Some (plug w t)) → turn_of (element_at a i).key (element_at a i).bit key ≡ Some side → Turned a q key (targets.Node i) (child side (element_at a i)) (length w)
turn_by a q key i side place w (tip e k) s h p g low high ft wh t = let x : targets.Node i ≡ targets.Leaf e = s.0 in cc
turn_by a q key i side place w (fork j (negsuc n) l r) s h p g low high ft wh t =
    let e : i ≡ j = ap index_of s.0 in
    let b : (element_at a i).bit ≡ negsuc n = ap (λ m. (element_at a m).bit) e ∙ s.3 in
    let x : None ≡ Some side = sym (ap (λ z. turn_of (element_at a i).key z key) b) ∙ t in
    cc
turn_by a q key i sides.Left place w (fork j (pos b) l r) s h p g low high ft wh t =
    let e : j ≡ i = sym (ap index_of s.0) in
    let bit : (element_at a i).bit ≡ pos b = ap (λ m. (element_at a m).bit) (sym e) ∙ s.3 in
    let is : TurnIs b (element_at a i).key key sides.Left = turn_is (element_at a i).key b key sides.Left (sym (ap (λ z. turn_of (element_at a i).key z key) bit) ∙ t) in
    turn_left a q key i b l r place w (subst (λ m. Hangs a (targets.Node i) place (fork m (pos b) l r)) e s) h (subst (λ m. Split (plug w (fork m (pos b) l r))) e p) g low high ft (subst (λ m. IsRoot a q (Some (plug w (fork m (pos b) l r)))) e wh) is
turn_by a q key i sides.Right place w (fork j (pos b) l r) s h p g low high ft wh t =
    let e : j ≡ i = sym (ap index_of s.0) in
    let bit : (element_at a i).bit ≡ pos b = ap (λ m. (element_at a m).bit) (sym e) ∙ s.3 in
    let is : TurnIs b (element_at a i).key key sides.Right = turn_is (element_at a i).key b key sides.Right (sym (ap (λ z. turn_of (element_at a i).key z key) bit) ∙ t) in
    turn_right a q key i b l r place w (subst (λ m. Hangs a (targets.Node i) place (fork m (pos b) l r)) e s) h (subst (λ m. Split (plug w (fork m (pos b) l r))) e p) g low high ft (subst (λ m. IsRoot a q (Some (plug w (fork m (pos b) l r)))) e wh) is

pub narrow_turn : (a : Parts) (q key i : ℕ) (part next : Target) (e : Element) (side : Side) (n : Narrow a q key part) → targets.Node i ≡ part → e ≡ element_at a i → Some side ≡ turn_of e.key e.bit key → next ≡ child side e → Turned a q key part next (length n.way)
narrow_turn a q key i part next e side n is el t nx =
    let s : turn_of (element_at a i).key (element_at a i).bit key ≡ Some side = ap (λ z. turn_of z.key z.bit key) (sym el) ∙ sym t in
    let u : Turned a q key (targets.Node i) (child side (element_at a i)) (length n.way) = turn_by a q key i side n.place n.way n.tree (subst (λ z. Hangs a z n.place n.tree) (sym is) n.stands) n.leads n.split n.list_is n.low n.high n.fits n.whole s in
    let v : Turned a q key part (child side (element_at a i)) (length n.way) = subst (λ z. Turned a q key z (child side (element_at a i)) (length n.way)) is u in
    subst (λ z. Turned a q key part z (length n.way)) (sym (nx ∙ ap (child side) el)) v

-- what a node on the way down has
pub record NodeHas (a : Parts) (i : ℕ) : Type 0 where
  pub fits : i < length a.elements
  pub bit : IsBit (element_at a i).bit

node_by : (a : Parts) (i : ℕ) (place : Place) (t : Tree) → Hangs a (targets.Node i) place t → Split t → NodeHas a i
node_by a i place (tip e k) s p = let x : targets.Node i ≡ targets.Leaf e = s.0 in cc
node_by a i place (fork j b l r) s p =
    let e : j ≡ i = sym (ap index_of s.0) in
    record {
      fits = subst (λ n. n < length a.elements) e s.1;
      bit = subst IsBit (sym (ap (λ m. (element_at a m).bit) (sym e) ∙ s.3)) p.1;
    }

pub node_has : (a : Parts) (q key i : ℕ) (part : Target) → Narrow a q key part → targets.Node i ≡ part → NodeHas a i
node_has a q key i part n is =
    node_by a i n.place n.tree (subst (λ z. Hangs a z n.place n.tree) (sym is) n.stands) (part_split n.way n.tree n.split)

-- how a part's keys lie where its own key does
pub record Lies (own key : ℕ) (t : Tree) : Type 0 where
  pub same : own ≡ key → Keys (λ x. x ≡ key) t
  pub less : own < key → Keys (λ x. x < key) t
  pub more : key < own → Keys (λ x. key < x) t

-- where all keys are the own key
lies_equal : (own key : ℕ) (t : Tree) → Keys (λ x. x ≡ own) t → Lies own key t
lies_equal own key t h =
    record {
      same = λ e. keys_map (λ x. x ≡ own) (λ x. x ≡ key) t (λ x f. f ∙ e) h;
      less = λ e. keys_map (λ x. x ≡ own) (λ x. x < key) t (λ x f. omega arith) h;
      more = λ e. keys_map (λ x. x ≡ own) (λ x. key < x) t (λ x f. omega arith) h;
    }

-- where the key differs above the bit
apart_above : (b x y q : ℕ) → x / 2 ^ b / 2 ≢ y / 2 ^ b / 2 → x < y → x / 2 ^ b / 2 < y / 2 ^ b / 2
apart_above b x y q n h =
    let f : x / 2 ^ b ≤ y / 2 ^ b = div_le_div x y (2 ^ b) (pow_pos b) (omega arith) in
    let g : x / 2 ^ b / 2 ≤ y / 2 ^ b / 2 = div_le_div (x / 2 ^ b) (y / 2 ^ b) 2 (omega arith) f in
    omega arith

below_above : (b x y : ℕ) → x / 2 ^ b / 2 < y / 2 ^ b / 2 → x < y
below_above b x y h = lt_by_div x y (2 ^ b) (pow_pos b) (lt_by_div (x / 2 ^ b) (y / 2 ^ b) 2 (omega arith) h)

lies_apart : (b q own key : ℕ) (t : Tree) → Keys (λ x. x / 2 ^ b / 2 ≡ q) t → own / 2 ^ b / 2 ≡ q → (key / 2 ^ b / 2 ≡ own / 2 ^ b / 2 → ⊥) → Lies own key t
lies_apart b q own key t h o n =
    record {
      same = λ e. absurd (n (ap (λ z. z / 2 ^ b / 2) (sym e)));
      less = λ e. let s : own / 2 ^ b / 2 < key / 2 ^ b / 2 = apart_above b own key q (λ z. n (sym z)) e in keys_map (λ x. x / 2 ^ b / 2 ≡ q) (λ x. x < key) t (λ x f. below_above b x key (omega arith)) h;
      more = λ e. let s : key / 2 ^ b / 2 < own / 2 ^ b / 2 = apart_above b key own q n e in keys_map (λ x. x / 2 ^ b / 2 ≡ q) (λ x. key < x) t (λ x f. below_above b key x (omega arith)) h;
    }

pub node_lies : (a : Parts) (key i : ℕ) (place : Place) (t : Tree) → Hangs a (targets.Node i) place t → Split t → turn_of (element_at a i).key (element_at a i).bit key ≡ None → Lies (element_at a i).key key t
node_lies a key i place (tip e k) s p t = let x : targets.Node i ≡ targets.Leaf e = s.0 in cc
node_lies a key i place (fork j (negsuc n) l r) s p t =
    let e : j ≡ i = sym (ap index_of s.0) in
    let v : Equals n l r = p.2 in
    let own : ℕ = (element_at a i).key in
    let k : Has (element_at a j).key (fork j (negsuc n) l r) = leaf_key a (fork j (negsuc n) l r) _ place j s p.0 in
    let o : own ≡ v.k = ap (λ m. (element_at a m).key) (sym e) ∙ keys_at (λ x. x ≡ v.k) (fork j (negsuc n) l r) (element_at a j).key (v.left, v.right) k in
    lies_equal own key (fork j (negsuc n) l r) (keys_map (λ x. x ≡ v.k) (λ x. x ≡ own) (fork j (negsuc n) l r) (λ x f. f ∙ sym o) (v.left, v.right))
node_lies a key i place (fork j (pos b) l r) s p t =
    let e : j ≡ i = sym (ap index_of s.0) in
    let d : DividesAt b l r = p.2 in
    let bit : (element_at a i).bit ≡ pos b = ap (λ m. (element_at a m).bit) (sym e) ∙ s.3 in
    let o : (element_at a i).key / 2 ^ b / 2 ≡ d.q = ap (λ m. (element_at a m).key / 2 ^ b / 2) (sym e) ∙ own_above a b j l r _ place d s p in
    lies_apart b d.q (element_at a i).key key (fork j (pos b) l r) (above_bit b l r d) o (turn_none (element_at a i).key b key (sym (ap (λ z. turn_of (element_at a i).key z key) bit) ∙ t))

pub leaf_lies : (a : Parts) (key i : ℕ) (place : Place) (t : Tree) → Hangs a (targets.Leaf i) place t → Lies (element_at a i).key key t
leaf_lies a key i place (tip e k) s = lies_equal (element_at a i).key key (tip e k) (sym s.3 ∙ ap (λ m. (element_at a m).key) (sym (ap index_of s.0)))
leaf_lies a key i place (fork j b l r) s = let x : targets.Leaf i ≡ targets.Node j = s.0 in cc

found_from : (a : Parts) (q key : ℕ) (target : Target) (n : Narrow a q key target) → Lies (own_key a target) key n.tree → IsFound a q key target
found_from a q key target n l =
    record { place = n.place; way = n.way; tree = n.tree; leads = n.leads; stands = n.stands; split = n.split; list_is = n.list_is; low = n.low; high = n.high; same = l.same; less = l.less; more = l.more }

-- where there is no turn at a node, or a leaf, the descent stops
pub stops_node : (a : Parts) (key i : ℕ) (part : Target) (e : Element) → targets.Node i ≡ part → e ≡ element_at a i → None ≡ turn_of e.key e.bit key → Stops a key part
stops_node a key i part e is el t = subst (Stops a key) is (ap (λ z. turn_of z.key z.bit key) (sym el) ∙ sym t)

pub stops_leaf : (a : Parts) (key : ℕ) (part : Target) → (part ≡ targets.Nothing → ⊥) → ((i : ℕ) → part ≡ targets.Node i → ⊥) → Stops a key part
stops_leaf a key targets.Nothing n h = n refl
stops_leaf a key (targets.Leaf i) n h = tt
stops_leaf a key (targets.Node i) n h = absurd (h i refl)

-- how far the descent is
pub record Descends (a : Parts) (q key old now : ℕ) (part : Target) : Type 0 where
  pub narrow : Narrow a q key part
  pub visits : now ≡ old + length narrow.way

start_visits : (a : Parts) (q key old : ℕ) (o : Option Tree) → IsRoot a q o → (link_at a q ≡ targets.Nothing → ⊥) → list_of a q ≡ items_of o → Descends a q key old old (link_at a q)
start_visits a q key old None h n e = absurd (n h)
start_visits a q key old (Some t) h n e =
    record {
      narrow = record { place = root_place a q; way = []; tree = t; leads = refl; stands = h.0; split = h.1; list_is = e ∙ sym (append-nil (items t)); low = tt; high = tt; fits = tt; whole = h };
      visits = omega arith;
    }

pub descends_start : (a : Parts) (q key old : ℕ) (part : Target) → HasShape a → q < length a.links → part ≡ link_at a q → (part ≡ targets.Nothing → ⊥) → Descends a q key old old part
descends_start a q key old part h f e n =
    subst (Descends a q key old old) (sym e) (start_visits a q key old (h.0 q) (h.1.roots q f) (λ x. n (e ∙ x)) (list_of_is a q (h.0 q) (h.1.roots q f)))

pub descends_turn : (a : Parts) (q key old now new i : ℕ) (part next : Target) (e : Element) (side : Side) (d : Descends a q key old now part) → targets.Node i ≡ part → e ≡ element_at a i → Some side ≡ turn_of e.key e.bit key → next ≡ child side e → new ≡ now + 1 → Descends a q key old new next
descends_turn a q key old now new i part next e side d is el t nx k =
    let u : Turned a q key part next (length d.narrow.way) = narrow_turn a q key i part next e side d.narrow is el t nx in
    record { narrow = u.narrow; visits = omega (arith, u.longer, d.visits, k) }

pub reaches : (a : Parts) (q key old now new : ℕ) (part : Target) (d : Descends a q key old now part) → Stops a key part → new ≡ now + 1 → Reaches a q key old new part
reaches a q key old now new part d s k = record { narrow = d.narrow; stops = s; visits = omega (arith, d.visits, k) }

-- what a descent finds
pub reached_found : (a : Parts) (q key old new : ℕ) (part : Target) → Reaches a q key old new part → IsFound a q key part
reached_found a q key old new targets.Nothing r = absurd r.stops
reached_found a q key old new (targets.Leaf i) r = found_from a q key (targets.Leaf i) r.narrow (leaf_lies a key i r.narrow.place r.narrow.tree r.narrow.stands)
reached_found a q key old new (targets.Node i) r =
    found_from a q key (targets.Node i) r.narrow (node_lies a key i r.narrow.place r.narrow.tree r.narrow.stands (part_split r.narrow.way r.narrow.tree r.narrow.split) r.stops)

pub found_or_bare : (a : Parts) (q key old new : ℕ) (o : Option Target) → MatchOption o (IsBare a q old new) (Reaches a q key old new) → MatchOption o (list_of a q ≡ []) (IsFound a q key)
found_or_bare a q key old new None h = ap (list_below a) h.empty
found_or_bare a q key old new (Some part) h = reached_found a q key old new part h

pub reached_or_bare : (a : Parts) (q key old new : ℕ) → old ≡ 0 → (o : Option Target) → MatchOption o (IsBare a q old new) (Reaches a q key old new) → IfSome o (λ part. (taken : ℕ) × Reaches a q key 0 taken part)
reached_or_bare a q key old new z None h = tt
reached_or_bare a q key old new z (Some part) h = (new, subst (λ m. Reaches a q key m new part) z h)

-- a part that was come to is not nothing
pub narrow_some : (a : Parts) (q key : ℕ) (part : Target) → Narrow a q key part → part ≡ targets.Nothing → ⊥
narrow_some a q key part h e = not_nothing a h.place h.tree (subst (λ t. Hangs a t h.place h.tree) e h.stands)
