-- One step up from a place, and the turn onto a node's other side.
use Rattle.std.proofs.Common.{◌≡◌, ◌≢◌, ℕ, ◌+◌, ◌-◌, ◌<◌, ◌≤◌, List, [], ◌∷◌, length, refl, sym, ap, ◌∙◌, subst, arith, tests, ltb, cond, lt-ltb, le-ltb}
use Rattle.std.specs.Prelude.{Some, None, Bool, true, false, nat_lt}
use Rattle.sched_base.specs.KeyedList.{KeyedItem, first_entry}
use Rattle.eb_arena.specs.declared.links.Side.{Side}
use Rattle.eb_arena.specs.declared.links.Side.TheVariants as sides
use Rattle.eb_arena.specs.declared.links.Target.{Target}
use Rattle.eb_arena.specs.declared.links.Place.{Place}
use Rattle.eb_arena.specs.declared.links.Place.TheVariants as places
use Rattle.eb_arena.specs.Links.{place_index, place_side, opposite}
use Rattle.eb_arena.specs.Parts.{Parts, element_at, child}
use Rattle.eb_arena.specs.Shape.{Tree, fork, items, Hangs, Split, list_below}
use Rattle.eb_arena.specs.Way.{Step, from_left, from_right, fill, plug, before, after, Leads}
use Rattle.eb_arena.proofs.Trees.{bit_rank, tree_rank, falls_left, falls_right, rank_fits}
use Rattle.eb_arena.proofs.Reading.{list_below_is}
use Rattle.eb_arena.proofs.Ways.{part_split}
use Rattle.eb32_walk.specs.Ends.{IsTree, IsPlace, end_entry, last_entry, beyond}
use Rattle.eb32_walk.proofs.Firsts.{first_of, last_of}

-- a place that was tested to be at a node
pub at_node : (b : Bool) (i n : ℕ) → b ≡ nat_lt i n → b ≡ true → i < n
at_node b i n e h = let m : nat_lt i n ≡ true = sym e ∙ h in grind (arith, tests, m)

-- a place that was tested to be on a root
pub on_root : (b : Bool) (i n : ℕ) → b ≡ nat_lt i n → b ≡ false → n ≤ i
on_root b i n e h = let m : nat_lt i n ≡ false = sym e ∙ h in grind (arith, tests, m)

-- a way up from the place with these items beyond it on a side
pub record OnWay (a : Parts) (q : ℕ) (place : Place) (side : Side) (xs : List KeyedItem) : Type 0 where
  pub way : List Step
  pub tree : Tree
  pub leads : Leads a q place way
  pub split : Split (plug way tree)
  pub beyond_is : beyond side way ≡ xs

-- how far up a place can lead: the rank of its node, and more at a root
abbrev pub place_rank : Parts → Place → ℕ
place_rank a places.Nowhere = 0
place_rank a (places.Under i s) = cond (ltb i (length a.elements)) (bit_rank (element_at a i).bit) 32801

abbrev pub way_rank : List Step → ℕ
way_rank [] = 32801
way_rank (from_left i b r ∷ w) = bit_rank b
way_rank (from_right i b l ∷ w) = bit_rank b

pub place_rank_is : (a : Parts) (q : ℕ) (place : Place) (w : List Step) → Leads a q place w → place_rank a place ≡ way_rank w
place_rank_is a q place [] h =
    ap (place_rank a) h ∙ ap (λ x. cond x (bit_rank (element_at a (length a.elements + q)).bit) 32801) (le-ltb (length a.elements + q) (length a.elements) (omega arith))
place_rank_is a q place (from_left i b r ∷ w) h =
    ap (place_rank a) h.0 ∙ (ap (λ x. cond x (bit_rank (element_at a i).bit) 32801) (lt-ltb i (length a.elements) h.1) ∙ ap bit_rank h.2)
place_rank_is a q place (from_right i b r ∷ w) h =
    ap (place_rank a) h.0 ∙ (ap (λ x. cond x (bit_rank (element_at a i).bit) 32801) (lt-ltb i (length a.elements) h.1) ∙ ap bit_rank h.2)

-- a way rises over the tree at its foot
pub way_rises : (w : List Step) (t : Tree) → Split (plug w t) → tree_rank t < way_rank w
way_rises [] t s = rank_fits t s
way_rises (from_left i b r ∷ w) t s = falls_left i b t r (part_split w (fork i b t r) s)
way_rises (from_right i b l ∷ w) t s = falls_right i b l t (part_split w (fork i b l t) s)

pub way_fits : (w : List Step) (t : Tree) → Split (plug w t) → way_rank w ≤ 32801
way_fits [] t s = omega arith
way_fits (from_left i b r ∷ w) t s = let x : bit_rank b < 32801 = rank_fits (fork i b t r) (part_split w (fork i b t r) s) in omega arith
way_fits (from_right i b l ∷ w) t s = let x : bit_rank b < 32801 = rank_fits (fork i b l t) (part_split w (fork i b l t) s) in omega arith

-- a place on a way is at a side of a node or of a root
pub place_is : (a : Parts) (q : ℕ) (place : Place) (w : List Step) → Leads a q place w → place ≡ places.Under (place_index place) (place_side place)
place_is a q places.Nowhere [] h = let x : places.Nowhere ≡ places.Under (length a.elements + q) sides.Left = h in cc
place_is a q places.Nowhere (from_left i b r ∷ w) h = let x : places.Nowhere ≡ places.Under i sides.Left = h.0 in cc
place_is a q places.Nowhere (from_right i b r ∷ w) h = let x : places.Nowhere ≡ places.Under i sides.Right = h.0 in cc
place_is a q (places.Under i s) w h = refl

-- one step up from a node's side
pub record Climb (a : Parts) (q : ℕ) (place : Place) : Type 0 where
  pub way : List Step
  pub tree : Tree
  pub leads : Leads a q (element_at a (place_index place)).node_p way
  pub split : Split (plug way tree)
  pub rises : place_rank a place < place_rank a (element_at a (place_index place)).node_p
  pub fits : place_rank a (element_at a (place_index place)).node_p ≤ 32801

climbed : (a : Parts) (q : ℕ) (place up : Place) (s : Step) (w : List Step) (t : Tree) → Leads a q place (s ∷ w) → Leads a q up w → Split (plug (s ∷ w) t) → way_rank (s ∷ w) ≡ tree_rank (fill s t) → (place_rank a place < place_rank a up) × (place_rank a up ≤ 32801)
climbed a q place up s w t h g p e =
    let x : place_rank a place ≡ way_rank (s ∷ w) = place_rank_is a q place (s ∷ w) h in
    let y : place_rank a up ≡ way_rank w = place_rank_is a q up w g in
    let z : tree_rank (fill s t) < way_rank w = way_rises w (fill s t) p in
    let v : way_rank w ≤ 32801 = way_fits w (fill s t) p in
    (omega arith, omega arith)

pub climb : (a : Parts) (q : ℕ) (place : Place) (w : List Step) (t : Tree) → Leads a q place w → Split (plug w t) → place_index place < length a.elements → Climb a q place
climb a q place [] t h p f = let x : place_index place ≡ length a.elements + q = ap place_index h in absurd (omega arith)
climb a q place (from_left i b r ∷ w) t h p f =
    let x : place_index place ≡ i = ap place_index h.0 in
    let up : Leads a q (element_at a (place_index place)).node_p w = subst (λ n. Leads a q (element_at a n).node_p w) (sym x) h.4 in
    let c : (place_rank a place < place_rank a (element_at a (place_index place)).node_p) × (place_rank a (element_at a (place_index place)).node_p ≤ 32801) = climbed a q place _ (from_left i b r) w t h up p refl in
    record { way = w; tree = fork i b t r; leads = up; split = p; rises = c.0; fits = c.1 }
climb a q place (from_right i b l ∷ w) t h p f =
    let x : place_index place ≡ i = ap place_index h.0 in
    let up : Leads a q (element_at a (place_index place)).node_p w = subst (λ n. Leads a q (element_at a n).node_p w) (sym x) h.4 in
    let c : (place_rank a place < place_rank a (element_at a (place_index place)).node_p) × (place_rank a (element_at a (place_index place)).node_p ≤ 32801) = climbed a q place _ (from_right i b l) w t h up p refl in
    record { way = w; tree = fork i b l t; leads = up; split = p; rises = c.0; fits = c.1 }

same_by_way : (a : Parts) (q : ℕ) (place : Place) (xs : List KeyedItem) (w : List Step) (side : Side) (t : Tree) → Leads a q place w → Split (plug w t) → beyond side w ≡ xs → place_index place < length a.elements → place_side place ≡ side → OnWay a q (element_at a (place_index place)).node_p side xs
same_by_way a q place xs [] side t h p b f e = let x : place_index place ≡ length a.elements + q = ap place_index h in absurd (omega arith)
same_by_way a q place xs (from_left i b r ∷ w) sides.Left t h p g f e =
    let x : place_index place ≡ i = ap place_index h.0 in
    record { way = w; tree = fork i b t r; leads = subst (λ n. Leads a q (element_at a n).node_p w) (sym x) h.4; split = p; beyond_is = g }
same_by_way a q place xs (from_left i b r ∷ w) sides.Right t h p g f e = let x : sides.Left ≡ sides.Right = sym (ap place_side h.0) ∙ e in cc
same_by_way a q place xs (from_right i b l ∷ w) sides.Left t h p g f e = let x : sides.Right ≡ sides.Left = sym (ap place_side h.0) ∙ e in cc
same_by_way a q place xs (from_right i b l ∷ w) sides.Right t h p g f e =
    let x : place_index place ≡ i = ap place_index h.0 in
    record { way = w; tree = fork i b l t; leads = subst (λ n. Leads a q (element_at a n).node_p w) (sym x) h.4; split = p; beyond_is = g }

-- from a side of a node, the items beyond it on that side are those beyond the node
pub same_side : (a : Parts) (q : ℕ) (place : Place) (side : Side) (xs : List KeyedItem) → OnWay a q place side xs → place_index place < length a.elements → place_side place ≡ side → OnWay a q (element_at a (place_index place)).node_p side xs
same_side a q place side xs o f e = same_by_way a q place xs o.way side o.tree o.leads o.split o.beyond_is f e

-- on the other side of a node is a tree, whose near end is next
pub record OtherSide (a : Parts) (place : Place) (side : Side) (xs : List KeyedItem) : Type 0 where
  pub is_tree : IsTree a (child side (element_at a (place_index place)))
  pub next : (e : ℕ) → end_entry (opposite side) (list_below a (child side (element_at a (place_index place)))) ≡ Some e → end_entry (opposite side) xs ≡ Some e

other_by_way : (a : Parts) (q : ℕ) (place : Place) (xs : List KeyedItem) (w : List Step) (side : Side) (t : Tree) → Leads a q place w → Split (plug w t) → beyond side w ≡ xs → place_index place < length a.elements → (place_side place ≡ side → ⊥) → OtherSide a place side xs
other_by_way a q place xs [] side t h p b f n = let x : place_index place ≡ length a.elements + q = ap place_index h in absurd (omega arith)
other_by_way a q place xs (from_left i b r ∷ w) sides.Left t h p g f n = absurd (n (ap place_side h.0))
other_by_way a q place xs (from_left i b r ∷ w) sides.Right t h p g f n =
    let x : i ≡ place_index place = sym (ap place_index h.0) in
    let j : ℕ = place_index place in
    let s : Hangs a (element_at a j).right (places.Under j sides.Right) r = subst (λ n. Hangs a (element_at a n).right (places.Under n sides.Right) r) x h.3 in
    let k : Split r = (part_split w (fork i b t r) p).4 in
    let away : places.Under j sides.Right ≢ places.Nowhere = λ z. cc in
    record {
      is_tree = record { place = places.Under j sides.Right; tree = r; hangs = away; stands = s; split = k };
      next = λ e z. ap first_entry (sym g) ∙ first_of (items r) (after w) e (sym (ap first_entry (list_below_is a _ _ r s k)) ∙ z);
    }
other_by_way a q place xs (from_right i b l ∷ w) sides.Right t h p g f n = absurd (n (ap place_side h.0))
other_by_way a q place xs (from_right i b l ∷ w) sides.Left t h p g f n =
    let x : i ≡ place_index place = sym (ap place_index h.0) in
    let j : ℕ = place_index place in
    let s : Hangs a (element_at a j).left (places.Under j sides.Left) l = subst (λ n. Hangs a (element_at a n).left (places.Under n sides.Left) l) x h.3 in
    let k : Split l = (part_split w (fork i b l t) p).3 in
    let away : places.Under j sides.Left ≢ places.Nowhere = λ z. cc in
    record {
      is_tree = record { place = places.Under j sides.Left; tree = l; hangs = away; stands = s; split = k };
      next = λ e z. ap last_entry (sym g) ∙ last_of (before w) (items l) e (sym (ap last_entry (list_below_is a _ _ l s k)) ∙ z);
    }

pub other_side : (a : Parts) (q : ℕ) (place : Place) (side : Side) (xs : List KeyedItem) → OnWay a q place side xs → place_index place < length a.elements → (place_side place ≡ side → ⊥) → OtherSide a place side xs
other_side a q place side xs o f n = other_by_way a q place xs o.way side o.tree o.leads o.split o.beyond_is f n

root_by_way : (a : Parts) (q : ℕ) (place : Place) (xs : List KeyedItem) (w : List Step) (side : Side) → Leads a q place w → beyond side w ≡ xs → length a.elements ≤ place_index place → xs ≡ []
root_by_way a q place xs [] sides.Left h b f = sym b
root_by_way a q place xs [] sides.Right h b f = sym b
root_by_way a q place xs (from_left i b r ∷ w) side h g f = let x : place_index place ≡ i = ap place_index h.0 in let y : i < length a.elements = h.1 in absurd (omega arith)
root_by_way a q place xs (from_right i b r ∷ w) side h g f = let x : place_index place ≡ i = ap place_index h.0 in let y : i < length a.elements = h.1 in absurd (omega arith)

-- at a root nothing is beyond
pub at_root : (a : Parts) (q : ℕ) (place : Place) (side : Side) (xs : List KeyedItem) → OnWay a q place side xs → length a.elements ≤ place_index place → xs ≡ []
at_root a q place side xs o f = root_by_way a q place xs o.way side o.leads o.beyond_is f

-- each way up from the first place goes on from the second, with the same beyond
abbrev pub StillOn : Parts → Place → Place → Side → Type 0
StillOn a up place side = (q : ℕ) (w : List Step) (t : Tree) → Leads a q up w → Split (plug w t) → OnWay a q place side (beyond side w)

pub still_on-start : (a : Parts) (up : Place) (side : Side) → StillOn a up up side
still_on-start a up side q w t h p = record { way = w; tree = t; leads = h; split = p; beyond_is = refl }

pub still_on-up : (a : Parts) (up place next : Place) (side : Side) → StillOn a up place side → place_index place < length a.elements → place_side place ≡ side → next ≡ (element_at a (place_index place)).node_p → StillOn a up next side
still_on-up a up place next side s f e n q w t h p = subst (λ o. OnWay a q o side (beyond side w)) (sym n) (same_side a q place side (beyond side w) (s q w t h p) f e)

-- the place that was reached is one
pub reached : (a : Parts) (up place : Place) (side : Side) → IsPlace a up → StillOn a up place side → IsPlace a place
reached a up place side h s =
    let o : OnWay a h.root place side (beyond side h.way) = s h.root h.way h.tree h.leads h.split in
    record { root = h.root; way = o.way; tree = o.tree; leads = o.leads; split = o.split }

pub somewhere : (a : Parts) (place : Place) → IsPlace a place → place ≡ places.Nowhere → ⊥
somewhere a place h e = let x : place ≡ places.Under (place_index place) (place_side place) = place_is a h.root place h.way h.leads in cc

pub climbs : (a : Parts) (place next : Place) → IsPlace a place → place_index place < length a.elements → next ≡ (element_at a (place_index place)).node_p → 32801 - place_rank a next < 32801 - place_rank a place
climbs a place next h f n =
    let c : Climb a h.root place = climb a h.root place h.way h.tree h.leads h.split f in
    let e : place_rank a next ≡ place_rank a (element_at a (place_index place)).node_p = ap (place_rank a) n in
    let x : place_rank a place < place_rank a (element_at a (place_index place)).node_p = c.rises in
    let y : place_rank a (element_at a (place_index place)).node_p ≤ 32801 = c.fits in
    omega arith

-- the tree on the other side, where the climb turns
pub turned : (a : Parts) (up place : Place) (side : Side) (next : Target) → IsPlace a up → StillOn a up place side → place_index place < length a.elements → (place_side place ≡ side → ⊥) → next ≡ child side (element_at a (place_index place)) → IsTree a next
turned a up place side next h s f n e =
    let o : OnWay a h.root place side (beyond side h.way) = s h.root h.way h.tree h.leads h.split in
    subst (IsTree a) (sym e) (other_side a h.root place side (beyond side h.way) o f n).is_tree

-- what is found there is next on each way
pub turn_finds : (a : Parts) (up place : Place) (side : Side) (next : Target) (e : ℕ) → StillOn a up place side → place_index place < length a.elements → (place_side place ≡ side → ⊥) → next ≡ child side (element_at a (place_index place)) → end_entry (opposite side) (list_below a next) ≡ Some e → (q : ℕ) (w : List Step) (t : Tree) → Leads a q up w → Split (plug w t) → Some e ≡ end_entry (opposite side) (beyond side w)
turn_finds a up place side next e s f n is h q w t l p =
    sym ((other_side a q place side (beyond side w) (s q w t l p) f n).next e (ap (λ x. end_entry (opposite side) (list_below a x)) (sym is) ∙ h))

no_end : (side : Side) → end_entry side [] ≡ None
no_end sides.Left = refl
no_end sides.Right = refl

-- at a root nothing is found
pub root_finds : (a : Parts) (up place : Place) (side : Side) → StillOn a up place side → length a.elements ≤ place_index place → (q : ℕ) (w : List Step) (t : Tree) → Leads a q up w → Split (plug w t) → None ≡ end_entry (opposite side) (beyond side w)
root_finds a up place side s f q w t l p =
    sym (ap (end_entry (opposite side)) (at_root a q place side (beyond side w) (s q w t l p) f) ∙ no_end (opposite side))

right_by_way : (a : Parts) (q : ℕ) (place : Place) (w : List Step) → Leads a q place w → place_side place ≡ sides.Right → place_index place < length a.elements
right_by_way a q place [] h e = let x : sides.Left ≡ sides.Right = sym (ap place_side h) ∙ e in cc
right_by_way a q place (from_left i b r ∷ w) h e = let x : place_index place ≡ i = ap place_index h.0 in let y : i < length a.elements = h.1 in omega arith
right_by_way a q place (from_right i b l ∷ w) h e = let x : place_index place ≡ i = ap place_index h.0 in let y : i < length a.elements = h.1 in omega arith
