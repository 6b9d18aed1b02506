-- The walk down a right spine to the slot for a new node.
use Rattle.std.proofs.Common.{◌≡◌, ℕ, suc, inl, inr, ◌+◌, ◌*◌, ◌^◌, ◌<◌, ◌≤◌, List, [], ◌∷◌, ◌++◌, length, refl, sym, ap, ◌∙◌, subst, arith, unsigned_abs}
use Rattle.std.specs.Prelude.{pos, negsuc}
use Rattle.std.proofs.lemmas.Bool.{cases_lt}
use Rattle.std.proofs.lemmas.Nat.{pow-add}
use Rattle.eb_arena.proofs.Ways.{part_split}
use Rattle.eb_arena.proofs.Reading.{same_tree}
use Rattle.eb_arena.specs.declared.links.Side.TheVariants as sides
use Rattle.eb_arena.specs.declared.links.Target.{Target}
use Rattle.eb_arena.specs.declared.links.Target.TheVariants as targets
use Rattle.eb_arena.specs.declared.links.Place.{Place}
use Rattle.eb_arena.specs.declared.links.Place.TheVariants as places
use Rattle.eb_arena.specs.Links.{index_of}
use Rattle.eb_arena.specs.Parts.{Parts, element_at}
use Rattle.eb_arena.specs.Shape.{Tree, tip, fork, Hangs, Split, IsBelow, Equals}
use Rattle.eb_arena.proofs.Unique.{nothing_stands}
use Rattle.eb_arena.specs.Way.{Step, from_right, plug, Leads}
use Rattle.eb_dups.specs.Spine.{IsTwins, spine_value, spine_length, depth, depth_of, IsSpine, HasGap, IsTwinTree, IsSlot}
use Rattle.eb_dups.specs.Added.{VisitsSpine}

pub depth_of_is : (a : Parts) (target : Target) (place : Place) (t : Tree) → Hangs a target place t → depth_of a target ≡ depth t
depth_of_is a target place (tip e k) s = ap (depth_of a) s.0
depth_of_is a target place (fork i b l r) s = ap (depth_of a) s.0 ∙ ap unsigned_abs s.3

-- how far the walk is: from the head down to here, with the slot in between
pub record Walk (a : Parts) (head slot here : Target) : Type 0 where
  pub place : Place
  pub tree : Tree
  pub stands : Hangs a head place tree
  pub split : Split tree
  pub at_steps : List Step
  pub at : Tree
  pub at_place : Place
  pub at_stands : Hangs a here at_place at
  pub at_split : Split at
  pub at_is : tree ≡ plug at_steps at
  pub at_spine : IsSpine at_steps
  pub at_leads : (q : ℕ) (w : List Step) → Leads a q place w → Leads a q at_place (at_steps ++ w)
  pub at_twins : IsTwins at
  pub steps : List Step
  pub part : Tree
  pub part_place : Place
  pub part_stands : Hangs a slot part_place part
  pub part_is : tree ≡ plug steps part
  pub spine : IsSpine steps
  pub leads : (q : ℕ) (w : List Step) → Leads a q place w → Leads a q part_place (steps ++ w)
  pub gap : HasGap steps part
  pub twins : IsTwins part
  pub run : spine_value part + 2 ^ depth at ≡ spine_value at + 2 ^ depth part

pub walk_start : (a : Parts) (head : Target) → IsTwinTree a head → Walk a head head head
walk_start a head h =
    record {
      place = h.place;
      tree = h.tree;
      stands = h.stands;
      split = h.split;
      at_steps = [];
      at = h.tree;
      at_place = h.place;
      at_stands = h.stands;
      at_split = h.split;
      at_is = refl;
      at_spine = tt;
      at_leads = λ q w l. l;
      at_twins = h.twins;
      steps = [];
      part = h.tree;
      part_place = h.place;
      part_stands = h.stands;
      part_is = refl;
      spine = tt;
      leads = λ q w l. l;
      gap = tt;
      twins = h.twins;
      run = refl;
    }

below_twins : (n : ℕ) (t : Tree) → IsBelow n t → IsTwins t
below_twins n (tip e k) h = tt
below_twins n (fork i (pos b) l r) h = h
below_twins n (fork i (negsuc m) l r) h = tt

pub below_depth : (n : ℕ) (t : Tree) → IsBelow n t → depth t ≤ n
below_depth n (tip e k) h = omega arith
below_depth n (fork i (pos b) l r) h = absurd h
below_depth n (fork i (negsuc m) l r) h = omega (arith, h)

-- what a node of the spine has
pub record Spot (a : Parts) (head slot : Target) (i : ℕ) : Type 0 where
  pub fits : i < length a.elements
  pub down_fits : index_of (element_at a i).right < length a.elements
  pub n : ℕ
  pub here_depth : depth_of a (targets.Node i) ≡ suc n
  pub bound : n < 32768
  pub down_depth : depth_of a (element_at a i).right ≤ n
  pub slot_down : depth_of a (element_at a i).right < n → Walk a head (element_at a i).right (element_at a i).right
  pub slot_stays : (depth_of a (element_at a i).right < n → ⊥) → Walk a head slot (element_at a i).right

pub index_fits : (a : Parts) (target : Target) (place : Place) (t : Tree) → Hangs a target place t → index_of target < length a.elements
index_fits a target place (tip e k) s = subst (λ n. n < length a.elements) (sym (ap index_of s.0)) s.1
index_fits a target place (fork i b l r) s = subst (λ n. n < length a.elements) (sym (ap index_of s.0)) s.1

spot_at : (a : Parts) (head slot : Target) (i n : ℕ) (l r : Tree) (w : Walk a head slot (targets.Node i)) → w.at ≡ fork i (negsuc n) l r → Spot a head slot i
spot_at a head slot i n l r w e =
    let h : Hangs a (targets.Node i) w.at_place (fork i (negsuc n) l r) = subst (Hangs a (targets.Node i) w.at_place) e w.at_stands in
    let p : Split (fork i (negsuc n) l r) = subst Split e w.at_split in
    let v : Equals n l r = p.2 in
    let down : Target = (element_at a i).right in
    let dd : depth_of a down ≡ depth r = depth_of_is a down _ r h.5 in
    let le : depth r ≤ n = below_depth n r v.right_below in
    let is : w.tree ≡ plug (from_right i (negsuc n) l ∷ w.at_steps) r = w.at_is ∙ ap (plug w.at_steps) e in
    let go : (q : ℕ) (v : List Step) → Leads a q w.place v → Leads a q (places.Under i sides.Right) (from_right i (negsuc n) l ∷ (w.at_steps ++ v)) = λ q v k. (refl, h.1, h.3, h.4, subst (λ y. Leads a q y (w.at_steps ++ v)) (sym h.2) (w.at_leads q v k)) in
    record {
      fits = h.1;
      down_fits = index_fits a down _ r h.5;
      n = n;
      here_depth = ap unsigned_abs h.3;
      bound = p.1;
      down_depth = omega (arith, dd);
      slot_down = λ lt. record {
        place = w.place;
        tree = w.tree;
        stands = w.stands;
        split = w.split;
        at_steps = from_right i (negsuc n) l ∷ w.at_steps;
        at = r;
        at_place = places.Under i sides.Right;
        at_stands = h.5;
        at_split = p.4;
        at_is = is;
        at_spine = w.at_spine;
        at_leads = go;
        at_twins = below_twins n r v.right_below;
        steps = from_right i (negsuc n) l ∷ w.at_steps;
        part = r;
        part_place = places.Under i sides.Right;
        part_stands = h.5;
        part_is = is;
        spine = w.at_spine;
        leads = go;
        gap = omega (arith, dd, lt);
        twins = below_twins n r v.right_below;
        run = refl;
      };
      slot_stays = λ ge.
          let eq : depth r ≡ n = omega (arith, dd, ge) in
          let one_more : suc n ≡ n + 1 = omega arith in
          let two : 2 ^ suc n ≡ 2 ^ n * 2 ^ 1 = ap (λ y. 2 ^ y) one_more ∙ pow-add 2 n 1 in
          let old : spine_value w.part + 2 ^ suc n ≡ 2 ^ n + spine_value r + 2 ^ depth w.part = ap (λ y. spine_value w.part + 2 ^ depth y) (sym e) ∙ (w.run ∙ ap (λ y. spine_value y + 2 ^ depth w.part) e) in
          let same : 2 ^ depth r ≡ 2 ^ n = ap (λ y. 2 ^ y) eq in
          record {
            place = w.place;
            tree = w.tree;
            stands = w.stands;
            split = w.split;
            at_steps = from_right i (negsuc n) l ∷ w.at_steps;
            at = r;
            at_place = places.Under i sides.Right;
            at_stands = h.5;
            at_split = p.4;
            at_is = is;
            at_spine = w.at_spine;
            at_leads = go;
            at_twins = below_twins n r v.right_below;
            steps = w.steps;
            part = w.part;
            part_place = w.part_place;
            part_stands = w.part_stands;
            part_is = w.part_is;
            spine = w.spine;
            leads = w.leads;
            gap = w.gap;
            twins = w.twins;
            run = omega (arith, two, old, same);
          };
    }

spot_by : (a : Parts) (head slot : Target) (i : ℕ) (w : Walk a head slot (targets.Node i)) (t : Tree) → w.at ≡ t → Spot a head slot i
spot_by a head slot i w (tip e k) h =
    let s : Hangs a (targets.Node i) w.at_place (tip e k) = subst (Hangs a (targets.Node i) w.at_place) h w.at_stands in
    let x : targets.Node i ≡ targets.Leaf e = s.0 in
    cc
spot_by a head slot i w (fork j (pos b) l r) h = absurd (subst IsTwins h w.at_twins)
spot_by a head slot i w (fork j (negsuc n) l r) h =
    let s : Hangs a (targets.Node i) w.at_place (fork j (negsuc n) l r) = subst (Hangs a (targets.Node i) w.at_place) h w.at_stands in
    spot_at a head slot i n l r w (h ∙ ap (λ m. fork m (negsuc n) l r) (sym (ap index_of s.0)))

pub spot : (a : Parts) (head slot here : Target) (i : ℕ) → Walk a head slot here → targets.Node i ≡ here → Spot a head slot i
spot a head slot here i w e =
    let v : Walk a head slot (targets.Node i) = subst (Walk a head slot) (sym e) w in
    spot_by a head slot i v v.at refl

end_by : (a : Parts) (head slot here : Target) (w : Walk a head slot here) (t : Tree) → w.at ≡ t → ((i : ℕ) → here ≡ targets.Node i → ⊥) → IsSlot a head slot
end_by a head slot here w (fork j b l r) h n =
    let s : Hangs a here w.at_place (fork j b l r) = subst (Hangs a here w.at_place) h w.at_stands in
    absurd (n j s.0)
end_by a head slot here w (tip e k) h n =
    record {
      place = w.place;
      tree = w.tree;
      stands = w.stands;
      split = w.split;
      steps = w.steps;
      part = w.part;
      part_place = w.part_place;
      part_stands = w.part_stands;
      part_is = w.part_is;
      spine = w.spine;
      leads = w.leads;
      gap = w.gap;
      twins = w.twins;
      full = let x : spine_value w.part + 2 ^ depth (tip e k) ≡ spine_value (tip e k) + 2 ^ depth w.part = ap (λ y. spine_value w.part + 2 ^ depth y) (sym h) ∙ (w.run ∙ ap (λ y. spine_value y + 2 ^ depth w.part) h) in let y : spine_value w.part + 1 ≡ 0 + 2 ^ depth w.part = x in omega (arith, y);
    }

pub walk_end : (a : Parts) (head slot here : Target) → Walk a head slot here → ((i : ℕ) → here ≡ targets.Node i → ⊥) → IsSlot a head slot
walk_end a head slot here w n = end_by a head slot here w w.at refl n

pub here_fits : (a : Parts) (head slot here : Target) → Walk a head slot here → index_of here < length a.elements
here_fits a head slot here w = index_fits a here w.at_place w.at w.at_stands

-- where the walk is, there is a part
pub here_some : (a : Parts) (head slot here : Target) → Walk a head slot here → here ≡ targets.Nothing → ⊥
here_some a head slot here w e = nothing_stands a w.at_place w.at (subst (λ t. Hangs a t w.at_place w.at) e w.at_stands)

-- a step down the spine from a node, of the depths that were read
pub record SpineStep (a : Parts) (head slot next : Target) (deep low : ℕ) : Type 0 where
  pub slot_down : low + 1 < deep → Walk a head next next
  pub slot_stays : deep ≤ low + 1 → Walk a head slot next

pub step_down : (a : Parts) (head slot here next : Target) (i deep low : ℕ) → Walk a head slot here → targets.Node i ≡ here → next ≡ (element_at a i).right → deep ≡ depth_of a here → low ≡ depth_of a next → SpineStep a head slot next deep low
step_down a head slot here next i deep low w n e d b =
    let s : Spot a head slot i = spot a head slot here i w n in
    let h : depth_of a here ≡ suc s.n = ap (depth_of a) (sym n) ∙ s.here_depth in
    let r : low ≡ depth_of a (element_at a i).right = b ∙ ap (depth_of a) e in
    record {
      slot_down = λ lt. subst (λ t. Walk a head t t) (sym e) (s.slot_down (omega (arith, lt, d, h, r)));
      slot_stays = λ ge. subst (Walk a head slot) (sym e) (s.slot_stays (λ lt. omega (arith, lt, ge, d, h, r)));
    }

-- where the walk is, there is a tree of equal keys
pub here_twins : (a : Parts) (head slot here : Target) → Walk a head slot here → IsTwinTree a here
here_twins a head slot here w = record { place = w.at_place; tree = w.at; stands = w.at_stands; split = w.at_split; twins = w.at_twins }

-- and so there is a step further down
pub next_twins : (a : Parts) (head slot here next : Target) (i : ℕ) → Walk a head slot here → targets.Node i ≡ here → next ≡ (element_at a i).right → IsTwinTree a next
next_twins a head slot here next i w n e =
    let s : Spot a head slot i = spot a head slot here i w n in
    let t : IsTwinTree a (element_at a i).right = elim (cases_lt (depth_of a (element_at a i).right) s.n) [
      | inl lt ↦ here_twins a head (element_at a i).right (element_at a i).right (s.slot_down lt)
      | inr le ↦ here_twins a head slot (element_at a i).right (s.slot_stays (λ lt. omega (arith, lt, le)))
    ] in
    subst (IsTwinTree a) (sym e) t

-- how many elements of the spine were visited: all from the head down to here
pub record Counted (a : Parts) (head here : Target) (old now : ℕ) : Type 0 where
  pub place : Place
  pub tree : Tree
  pub stands : Hangs a head place tree
  pub at : Tree
  pub at_place : Place
  pub at_stands : Hangs a here at_place at
  pub taken : now + spine_length at ≡ old + (spine_length tree + 1)

pub count_start : (a : Parts) (head : Target) (old now : ℕ) → IsTwinTree a head → now ≡ old + 1 → Counted a head head old now
count_start a head old now h e =
    record { place = h.place; tree = h.tree; stands = h.stands; at = h.tree; at_place = h.place; at_stands = h.stands; taken = omega (arith, e) }

count_at : (a : Parts) (head here : Target) (i old now : ℕ) (c : Counted a head here old now) (t : Tree) → Hangs a here c.at_place t → IsTwins t → c.at ≡ t → here ≡ targets.Node i → Counted a head (element_at a i).right old (now + 1)
count_at a head here i old now c (tip e k) s w h n = let x : targets.Leaf e ≡ targets.Node i = sym s.0 ∙ n in cc
count_at a head here i old now c (fork j (pos b) l r) s w h n = absurd w
count_at a head here i old now c (fork j (negsuc m) l r) s w h n =
    let e : j ≡ i = ap index_of (sym s.0 ∙ n) in
    let k : spine_length c.at ≡ spine_length r + 1 = ap spine_length h in
    let t : now + spine_length c.at ≡ old + (spine_length c.tree + 1) = c.taken in
    record {
      place = c.place;
      tree = c.tree;
      stands = c.stands;
      at = r;
      at_place = places.Under i sides.Right;
      at_stands = subst (λ x. Hangs a (element_at a x).right (places.Under x sides.Right) r) e s.5;
      taken = omega (arith, k, t);
    }

pub count_down : (a : Parts) (head here next : Target) (i old now new : ℕ) → Counted a head here old now → IsTwinTree a here → targets.Node i ≡ here → next ≡ (element_at a i).right → new ≡ now + 1 → Counted a head next old new
count_down a head here next i old now new c w n e k =
    let same : c.at ≡ w.tree = same_tree a c.at w.tree here c.at_place w.place c.at_stands w.stands in
    let x : Counted a head (element_at a i).right old (now + 1) = count_at a head here i old now c w.tree (subst (Hangs a here c.at_place) same c.at_stands) w.twins same (sym n) in
    subst (λ m. Counted a head next old m) (sym k) (subst (λ t. Counted a head t old (now + 1)) (sym e) x)

count_last : (a : Parts) (head here : Target) (old now : ℕ) (c : Counted a head here old now) (t : Tree) → Hangs a here c.at_place t → c.at ≡ t → ((i : ℕ) → here ≡ targets.Node i → ⊥) → now ≡ old + (spine_length c.tree + 1)
count_last a head here old now c (tip e k) s h n =
    let x : spine_length c.at ≡ 0 = ap spine_length h in
    let t : now + spine_length c.at ≡ old + (spine_length c.tree + 1) = c.taken in
    omega (arith, x, t)
count_last a head here old now c (fork j b l r) s h n = absurd (n j s.0)

pub count_end : (a : Parts) (head here : Target) (old now : ℕ) → Counted a head here old now → ((i : ℕ) → here ≡ targets.Node i → ⊥) → VisitsSpine a head old now
count_end a head here old now c n place tree s =
    let same : c.tree ≡ tree = same_tree a c.tree tree head c.place place c.stands s in
    count_last a head here old now c c.at c.at_stands refl n ∙ ap (λ t. old + (spine_length t + 1)) same
