-- One step down a tree, on one of its sides.
use Rattle.std.proofs.Common.{◌≡◌, ◌≢◌, ℕ, ◌<◌, [], ◌∷◌, ◌++◌, length, refl, sym, ap, ◌∙◌, subst, arith}
use Rattle.std.specs.Prelude.{Some}
use Rattle.sched_base.specs.KeyedList.{KeyedItem, first_entry}
use Rattle.eb_arena.specs.declared.links.Side.{Side}
use Rattle.eb_arena.specs.declared.links.Side.TheVariants as sides
use Rattle.eb_arena.specs.declared.links.Target.{Target}
use Rattle.eb_arena.specs.declared.links.Target.TheVariants as targets
use Rattle.eb_arena.specs.declared.links.Place.{Place}
use Rattle.eb_arena.specs.declared.links.Place.TheVariants as places
use Rattle.eb_arena.specs.Links.{index_of}
use Rattle.eb_arena.specs.Parts.{Parts, element_at, child}
use Rattle.eb_arena.specs.Shape.{Tree, tip, fork, items, Hangs, Split, list_below}
use Rattle.eb_arena.proofs.Trees.{bit_rank, tree_rank, falls_left, falls_right}
use Rattle.eb_arena.proofs.Reading.{list_below_is}
use Rattle.eb32_walk.specs.Ends.{IsIn, IsTree, end_entry, last_entry}
use Rattle.eb32_walk.proofs.Firsts.{first_of, last_of}

-- how far down a target can lead
abbrev pub target_rank : Parts → Target → ℕ
target_rank a targets.Nothing = 0
target_rank a (targets.Leaf i) = 0
target_rank a (targets.Node i) = bit_rank (element_at a i).bit

pub target_rank_is : (a : Parts) (target : Target) (place : Place) (t : Tree) → Hangs a target place t → target_rank a target ≡ tree_rank t
target_rank_is a target place (tip e k) s = ap (target_rank a) s.0
target_rank_is a target place (fork i b l r) s = ap (target_rank a) s.0 ∙ ap bit_rank s.3

-- every tree has an entry at either end
pub has_first : (t : Tree) → (e : ℕ) × (first_entry (items t) ≡ Some e)
has_first (tip e k) = (e, refl)
has_first (fork i b l r) = let s : (e : ℕ) × (first_entry (items l) ≡ Some e) = has_first l in (s.0, first_of (items l) (items r) s.0 s.1)

pub has_last : (t : Tree) → (e : ℕ) × (last_entry (items t) ≡ Some e)
has_last (tip e k) = (e, refl)
has_last (fork i b l r) = let s : (e : ℕ) × (last_entry (items r) ≡ Some e) = has_last r in (s.0, last_of (items l) (items r) s.0 s.1)

-- what is found at a node's side, and that it has the same end
pub record EndStep (a : Parts) (side : Side) (i : ℕ) : Type 0 where
  pub is_tree : IsTree a (child side (element_at a i))
  pub same : end_entry side (list_below a (child side (element_at a i))) ≡ end_entry side (list_below a (targets.Node i))
  pub falls : target_rank a (child side (element_at a i)) < bit_rank (element_at a i).bit
  pub fits : i < length a.elements

end_first : (l r : Tree) → first_entry (items l ++ items r) ≡ first_entry (items l)
end_first l r = let s : (e : ℕ) × (first_entry (items l) ≡ Some e) = has_first l in first_of (items l) (items r) s.0 s.1 ∙ sym s.1

end_last : (l r : Tree) → last_entry (items l ++ items r) ≡ last_entry (items r)
end_last l r = let s : (e : ℕ) × (last_entry (items r) ≡ Some e) = has_last r in last_of (items l) (items r) s.0 s.1 ∙ sym s.1

step_at : (a : Parts) (side : Side) (i : ℕ) (place : Place) (t : Tree) → Hangs a (targets.Node i) place t → Split t → EndStep a side i
step_at a side i place (tip e k) s p = let x : targets.Node i ≡ targets.Leaf e = s.0 in cc
step_at a sides.Left i place (fork j b l r) s p =
    let e : j ≡ i = sym (ap index_of s.0) in
    let h : Hangs a (element_at a i).left (places.Under i sides.Left) l = subst (λ n. Hangs a (element_at a n).left (places.Under n sides.Left) l) e s.4 in
    let bit : (element_at a i).bit ≡ b = ap (λ n. (element_at a n).bit) (sym e) ∙ s.3 in
    let away : places.Under i sides.Left ≢ places.Nowhere = λ x. cc in
    record {
      is_tree = record { place = places.Under i sides.Left; tree = l; hangs = away; stands = h; split = p.3 };
      same = ap first_entry (list_below_is a _ _ l h p.3) ∙ (sym (end_first l r) ∙ sym (ap first_entry (list_below_is a _ _ (fork j b l r) s p)));
      falls = let x : target_rank a (element_at a i).left ≡ tree_rank l = target_rank_is a _ _ l h in let y : tree_rank l < bit_rank b = falls_left j b l r p in let z : bit_rank (element_at a i).bit ≡ bit_rank b = ap bit_rank bit in omega arith;
      fits = subst (λ n. n < length a.elements) e s.1;
    }
step_at a sides.Right i place (fork j b l r) s p =
    let e : j ≡ i = sym (ap index_of s.0) in
    let h : Hangs a (element_at a i).right (places.Under i sides.Right) r = subst (λ n. Hangs a (element_at a n).right (places.Under n sides.Right) r) e s.5 in
    let bit : (element_at a i).bit ≡ b = ap (λ n. (element_at a n).bit) (sym e) ∙ s.3 in
    let away : places.Under i sides.Right ≢ places.Nowhere = λ x. cc in
    record {
      is_tree = record { place = places.Under i sides.Right; tree = r; hangs = away; stands = h; split = p.4 };
      same = ap last_entry (list_below_is a _ _ r h p.4) ∙ (sym (end_last l r) ∙ sym (ap last_entry (list_below_is a _ _ (fork j b l r) s p)));
      falls = let x : target_rank a (element_at a i).right ≡ tree_rank r = target_rank_is a _ _ r h in let y : tree_rank r < bit_rank b = falls_right j b l r p in let z : bit_rank (element_at a i).bit ≡ bit_rank b = ap bit_rank bit in omega arith;
      fits = subst (λ n. n < length a.elements) e s.1;
    }

pub end_step : (a : Parts) (side : Side) (i : ℕ) → IsTree a (targets.Node i) → EndStep a side i
end_step a side i h = step_at a side i h.place h.tree h.stands h.split

-- a leaf that is a tree is an entry, and its list has it alone
pub record EndLeaf (a : Parts) (i : ℕ) : Type 0 where
  pub is_in : IsIn a i
  pub list : list_below a (targets.Leaf i) ≡ record { key = (element_at a i).key; entry = i } ∷ []

leaf_at : (a : Parts) (i : ℕ) (place : Place) (t : Tree) → place ≢ places.Nowhere → Hangs a (targets.Leaf i) place t → EndLeaf a i
leaf_at a i place (tip e k) h s =
    let x : e ≡ i = sym (ap index_of s.0) in
    record { is_in = (subst (λ n. n < length a.elements) x s.1, λ g. h (sym s.2 ∙ (ap (λ n. (element_at a n).leaf_p) x ∙ g))); list = refl }
leaf_at a i place (fork j b l r) h s = let x : targets.Leaf i ≡ targets.Node j = s.0 in cc

pub end_leaf : (a : Parts) (i : ℕ) → IsTree a (targets.Leaf i) → EndLeaf a i
end_leaf a i h = leaf_at a i h.place h.tree h.hangs h.stands

-- nothing is no tree
pub not_nothing : (a : Parts) (place : Place) (t : Tree) → Hangs a targets.Nothing place t → ⊥
not_nothing a place (tip e k) s = let x : targets.Nothing ≡ targets.Leaf e = s.0 in cc
not_nothing a place (fork j b l r) s = let x : targets.Nothing ≡ targets.Node j = s.0 in cc

-- what is not a node, and is a tree, is a leaf
pub leaf_left : (a : Parts) (target : Target) → IsTree a target → ((i : ℕ) → target ≡ targets.Node i → ⊥) → target ≡ targets.Leaf (index_of target)
leaf_left a targets.Nothing h n = absurd (not_nothing a h.place h.tree h.stands)
leaf_left a (targets.Leaf i) h n = refl
leaf_left a (targets.Node i) h n = absurd (n i refl)

-- one turn of the way down to an end
pub record EndTurn (a : Parts) (side : Side) (part next : Target) : Type 0 where
  pub is_tree : IsTree a next
  pub same : end_entry side (list_below a next) ≡ end_entry side (list_below a part)
  pub falls : target_rank a next < target_rank a part

pub node_tree : (a : Parts) (i : ℕ) (part : Target) → targets.Node i ≡ part → IsTree a part → IsTree a (targets.Node i)
node_tree a i part e h = subst (IsTree a) (sym e) h

pub end_turn : (a : Parts) (side : Side) (part next : Target) → IsTree a part → targets.Node (index_of part) ≡ part → next ≡ child side (element_at a (index_of part)) → EndTurn a side part next
end_turn a side part next h is n =
    let s : EndStep a side (index_of part) = end_step a side (index_of part) (node_tree a (index_of part) part is h) in
    let x : child side (element_at a (index_of part)) ≡ next = sym n in
    record {
      is_tree = subst (IsTree a) x s.is_tree;
      same = ap (λ t. end_entry side (list_below a t)) (sym x) ∙ (s.same ∙ ap (λ t. end_entry side (list_below a t)) is);
      falls = subst (λ t. target_rank a t < target_rank a part) x (subst (λ t. target_rank a (child side (element_at a (index_of part))) < target_rank a t) is s.falls);
    }

-- what is found at the leaf that ends the way down
pub record EndFound (a : Parts) (side : Side) (link : Target) (e : ℕ) : Type 0 where
  pub answer : end_entry side (list_below a link) ≡ Some e
  pub in_tree : IsIn a e

one_item : (side : Side) (x : KeyedItem) → end_entry side (x ∷ []) ≡ Some x.entry
one_item sides.Left x = refl
one_item sides.Right x = refl

pub end_found : (a : Parts) (side : Side) (part link : Target) (e : ℕ) → IsTree a part → ((i : ℕ) → part ≡ targets.Node i → ⊥) → e ≡ index_of part → end_entry side (list_below a part) ≡ end_entry side (list_below a link) → EndFound a side link e
end_found a side part link e h n is same =
    let x : part ≡ targets.Leaf e = leaf_left a part h n ∙ ap (λ i. targets.Leaf i) (sym is) in
    let y : EndLeaf a e = end_leaf a e (subst (IsTree a) x h) in
    record {
      answer = sym same ∙ (ap (λ t. end_entry side (list_below a t)) x ∙ (ap (end_entry side) y.list ∙ one_item side (record { key = (element_at a e).key; entry = e })));
      in_tree = y.is_in;
    }

-- a tree's target is not nothing
pub some_target : (a : Parts) (part : Target) → IsTree a part → part ≡ targets.Nothing → ⊥
some_target a part h e = not_nothing a h.place h.tree (subst (λ t. Hangs a t h.place h.tree) e h.stands)
