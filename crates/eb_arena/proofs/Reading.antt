-- What is read at a target is its tree.
use Rattle.std.proofs.Common.{◌≡◌, ℕ, zero, suc, ◌<◌, [], ◌∷◌, ◌++◌, sym, ap, ◌∙◌, subst, arith}
use Rattle.std.specs.Prelude.{Option, Some, None}
use Rattle.sched_base.specs.KeyedList.{KeyedItem}
use Rattle.eb_arena.specs.declared.links.Side.TheVariants as sides
use Rattle.eb_arena.specs.declared.links.Target.{Target}
use Rattle.eb_arena.specs.declared.links.Target.TheVariants as targets
use Rattle.eb_arena.specs.declared.links.Place.{Place}
use Rattle.eb_arena.specs.declared.links.Place.TheVariants as places
use Rattle.eb_arena.specs.Links.{index_of}
use Rattle.eb_arena.specs.Parts.{Parts, element_at}
use Rattle.eb_arena.specs.Shape.{Tree, tip, fork, items, items_of, Hangs, Split, IsRoot, below, list_below, list_of}
use Rattle.eb_arena.proofs.Trees.{tree_rank, bit_rank, falls_left, falls_right, rank_fits}

pub below_is : (n : ℕ) (t : Tree) (a : Parts) (target : Target) (place : Place) → tree_rank t < n → Hangs a target place t → Split t → below n a target ≡ items t
below_is zero t a target place h s p = absurd (omega arith)
below_is (suc n) (tip e k) a target place h s p =
    ap (λ x. below (suc n) a x) s.0 ∙ ap (λ x. let y : KeyedItem = record { key = x; entry = e } in y ∷ []) s.3
below_is (suc n) (fork i b l r) a target place h s p =
    let x : below n a (element_at a i).left ≡ items l = below_is n l a _ _ (let f : tree_rank l < bit_rank b = falls_left i b l r p in omega arith) s.4 p.3 in
    let y : below n a (element_at a i).right ≡ items r = below_is n r a _ _ (let f : tree_rank r < bit_rank b = falls_right i b l r p in omega arith) s.5 p.4 in
    ap (λ x. below (suc n) a x) s.0 ∙ (ap (λ xs. xs ++ below n a (element_at a i).right) x ∙ ap (λ ys. items l ++ ys) y)

-- the list below a target that is a tree
pub list_below_is : (a : Parts) (target : Target) (place : Place) (t : Tree) → Hangs a target place t → Split t → list_below a target ≡ items t
list_below_is a target place t s p = below_is 32801 t a target place (rank_fits t p) s p

-- the list of a root is the items of its tree
pub list_of_is : (a : Parts) (q : ℕ) (o : Option Tree) → IsRoot a q o → list_of a q ≡ items_of o
list_of_is a q None h = ap (λ x. list_below a x) h
list_of_is a q (Some t) h = list_below_is a _ _ t h.0 h.1

-- one target is one tree
pub same_tree : (a : Parts) (t u : Tree) (target : Target) (p o : Place) → Hangs a target p t → Hangs a target o u → t ≡ u
same_tree a (tip e k) (tip f m) target p o s z =
    let x : targets.Leaf e ≡ targets.Leaf f = sym s.0 ∙ z.0 in
    let i : e ≡ f = ap index_of x in
    let y : k ≡ m = sym s.3 ∙ (ap (λ n. (element_at a n).key) i ∙ z.3) in
    ap (λ n. tip n k) i ∙ ap (λ n. tip f n) y
same_tree a (tip e k) (fork j c v w) target p o s z = let x : targets.Leaf e ≡ targets.Node j = sym s.0 ∙ z.0 in cc
same_tree a (fork i b l r) (tip f m) target p o s z = let x : targets.Node i ≡ targets.Leaf f = sym s.0 ∙ z.0 in cc
same_tree a (fork i b l r) (fork j c v w) target p o s z =
    let x : targets.Node i ≡ targets.Node j = sym s.0 ∙ z.0 in
    let e : j ≡ i = sym (ap index_of x) in
    let y : Hangs a (element_at a i).left (places.Under i sides.Left) v = subst (λ n. Hangs a (element_at a n).left (places.Under n sides.Left) v) e z.4 in
    let y' : Hangs a (element_at a i).right (places.Under i sides.Right) w = subst (λ n. Hangs a (element_at a n).right (places.Under n sides.Right) w) e z.5 in
    let bits : b ≡ c = sym s.3 ∙ (ap (λ n. (element_at a n).bit) (sym e) ∙ z.3) in
    let lefts : l ≡ v = same_tree a l v _ _ _ s.4 y in
    let rights : r ≡ w = same_tree a r w _ _ _ s.5 y' in
    ap (λ n. fork n b l r) (sym e) ∙ (ap (λ n. fork j n l r) bits ∙ (ap (λ n. fork j c n r) lefts ∙ ap (λ n. fork j c v n) rights))
