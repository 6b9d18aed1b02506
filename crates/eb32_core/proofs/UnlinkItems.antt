-- The items of a tree without those of an entry.
use Rattle.std.proofs.Common.{◌≡◌, ℕ, inl, inr, List, [], ◌∷◌, ◌++◌, cond, not, filter, refl, sym, ap, ◌∙◌, ne_eqb, eq-eqb}
use Rattle.std.specs.Prelude.{ℤ}
use Rattle.std.proofs.lemmas.List.{append-nil}
use Rattle.std.proofs.lemmas.List.Elements.{filter-append}
use Rattle.sched_base.specs.KeyedList.{KeyedItem, is_entry}
use Rattle.eb_arena.specs.declared.links.Side.{Side}
use Rattle.eb_arena.specs.declared.links.Side.TheVariants as sides
use Rattle.eb_arena.specs.Shape.{Tree, tip, fork, items, HasLeaf}
use Rattle.eb_arena.specs.Way.{Step, from_left, from_right, plug}
use Rattle.eb_dups.proofs.Distinct.{Distinct, part_distinct}
use Rattle.eb32_core.specs.Removal.{paired}

-- the items of other entries
abbrev pub others : ℕ → List KeyedItem → List KeyedItem
others e xs = filter (λ y. not (is_entry e y)) xs

-- all items of a tree without the entry
pub others_all : (e : ℕ) (t : Tree) → (HasLeaf e t → ⊥) → others e (items t) ≡ items t
others_all e (tip x k) f =
    let item : KeyedItem = record { key = k; entry = x } in
    ap (λ b. cond (not b) (item ∷ []) []) (ne_eqb x e (λ y. f (sym y)))
others_all e (fork i b l r) f =
    filter-append (λ y. not (is_entry e y)) (items l) (items r) ∙ (ap (λ xs. xs ++ others e (items r)) (others_all e l (λ y. f (inl y))) ∙ ap (λ xs. items l ++ xs) (others_all e r (λ y. f (inr y))))

-- no item of the entry's leaf
others_none : (e k : ℕ) → others e (items (tip e k)) ≡ []
others_none e k =
    let item : KeyedItem = record { key = k; entry = e } in
    ap (λ b. cond (not b) (item ∷ []) []) (eq-eqb e e refl)

others_up : (w : List Step) (e : ℕ) (s g : Tree) → Distinct (plug w s) → HasLeaf e s → others e (items s) ≡ items g → others e (items (plug w s)) ≡ items (plug w g)
others_up [] e s g d h x = x
others_up (from_left i b r ∷ w) e s g d h x =
    let y : Distinct (fork i b s r) = part_distinct w (fork i b s r) d in
    let z : others e (items r) ≡ items r = others_all e r (λ f. y.0.leaves e h f) in
    others_up w e (fork i b s r) (fork i b g r) d (inl h) (filter-append (λ y. not (is_entry e y)) (items s) (items r) ∙ (ap (λ xs. xs ++ others e (items r)) x ∙ ap (λ xs. items g ++ xs) z))
others_up (from_right i b l ∷ w) e s g d h x =
    let y : Distinct (fork i b l s) = part_distinct w (fork i b l s) d in
    let z : others e (items l) ≡ items l = others_all e l (λ f. y.0.leaves e f h) in
    others_up w e (fork i b l s) (fork i b l g) d (inr h) (filter-append (λ y. not (is_entry e y)) (items l) (items s) ∙ (ap (λ xs. xs ++ others e (items s)) z ∙ ap (λ xs. items l ++ xs) x))

others_pair : (side : Side) (e p k : ℕ) (b : ℤ) (u : Tree) → Distinct (paired side p b (tip e k) u) → others e (items (paired side p b (tip e k) u)) ≡ items u
others_pair sides.Left e p k b u d =
    let z : others e (items u) ≡ items u = others_all e u (λ f. d.0.leaves e refl f) in
    filter-append (λ y. not (is_entry e y)) (items (tip e k)) (items u) ∙ (ap (λ xs. xs ++ others e (items u)) (others_none e k) ∙ z)
others_pair sides.Right e p k b u d =
    let z : others e (items u) ≡ items u = others_all e u (λ f. d.0.leaves e f refl) in
    filter-append (λ y. not (is_entry e y)) (items u) (items (tip e k)) ∙ (ap (λ xs. xs ++ others e (items (tip e k))) z ∙ (ap (λ xs. items u ++ xs) (others_none e k) ∙ append-nil (items u)))

pair_has : (side : Side) (e p k : ℕ) (b : ℤ) (u : Tree) → HasLeaf e (paired side p b (tip e k) u)
pair_has sides.Left e p k b u = inl refl
pair_has sides.Right e p k b u = inr refl

-- the items of the whole tree without the leaf
pub others_are : (w : List Step) (side : Side) (e p k : ℕ) (b : ℤ) (u : Tree) → Distinct (plug w (paired side p b (tip e k) u)) → others e (items (plug w (paired side p b (tip e k) u))) ≡ items (plug w u)
others_are w side e p k b u d =
    others_up w e (paired side p b (tip e k) u) u d (pair_has side e p k b u) (others_pair side e p k b u (part_distinct w (paired side p b (tip e k) u) d))
