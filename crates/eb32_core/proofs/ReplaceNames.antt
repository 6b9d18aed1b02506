-- Trees, links and places where one node has another index.
use Rattle.std.proofs.Common.{◌≡◌, ℕ, ◌+◌, ◌^◌, ◌<◌, ◌≤◌, ◌++◌, inl, inr, length, refl, sym, ap, ◌∙◌, subst, arith, eq-eqb, ne_eqb}
use Rattle.std.specs.Prelude.{◌==◌, if◌then◌else◌, pos, negsuc}
use Rattle.std.proofs.lemmas.Bool.{cases_eq}
use Rattle.eb_arena.specs.declared.links.Side.TheVariants as sides
use Rattle.eb_arena.specs.declared.links.Target.{Target}
use Rattle.eb_arena.specs.declared.links.Target.TheVariants as targets
use Rattle.eb_arena.specs.declared.links.Place.{Place}
use Rattle.eb_arena.specs.declared.links.Place.TheVariants as places
use Rattle.eb_arena.specs.Parts.{Parts}
use Rattle.eb_arena.specs.Shape.{Tree, tip, fork, items, HasNode, root_place}
use Rattle.eb_dups.specs.Spine.{spine_value, first_key, spine_of}
use Rattle.eb32_core.specs.Removal.{renamed}

-- the index of a node afterwards
abbrev pub renamed_index : ℕ → ℕ → ℕ → ℕ
renamed_index e h i = if i == e then h else i

-- what a link down leads to afterwards
abbrev pub renamed_target : ℕ → ℕ → Target → Target
renamed_target e h targets.Nothing = targets.Nothing
renamed_target e h (targets.Leaf x) = targets.Leaf x
renamed_target e h (targets.Node i) = targets.Node (renamed_index e h i)

-- where a link up leads to afterwards
abbrev pub renamed_place : ℕ → ℕ → Place → Place
renamed_place e h places.Nowhere = places.Nowhere
renamed_place e h (places.Under i s) = places.Under (renamed_index e h i) s

pub index_same : (e h i : ℕ) → i ≡ e → renamed_index e h i ≡ h
index_same e h i k = ap (λ b. if b then h else i) (eq-eqb i e k)

pub index_other : (e h i : ℕ) → (i ≡ e → ⊥) → renamed_index e h i ≡ i
index_other e h i k = ap (λ b. if b then h else i) (ne_eqb i e k)

pub index_fits : (a : Parts) (e h i : ℕ) → h < length a.elements → i < length a.elements → renamed_index e h i < length a.elements
index_fits a e h i f g =
    elim (cases_eq i e) [
      | inl k ↦ subst (λ m. m < length a.elements) (sym (index_same e h i k)) f
      | inr k ↦ subst (λ m. m < length a.elements) (sym (index_other e h i k)) g
    ]

-- the place of a root stays
pub root_place_same : (a : Parts) (e h q : ℕ) → e < length a.elements → renamed_place e h (root_place a q) ≡ root_place a q
root_place_same a e h q f =
    let n : length a.elements + q ≡ e → ⊥ = λ k. absurd (omega arith) in
    ap (λ m. places.Under m sides.Left) (index_other e h (length a.elements + q) n)

-- items stay, and so do spines
pub renamed_items : (e h : ℕ) (t : Tree) → items (renamed e h t) ≡ items t
renamed_items e h (tip i k) = refl
renamed_items e h (fork i b l r) = ap (λ xs. xs ++ items (renamed e h r)) (renamed_items e h l) ∙ ap (λ ys. items l ++ ys) (renamed_items e h r)

renamed_value : (e h : ℕ) (t : Tree) → spine_value (renamed e h t) ≡ spine_value t
renamed_value e h (tip i k) = refl
renamed_value e h (fork i (pos b) l r) = refl
renamed_value e h (fork i (negsuc n) l r) = ap (λ m. 2 ^ n + m) (renamed_value e h r)

renamed_first : (e h : ℕ) (t : Tree) → first_key (renamed e h t) ≡ first_key t
renamed_first e h (tip i k) = refl
renamed_first e h (fork i b l r) = renamed_first e h l

pub renamed_values : (e h key : ℕ) (t : Tree) → spine_of key (renamed e h t) ≡ spine_of key t
renamed_values e h key (tip i k) = refl
renamed_values e h key (fork i (pos b) l r) =
    ap (λ m. m + spine_of key (renamed e h r)) (renamed_values e h key l) ∙ ap (λ m. spine_of key l + m) (renamed_values e h key r)
renamed_values e h key (fork i (negsuc n) l r) =
    ap (λ m. if m == key then 2 ^ n + spine_value (renamed e h r) else 0) (renamed_first e h l) ∙ ap (λ m. if first_key l == key then 2 ^ n + m else 0) (renamed_value e h r)

-- other nodes stay, and the node itself has its new index
pub renamed_node : (e h x : ℕ) (t : Tree) → (x ≡ e → ⊥) → HasNode x t → HasNode x (renamed e h t)
renamed_node e h x (tip i k) n g = g
renamed_node e h x (fork i b l r) n g =
    elim g [
      | inl g ↦ inl (g ∙ sym (index_other e h i (λ k. n (g ∙ k))))
      | inr g ↦ elim g [ inl g ↦ inr (inl (renamed_node e h x l n g)) | inr g ↦ inr (inr (renamed_node e h x r n g)) ]
    ]

pub renamed_heir : (e h : ℕ) (t : Tree) → HasNode e t → HasNode h (renamed e h t)
renamed_heir e h (tip i k) g = g
renamed_heir e h (fork i b l r) g =
    elim g [
      | inl g ↦ inl (sym (index_same e h i (sym g)))
      | inr g ↦ elim g [ inl g ↦ inr (inl (renamed_heir e h l g)) | inr g ↦ inr (inr (renamed_heir e h r g)) ]
    ]

-- without the node nothing changes
pub renamed_none : (e h : ℕ) (t : Tree) → (HasNode e t → ⊥) → renamed e h t ≡ t
renamed_none e h (tip i k) n = refl
renamed_none e h (fork i b l r) n =
    let x : renamed_index e h i ≡ i = index_other e h i (λ k. n (inl (sym k))) in
    let y : renamed e h l ≡ l = renamed_none e h l (λ g. n (inr (inl g))) in
    let z : renamed e h r ≡ r = renamed_none e h r (λ g. n (inr (inr g))) in
    ap (λ m. fork m b (renamed e h l) (renamed e h r)) x ∙ (ap (λ m. fork i b m (renamed e h r)) y ∙ ap (fork i b l) z)
