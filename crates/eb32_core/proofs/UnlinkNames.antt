-- Trees in which a node has another index.
use Rattle.std.proofs.Common.{◌≡◌, ℕ, inl, inr, refl, sym, ap, ◌∙◌, subst, eq-eqb, ne_eqb}
use Rattle.std.specs.Prelude.{◌==◌, if◌then◌else◌, pos, negsuc}
use Rattle.std.proofs.lemmas.Bool.{cases_eq}
use Rattle.eb_arena.specs.Shape.{Tree, tip, fork, Keys, HasLeaf, HasNode, IsBelow}
use Rattle.eb32_core.specs.Removal.{renamed}

pub renamed_keys : (n h : ℕ) (t : Tree) (P : ℕ → Type 0) → Keys P t → Keys P (renamed n h t)
renamed_keys n h (tip e k) P x = x
renamed_keys n h (fork i b l r) P x = (renamed_keys n h l P x.0, renamed_keys n h r P x.1)

pub renamed_leaf : (n h : ℕ) (t : Tree) (x : ℕ) → HasLeaf x t → HasLeaf x (renamed n h t)
renamed_leaf n h (tip e k) x y = y
renamed_leaf n h (fork i b l r) x y = elim y [ inl y ↦ inl (renamed_leaf n h l x y) | inr y ↦ inr (renamed_leaf n h r x y) ]

pub renamed_below : (n h m : ℕ) (t : Tree) → IsBelow m t → IsBelow m (renamed n h t)
renamed_below n h m (tip e k) x = tt
renamed_below n h m (fork i (pos b) l r) x = x
renamed_below n h m (fork i (negsuc b) l r) x = x

-- a tree without the node stays
pub renamed_other : (n h : ℕ) (t : Tree) → (HasNode n t → ⊥) → renamed n h t ≡ t
renamed_other n h (tip e k) f = refl
renamed_other n h (fork i b l r) f =
    let e : (if i == n then h else i) ≡ i = ap (λ c. if c then h else i) (ne_eqb i n (λ y. f (inl (sym y)))) in
    let x : renamed n h l ≡ l = renamed_other n h l (λ y. f (inr (inl y))) in
    let y : renamed n h r ≡ r = renamed_other n h r (λ y. f (inr (inr y))) in
    ap (λ j. fork j b (renamed n h l) (renamed n h r)) e ∙ (ap (λ u. fork i b u (renamed n h r)) x ∙ ap (λ u. fork i b l u) y)

-- what holds of the new index of a node
pub renamed_index : (i n h : ℕ) (Q : ℕ → Type 0) → (i ≡ n → Q h) → ((i ≡ n → ⊥) → Q i) → Q (if i == n then h else i)
renamed_index i n h Q f g =
    elim (cases_eq i n) [
      | inl e ↦ subst Q (sym (ap (λ c. if c then h else i) (eq-eqb i n e))) (f e)
      | inr o ↦ subst Q (sym (ap (λ c. if c then h else i) (ne_eqb i n o))) (g o)
    ]
