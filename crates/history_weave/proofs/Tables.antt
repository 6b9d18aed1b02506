-- The cells of a table of places.
use Rattle.std.proofs.Common.{◌≡◌, ◌≢◌, ℕ, zero, suc, ◌+◌, ◌*◌, ◌<◌, arith, inl, inr, List, length, get_or, set, replicate, take, ◌++◌, [], ◌-◌, refl, ◌∙◌, sym, ap}
use Rattle.std.proofs.lemmas.Bool.{cases_order}
use Rattle.std.proofs.lemmas.Nat.{mul-add-lt}
use Rattle.std.proofs.Math.Nat.{mul_comm}
use Rattle.std.proofs.lemmas.List.{get_or-set_same, get_or-set_other, get_or-replicate, get_or_read}
use Rattle.history_weave.specs.Places.{PlaceTable, place_at, none}

-- a cell lies inside its table
pub cell-lt : (n r c h : ℕ) → r < h → c < n → r * n + c < h * n
cell-lt n r c h lt l = omega (arith, mul-add-lt r n c h lt l, mul_comm n h)

rows_apart : (n r s c d : ℕ) → c < n → r < s → r * n + c ≡ s * n + d → ⊥
rows_apart n r s c d l lt e = omega (arith, mul-add-lt r n c s lt l, mul_comm n s)

-- other rows or columns have other cells
pub cells_apart : (n r s c d : ℕ) → c < n → d < n → (r ≡ s → c ≡ d → ⊥) → r * n + c ≢ s * n + d
cells_apart n r s c d l m ne e =
    elim (cases_order r s) [
      | inl same ↦ let f : r * n ≡ s * n = ap (λ x. x * n) same in ne same (omega arith)
      | inr other ↦ elim other [
        | inl lt ↦ rows_apart n r s c d l lt e
        | inr gt ↦ rows_apart n s r d c m gt (sym e)
      ]
    ]

abbrev pub table : ℕ → ℕ → List ℕ → PlaceTable
table r n cells = record { rows = r; columns = n; cells = cells }

pub place_at-here : (t : PlaceTable) (r c : ℕ) → place_at t r c ≡ get_or t.cells (r * t.columns + c) 0
unfolding place_at
place_at-here t r c = refl

pub place_at-set_same : (h n : ℕ) (cells : List ℕ) (r c p : ℕ) → length cells ≡ h * n → r < h → c < n → place_at (table h n (set cells (r * n + c) p)) r c ≡ p
place_at-set_same h n cells r c p full lt l =
    place_at-here (table h n (set cells (r * n + c) p)) r c ∙ get_or-set_same cells (r * n + c) p 0 (omega (arith, cell-lt n r c h lt l))

pub place_at-set_other : (h n : ℕ) (cells : List ℕ) (r c p s d : ℕ) → c < n → d < n → (s ≡ r → d ≡ c → ⊥) → place_at (table h n (set cells (r * n + c) p)) s d ≡ place_at (table h n cells) s d
place_at-set_other h n cells r c p s d l m ne =
    place_at-here (table h n (set cells (r * n + c) p)) s d ∙
    get_or-set_other cells (r * n + c) (s * n + d) p 0 (cells_apart n s r d c m l ne) ∙
    sym (place_at-here (table h n cells) s d)

pub place_at-none : (h n : ℕ) (cells : List ℕ) (r c : ℕ) → cells ≡ replicate (h * n) none → r < h → c < n → place_at (table h n cells) r c ≡ none
place_at-none h n cells r c e lt l =
    place_at-here (table h n cells) r c ∙ ap (λ xs. get_or xs (r * n + c) 0) e ∙
    get_or-replicate (h * n) (r * n + c) none 0 (cell-lt n r c h lt l)

pub place_at-read : (h n : ℕ) (cells : List ℕ) (r c x : ℕ) → length cells ≡ h * n → r < h → c < n → x ≡ get_or cells (r * n + c) x → x ≡ place_at (table h n cells) r c
place_at-read h n cells r c x full lt l e =
    get_or_read cells (r * n + c) x (omega (arith, cell-lt n r c h lt l)) e 0 ∙
    sym (place_at-here (table h n cells) r c)

take-none : (n : ℕ) → take {A = ℕ} n [] ≡ []
take-none zero = refl
take-none (suc n) = refl

-- a new list of cells
pub filled : (n m : ℕ) (xs ys : List ℕ) → xs ≡ [] → m ≡ 0 → ys ≡ take n xs ++ replicate (n - m) none → ys ≡ replicate n none
filled n m xs ys e z f =
    let g : take n xs ≡ [] = ap (take n) e ∙ take-none n in
    let k : n - m ≡ n = omega arith in
    f ∙ ap (λ zs. zs ++ replicate (n - m) none) g ∙ ap (λ o. replicate o none) k
