-- The tasks of a script while their rows come.
use Rattle.std.proofs.lemmas.Bool.{and_from, eqb-true, eqb-false}
use Rattle.std.proofs.Common.{◌≡◌, ℕ, suc, zero, ◌+◌, ◌≤◌, ◌<◌, Bool, true, false, List, [], ◌∷◌, ◌++◌, length, set, refl, ap, sym, ◌∙◌, arith, inl, inr, subst, length-append}
use Rattle.std.specs.Prelude.{Some, ◌==◌, ◌&&◌, slice_get, slice_index, if◌then◌else◌}
use Rattle.std.specs.List.{list_all}
use Rattle.std.proofs.lemmas.Bool.Decides.{nat_tests}
use Rattle.std.proofs.lemmas.List.Folds.{list_all-append}
use Rattle.step_tables.specs.Types.{Row, TaskDef}
use Rattle.step_tables.specs.Words.{is_name}
use Rattle.step_tables.specs.Sound.{within, is_sound_kind, is_sound_row, is_sound_task}
use Rattle.step_tables.specs.Limits.{most_rows}
use Rattle.step_tables.specs.Judging.{rows_made, with_row_at_end}
use Rattle.step_tables.proofs.Steps.{chose}

pub first_of_both : (a b : Bool) → (a && b) ≡ true → a ≡ true
first_of_both true b e = refl
first_of_both false b e = e

pub second_of_both : (a b : Bool) → (a && b) ≡ true → b ≡ true
second_of_both true b e = e
second_of_both false b e = absurd (cc)

-- a task whose line promised c rows, in a script of so many workers
pub record IsTaskOf (workers c : ℕ) (t : TaskDef) : Type 0 where
  pub name : is_name t.name ≡ true
  pub kind : is_sound_kind workers t.kind ≡ true
  pub count : within 1 most_rows c ≡ true

-- its rows so far, among n tasks
abbrev pub SoundRows : ℕ → ℕ → TaskDef → Type 0
SoundRows n c t = list_all (is_sound_row n t.kind c) t.rows ≡ true

-- tasks with no row so far
abbrev pub Fresh : ℕ → List TaskDef → List ℕ → Type 0
Fresh workers [] [] = Unit {0}
Fresh workers [] (c ∷ cs) = ⊥
Fresh workers (t ∷ ts) [] = ⊥
Fresh workers (t ∷ ts) (c ∷ cs) = IsTaskOf workers c t × (t.rows ≡ []) × Fresh workers ts cs

-- tasks of which the first so many have all their rows, and those behind the next have none
abbrev pub Filled : ℕ → ℕ → ℕ → List TaskDef → List ℕ → Type 0
Filled workers n zero [] [] = Unit {0}
Filled workers n zero [] (c ∷ cs) = ⊥
Filled workers n zero (t ∷ ts) [] = ⊥
Filled workers n zero (t ∷ ts) (c ∷ cs) = IsTaskOf workers c t × SoundRows n c t × (length t.rows < c) × Fresh workers ts cs
Filled workers n (suc at) [] cs = ⊥
Filled workers n (suc at) (t ∷ ts) [] = ⊥
Filled workers n (suc at) (t ∷ ts) (c ∷ cs) = IsTaskOf workers c t × SoundRows n c t × (length t.rows ≡ c) × Filled workers n at ts cs

within_some : (c : ℕ) → within 1 most_rows c ≡ true → 1 ≤ c
within_some c e = grind (arith, nat_tests)

no_rows : (rs : List Row) → length rs ≡ 0 → rs ≡ []
no_rows [] e = refl
no_rows (r ∷ rs) e = absurd (omega arith)

-- no row so far is the start
pub filled_from_fresh : (workers n : ℕ) (ts : List TaskDef) (cs : List ℕ) → Fresh workers ts cs → Filled workers n 0 ts cs
filled_from_fresh workers n [] [] f = tt
filled_from_fresh workers n [] (c ∷ cs) f = f
filled_from_fresh workers n (t ∷ ts) [] f = f
filled_from_fresh workers n (t ∷ ts) (c ∷ cs) f =
    let some : 1 ≤ c = within_some c f.0.count in
    let none : length t.rows ≡ 0 = ap length f.1 in
    (f.0, ap (list_all (is_sound_row n t.kind c)) f.1, omega arith, f.2)

-- while the first task has no row, no task has one
pub fresh_from_filled : (workers n : ℕ) (ts : List TaskDef) (cs : List ℕ) → Filled workers n 0 ts cs → rows_made (slice_get ts 0) ≡ 0 → Fresh workers ts cs
fresh_from_filled workers n [] [] f e = tt
fresh_from_filled workers n [] (c ∷ cs) f e = f
fresh_from_filled workers n (t ∷ ts) [] f e = f
fresh_from_filled workers n (t ∷ ts) (c ∷ cs) f e = (f.0, no_rows t.rows e, f.3)

-- one task more
pub fresh_more : (workers : ℕ) (ts : List TaskDef) (cs : List ℕ) (t : TaskDef) (c : ℕ) → Fresh workers ts cs → IsTaskOf workers c t → t.rows ≡ [] → Fresh workers (ts ++ t ∷ []) (cs ++ c ∷ [])
fresh_more workers [] [] t c f is none = (is, none, tt)
fresh_more workers [] (d ∷ cs) t c f is none = absurd f
fresh_more workers (u ∷ ts) [] t c f is none = absurd f
fresh_more workers (u ∷ ts) (d ∷ cs) t c f is none = (f.0, f.1, fresh_more workers ts cs t c f.2 is none)

rows_more : (n c : ℕ) (t : TaskDef) (row : Row) → SoundRows n c t → is_sound_row n t.kind c row ≡ true → SoundRows n c (with_row_at_end t row)
unfolding with_row_at_end
rows_more n c t row sound is = list_all-append (is_sound_row n t.kind c) t.rows (row ∷ []) ∙ and_from _ _ sound (and_from _ true is refl)

pub length_more : (t : TaskDef) (row : Row) → length (with_row_at_end t row).rows ≡ length t.rows + 1
unfolding with_row_at_end
length_more t row = length-append t.rows (row ∷ [])

task_more : (workers c : ℕ) (t : TaskDef) (row : Row) → IsTaskOf workers c t → IsTaskOf workers c (with_row_at_end t row)
unfolding with_row_at_end
task_more workers c t row is = record { name = is.name; kind = is.kind; count = is.count }

-- one row more
pub filled_more : (workers n at : ℕ) (ts : List TaskDef) (cs : List ℕ) (t : TaskDef) (row : Row) (next : ℕ)
    → Filled workers n at ts cs → slice_get ts at ≡ Some t → is_sound_row n t.kind (slice_index cs at) row ≡ true
    → next ≡ (if length t.rows + 1 == slice_index cs at then at + 1 else at)
    → Filled workers n next (set ts at (with_row_at_end t row)) cs
filled_more workers n zero [] cs t row next f e is next_is = absurd (cc)
filled_more workers n zero (u ∷ ts) [] t row next f e is next_is = absurd f
filled_more workers n zero (u ∷ ts) (c ∷ cs) t row next f e is next_is =
    let same : u ≡ t = cc in
    let task_is : IsTaskOf workers c t = subst (λ v. IsTaskOf workers c v) same f.0 in
    let sound : SoundRows n c t = subst (λ v. SoundRows n c v) same f.1 in
    let less : length t.rows < c = subst (λ v. length v.rows < c) same f.2 in
    let long : length (with_row_at_end t row).rows ≡ length t.rows + 1 = length_more t row in
    elim (chose (length t.rows + 1 == c) 1 0 next (sym next_is)) [
      | inl h ↦ subst (λ k. Filled workers n k (with_row_at_end t row ∷ ts) (c ∷ cs)) h.1
          (task_more workers c t row task_is, rows_more n c t row sound is, long ∙ eqb-true _ _ h.0, filled_from_fresh workers n ts cs f.3)
      | inr h ↦ subst (λ k. Filled workers n k (with_row_at_end t row ∷ ts) (c ∷ cs)) h.1
          (task_more workers c t row task_is, rows_more n c t row sound is, (let other = eqb-false (length t.rows + 1) c h.0 in omega arith), f.3)
    ]
filled_more workers n (suc at) [] cs t row next f e is next_is = absurd f
filled_more workers n (suc at) (u ∷ ts) [] t row next f e is next_is = absurd f
filled_more workers n (suc at) (u ∷ ts) (c ∷ cs) t row next f e is next_is =
    let before : ℕ = if length t.rows + 1 == slice_index cs at then at + 1 else at in
    let behind : next ≡ suc before = next_is ∙ shifted (length t.rows + 1 == slice_index cs at) at in
    subst (λ k. Filled workers n k (u ∷ set ts at (with_row_at_end t row)) (c ∷ cs)) (sym behind)
    (f.0, f.1, f.2, filled_more workers n at ts cs t row before f.3 e is refl)
  where
    shifted : (b : Bool) (m : ℕ) → (if b then suc m + 1 else suc m) ≡ suc (if b then m + 1 else m)
    shifted true m = omega arith
    shifted false m = refl

-- all rows have come
pub all_filled : (workers n at : ℕ) (ts : List TaskDef) (cs : List ℕ) → Filled workers n at ts cs → at ≡ length ts → list_all (is_sound_task workers n) ts ≡ true
all_filled workers n zero [] cs f e = refl
all_filled workers n zero (t ∷ ts) cs f e = absurd (omega arith)
all_filled workers n (suc at) [] cs f e = absurd f
all_filled workers n (suc at) (t ∷ ts) [] f e = absurd f
all_filled workers n (suc at) (t ∷ ts) (c ∷ cs) f e =
    and_from _ _
    (and_from _ _ f.0.name (and_from _ _ f.0.kind (and_from _ _
    (ap (within 1 most_rows) f.2 ∙ f.0.count)
    (ap (λ k. list_all (is_sound_row n t.kind k) t.rows) f.2 ∙ f.1))))
    (all_filled workers n at ts cs f.3 (omega arith))
