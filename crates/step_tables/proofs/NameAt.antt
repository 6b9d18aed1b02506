-- The name at a number, in the list of names.
use Rattle.std.proofs.Common.{◌≡◌, ℕ, suc, zero, ◌≤◌, List, [], ◌∷◌, ◌++◌, length, refl, ap, sym, ◌∙◌, arith, append_assoc}
use Rattle.std.specs.Prelude.{Some, slice_get}
use Rattle.std.proofs.lemmas.Option.{none-some}
use Rattle.step_tables.specs.declared.tables.TaskDef.{TaskDef}
use Rattle.step_tables.specs.Words.{Word}
use Rattle.step_tables.specs.Text.{name_at, names_of, spaced}

pub name_there : (tasks : List TaskDef) (i : ℕ) (task : TaskDef) → slice_get tasks i ≡ Some task → name_at (names_of tasks) i ≡ task.name
name_there [] i task e = absurd (none-some task e)
name_there (t ∷ ts) zero task e = let same : t ≡ task = cc in ap (λ u. u.name) same
name_there (t ∷ ts) (suc i) task e = name_there ts i task e

pub name_missing : (tasks : List TaskDef) (i : ℕ) → length tasks ≤ i → name_at (names_of tasks) i ≡ []
name_missing [] i h = refl
name_missing (t ∷ ts) zero h = absurd (omega arith)
name_missing (t ∷ ts) (suc i) h = name_missing ts i (omega arith)

-- words behind spaces, one list after another
pub spaced-append : (xs ys : List Word) → spaced (xs ++ ys) ≡ spaced xs ++ spaced ys
spaced-append [] ys = refl
spaced-append (x ∷ xs) ys = ap (λ r. 32 ∷ (x ++ r)) (spaced-append xs ys) ∙ ap (λ r. 32 ∷ r) (sym (append_assoc x (spaced xs) (spaced ys)))
