-- The tasks one after another.
use Rattle.std.proofs.Common.{◌≡◌, ℕ, suc, zero, ◌+◌, ◌<◌, ◌≤◌, Bool, true, ◌&&◌, List, [], ◌∷◌, ◌++◌, length, Option, Some, None, refl, ap, ap₂, ◌∙◌, sym, arith}
use Rattle.std.specs.Prelude.{slice_get}
use Rattle.std.specs.List.{list_all}
use Rattle.std.proofs.lemmas.Bool.{and_from}
use Rattle.step_tables.specs.declared.tables.TaskDef.{TaskDef}
use Rattle.script_gen.specs.declared.drawing.Drawn.{Drawn}
use Rattle.script_gen.specs.Draws.{after_four, drawn_at}
use Rattle.script_gen.specs.Generated.{task_by, tasks_from}

-- the state of the draws after those of n tasks
unfoldable pub state_after : ℕ → ℕ → ℕ
state_after x zero = x
state_after x (suc n) = state_after (after_four x) n

pub state_more : (x n : ℕ) → state_after x (suc n) ≡ after_four (state_after x n)
unfolding state_after
state_more x zero = refl
state_more x (suc n) = state_more (after_four x) n

-- the task of number i + n, from the state before that of number i
abbrev pub task_at : ℕ → ℕ → ℕ → ℕ → TaskDef
task_at size i x n = task_by (i + n) (drawn_at size (i + n) (state_after x n))

-- one task more at the end
pub tasks_more : (size i x n : ℕ) → tasks_from size i x (suc n) ≡ tasks_from size i x n ++ task_at size i x n ∷ []
unfolding tasks_from state_after
tasks_more size i x zero = let same : i ≡ i + 0 = omega arith in ap (λ k. task_by k (drawn_at size k x) ∷ []) same
tasks_more size i x (suc n) =
    let same : (i + 1) + n ≡ i + suc n = omega arith in
    ap (λ ts. task_by i (drawn_at size i x) ∷ ts)
    (tasks_more size (i + 1) (after_four x) n ∙ ap (λ k. tasks_from size (i + 1) (after_four x) n ++ task_by k (drawn_at size k (state_after (after_four x) n)) ∷ []) same)

pub tasks_length : (size i x n : ℕ) → length (tasks_from size i x n) ≡ n
unfolding tasks_from
tasks_length size i x zero = refl
tasks_length size i x (suc n) = ap suc (tasks_length size (i + 1) (after_four x) n)

-- each task is one of its number
pub task_found : (size i x n k : ℕ) (task : TaskDef) → slice_get (tasks_from size i x n) k ≡ Some task → (y : ℕ) × (task ≡ task_by (i + k) (drawn_at size (i + k) y)) × (k < n)
unfolding tasks_from
task_found size i x zero k task e = cc
task_found size i x (suc n) zero task e =
    let same : i ≡ i + 0 = omega arith in
    let is : task ≡ task_by i (drawn_at size i x) = cc in
    (x, is ∙ ap (λ k. task_by k (drawn_at size k x)) same, omega arith)
task_found size i x (suc n) (suc k) task e =
    let same : (i + 1) + k ≡ i + suc k = omega arith in
    let found = task_found size (i + 1) (after_four x) n k task e in
    (found.0, found.1 ∙ ap (λ j. task_by j (drawn_at size j found.0)) same, omega (arith, found.2))

-- each number has its task
pub task_there : (size i x n k : ℕ) → k < n → (y : ℕ) × (slice_get (tasks_from size i x n) k ≡ Some (task_by (i + k) (drawn_at size (i + k) y)))
unfolding tasks_from
task_there size i x zero k below = absurd (omega arith)
task_there size i x (suc n) zero below = let same : i ≡ i + 0 = omega arith in (x, ap (λ k. Some (task_by k (drawn_at size k x))) same)
task_there size i x (suc n) (suc k) below =
    let same : (i + 1) + k ≡ i + suc k = omega arith in
    let found = task_there size (i + 1) (after_four x) n k (omega arith) in
    (found.0, found.1 ∙ ap (λ j. Some (task_by j (drawn_at size j found.0))) same)

-- what each number's task passes all pass
pub all_tasks : (p : TaskDef → Bool) (size i x n : ℕ) → ((k y : ℕ) → i ≤ k → k < i + n → p (task_by k (drawn_at size k y)) ≡ true) → list_all p (tasks_from size i x n) ≡ true
unfolding tasks_from
all_tasks p size i x zero each = refl
all_tasks p size i x (suc n) each =
    and_from _ _ (each i x (omega arith) (omega arith)) (all_tasks p size (i + 1) (after_four x) n (λ k y low high. each k y (omega arith) (omega arith)))

-- a task more, with what was drawn for it
pub made_more : (size seed n x : ℕ) (before after : List TaskDef) (task : TaskDef) (d : Drawn) → before ≡ tasks_from size 0 seed n → x ≡ state_after seed n → d ≡ drawn_at size n x → task ≡ task_by n d → after ≡ before ++ task ∷ [] → after ≡ tasks_from size 0 seed (n + 1)
made_more size seed n x before after task d so_far stands draws is added =
    let number : n ≡ 0 + n = omega arith in
    let next : suc n ≡ n + 1 = omega arith in
    added
    ∙ ap₂ (λ ts t. ts ++ t ∷ []) so_far (is ∙ ap (λ y. task_by n y) (draws ∙ ap (λ y. drawn_at size n y) stands) ∙ ap (λ k. task_by k (drawn_at size k (state_after seed n))) number)
    ∙ sym (tasks_more size 0 seed n)
    ∙ ap (λ k. tasks_from size 0 seed k) next

pub drawn_more : (seed n x y : ℕ) → x ≡ state_after seed n → y ≡ after_four x → y ≡ state_after seed (n + 1)
drawn_more seed n x y stands drawn =
    let next : suc n ≡ n + 1 = omega arith in
    drawn ∙ ap after_four stands ∙ sym (state_more seed n) ∙ ap (λ k. state_after seed k) next

-- none so far
pub none_made : (size seed : ℕ) → [] ≡ tasks_from size 0 seed 0
unfolding tasks_from
none_made size seed = refl

pub none_drawn : (seed : ℕ) → seed ≡ state_after seed 0
unfolding state_after
none_drawn seed = refl
