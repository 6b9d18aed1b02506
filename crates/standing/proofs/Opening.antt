-- What stands together stands at the opening.
use Rattle.std.proofs.Common.{◌≡◌, ℕ, zero, suc, ◌≤◌, Bool, true, false, if◌then◌else◌, inl, inr, length, map, get_or, refl, sym, arith, eqb-true, replicate}
use Rattle.std.proofs.lemmas.Bool.{cases_lt}
use Rattle.std.proofs.lemmas.List.{get_or_past, get_or-map, length-map, length-replicate}
use Rattle.step_tables.specs.declared.tables.Script.{Script}
use Rattle.task_machine.specs.declared.task.TaskState.{TaskState}
use Rattle.task_machine.specs.Task.{resting, seated, in_hands, in_draw, in_run, is_boxed}
use Rattle.task_machine.specs.Step.{task_at, bit}
use Rattle.run_model.specs.Tables.{blank_task, home_of}
use Rattle.run_model.specs.Book.{Book}
use Rattle.run_model.specs.Standing.{blank_book, opened, opening, book_at}
use Rattle.turn_steps.specs.Has.{caller}
use Rattle.turn_steps.specs.Times.{listed}
use Rattle.turn_steps.specs.Ranges.{TimersIn}
use Rattle.standing.specs.Between.{KeepsBetween}

-- a fact of each book of n equal ones, and of what stands past them
pub blank_at : (n k : ℕ) (b d : Book) (P : Book → Type 0) → P b → P d → P (get_or (replicate n b) k d)
blank_at zero k b d P h g = g
blank_at (suc n) zero b d P h g = h
blank_at (suc n) (suc k) b d P h g = blank_at n k b d P h g

-- a task at the opening, and what is no task
pub opened_each : (s : Script) (i : ℕ) (P : ℕ → TaskState → Type 0) → P (home_of s i) (opened s (get_or s.tasks i blank_task)) → P (home_of s i) resting → P (home_of s i) (task_at (opening s).state i)
opened_each s i P h g =
    elim (cases_lt i (length s.tasks)) [
      | inl lt ↦ rw (get_or-map (opened s) s.tasks i blank_task resting lt) h
      | inr le ↦ rw (get_or_past (map (opened s) s.tasks) i resting (omega (arith, length-map s.tasks (opened s)))) g
    ]

opened_if : (init : Bool) (b : ℕ) (P : TaskState → Type 0) → P (seated b resting) → P resting → P (if init then seated b resting else resting)
opened_if true b P h g = h
opened_if false b P h g = g

-- a fact of a task at the opening: it is in the box of its home, or at rest
pub opening_each : (s : Script) (i : ℕ) (P : TaskState → Type 0) → P (seated (home_of s i) resting) → P resting → P (task_at (opening s).state i)
opening_each s i P h g =
    opened_each s i (λ b t. P t) (opened_if (get_or s.tasks i blank_task).init (home_of s i) P h g) g

pub KeepsBetween-opening : (s : Script) → KeepsBetween s 0 (opening s)
KeepsBetween-opening s = record {
  workers = refl;
  tasks = length-map s.tasks (opened s);
  books = length-replicate s.workers (blank_book (length s.tasks));
  hands = λ k i lt. opening_each s i (λ t. bit (in_hands (caller k) t.place) ≡ listed i (book_at (opening s) k)) (empty_book s i k) (empty_book s i k);
  free = λ i. opening_each s i (λ t. bit (in_hands (caller s.workers) t.place) ≡ 0) refl refl;
  runs = λ k i le. opening_each s i (λ t. bit (in_run (caller k) t.place) ≡ 0) refl refl;
  draws = λ k i le. opening_each s i (λ t. bit (in_draw (caller k) t.place) ≡ 0) refl refl;
  timers = λ k lt. blank_at s.workers k (blank_book (length s.tasks)) (blank_book 0) (TimersIn (length s.tasks)) tt tt;
  shared = λ i. opening_each s i (λ t. is_boxed s.workers t.place ≡ true → home_of s i ≡ s.workers) (λ h. sym (eqb-true s.workers (home_of s i) h)) (λ h. cc);
  takes = λ i. opening_each s i (λ t. t.takes ≤ 0) (omega arith) (omega arith);
}
  where
    empty_book : (s : Script) (i k : ℕ) → 0 ≡ listed i (book_at (opening s) k)
    empty_book s i k = blank_at s.workers k (blank_book (length s.tasks)) (blank_book 0) (λ b. 0 ≡ listed i b) refl refl
