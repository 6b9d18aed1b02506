-- What stands together between rounds, and how a round is entered and left (docs/MODEL.md, "Machine and books agree").
use Rattle.std.specs.Prelude.{◌≡◌, ℕ, zero, suc, ◌+◌, ◌*◌, ◌<◌, ◌≤◌, ◌==◌, List, [], ◌∷◌, length, if◌then◌else◌}
use Rattle.step_tables.specs.declared.tables.Script.{Script}
use Rattle.task_machine.specs.Step.{task_at}
use Rattle.run_model.specs.Book.{Book}
use Rattle.run_model.specs.Standing.{Standing, book_at, blank_book, turn_ended}
use Rattle.turn_steps.specs.Left.{Stage, begun, injector}
use Rattle.turn_steps.specs.Times.{listed}
use Rattle.turn_steps.specs.Has.{caller}
use Rattle.turn_steps.specs.Ranges.{TimersIn}
use Rattle.standing.specs.Places.{held, ran, drawn_to}
use Rattle.standing.specs.Keeps.{SharedOnly, Callers}

-- all of it together between rounds; no task was taken more than limit times
pub record KeepsBetween (s : Script) (limit : ℕ) (st : Standing) : Type 0 where
  pub workers : st.state.workers ≡ s.workers
  pub tasks : length st.state.tasks ≡ length s.tasks
  pub books : length st.books ≡ s.workers
  pub hands : (k i : ℕ) → k < s.workers → held (caller k) st.state i ≡ listed i (book_at st k)
  pub free : (i : ℕ) → held (caller s.workers) st.state i ≡ 0
  pub runs : (k i : ℕ) → k ≤ s.workers → ran (caller k) st.state i ≡ 0
  pub draws : (k i : ℕ) → k ≤ s.workers → drawn_to (caller k) st.state i ≡ 0
  pub timers : (k : ℕ) → k < s.workers → TimersIn (length s.tasks) (book_at st k)
  pub shared : SharedOnly s st.state
  pub takes : (i : ℕ) → (task_at st.state i).takes ≤ limit

-- the callers as a round begins: workers at the begin of their turns, then the injector
abbrev pub entered : Script → ℕ → ℕ → Standing → Callers
entered s r T st = record {
  state = st.state;
  at = λ k. if k == s.workers then injector s r (blank_book 0) else begun s T (book_at st k);
}

-- the books of n callers from w on after a round at tick T
abbrev pub books_of : Script → ℕ → (ℕ → Stage) → ℕ → ℕ → List Book
books_of s T at w zero = []
books_of s T at w (suc n) = turn_ended s T (at w).book ∷ books_of s T at (w + 1) n

-- what stands once nobody has a call left
abbrev pub left_by : Script → ℕ → Callers → Standing
left_by s T c = record { state = c.state; books = books_of s T c.at 0 s.workers }

-- the most takes of a round
abbrev pub round_takes : Script → ℕ
round_takes s = (s.workers + 1) * (2 * s.depth + 3)
