-- How a round is entered from what stands before it, and left.
use Rattle.std.proofs.Common.{◌≡◌, ◌≢◌, ℕ, zero, suc, ◌+◌, ◌*◌, ◌<◌, ◌≤◌, Bool, true, false, ◌==◌, if◌then◌else◌, inl, inr, List, length, None, refl, sym, ap, ◌∙◌, arith, eq-eqb, ne_eqb, subst}
use Rattle.std.specs.List.{AllByRecursion, range_with_len}
use Rattle.std.specs.Int.{div_ceil}
use Rattle.std.proofs.lemmas.Bool.{cases_eq}
use Rattle.step_tables.specs.declared.tables.Script.{Script}
use Rattle.task_machine.specs.declared.calls.Entry.{Entry}
use Rattle.task_machine.specs.History.{calls_of}
use Rattle.run_model.specs.Tables.{groups, actions_in}
use Rattle.run_model.specs.Book.{Book}
use Rattle.run_model.specs.Standing.{Standing, book_at, blank_book, turn_ended}
use Rattle.turn_steps.specs.Left.{Left, gets, wakes, runs, acts, posts, drops, retires, returns, drawn, injects, carries, over, Stage, asked_in, begun, injector, Rest}
use Rattle.turn_steps.specs.Times.{listed}
use Rattle.turn_steps.specs.Has.{caller, due, run_by, drawn_by}
use Rattle.turn_steps.specs.Counts.{is_injectors, takes_left, draws_ahead}
use Rattle.turn_steps.specs.Ranges.{InRange, IsFit}
use Rattle.turn_steps.proofs.Budget.{costs-gets, costs-events}
use Rattle.turn_steps.proofs.Ranges.{in-gets, in-events}
use Rattle.turn_steps.proofs.Stages.{has-gets, has-events}
use Rattle.turn_steps.proofs.Turns.{book-injects}
use Rattle.standing.specs.Keeps.{Owns, Callers, sum_below, Keeps}
use Rattle.standing.specs.Going.{Going, gone_on, IsDone}
use Rattle.standing.specs.Between.{KeepsBetween, entered, round_takes}
use Rattle.standing.proofs.Ahead.{ahead-gets}
use Rattle.standing.proofs.Ended.{listed-ended, timers-ended}
use Rattle.standing.proofs.Merge.{rest-going}

entered_if : (P : Stage → Type 0) (b : Bool) (x y : Stage) → (b ≡ true → P x) → (b ≡ false → P y) → P (if b then x else y)
entered_if P true x y h g = h refl
entered_if P false x y h g = g refl

-- a fact of each caller as a round begins
pub entered_each : (s : Script) (r T : ℕ) (st : Standing) (P : ℕ → Stage → Type 0) (k : ℕ) → (k ≡ s.workers → P k (injector s r (blank_book 0))) → (k ≢ s.workers → P k (begun s T (book_at st k))) → P k ((entered s r T st).at k)
entered_each s r T st P k last worker =
    elim (cases_eq k s.workers) [
      | inl same ↦ rw (eq-eqb k s.workers same) (last same)
      | inr ne ↦ rw (ne_eqb k s.workers ne) (worker ne)
    ]

-- each group that there is has a task
groups_below : (n g m from : ℕ) → g ≡ div_ceil n 64 → from + m ≤ g → AllByRecursion (λ x. 64 * x < n) (range_with_len from m)
groups_below n g zero from e h = tt
groups_below n g (suc m) from e h = (ceiling n g from e (omega arith), groups_below n g m (from + 1) e (omega arith))
  where
    ceiling : (n g x : ℕ) → g ≡ div_ceil n 64 → x < g → 64 * x < n
    ceiling n g x e h = omega arith

sum-le : (n m : ℕ) (f : ℕ → ℕ) → ((k : ℕ) → k < n → f k ≤ m) → sum_below n f ≤ n * m
sum-le zero m f h = omega arith
sum-le (suc n) m f h =
    let later = sum-le n m f (λ k lt. h k (omega arith)) in
    let here = h n (omega arith) in
    omega arith

-- as a round begins all of it stands together
pub Keeps-entered : (s : Script) (r T limit : ℕ) (st : Standing) → IsFit s → KeepsBetween s limit st → Keeps s (limit + round_takes s) (entered s r T st)
Keeps-entered s r T limit st fit h =
    let gs = range_with_len 0 (groups s) in
    record {
      workers = h.workers;
      tasks = h.tasks;
      owns = λ k le. entered_each s r T st (λ k g. Owns k st.state g) k (λ same. rw same (record {
        hands = λ i. omega (arith, h.free i, (has-events i (actions_in s r) (blank_book 0)).hands);
        runs = λ i. omega (arith, h.runs s.workers i (omega arith), (has-events i (actions_in s r) (blank_book 0)).runs);
        draws = λ i. omega (arith, h.draws s.workers i (omega arith), (has-events i (actions_in s r) (blank_book 0)).draws);
      })) (λ ne. record {
        hands = λ i. omega (arith, h.hands k i (omega arith), (has-gets s T i gs (book_at st k)).hands);
        runs = λ i. omega (arith, h.runs k i le, (has-gets s T i gs (book_at st k)).runs);
        draws = λ i. omega (arith, h.draws k i le, (has-gets s T i gs (book_at st k)).draws);
      });
      range = λ k le. entered_each s r T st (λ k g. InRange (length s.tasks) g) k (λ same. in-events (length s.tasks) (actions_in s r) (blank_book 0) (fit.events r) tt) (λ ne. in-gets s T (length s.tasks) gs (book_at st k) (groups_below (length s.tasks) (groups s) (groups s) 0 refl (omega arith)) (h.timers k (omega arith)));
      part = λ k le. entered_each s r T st (λ k g. is_injectors g.left ≡ (k == s.workers)) k (λ same. (costs-events s.depth (actions_in s r) (blank_book 0)).part ∙ sym (eq-eqb k s.workers same)) (λ ne. (costs-gets s T gs (book_at st k)).part ∙ sym (ne_eqb k s.workers ne));
      shared = h.shared;
      takes = λ i. omega (arith, h.takes i, sum-le (s.workers + 1) (2 * s.depth + 3) (λ k. takes_left s.depth ((entered s r T st).at k).left) (λ k lt. entered_each s r T st (λ k g. takes_left s.depth g.left ≤ 2 * s.depth + 3) k (λ same. omega (arith, (costs-events s.depth (actions_in s r) (blank_book 0)).takes)) (λ ne. (costs-gets s T gs (book_at st k)).takes)));
    }

-- a worker may make all its draws
pub full-entered : (s : Script) (r T : ℕ) (st : Standing) (k : ℕ) → k < s.workers → draws_ahead s.depth ((entered s r T st).at k).left ≡ s.depth
full-entered s r T st k lt =
    entered_each s r T st (λ k g. draws_ahead s.depth g.left ≡ s.depth) k (λ same. absurd (omega arith)) (λ ne. ahead-gets s T (range_with_len 0 (groups s)) (book_at st k))

-- a caller that asks nothing has no more than it lists
pub ended_has : (s : Script) (l : Left) (b : Book) (i : ℕ) → asked_in s l b ≡ None → (due i l ≡ 0) × (run_by i l ≡ 0) × (drawn_by i l ≡ 0)
ended_has s (gets g gs) b i e = cc
ended_has s (wakes j js) b i e = cc
ended_has s (runs q) b i e = (refl, refl, refl)
ended_has s (acts x more j row q) b i e = cc
ended_has s (posts x more j row q) b i e = cc
ended_has s (drops j q) b i e = cc
ended_has s (retires in_hand j q) b i e = cc
ended_has s (returns j q) b i e = cc
ended_has s (drawn j n) b i e = cc
ended_has s (injects x more) b i e = cc
ended_has s (carries j more) b i e = cc
ended_has s over b i e = (refl, refl, refl)

-- what stands after a round
pub record IsLeft (s : Script) (T : ℕ) (c : Callers) (new : Standing) : Type 0 where
  pub state : new.state ≡ c.state
  pub count : length new.books ≡ s.workers
  pub books : (k : ℕ) → k < s.workers → book_at new k ≡ turn_ended s T (c.at k).book

-- the injector lists nothing
lists_nothing : (s : Script) (r T i : ℕ) (old : Standing) (es : List Entry) → Going s T (entered s r T old) es → IsDone s (gone_on s T (entered s r T old) es) → listed i ((gone_on s T (entered s r T old) es).at s.workers).book ≡ 0
lists_nothing s r T i old es h done =
    let end = ((gone_on s T (entered s r T old) es).at s.workers).book in
    let rest = rest-going s T (entered s r T old) es h done s.workers (omega arith) in
    let same : (entered s r T old).at s.workers ≡ injector s r (blank_book 0) = entered_each s r T old (λ k g. k ≡ s.workers → g ≡ injector s r (blank_book 0)) s.workers (λ e _. refl) (λ ne e. absurd (ne e)) refl in
    let blank = book-injects s r T (blank_book 0) (calls_of s.workers es) end (subst (λ (g : Stage). Rest s (caller s.workers) T g (calls_of s.workers es) end) same rest) in
    ap (listed i) blank

pub KeepsBetween-left : (s : Script) (r T limit : ℕ) (old : Standing) (es : List Entry) (new : Standing) → KeepsBetween s limit old → Going s T (entered s r T old) es → IsDone s (gone_on s T (entered s r T old) es) → Keeps s (limit + round_takes s) (gone_on s T (entered s r T old) es) → IsLeft s T (gone_on s T (entered s r T old) es) new → KeepsBetween s (limit + round_takes s) new
KeepsBetween-left s r T limit old es new before h done keeps left =
    let c = gone_on s T (entered s r T old) es in
    let none = λ (k : ℕ) (le : k ≤ s.workers) (i : ℕ). ended_has s (c.at k).left (c.at k).book i (done k le) in
    record {
      workers = ap (λ x. x.workers) left.state ∙ keeps.workers;
      tasks = ap (λ x. length x.tasks) left.state ∙ keeps.tasks;
      books = left.count;
      hands = λ k i lt. rw (left.state, left.books k lt) (omega (arith, (keeps.owns k (omega arith)).hands i, (none k (omega arith) i).0, listed-ended s T i (c.at k).book));
      free = λ i. rw left.state (omega (arith, (keeps.owns s.workers (omega arith)).hands i, (none s.workers (omega arith) i).0, lists_nothing s r T i old es h done));
      runs = λ k i le. rw left.state (omega (arith, (keeps.owns k le).runs i, (none k le i).1));
      draws = λ k i le. rw left.state (omega (arith, (keeps.owns k le).draws i, (none k le i).2));
      timers = λ k lt. rw (left.books k lt) (timers-ended s T (length s.tasks) (c.at k).book (keeps.range k (omega arith)).timers);
      shared = rw left.state keeps.shared;
      takes = λ i. rw left.state (omega (arith, keeps.takes i));
    }
