-- A lawful round is a sequence of next calls after which nobody has a call left, and the other way round.
use Rattle.std.proofs.Common.{◌≡◌, ℕ, ◌+◌, ◌^◌, ◌<◌, true, List, [], ◌++◌, length, refl, sym, ap, ◌∙◌, arith, subst, inl, inr}
use Rattle.std.proofs.lemmas.Bool.{cases_eq}
use Rattle.std.proofs.lemmas.List.{append-nil}
use Rattle.step_tables.specs.declared.tables.Script.{Script}
use Rattle.task_machine.specs.declared.calls.Entry.{Entry}
use Rattle.task_machine.specs.History.{calls_of}
use Rattle.run_model.specs.Run.{Round}
use Rattle.run_model.specs.Book.{Book}
use Rattle.run_model.specs.Lawful.{Turns, RoundOf}
use Rattle.run_model.specs.Standing.{Standing, book_at, blank_book, is_served, turn_ended}
use Rattle.turn_steps.specs.Left.{Stage, Rest, begun, injector}
use Rattle.turn_steps.specs.Told.{told}
use Rattle.turn_steps.specs.Has.{caller}
use Rattle.turn_steps.specs.Ranges.{IsFit}
use Rattle.turn_steps.proofs.Told.{rest-told}
use Rattle.turn_steps.proofs.Turns.{rest-turn, turn-rest, rest-injects, injects-rest}
use Rattle.standing.specs.Going.{Going, gone_on, IsDone}
use Rattle.standing.specs.Between.{KeepsBetween, entered, books_of, left_by, round_takes}
use Rattle.standing.proofs.Enter.{entered_each, IsLeft, Keeps-entered, KeepsBetween-left, full-entered}
use Rattle.standing.proofs.Finish.{Finishes-all}
use Rattle.standing.proofs.Merge.{state-gone_on, legal-going, callers-going, rest-going, Made, going-rest, Whole, turns-each, each-turns}
use Rattle.standing.proofs.Steps.{Keeps-going}

-- the book to which a caller's calls lead
abbrev after_calls : Script → ℕ → ℕ → Standing → List Entry → ℕ → Book
after_calls s r T old es k = (told s (caller k) T ((entered s r T old).at k) (calls_of k es)).book

pub worker_stage : (s : Script) (r T : ℕ) (old : Standing) (k : ℕ) → k < s.workers → (entered s r T old).at k ≡ begun s T (book_at old k)
worker_stage s r T old k lt =
    entered_each s r T old (λ k g. k < s.workers → g ≡ begun s T (book_at old k)) k (λ same l. absurd (omega arith)) (λ ne l. refl) lt

pub injector_stage : (s : Script) (r T : ℕ) (old : Standing) (k : ℕ) → k ≡ s.workers → (entered s r T old).at k ≡ injector s r (blank_book 0)
injector_stage s r T old k same =
    entered_each s r T old (λ k g. k ≡ s.workers → g ≡ injector s r (blank_book 0)) k (λ e l. refl) (λ ne e. absurd (ne e)) same

-- a worker's turn, its settling left out
worker_rest : (s : Script) (r T : ℕ) (old : Standing) (round : Round) (new : Standing) (k : ℕ) → length old.books ≡ s.workers → RoundOf s r T old round new → k < s.workers → (d : Book) × Rest s (caller k) T ((entered s r T old).at k) (calls_of k round.entries) d × (book_at new k ≡ turn_ended s T d)
worker_rest s r T old round new k n h lt =
    let first : 0 + k ≡ k = omega arith in
    let at = (turns-each s T round.entries 0 old.books new.books h.turns).1 k (blank_book 0) (omega (arith, n)) in
    let whole : Whole s k T (book_at old k) (calls_of k round.entries) (book_at new k) = subst (λ (v : ℕ). Whole s v T (book_at old k) (calls_of v round.entries) (book_at new k)) first at in
    let es = calls_of k round.entries in
    let same : whole.first ≡ es = sym (whole.joined ∙ ap (λ ys. whole.first ++ ys) whole.back.0 ∙ append-nil whole.first) in
    let rest = rest-turn s (caller k) T (book_at old k) whole.first whole.between whole.front in
    let there = subst (λ (ys : List Entry). Rest s (caller k) T (begun s T (book_at old k)) ys whole.between) same rest in
    (whole.between, subst (λ (g : Stage). Rest s (caller k) T g es whole.between) (sym (worker_stage s r T old k lt)) there, whole.back.1)

injector_rest : (s : Script) (r T : ℕ) (old : Standing) (round : Round) (new : Standing) (k : ℕ) → RoundOf s r T old round new → k ≡ s.workers → (d : Book) × Rest s (caller k) T ((entered s r T old).at k) (calls_of k round.entries) d
injector_rest s r T old round new k h same =
    let rest = rest-injects s r T (blank_book 0) (calls_of s.workers round.entries) h.injects in
    let there = subst (λ (v : ℕ). Rest s (caller v) T (injector s r (blank_book 0)) (calls_of v round.entries) (blank_book 0)) (sym same) rest in
    (blank_book 0, subst (λ (g : Stage). Rest s (caller k) T g (calls_of k round.entries) (blank_book 0)) (sym (injector_stage s r T old k same)) there)

-- the rest of a part ends where its calls lead
rest_there : (s : Script) (r T : ℕ) (old : Standing) (es : List Entry) (k : ℕ) (d : Book) → Rest s (caller k) T ((entered s r T old).at k) (calls_of k es) d → Rest s (caller k) T ((entered s r T old).at k) (calls_of k es) (after_calls s r T old es k)
rest_there s r T old es k d h =
    let t = rest-told s (caller k) T ((entered s r T old).at k) (calls_of k es) d h in
    subst (λ (b : Book). Rest s (caller k) T ((entered s r T old).at k) (calls_of k es) b) t.2 h

pub made-round : (s : Script) (r T : ℕ) (old : Standing) (round : Round) (new : Standing) → length old.books ≡ s.workers → RoundOf s r T old round new → Made s T (entered s r T old) round.entries (after_calls s r T old round.entries)
made-round s r T old round new n h =
    going-rest s T (entered s r T old) round.entries (after_calls s r T old round.entries) h.history.0 h.callers (λ k le.
    elim (cases_eq k s.workers) [
      | inl same ↦ (let x = injector_rest s r T old round new k h same in rest_there s r T old round.entries k x.0 x.1)
      | inr ne ↦ (let x = worker_rest s r T old round new k n h (omega arith) in rest_there s r T old round.entries k x.0 x.1)
    ])

pub left_after : (s : Script) (r T : ℕ) (old : Standing) (round : Round) (new : Standing) → length old.books ≡ s.workers → RoundOf s r T old round new → IsLeft s T (gone_on s T (entered s r T old) round.entries) new
left_after s r T old round new n h =
    let made = made-round s r T old round new n h in
    record {
      state = h.history.1 ∙ sym (state-gone_on s T (entered s r T old) round.entries);
      count = (turns-each s T round.entries 0 old.books new.books h.turns).0 ∙ n;
      books = λ k lt.
          let x = worker_rest s r T old round new k n h lt in
          let t = rest-told s (caller k) T ((entered s r T old).at k) (calls_of k round.entries) x.0 x.1 in
          x.2 ∙ ap (turn_ended s T) (t.2 ∙ made.books k (omega arith));
    }

-- a lawful round keeps what stands together between rounds
pub KeepsBetween-round : (s : Script) (r T limit : ℕ) (old : Standing) (round : Round) (new : Standing) → IsFit s → KeepsBetween s limit old → RoundOf s r T old round new → KeepsBetween s (limit + round_takes s) new
KeepsBetween-round s r T limit old round new fit keeps h =
    let made = made-round s r T old round new keeps.books h in
    let start = Keeps-entered s r T limit old fit keeps in
    KeepsBetween-left s r T limit old round.entries new keeps made.going made.done (Keeps-going s T (limit + round_takes s) (entered s r T old) round.entries fit start made.going) (left_after s r T old round new keeps.books h)

-- the turn of a worker whose calls are done
whole_turn : (s : Script) (r T : ℕ) (old : Standing) (es : List Entry) (k : ℕ) → Going s T (entered s r T old) es → IsDone s (gone_on s T (entered s r T old) es) → k < s.workers → Whole s k T (book_at old k) (calls_of k es) (turn_ended s T ((gone_on s T (entered s r T old) es).at k).book)
whole_turn s r T old es k h done lt =
    let end = ((gone_on s T (entered s r T old) es).at k).book in
    let rest = rest-going s T (entered s r T old) es h done k (omega arith) in
    let there = subst (λ (g : Stage). Rest s (caller k) T g (calls_of k es) end) (worker_stage s r T old k lt) rest in
    record {
      first = calls_of k es;
      second = [];
      between = end;
      joined = sym (append-nil (calls_of k es));
      front = turn-rest s (caller k) T (book_at old k) (calls_of k es) end there;
      back = (refl, refl);
    }

-- calls after which nobody has a call left are a lawful round, where the shared box was served
pub round-made : (s : Script) (r T : ℕ) (old : Standing) (es : List Entry) → length old.books ≡ s.workers → Going s T (entered s r T old) es → IsDone s (gone_on s T (entered s r T old) es) → is_served s old.state es ≡ true → RoundOf s r T old (record { tick = T; entries = es }) (left_by s T (gone_on s T (entered s r T old) es))
round-made s r T old es n h done served =
    let c = gone_on s T (entered s r T old) es in
    let rest = rest-going s T (entered s r T old) es h done s.workers (omega arith) in
    let last = subst (λ (g : Stage). Rest s (caller s.workers) T g (calls_of s.workers es) (c.at s.workers).book) (injector_stage s r T old s.workers refl) rest in
    let turns = each-turns s T es 0 old.books (blank_book 0) c.at (λ i lt. let first : i ≡ 0 + i = omega arith in subst (λ (v : ℕ). Whole s v T (book_at old i) (calls_of v es) (turn_ended s T (c.at v).book)) first (whole_turn s r T old es i h done (omega (arith, n)))) in
    record {
      tick = refl;
      history = (legal-going s T (entered s r T old) es h, state-gone_on s T (entered s r T old) es);
      turns = subst (λ (m : ℕ). Turns s T es 0 old.books (books_of s T c.at 0 m)) n turns;
      injects = injects-rest s r T (blank_book 0) (calls_of s.workers es) (c.at s.workers).book last;
      callers = callers-going s T (entered s r T old) es h;
      served = served;
    }

-- calls of a round, brought to a lawful round
pub record Completes (s : Script) (r T : ℕ) (old : Standing) (es : List Entry) : Type 0 where
  pub more : List Entry
  pub new : Standing
  pub lawful : RoundOf s r T old (record { tick = T; entries = es ++ more }) new

pub completes : (s : Script) (r T limit : ℕ) (old : Standing) (es : List Entry) → IsFit s → limit + round_takes s < 2 ^ 48 → KeepsBetween s limit old → Going s T (entered s r T old) es → Completes s r T old es
completes s r T limit old es fit below keeps h =
    let start = Keeps-entered s r T limit old fit keeps in
    let f = Finishes-all s T (limit + round_takes s) (entered s r T old) es fit below start (full-entered s r T old) h in
    record {
      more = f.more;
      new = left_by s T (gone_on s T (entered s r T old) (es ++ f.more));
      lawful = round-made s r T old (es ++ f.more) keeps.books f.going f.done f.served;
    }
