-- Two lawful rounds of a closed script from what stands are alike, and lead to the same.
use Rattle.std.proofs.Common.{◌≡◌, ℕ, ◌+◌, ◌<◌, ◌==◌, List, [], map, IsTrue, refl, sym, ap, ◌∙◌, arith, subst}
use Rattle.std.specs.List.{filter}
use Rattle.std.proofs.lemmas.List.{same_lists, get_or_default}
use Rattle.step_tables.specs.declared.tables.Event.{Event}
use Rattle.step_tables.specs.declared.tables.Action.{Action}
use Rattle.step_tables.specs.declared.tables.Script.{Script}
use Rattle.step_tables.specs.Sound.{is_sound}
use Rattle.task_machine.specs.declared.task.TaskState.{TaskState}
use Rattle.task_machine.specs.Task.{resting}
use Rattle.task_machine.specs.Step.{State, task_at}
use Rattle.run_model.specs.Run.{Round}
use Rattle.run_model.specs.Tables.{home_of, groups, actions_in}
use Rattle.run_model.specs.Book.{Book}
use Rattle.run_model.specs.Lawful.{RoundOf}
use Rattle.run_model.specs.Standing.{Standing, book_at, blank_book, turn_ended}
use Rattle.turn_steps.specs.Left.{Stage, at_events}
use Rattle.std.specs.List.{range_with_len}
use Rattle.standing.specs.Between.{KeepsBetween, entered, round_takes}
use Rattle.standing.specs.Firm.{Firm}
use Rattle.standing.proofs.Enter.{entered_each}
use Rattle.standing.proofs.Firm.{firm-round}
use Rattle.standing.proofs.HomesKept.{KeepsHomes-entered}
use Rattle.standing.proofs.Rounds.{made-round, left_after}
use Rattle.closed_runs.specs.Alike.{RoundsAlike}
use Rattle.closed_runs.specs.Laws.{ClosedRoundsAreDetermined}
use Rattle.closed_runs.proofs.Scripts.{Closed, closed-homes}
use Rattle.closed_runs.proofs.Inward.{Inward, inward-gets}
use Rattle.closed_runs.proofs.Apart.{KeepsInward, Ends, same-round}

-- the injector has no action
no_actions : (s : Script) (r : ℕ) → Closed s → actions_in s r ≡ []
no_actions s r closed = ap (λ (es : List Event). map (λ (e : Event). e.action) (filter (λ (e : Event). e.round == r) es)) closed.events

inward-entered : (s : Script) (r T limit : ℕ) (st : Standing) → Closed s → Firm s T limit st → KeepsInward s (entered s r T st)
inward-entered s r T limit st closed firm = record {
  homes = KeepsHomes-entered s r T st firm.homes;
  inward = λ k le. entered_each s r T st (λ k (g : Stage). Inward s k g.left) k (λ same. subst (λ (as_ : List Action). Inward s k (at_events as_ (blank_book 0)).left) (sym (no_actions s r closed)) tt) (λ ne. inward-gets s k T (range_with_len 0 (groups s)) (book_at st k));
}

ends-round : (s : Script) (r T limit : ℕ) (old : Standing) (x : Round) (a : Standing) → Closed s → Firm s T limit old → RoundOf s r T old x a → Ends s T (entered s r T old) x.entries
ends-round s r T limit old x a closed firm h =
    let made = made-round s r T old x a firm.places.books h in
    record { keeps = inward-entered s r T limit old closed firm; going = made.going; done = made.done }

same_state : (a b : State) → a.workers ≡ b.workers → a.tasks ≡ b.tasks → a ≡ b
same_state a b h g = ap (λ (z : ℕ). record { workers = z; tasks = a.tasks }) h ∙ ap (λ (z : List TaskState). record { workers = b.workers; tasks = z }) g

same_standing : (x y : Standing) → x.state ≡ y.state → x.books ≡ y.books → x ≡ y
same_standing x y h g = ap (λ (z : State). record { state = z; books = x.books }) h ∙ ap (λ (z : List Book). record { state = y.state; books = z }) g

-- what is the same of each task and of each worker is the same of all
same_after : (s : Script) (m n : ℕ) (a b : Standing) → KeepsBetween s m a → KeepsBetween s n b → ((i : ℕ) → task_at a.state i ≡ task_at b.state i) → ((k : ℕ) → k < s.workers → book_at a k ≡ book_at b k) → a ≡ b
same_after s m n a b ka kb tasks books =
    let state = same_state a.state b.state (ka.workers ∙ sym kb.workers) (same_lists a.state.tasks b.state.tasks (ka.tasks ∙ sym kb.tasks) (λ i d lt.
    get_or_default a.state.tasks i d resting lt ∙ tasks i ∙ sym (get_or_default b.state.tasks i d resting (omega (arith, ka.tasks, kb.tasks))))) in
    same_standing a b state (same_lists a.books b.books (ka.books ∙ sym kb.books) (λ k d lt.
    get_or_default a.books k d (blank_book 0) lt ∙ books k (omega (arith, ka.books)) ∙ sym (get_or_default b.books k d (blank_book 0) (omega (arith, ka.books, kb.books)))))

rounds_same : (s : Script) (r T limit : ℕ) (old : Standing) (x y : Round) (a b : Standing) → IsTrue (is_sound s) → Closed s → Firm s T limit old → RoundOf s r T old x a → RoundOf s r T old y b → RoundsAlike x y × (a ≡ b)
rounds_same s r T limit old x y a b sound closed firm g h =
    let c = entered s r T old in
    let one = ends-round s r T limit old x a closed firm g in
    let two = ends-round s r T limit old y b closed firm h in
    let same = λ (k : ℕ). same-round s T k c x.entries closed one c y.entries two (record { stage = refl; tasks = λ i own. refl }) in
    let left = left_after s r T old x a firm.places.books g in
    let right = left_after s r T old y b firm.places.books h in
    let tasks = λ (i : ℕ). ap (λ (z : State). task_at z i) left.state ∙ (same (home_of s i)).agree.tasks i refl ∙ sym (ap (λ (z : State). task_at z i) right.state) in
    let books = λ (k : ℕ) (lt : k < s.workers). left.books k lt ∙ ap (λ (z : Stage). turn_ended s T z.book) (same k).agree.stage ∙ sym (right.books k lt) in (
      record { tick = g.tick ∙ sym h.tick; calls = λ k. (same k).calls },
      same_after s (limit + round_takes s) (limit + round_takes s) a b (firm-round s r T limit old x a sound firm g).places (firm-round s r T limit old y b sound firm h).places tasks books,
    )

pub rounds_alike : ClosedRoundsAreDetermined
rounds_alike s r T limit old x y a b sound closed firm g h = rounds_same s r T limit old x y a b sound (closed-homes s sound closed) firm g h
