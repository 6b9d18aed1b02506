-- What a turn's stage and a given reply tell of the tasks that its phase names.
use Rattle.std.proofs.Common.{◌≡◌, ℕ, suc, ◌+◌, ◌-◌, ◌<◌, ◌≤◌, ◌==◌, Bool, true, false, List, [], ◌∷◌, length, drop, length-drop, Some, refl, sym, ap, subst, ◌∙◌, arith, eq-eqb, if◌then◌else◌, IsTrue}
use Rattle.std.specs.List.{range_with_len}
use Rattle.sched_base.specs.ReasonNames.{timer}
use Rattle.sched_base.specs.declared.names.TaskId.{TaskId}
use Rattle.queue_model.specs.Classes.{Next}
use Rattle.step_tables.specs.declared.tables.Action.{Action}
use Rattle.step_tables.specs.declared.tables.Action.TheVariants.{Wake as WakesOf, Kill as KillsOf}
use Rattle.step_tables.specs.declared.tables.Row.{Row}
use Rattle.step_tables.specs.declared.tables.Script.{Script}
use Rattle.step_tables.specs.Sound.{is_sound}
use Rattle.task_machine.specs.Step.{bit}
use Rattle.task_machine.specs.declared.calls.Call.{Call}
use Rattle.task_machine.specs.declared.calls.Call.TheVariants as calls
use Rattle.task_machine.specs.declared.calls.Reply.{Reply}
use Rattle.run_model.specs.Replies.{is_rest, members}
use Rattle.run_model.specs.Tables.{call_of, target}
use Rattle.run_model.specs.Book.{Book}
use Rattle.run_model.proofs.Readings.{some_inj}
use Rattle.turn_steps.specs.Left as steps
use Rattle.turn_steps.specs.Left.{Left, acts, drops, Stage, stage, next_in}
use Rattle.turn_steps.specs.Times.{times, listed}
use Rattle.turn_steps.specs.Has.{gain, run_by, due, CanGive}
use Rattle.turn_steps.proofs.Books.{listed-taken}
use Rattle.turn_steps.proofs.Fit.{IsFit-sound}
use Rattle.thread_loop.specs.Queues.{book_of}
use Rattle.thread_loop.specs.Turns.{onward_of, row_of, actions_from, acting, stage_at, NamesTasks, IsGiven, PhaseFits}
use Rattle.thread_loop.specs.declared.queues.Queues.{Queues}
use Rattle.thread_loop.specs.declared.turn.Onward.{Onward}
use Rattle.thread_loop.specs.declared.turn.Run.{Run}
use Rattle.thread_loop.specs.declared.turn.Phase.{Phase}
use Rattle.thread_loop.specs.declared.turn.Phase.TheVariants.{Gets, Wakes, Runs, Acts, Posts, Drops, Retires, Returns, Drawn}

same-bit : (i : ℕ) → bit (i == i) ≡ 1
same-bit i = ap bit (eq-eqb i i refl)

-- ---- tasks that a phase names

run-acting : (xs : List Action) (i : ℕ) (row : Row) (q : steps.Onward) → run_by i (acting xs i row q) ≡ 1
run-acting [] i row q = same-bit i
run-acting (a ∷ xs) i row q = same-bit i

pub acts_in : (s : Script) (T : ℕ) (q : Queues) (p : Phase) (run : Run) (n : ℕ) → p ≡ Acts run n → NamesTasks s (stage_at s T q p) → run.task.0 < length s.tasks
acts_in s T q p run n e h =
    let names : NamesTasks s (stage_at s T q (Acts run n)) = subst (λ (p : Phase). NamesTasks s (stage_at s T q p)) e h in
    let one = run-acting (actions_from n s run) run.task.0 (row_of s run) (onward_of run.onward) in
    names run.task.0 (omega arith)

pub posts_in : (s : Script) (T : ℕ) (q : Queues) (p : Phase) (run : Run) (n : ℕ) (j : TaskId) → p ≡ Posts run n j → NamesTasks s (stage_at s T q p) → (run.task.0 < length s.tasks) × (j.0 < length s.tasks)
posts_in s T q p run n j e h =
    let names : NamesTasks s (stage_at s T q (Posts run n j)) = subst (λ (p : Phase). NamesTasks s (stage_at s T q p)) e h in
    let one = same-bit run.task.0 in
    let two = same-bit j.0 in
    (names run.task.0 (omega arith), names j.0 (omega arith))

pub drops_in : (s : Script) (T : ℕ) (q : Queues) (p : Phase) (i : TaskId) (o : Onward) → p ≡ Drops i o → NamesTasks s (stage_at s T q p) → i.0 < length s.tasks
drops_in s T q p i o e h =
    let names : NamesTasks s (stage_at s T q (Drops i o)) = subst (λ (p : Phase). NamesTasks s (stage_at s T q p)) e h in
    let one = same-bit i.0 in
    names i.0 (omega arith)

retires-one : (held : Bool) (i : ℕ) (q : steps.Onward) → due i (steps.retires held i q) + run_by i (steps.retires held i q) ≡ 1
retires-one true i q = let one = same-bit i in omega arith
retires-one false i q = let one = same-bit i in omega arith

pub retires_in : (s : Script) (T : ℕ) (q : Queues) (p : Phase) (held : Bool) (i : TaskId) (o : Onward) → p ≡ Retires held i o → NamesTasks s (stage_at s T q p) → i.0 < length s.tasks
retires_in s T q p held i o e h =
    let names : NamesTasks s (stage_at s T q (Retires held i o)) = subst (λ (p : Phase). NamesTasks s (stage_at s T q p)) e h in
    let one = retires-one held i.0 (onward_of o) in
    names i.0 (omega arith)

pub returns_in : (s : Script) (T : ℕ) (q : Queues) (p : Phase) (i : TaskId) (o : Onward) → p ≡ Returns i o → NamesTasks s (stage_at s T q p) → i.0 < length s.tasks
returns_in s T q p i o e h =
    let names : NamesTasks s (stage_at s T q (Returns i o)) = subst (λ (p : Phase). NamesTasks s (stage_at s T q p)) e h in
    let one = same-bit i.0 in
    names i.0 (omega arith)

pub drawn_in : (s : Script) (T : ℕ) (q : Queues) (p : Phase) (i : TaskId) (n : ℕ) → p ≡ Drawn i n → NamesTasks s (stage_at s T q p) → i.0 < length s.tasks
drawn_in s T q p i n e h =
    let names : NamesTasks s (stage_at s T q (Drawn i n)) = subst (λ (p : Phase). NamesTasks s (stage_at s T q p)) e h in
    let one = same-bit i.0 in
    names i.0 (omega arith)

pub lists_in : (s : Script) (T : ℕ) (q : Queues) (p : Phase) (o : Onward) → p ≡ Runs o → NamesTasks s (stage_at s T q p) → (i : ℕ) → 0 < listed i (book_of T q) → i < length s.tasks
lists_in s T q p o e h i some =
    let names : NamesTasks s (stage_at s T q (Runs o)) = subst (λ (p : Phase). NamesTasks s (stage_at s T q p)) e h in
    names i (omega arith)

-- ---- what a given reply tells

-- a reply to this call
given-call : (s : Script) (g : Stage) (r : Reply) (c : Call) → steps.asked s g ≡ Some c → IsGiven s g r → CanGive s g c r
given-call s g r c e h = subst (λ (d : Call). CanGive s g d r) (some_inj _ _ (sym h.1 ∙ e)) h.2

at-phase : (s : Script) (T : ℕ) (q : Queues) (p o : Phase) (r : Reply) → p ≡ o → IsGiven s (stage_at s T q p) r → IsGiven s (stage_at s T q o) r
at-phase s T q p o r e h = subst (λ (p : Phase). IsGiven s (stage_at s T q p) r) e h

-- the tasks of a get are tasks, and listed nowhere
pub record GetGiven (s : Script) (b : Book) (g : ℕ) (r : Reply) : Type 0 where
  pub exist : (i : ℕ) → 0 < times i (members g r) → i < length s.tasks
  pub absent : (i : ℕ) → times i (members g r) + listed i b ≤ 1

pub given_get : (s : Script) (T : ℕ) (q : Queues) (p : Phase) (g : ℕ) (r : Reply) → p ≡ Gets g → IsGiven s (stage_at s T q p) r → GetGiven s (book_of T q) g r
given_get s T q p g r e h =
    let can = given-call s (stage_at s T q (Gets g)) r (calls.Get g) refl (at-phase s T q p (Gets g) r e h) in
    record { exist = can.tasks; absent = λ i. let once = can.once i in omega arith }

-- a task that was seen at rest is a task, and listed nowhere
pub record RestGiven (s : Script) (b : Book) (i : ℕ) (r : Reply) : Type 0 where
  pub exists : is_rest r ≡ true → i < length s.tasks
  pub absent : is_rest r ≡ true → listed i b ≡ 0

rest-given : (s : Script) (g : Stage) (b : Book) (c : Call) (i : ℕ) (r : Reply) → CanGive s g c r → gain i c r ≡ (if is_rest r then bit (i == i) else 0) → listed i g.book ≡ listed i b → RestGiven s b i r
rest-given s g b c i r can e same =
    let one = same-bit i in
    record {
      exists = λ rest. let yes : gain i c r ≡ bit (i == i) = rw rest at e in can.tasks i (omega arith);
      absent = λ rest. let yes : gain i c r ≡ bit (i == i) = rw rest at e in let once = can.once i in omega arith;
    }

pub given_wake : (s : Script) (T : ℕ) (q : Queues) (p : Phase) (i : TaskId) (r : Reply) → p ≡ Wakes i → IsGiven s (stage_at s T q p) r → RestGiven s (book_of T q) i.0 r
given_wake s T q p i r e h =
    let can = given-call s (stage_at s T q (Wakes i)) r (calls.Wake i timer) refl (at-phase s T q p (Wakes i) r e h) in
    rest-given s (stage_at s T q (Wakes i)) (book_of T q) (calls.Wake i timer) i.0 r can refl refl

action-gain : (i : ℕ) (a : Action) (r : Reply) → gain i (call_of a) r ≡ (if is_rest r then bit (i == target a) else 0)
action-gain i (WakesOf j f) r = refl
action-gain i (KillsOf j) r = refl

pub given_act : (s : Script) (T : ℕ) (q : Queues) (p : Phase) (run : Run) (n : ℕ) (a : Action) (more : List Action) (r : Reply) → p ≡ Acts run n → actions_from n s run ≡ a ∷ more → IsGiven s (stage_at s T q p) r → RestGiven s (book_of T q) (target a) r
given_act s T q p run n a more r e is h =
    let given = at-phase s T q p (Acts run n) r e h in
    let g : Stage = stage (acts a more run.task.0 (row_of s run) (onward_of run.onward)) (book_of T q) in
    let same : stage_at s T q (Acts run n) ≡ g = ap (λ (xs : List Action). stage (acting xs run.task.0 (row_of s run) (onward_of run.onward)) (book_of T q)) is in
    let can = given-call s g r (call_of a) refl (subst (λ (g : Stage). IsGiven s g r) same given) in
    rest-given s g (book_of T q) (call_of a) (target a) r can (action-gain (target a) a r) refl

-- a task whose run ends is listed nowhere
pub given_drop : (s : Script) (T : ℕ) (q : Queues) (p : Phase) (i : TaskId) (o : Onward) (r : Reply) → p ≡ Drops i o → IsGiven s (stage_at s T q p) r → listed i.0 (book_of T q) ≡ 0
given_drop s T q p i o r e h =
    let can = given-call s (stage_at s T q (Drops i o)) r (calls.DropRun i) refl (at-phase s T q p (Drops i o) r e h) in
    let once = can.once i.0 in
    let one = same-bit i.0 in
    omega arith

-- ---- steps of the phases

-- the groups from one on
pub groups-more : (s : Script) (T g n : ℕ) (b : Book) → g < n → stage (steps.gets g (range_with_len (g + 1) (n - (g + 1)))) b ≡ steps.at_gets s T (range_with_len g (n - g)) b
groups-more s T g n b lt = let e : n - g ≡ suc (n - (g + 1)) = omega arith in rw e refl

some-acting : (T : ℕ) (xs : List Action) (i : ℕ) (row : Row) (q : steps.Onward) (b : Book) → 0 < length xs → stage (acting xs i row q) b ≡ steps.at_acts T xs i row q b
some-acting T [] i row q b some = absurd (omega arith)
some-acting T (a ∷ xs) i row q b some = refl

-- while actions are left, one of them comes next
pub acts-more : (T n : ℕ) (xs : List Action) (i : ℕ) (row : Row) (q : steps.Onward) (b : Book) → n < length xs → stage (acting (drop n xs) i row q) b ≡ steps.at_acts T (drop n xs) i row q b
acts-more T n xs i row q b lt = some-acting T (drop n xs) i row q b (rw length-drop (omega arith))

-- the item that comes next is listed
pub next-listed : (q : steps.Onward) (b : Book) (x : Next) → next_in q b ≡ Some x → 0 < listed x.task b
next-listed q b x e = let h = listed-taken x.task b q x e in let one = same-bit x.task in omega arith

-- a run has few actions
pub acts_few : (s : Script) (p : Phase) (run : Run) (n : ℕ) → IsTrue (is_sound s) → p ≡ Acts run n → PhaseFits s p → n < 16
acts_few s p run n sound e h =
    let fits : PhaseFits s (Acts run n) = subst (PhaseFits s) e h in
    let short = (IsFit-sound s sound).short run.task.0 run.row in
    omega (arith, fits.1)
