-- The reader of a turn, part by part (docs/MODEL.md, "A test for lawful runs").
use Rattle.std.specs.Prelude.{ℕ, zero, suc, ◌+◌, ◌==◌, List, [], ◌∷◌, Option, None, Some, if◌then◌else◌}
use Rattle.std.specs.List.{range_with_len}
use Rattle.sched_base.specs.ReasonNames.{timer}
use Rattle.sched_base.specs.declared.names.CallerId.{CallerId}
use Rattle.queue_model.specs.Classes.{Classes, Next, quotas, spent, next_run}
use Rattle.queue_model.specs.Sweep.{fired, swept}
use Rattle.step_tables.specs.declared.tables.Action.{Action}
use Rattle.step_tables.specs.declared.tables.Row.{Row}
use Rattle.step_tables.specs.declared.tables.Script.{Script}
use Rattle.task_machine.specs.declared.calls.Call.TheVariants.{Wake, Post, Get, Draw, Take, DropRun, Retire}
use Rattle.task_machine.specs.declared.calls.Call.{Call}
use Rattle.task_machine.specs.declared.calls.Entry.{Entry}
use Rattle.run_model.specs.Reader.{Reader, quietly, nothing, in_turn, asking, making, either, from_book, one_each}
use Rattle.run_model.specs.Replies.{is_rest, is_killed, has_reasons, takes_in, members}
use Rattle.run_model.specs.Tables.{home_of, row_by, groups, call_of, target, actions_in}
use Rattle.run_model.specs.Book.{Book, queued, queued_all, filled, taken_from, untimed, row_ended}

abbrev pub posting : {B : Type 0} → CallerId → ℕ → ℕ → Reader B
posting k i to = making k (Post (record { 0 = i }) to) (λ reply b. b)

abbrev pub acting : {B : Type 0} → CallerId → (ℕ → Reader B) → Action → Reader B
acting k r a = asking k (call_of a) (λ reply. either (is_rest reply) (r (target a)) nothing)

abbrev pub getting : Script → CallerId → Reader Book
getting s w = one_each (λ g. making w (Get g) (λ reply. queued_all s (members g reply))) (range_with_len 0 (groups s))

abbrev pub firing : Script → CallerId → ℕ → Reader Book
firing s w T = from_book (λ old. in_turn
    (quietly (λ b. record b { wait = swept T b.wait }))
    (one_each (λ i. making w (Wake (record { 0 = i }) timer) (λ reply b. if is_rest reply then queued s i b else b)) (fired T old.wait)))

abbrev pub handing : Script → CallerId → ℕ → Reader Book
handing s w i = either (home_of s i == w.0) (quietly (queued s i)) (posting w i (home_of s i))

abbrev pub returning : Script → CallerId → ℕ → Reader Book
returning s w i = either (home_of s i == s.workers) (posting w i s.workers) (quietly (queued s i))

abbrev pub retiring : CallerId → ℕ → Reader Book
retiring w i = making w (Retire (record { 0 = i })) (λ reply. untimed i)

abbrev pub dropping : Script → CallerId → ℕ → Reader Book
dropping s w i = asking w (DropRun (record { 0 = i })) (λ reply.
    either (is_killed reply) (retiring w i) (either (has_reasons reply) (returning s w i) nothing))

abbrev pub running_row : Script → CallerId → ℕ → ℕ → Row → Reader Book
running_row s w T i row = in_turn (one_each (acting w (handing s w)) row.actions) (in_turn (quietly (row_ended T i row)) (dropping s w i))

abbrev pub running : Script → CallerId → ℕ → ℕ → Reader Book
running s w T i = asking w (Take (record { 0 = i })) (λ reply.
    either (is_killed reply) (retiring w i) (running_row s w T i (row_by s i (takes_in reply))))

-- how many runs the quotas leave
abbrev pub runs_left : Classes ℕ → ℕ
runs_left q = q.urgent + q.normal + q.bulk + q.heavy

-- the runs from a given next one on, of which at most so many are left
abbrev pub running_on : Script → CallerId → ℕ → ℕ → Classes ℕ → Option Next → Reader Book
running_on s w T n q None b es = nothing b es
running_on s w T zero q (Some x) b es = None
running_on s w T (suc n) q (Some x) b es =
    in_turn (running s w T x.task) (λ c. running_on s w T n (spent x.class q) (next_run c.lists (spent x.class q)) c) (taken_from x.class b) es

abbrev pub running_all : Script → CallerId → ℕ → Reader Book
running_all s w T b = let q = quotas s.depth b.lists in running_on s w T (runs_left q) q (next_run b.lists q) b

-- the shared task that the first of some entries draws
abbrev pub drawn_by : Script → Call → Option ℕ
drawn_by s (Draw i) = if home_of s i.0 == s.workers then Some i.0 else None
drawn_by s c = None

abbrev pub drawn_first : Script → List Entry → Option ℕ
drawn_first s [] = None
drawn_first s (e ∷ es) = drawn_by s e.call

-- the draws, of which at most n are left; they are the last part of a turn, so the entries tell how many there are
abbrev pub draw_one : Option ℕ → (ℕ → Reader Book) → Reader Book
draw_one None r = nothing
draw_one (Some i) r = r i

abbrev pub drawing : Script → CallerId → ℕ → ℕ → Reader Book
drawing s w T zero b es = nothing b es
drawing s w T (suc n) b es =
    draw_one (drawn_first s es) (λ i. in_turn (making w (Draw (record { 0 = i })) (λ reply b. b)) (in_turn (running s w T i) (drawing s w T n))) b es

abbrev pub turning : Script → CallerId → ℕ → Reader Book
turning s w T =
    in_turn (getting s w) (in_turn (firing s w T) (in_turn (quietly (filled s.depth)) (in_turn (running_all s w T) (drawing s w T s.depth))))

-- the reader of an injector's round
abbrev pub injecting : Script → ℕ → Reader (Unit {0})
injecting s r = one_each (acting (record { 0 = s.workers }) (λ i. posting (record { 0 = s.workers }) i (home_of s i))) (actions_in s r)
