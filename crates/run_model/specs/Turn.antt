-- A lawful turn of a worker, part by part (docs/MODEL.md, "Lawful turns").
-- In all of these w is the worker, and T the tick.
use Rattle.std.specs.Prelude.{◌≡◌, ◌≤◌, ℕ, zero, suc, ◌==◌, Some, None, if◌then◌else◌}
use Rattle.std.specs.List.{range_with_len}
use Rattle.sched_base.specs.ReasonNames.{timer}
use Rattle.sched_base.specs.declared.names.CallerId.{CallerId}
use Rattle.queue_model.specs.Classes.{Classes, Next, quotas, spent, next_run}
use Rattle.queue_model.specs.Sweep.{fired, swept}
use Rattle.step_tables.specs.declared.tables.Action.{Action}
use Rattle.step_tables.specs.declared.tables.Row.{Row}
use Rattle.step_tables.specs.declared.tables.Script.{Script}
use Rattle.task_machine.specs.declared.calls.Call.TheVariants.{Wake, Post, Get, Draw, Take, DropRun, Retire}
use Rattle.run_model.specs.Parts.{Part, Quiet, Nothing, Then, Asks, Makes, Either, From, Each}
use Rattle.run_model.specs.Replies.{is_rest, is_killed, has_reasons, takes_in, members}
use Rattle.run_model.specs.Tables.{home_of, row_by, groups, call_of, target}
use Rattle.run_model.specs.Book.{Book, queued, queued_all, filled, taken_from, untimed, row_ended}

-- a post of task i to a box
abbrev pub Posts : {B : Type 0} → CallerId → ℕ → ℕ → Part B
Posts k i to = Makes k (Post (record { 0 = i }) to) (λ reply b. b)

-- an action, and where it saw its task at rest, what is done with the task that is now in hand
abbrev pub Acts : {B : Type 0} → CallerId → (ℕ → Part B) → Action → Part B
Acts k P a = Asks k (call_of a) (λ reply. Either (is_rest reply) (P (target a)) Nothing)

-- one get for each group; the tasks that it took are queued
abbrev pub Gets : Script → CallerId → Part Book
Gets s w = Each (λ g. Makes w (Get g) (λ reply. queued_all s (members g reply))) (range_with_len 0 (groups s))

-- the sweep: each task whose timer fired is woken with the reason timer, and queued where it was at rest
abbrev pub Fires : Script → CallerId → ℕ → Part Book
Fires s w T = From (λ old. Then
    (Quiet (λ b. record b { wait = swept T b.wait }))
    (Each (λ i. Makes w (Wake (record { 0 = i }) timer) (λ reply b. if is_rest reply then queued s i b else b)) (fired T old.wait)))

-- a task that came into hand: queued where it is the worker's own, else posted home
abbrev pub Hands : Script → CallerId → ℕ → Part Book
Hands s w i = Either (home_of s i == w.0) (Quiet (queued s i)) (Posts w i (home_of s i))

-- a task that has reasons at the end of its run: queued again, or posted to the shared box if it is shared
abbrev pub Returns : Script → CallerId → ℕ → Part Book
Returns s w i = Either (home_of s i == s.workers) (Posts w i s.workers) (Quiet (queued s i))

-- a task retired, and unlinked from the wait list
abbrev pub Retires : CallerId → ℕ → Part Book
Retires w i = Makes w (Retire (record { 0 = i })) (λ reply. untimed i)

-- the end of a run: a task that was killed is retired, one that has reasons goes back
abbrev pub Drops : Script → CallerId → ℕ → Part Book
Drops s w i = Asks w (DropRun (record { 0 = i })) (λ reply.
    Either (is_killed reply) (Retires w i) (Either (has_reasons reply) (Returns s w i) Nothing))

-- the rest of a run by its row: the actions, the expiry and the next row, the end of the run
abbrev pub RunsRow : Script → CallerId → ℕ → ℕ → Row → Part Book
RunsRow s w T i row = Then (Each (Acts w (Hands s w)) row.actions) (Then (Quiet (row_ended T i row)) (Drops s w i))

-- a run of task i: it is taken, and retired at once where it was killed; else its row is the one of its takes
abbrev pub RunOf : Script → CallerId → ℕ → ℕ → Part Book
RunOf s w T i = Asks w (Take (record { 0 = i })) (λ reply.
    Either (is_killed reply) (Retires w i) (RunsRow s w T i (row_by s i (takes_in reply))))

-- n runs, each of the item that comes next with the quotas that are left; after them none comes next
abbrev pub RunsOf : Script → CallerId → ℕ → ℕ → Classes ℕ → Part Book
RunsOf s w T zero q old es new = (next_run old.lists q ≡ None) × Nothing old es new
RunsOf s w T (suc n) q old es new =
    (x : Next) × (next_run old.lists q ≡ Some x) ×
    Then (RunOf s w T x.task) (RunsOf s w T n (spent x.class q)) (taken_from x.class old) es new

-- all runs of a turn, with the quotas of the lists as they stand at its start
abbrev pub Runs : Script → CallerId → ℕ → Part Book
Runs s w T old es new = (n : ℕ) × RunsOf s w T n (quotas s.depth old.lists) old es new

-- n pieces, each a draw of a shared task followed by a run of it
abbrev pub DrawsOf : Script → CallerId → ℕ → ℕ → Part Book
DrawsOf s w T zero old es new = Nothing old es new
DrawsOf s w T (suc n) old es new =
    (i : ℕ) × (home_of s i ≡ s.workers) ×
    Then (Makes w (Draw (record { 0 = i })) (λ reply b. b)) (Then (RunOf s w T i) (DrawsOf s w T n)) old es new

-- at most depth such pieces
abbrev pub Draws : Script → CallerId → ℕ → Part Book
Draws s w T old es new = (n : ℕ) × (n ≤ s.depth) × DrawsOf s w T n old es new

-- a lawful turn: the gets, the sweep, the filling of the normal list, the runs, and the draws
abbrev pub Turn : Script → CallerId → ℕ → Part Book
Turn s w T = Then (Gets s w) (Then (Fires s w T) (Then (Quiet (filled s.depth)) (Then (Runs s w T) (Draws s w T))))
