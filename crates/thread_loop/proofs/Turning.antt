-- What a reply that is heard leaves: no drawn task, and one take more after a take.
use Rattle.std.proofs.Common.{◌≡◌, ℕ, ◌+◌, Bool, true, false, ◌==◌, if◌then◌else◌, Option, Some, None, refl, arith}
use Rattle.sched_base.specs.declared.names.CallerId.{CallerId}
use Rattle.queue_model.specs.Classes.{Next}
use Rattle.step_tables.specs.declared.tables.Script.{Script}
use Rattle.task_machine.specs.declared.calls.Call.{Call}
use Rattle.task_machine.specs.declared.calls.Call.TheVariants as calls
use Rattle.task_machine.specs.declared.calls.Reply.{Reply}
use Rattle.task_machine.specs.Since.{is_take}
use Rattle.task_machine.specs.Step.{bit}
use Rattle.run_model.specs.Replies.{is_rest, is_killed, has_reasons}
use Rattle.run_model.specs.Tables.{target}
use Rattle.run_model.specs.Book.{Book, taken_from}
use Rattle.turn_steps.specs.Left.{Onward, by_draw, next_in, spent_in, Left, gets, wakes, runs, acts, posts, drops, retires, returns, drawn, injects, carries, over, taken, heard_in}
use Rattle.turn_steps.specs.Has.{drawn_by}
use Rattle.turn_steps.proofs.Stages.{has-gets, has-wakes, has-acts, has-acted, has-run_begun, has-dropped_as, has-events, has-injected}
use Rattle.thread_loop.specs.Workers.{takes_after}

undrawn-taken : (s : Script) (T : ℕ) (r : Reply) (i : ℕ) (q : Onward) (o : Option Next) (b : Book) → drawn_by i (taken s T r q o b).left ≡ 0
undrawn-taken s T r i q None b = refl
undrawn-taken s T r i q (Some x) b = (has-run_begun s T r i (is_killed r) x.task (spent_in x.class q) (taken_from x.class b)).draws

-- what is heard leaves no task that was drawn
pub undrawn-heard : (s : Script) (w : CallerId) (T : ℕ) (r : Reply) (i : ℕ) (l : Left) (b : Book) → drawn_by i (heard_in s w T r l b).left ≡ 0
undrawn-heard s w T r i (gets g gs) b = (has-gets s T i gs _).draws
undrawn-heard s w T r i (wakes j is) b = (has-wakes s i is _).draws
undrawn-heard s w T r i (runs q) b = undrawn-taken s T r i q (next_in q b) b
undrawn-heard s w T r i (acts a more j row q) b = (has-acted s w T i (is_rest r) (target a) more j row q b).draws
undrawn-heard s w T r i (posts x more j row q) b = (has-acts T i more j row q b).draws
undrawn-heard s w T r i (drops j q) b = (has-dropped_as s i (is_killed r) (has_reasons r) j q b).draws
undrawn-heard s w T r i (retires held j q) b = refl
undrawn-heard s w T r i (returns j q) b = refl
undrawn-heard s w T r i (drawn j n) b = (has-run_begun s T r i (is_killed r) j (by_draw n) b).draws
undrawn-heard s w T r i (injects a more) b = (has-injected i (is_rest r) (target a) more b).draws
undrawn-heard s w T r i (carries j more) b = (has-events i more b).draws
undrawn-heard s w T r i over b = refl

-- ---- takes

pub takes-of_after : (c : Call) (i t : ℕ) → takes_after c i t ≡ t + bit (is_take i c)
takes-of_after (calls.Wake j f) i t = omega arith
takes-of_after (calls.Kill j) i t = omega arith
takes-of_after (calls.Post j b) i t = omega arith
takes-of_after (calls.Get g) i t = omega arith
takes-of_after (calls.Draw j) i t = omega arith
takes-of_after (calls.Take j) i t = by (i == j.0)
  where
    by : (b : Bool) → (if b then t + 1 else t) ≡ t + bit b
    by true = refl
    by false = omega arith
takes-of_after (calls.DropRun j) i t = omega arith
takes-of_after (calls.Retire j) i t = omega arith
