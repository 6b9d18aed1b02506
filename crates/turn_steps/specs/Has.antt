-- Which tasks a caller has, and which replies its next call can have (docs/MODEL.md, "What a caller has").
use Rattle.std.specs.Prelude.{ℕ, ◌+◌, ◌<◌, ◌≤◌, ◌==◌, length, true, false, if◌then◌else◌}
use Rattle.sched_base.specs.declared.names.CallerId.{CallerId}
use Rattle.step_tables.specs.declared.tables.Script.{Script}
use Rattle.task_machine.specs.declared.calls.Call.{Call}
use Rattle.task_machine.specs.declared.calls.Call.TheVariants.{Wake, Kill, Get, Draw}
use Rattle.task_machine.specs.declared.calls.Reply.{Reply}
use Rattle.task_machine.specs.declared.calls.Entry.{Entry}
use Rattle.task_machine.specs.Step.{bit}
use Rattle.task_machine.specs.Event.{HasKind}
use Rattle.run_model.specs.Replies.{is_rest, members}
use Rattle.turn_steps.specs.Times.{times, listed}
use Rattle.turn_steps.specs.Left.{Left, acts, posts, drops, retires, returns, drawn, carries, Stage}

-- caller k, and an entry of a caller
abbrev pub caller : ℕ → CallerId
caller k = record { 0 = k }

abbrev pub said : CallerId → Call → Reply → Entry
said k c r = record { caller = k; call = c; reply = r }

-- whether a task is, beside those that the book lists, in hand until the next call, which posts or retires it
abbrev pub due : ℕ → Left → ℕ
due i (posts k more j row q) = bit (i == k)
due i (retires true j q) = bit (i == j)
due i (returns j q) = bit (i == j)
due i (carries j more) = bit (i == j)
due i l = 0

-- whether it is the one that is run
abbrev pub run_by : ℕ → Left → ℕ
run_by i (acts a more j row q) = bit (i == j)
run_by i (posts k more j row q) = bit (i == j)
run_by i (drops j q) = bit (i == j)
run_by i (retires false j q) = bit (i == j)
run_by i l = 0

-- whether it is drawn and not yet taken
abbrev pub drawn_by : ℕ → Left → ℕ
drawn_by i (drawn j n) = bit (i == j)
drawn_by i l = 0

-- how often the caller has it
abbrev pub has : ℕ → Stage → ℕ
has i g = due i g.left + listed i g.book + run_by i g.left + drawn_by i g.left

-- it has each task once at most
abbrev pub Once : Stage → Type 0
Once g = (i : ℕ) → has i g ≤ 1

-- how often it comes to have task i by a call with this reply
abbrev pub gain : ℕ → Call → Reply → ℕ
gain i (Wake j f) r = if is_rest r then bit (i == j.0) else 0
gain i (Kill j) r = if is_rest r then bit (i == j.0) else 0
gain i (Get g) r = times i (members g r)
gain i (Draw j) r = bit (i == j.0)
gain i c r = 0

-- the reply is one that a machine can give: of its kind, and what is gained by it are tasks that the caller has not
pub record CanGive (s : Script) (g : Stage) (c : Call) (r : Reply) : Type 0 where
  pub kind : HasKind c r
  pub once : (i : ℕ) → gain i c r + has i g ≤ 1
  pub tasks : (i : ℕ) → 0 < gain i c r → i < length s.tasks
