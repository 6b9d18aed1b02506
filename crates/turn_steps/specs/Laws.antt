-- Laws of what is left of a turn (docs/MODEL.md, "What is left of a turn").
use Rattle.std.specs.Prelude.{◌≡◌, ℕ, ◌≤◌, ◌+◌, ◌*◌, length, None, List, ◌↔◌, IsTrue}
use Rattle.sched_base.specs.declared.names.CallerId.{CallerId}
use Rattle.step_tables.specs.declared.tables.Script.{Script}
use Rattle.step_tables.specs.Sound.{is_sound}
use Rattle.task_machine.specs.declared.calls.Call.{Call}
use Rattle.task_machine.specs.declared.calls.Reply.{Reply}
use Rattle.task_machine.specs.declared.calls.Entry.{Entry}
use Rattle.run_model.specs.Book.{Book}
use Rattle.run_model.specs.Tables.{groups}
use Rattle.run_model.specs.Turn.{Turn}
use Rattle.run_model.specs.Lawful.{Injects}
use Rattle.turn_steps.specs.Left.{Rest, begun, injector, asked, MayCall, went, Stage}
use Rattle.turn_steps.specs.Told.{Told, told}
use Rattle.turn_steps.specs.Has.{CanGive, Once, caller}
use Rattle.turn_steps.specs.Counts.{calls_left}

-- a lawful turn is what is left at its begin
abbrev pub TurnsAreRests : Type 0
TurnsAreRests = (s : Script) (w : CallerId) (T : ℕ) (b : Book) (es : List Entry) (d : Book) → Turn s w T b es d ↔ Rest s w T (begun s T b) es d

-- and so is a lawful injector round
abbrev pub InjectsAreRests : Type 0
InjectsAreRests = (s : Script) (r T : ℕ) (b : Book) (es : List Entry) → Injects s r es ↔ Rest s (caller s.workers) T (injector s r b) es b

-- what is left is told call by call until none is asked
abbrev pub RestsAreTold : Type 0
RestsAreTold = (s : Script) (w : CallerId) (T : ℕ) (g : Stage) (es : List Entry) (d : Book) → Rest s w T g es d ↔ Told s w T g es × (asked s (told s w T g es) ≡ None) × (d ≡ (told s w T g es).book)

-- a reply that a machine can give leaves each task once
abbrev pub RepliesKeepOnce : Type 0
RepliesKeepOnce = (s : Script) (w : CallerId) (T : ℕ) (g : Stage) (c : Call) (r : Reply) → MayCall s g c → CanGive s g c r → Once (went s w T c r g)

-- no more calls come than are counted
abbrev pub RestsAreShort : Type 0
RestsAreShort = (s : Script) (w : CallerId) (T : ℕ) (g : Stage) (es : List Entry) (d : Book) → IsTrue (is_sound s) → Rest s w T g es d → length es ≤ calls_left s.depth g.left g.book

-- a turn has at most so many calls, where its worker has at most one timer a task
abbrev pub TurnsAreShort : Type 0
TurnsAreShort = (s : Script) (w : CallerId) (T : ℕ) (b : Book) (es : List Entry) (d : Book) → IsTrue (is_sound s) → Turn s w T b es d → length es ≤ groups s + length b.wait.items + ((s.depth + 3) * 35 + s.depth * 36)
