-- What the reader holds, as words, shapes and scripts (docs/SCRIPT.md, "Lines"): it keeps parts of the text where they lie.
use Rattle.std.specs.Prelude.{◌≡◌, ℕ, List, map, Result, Ok, Err}
use Rattle.step_tables.specs.Words.{Word}
use Rattle.step_tables.specs.Judging.{fault}
use Rattle.step_tables.specs.Shapes.{Order, wakes, kills, Delay, keeps, after, never, Place, pinned, shared, tasklet, TaskLine, RowLine, EventLine, Said, sets, task, row, event, ends}
use Rattle.step_tables.specs.declared.tables.Script.{Script}
use Rattle.step_tables.specs.declared.faults.FaultKind.{FaultKind}
use Rattle.step_tables.specs.declared.faults.ScriptFault.{ScriptFault}
use Rattle.step_tables.specs.declared.faults.ScriptError.{ScriptError}
use Rattle.step_tables.specs.declared.faults.ScriptError.TheVariants.{Refused, Memory}
use Rattle.step_tables.specs.declared.progress.Progress.{Progress}
use Rattle.step_tables.specs.declared.progress.Refusal.{Refusal}
use Rattle.step_tables.specs.declared.progress.Refusal.TheVariants.{Kind, NoMemory}
use Rattle.text_lines.specs.declared.cursor.Words.{Words}
pub use Rattle.text_lines.specs.Pieces.{words_in, word_and_rest}
use Rattle.step_tables.specs.declared.shapes.Order.{Order as CodeOrder}
use Rattle.step_tables.specs.declared.shapes.Order.TheVariants as orders
use Rattle.step_tables.specs.declared.shapes.Delay.{Delay as CodeDelay}
use Rattle.step_tables.specs.declared.shapes.Delay.TheVariants as delays
use Rattle.step_tables.specs.declared.shapes.Place.{Place as CodePlace}
use Rattle.step_tables.specs.declared.shapes.Place.TheVariants as places
use Rattle.step_tables.specs.declared.shapes.TaskLine.{TaskLine as CodeTaskLine}
use Rattle.step_tables.specs.declared.shapes.RowLine.{RowLine as CodeRowLine}
use Rattle.step_tables.specs.declared.shapes.EventLine.{EventLine as CodeEventLine}
use Rattle.step_tables.specs.declared.shapes.Said.{Said as CodeSaid}
use Rattle.step_tables.specs.declared.shapes.Said.TheVariants as saids

-- the place of a task
abbrev pub place_view : CodePlace → Place
place_view (places.Pinned home nice) = pinned home.now nice.now
place_view (places.Shared nice) = shared nice.now
place_view (places.Tasklet home class) = tasklet home.now class

-- an expiry
abbrev pub delay_view : CodeDelay → Delay
delay_view delays.Keeps = keeps
delay_view (delays.After w) = after w.now
delay_view delays.Never = never

-- an action
abbrev pub order_view : CodeOrder → Order
order_view (orders.Wakes name reasons) = wakes name.now reasons
order_view (orders.Kills name) = kills name.now

-- an action, and the words after it
abbrev pub order_and_rest : CodeOrder × Words → Order × List Word
order_and_rest found = (order_view found.0, words_in found.1)

-- a task line
abbrev pub task_view : CodeTaskLine → TaskLine
task_view line = record { name = line.name.now; place = place_view line.place; rows = line.rows.now; init = line.init }

-- a row line
abbrev pub row_view : CodeRowLine → RowLine
row_view line = record { name = line.name.now; number = line.number.now; orders = map order_view line.orders.items; delay = delay_view line.delay; next = line.next.now }

-- an event line
abbrev pub event_view : CodeEventLine → EventLine
event_view line = record { round = line.round.now; order = order_view line.order }

-- what a line says
abbrev pub said_view : CodeSaid → Said
said_view (saids.Sets setting w) = sets setting w.now
said_view (saids.Task line) = task (task_view line)
said_view (saids.Row line) = row (row_view line)
said_view (saids.Event line) = event (event_view line)
said_view saids.Ends = ends

-- what was found of a line is the verdict on it, unless memory ran out
abbrev pub Judges : Result (Unit {0}) Refusal → Progress → Result Progress FaultKind → Type 0
Judges (Ok done) new verdict = verdict ≡ Ok new
Judges (Err (Kind kind)) new verdict = verdict ≡ Err kind
Judges (Err NoMemory) new verdict = Unit {0}

-- the same with the line's number
abbrev pub Takes : Result (Unit {0}) ScriptError → Progress → Result Progress (ℕ × FaultKind) → Type 0
Takes (Ok done) new verdict = verdict ≡ Ok new
Takes (Err (Refused at)) new (Ok p) = ⊥
Takes (Err (Refused at)) new (Err first) = at ≡ fault first
Takes (Err Memory) new verdict = Unit {0}

-- what was read is the script of the text, or the fault is the text's first, unless memory ran out
abbrev pub Gives : Result Script ScriptError → Result Script ScriptFault → Type 0
Gives (Ok script) read = read ≡ Ok script
Gives (Err (Refused at)) read = read ≡ Err at
Gives (Err Memory) read = Unit {0}
