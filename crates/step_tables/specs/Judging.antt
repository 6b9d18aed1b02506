-- What the lines of a script make, which fault a line has, and the script of a text: docs/SCRIPT.md, "Order" and "Faults".
use Rattle.std.specs.Prelude.{ℕ, ◌+◌, ◌-◌, ℤ, pos, negsuc, int_lt, Bool, true, false, not, ◌&&◌, ◌||◌, List, [], ◌∷◌, ◌++◌, map, length, take, Option, Some, None, Result, Ok, Err, option_map, is_none, unwrap_or, ◌==◌, nat_lt, nat_le, bytes_eq, position, slice_get, slice_index, slice_index_or, slice_set, if◌then◌else◌}
use Rattle.std.specs.List.{list_any}
use Rattle.step_tables.specs.Types.{Action, Wake, Kill, Expiry, Keep, After, Never, Kind, Pinned, Shared, Tasklet, Row, TaskDef, Event, Setting, Workers, Depth, Start, Step, Rounds}
use Rattle.step_tables.specs.declared.tables.Script.{Script}
use Rattle.step_tables.specs.declared.faults.ScriptFault.{ScriptFault}
use Rattle.step_tables.specs.declared.limits.Limits.{Limits}
use Rattle.step_tables.specs.declared.progress.Progress.{Progress}
use Rattle.step_tables.specs.declared.faults.FaultKind.{FaultKind}
use Rattle.step_tables.specs.declared.faults.FaultKind.TheVariants as kinds
use Rattle.text_lines.specs.Lines.{Format, read_within}
use Rattle.step_tables.specs.Faults.{number_of_kind}
use Rattle.step_tables.specs.Limits.{newest, limits_of, most_rows, most_actions, most_delay}
use Rattle.step_tables.specs.Words.{Word, ◌>>=◌, ◌is◌, pieces, is_empty, words_of, number_of, signed_of}
use Rattle.step_tables.specs.Shapes as shapes
use Rattle.step_tables.specs.Shapes.{Order, Delay, Place, TaskLine, RowLine, EventLine, Said, all_settings, setting_line, body_line}

-- nothing is read so far
abbrev pub nothing : Progress
nothing = record { version = 0; workers = 0; depth = 0; start = 0; step = 0; rounds = 0; tasks = []; counts = []; at = 0; events = []; ended = false }

-- the number of a word, where it writes one
unfoldable pub value : Word → ℕ
value w = unwrap_or (number_of w) 0

-- the signed number of a word, where it writes one
unfoldable pub signed_value : Word → ℤ
signed_value w = unwrap_or (signed_of w) (pos 0)

-- whether the word writes no number
unfoldable pub no_number : Word → Bool
no_number w = is_none (number_of w)

-- whether the word writes no signed number
unfoldable pub no_signed : Word → Bool
no_signed w = is_none (signed_of w)

-- whether n is not from low to high
abbrev pub outside : ℕ → ℕ → ℕ → Bool
outside low high n = nat_lt n low || nat_lt high n

-- whether n is no nice
abbrev pub outside_nice : ℤ → Bool
outside_nice n = int_lt n (negsuc 1023) || int_lt (pos 1024) n

-- the number of the task of this name
unfoldable pub named : List TaskDef → Word → Option ℕ
named tasks name = position (λ task. bytes_eq task.name name) tasks

-- whether no task has this name
unfoldable pub unknown : List TaskDef → Word → Bool
unknown tasks name = is_none (named tasks name)

-- the name in an action
abbrev pub order_name : Order → Word
order_name (shapes.wakes name reasons) = name
order_name (shapes.kills name) = name

-- the task whose rows come now
abbrev pub due : Progress → Option TaskDef
due p = slice_get p.tasks p.at

-- how many rows its line promised
abbrev pub promised : Progress → ℕ
promised p = slice_index p.counts p.at

-- how many rows the task has so far
abbrev pub rows_made : Option TaskDef → ℕ
rows_made None = 0
rows_made (Some task) = length task.rows

-- whether no row has come
abbrev pub no_row : Progress → Bool
no_row p = p.at == 0 && rows_made (due p) == 0

-- whether each task has all its rows
abbrev pub all_rows : Progress → Bool
all_rows p = p.at == length p.tasks

-- whether what the line says may come now
abbrev pub may_come : Progress → Said → Bool
may_come p (shapes.sets setting w) = true
may_come p (shapes.task line) = no_row p && is_empty p.events
may_come p (shapes.row line) = not (all_rows p)
may_come p (shapes.event line) = all_rows p
may_come p shapes.ends = all_rows p

-- the least that a setting may be
abbrev pub least : Setting → ℕ
least Workers = 1
least Depth = 1
least Start = 0
least Step = 1
least Rounds = 1

-- the most that a setting may be
abbrev pub most : Limits → Setting → ℕ
most limits Workers = limits.workers
most limits Depth = limits.depth
most limits Start = limits.start
most limits Step = limits.step
most limits Rounds = limits.rounds

-- whether a word in a number's place of the place writes none
unfoldable pub place_no_number : Place → Bool
place_no_number (shapes.pinned home nice) = no_number home || no_signed nice
place_no_number (shapes.shared nice) = no_signed nice
place_no_number (shapes.tasklet home class) = no_number home

-- whether a number of the place is out of its range
unfoldable pub place_outside : ℕ → Place → Bool
place_outside workers (shapes.pinned home nice) = nat_le workers (value home) || outside_nice (signed_value nice)
place_outside workers (shapes.shared nice) = outside_nice (signed_value nice)
place_outside workers (shapes.tasklet home class) = nat_le workers (value home)

-- whether the word of an expiry writes no number
unfoldable pub delay_no_number : Delay → Bool
delay_no_number shapes.keeps = false
delay_no_number (shapes.after w) = no_number w
delay_no_number shapes.never = false

-- whether the number of an expiry is out of its range
unfoldable pub delay_outside : Delay → Bool
delay_outside shapes.keeps = false
delay_outside (shapes.after w) = outside 1 most_delay (value w)
delay_outside shapes.never = false

-- whether the row is not the one that must come next, or its next row is none of its task's
abbrev pub wrong_target : Progress → Option TaskDef → RowLine → Bool
wrong_target p None line = true
wrong_target p (Some task) line = not (bytes_eq task.name line.name) || (not (value line.number == length task.rows) || nat_le (promised p) (value line.next))

-- whether the kind of task has no timer
abbrev pub is_timerless : Kind → Bool
is_timerless (Pinned home nice) = false
is_timerless (Shared nice) = true
is_timerless (Tasklet home class) = true

-- whether an expiry stands
abbrev pub is_expiry : Delay → Bool
is_expiry shapes.keeps = false
is_expiry (shapes.after w) = true
is_expiry shapes.never = true

-- whether a row of this task has an expiry that it may not have
abbrev pub barred : Option TaskDef → Delay → Bool
barred None delay = false
barred (Some task) delay = is_timerless task.kind && is_expiry delay

-- the round of the last event, or 0
abbrev pub last_round : List Event → ℕ
last_round events = unwrap_or (option_map (λ event. event.round) (slice_get events (length events - 1))) 0

-- the first kind whose test holds
abbrev pub first_fault : List (FaultKind × Bool) → Option FaultKind
first_fault [] = None
first_fault (test ∷ tests) = if test.1 then Some test.0 else first_fault tests

-- the kinds of fault that a setting's line may have, each beside its test and the lowest first: a word that is no number; a number out of its range
abbrev pub setting_tests : Limits → Setting → Word → List (FaultKind × Bool)
setting_tests limits setting w = (kinds.Number, no_number w) ∷ (kinds.LimitPassed, outside (least setting) (most limits setting) (value w)) ∷ []

-- those of a task line: a word that is no number; a name that another task has; a number out of its range or one task too many
abbrev pub task_tests : Progress → TaskLine → List (FaultKind × Bool)
task_tests p line =
    (kinds.Number, place_no_number line.place || no_number line.rows)
    ∷ (kinds.TwiceNamed, not (unknown p.tasks line.name))
    ∷ (kinds.LimitPassed, place_outside p.workers line.place || (outside 1 most_rows (value line.rows) || nat_le (limits_of p.version).tasks (length p.tasks)))
    ∷ []

-- those of a row line: a word that is no number; an unknown name; not the next row or no row to go to; an expiry that is barred; too many actions or ticks out of their range
abbrev pub row_tests : Progress → RowLine → List (FaultKind × Bool)
row_tests p line =
    (kinds.Number, no_number line.number || (delay_no_number line.delay || no_number line.next))
    ∷ (kinds.UnknownTask, unknown p.tasks line.name || list_any (λ order. unknown p.tasks (order_name order)) line.orders)
    ∷ (kinds.RowTarget, wrong_target p (due p) line)
    ∷ (kinds.ExpiryBarred, barred (due p) line.delay)
    ∷ (kinds.LimitPassed, nat_lt most_actions (length line.orders) || delay_outside line.delay)
    ∷ []

-- those of an event line: a word that is no number; an unknown name; a round out of its range, one event too many, or a round that falls
abbrev pub event_tests : Progress → EventLine → List (FaultKind × Bool)
event_tests p line =
    (kinds.Number, no_number line.round)
    ∷ (kinds.UnknownTask, unknown p.tasks (order_name line.order))
    ∷ (kinds.LimitPassed, nat_le p.rounds (value line.round) || (nat_le (limits_of p.version).events (length p.events) || nat_lt (value line.round) (last_round p.events)))
    ∷ []

-- those of a line by what it says; the line `end` has none
abbrev pub tests : Progress → Said → List (FaultKind × Bool)
tests p (shapes.sets setting w) = setting_tests (limits_of p.version) setting w
tests p (shapes.task line) = task_tests p line
tests p (shapes.row line) = row_tests p line
tests p (shapes.event line) = event_tests p line
tests p shapes.ends = []

-- the kind of task that a place says
unfoldable pub kind_of : Place → Kind
kind_of (shapes.pinned home nice) = Pinned (value home) (signed_value nice)
kind_of (shapes.shared nice) = Shared (signed_value nice)
kind_of (shapes.tasklet home class) = Tasklet (value home) class

-- the task that a line says, with no row so far
unfoldable pub task_of : TaskLine → TaskDef
task_of line = record { name = line.name; kind = kind_of line.place; init = line.init; rows = [] }

-- the number of the task of this name, which there is
unfoldable pub number_named : List TaskDef → Word → ℕ
number_named tasks name = unwrap_or (named tasks name) 0

-- the action that a line says
unfoldable pub action_of : List TaskDef → Order → Action
action_of tasks (shapes.wakes name reasons) = Wake (record { 0 = number_named tasks name }) reasons
action_of tasks (shapes.kills name) = Kill (record { 0 = number_named tasks name })

-- the expiry that a line says
unfoldable pub expiry_of : Delay → Expiry
expiry_of shapes.keeps = Keep
expiry_of (shapes.after w) = After (value w)
expiry_of shapes.never = Never

-- the row that a line says
unfoldable pub row_of : List TaskDef → RowLine → Row
row_of tasks line = record { actions = map (action_of tasks) line.orders; expiry = expiry_of line.delay; next = value line.next }

-- the event that a line says
unfoldable pub event_of : List TaskDef → EventLine → Event
event_of tasks line = record { round = value line.round; action = action_of tasks line.order }

-- the setting has this value
unfoldable pub with_setting : Progress → Setting → ℕ → Progress
with_setting p Workers n = record p { workers = n }
with_setting p Depth n = record p { depth = n }
with_setting p Start n = record p { start = n }
with_setting p Step n = record p { step = n }
with_setting p Rounds n = record p { rounds = n }

-- the task comes last, with the number of rows that it promised
unfoldable pub with_task : Progress → TaskLine → Progress
with_task p line = record p { tasks = p.tasks ++ task_of line ∷ []; counts = p.counts ++ value line.rows ∷ [] }

-- the task with a row more
unfoldable pub with_row_at_end : TaskDef → Row → TaskDef
with_row_at_end task row = record task { rows = task.rows ++ row ∷ [] }

-- the row goes to the task whose rows come now, and behind its last row the next task's rows come
unfoldable pub with_row : Progress → Option TaskDef → Row → Progress
with_row p None row = p
with_row p (Some task) row = record p {
  tasks = slice_set p.tasks p.at (with_row_at_end task row);
  at = if length task.rows + 1 == promised p then p.at + 1 else p.at;
}

-- the event comes last
unfoldable pub with_event : Progress → EventLine → Progress
with_event p line = record p { events = p.events ++ event_of p.tasks line ∷ [] }

-- what is read so far, with what one line says
unfoldable pub with_line : Progress → Said → Progress
with_line p (shapes.sets setting w) = with_setting p setting (value w)
with_line p (shapes.task line) = with_task p line
with_line p (shapes.row line) = with_row p (due p) (row_of p.tasks line)
with_line p (shapes.event line) = with_event p line
with_line p shapes.ends = record p { ended = true }

-- the lowest kind, or what is read with this line
unfoldable pub judge_tested : Option FaultKind → Progress → Result Progress FaultKind
judge_tested None p = Ok p
judge_tested (Some kind) p = Err kind

-- a line whose words say this, or fit no shape
unfoldable pub judge_said : Progress → Option Said → Result Progress FaultKind
judge_said p None = Err kinds.Word
judge_said p (Some said) = if may_come p said then judge_tested (first_fault (tests p said)) (with_line p said) else Err kinds.Word

-- the setting whose line this is
unfoldable pub setting_at : ℕ → Option Setting
setting_at line = slice_get all_settings (line - 2)

-- what the words say, in the line of a setting or after those
unfoldable pub said_in : Option Setting → List Word → Option Said
said_in None ws = body_line ws
said_in (Some setting) ws = setting_line setting ws

-- what line n says, where its words fit a shape
unfoldable pub said_of : ℕ → List ℕ → Option Said
said_of n line = words_of line >>= said_in (setting_at n)

-- the version that the first line says
unfoldable pub version_of : List ℕ → Option ℕ
version_of line = if line is "taskscript 1" then Some 1 else (if line is "taskscript 2" then Some 2 else None)

-- the first line, which says this version
unfoldable pub judge_header : Progress → Option ℕ → Result Progress FaultKind
judge_header p None = Err kinds.Header
judge_header p (Some version) = Ok (record p { version = version })

-- a complete line: the kind of its fault, or what is read with it
unfoldable pub judge : ℕ → Progress → List ℕ → Result Progress FaultKind
judge n p line = if n == 1
    then judge_header p (version_of line)
    else judge_said p (said_of n line)

-- how the lines of a script are judged
abbrev pub scripts : Format Progress FaultKind
scripts = record { judge = judge; has_ended = λ p. p.ended; behind = kinds.Word; over = kinds.LimitPassed; short = kinds.Truncated }

-- a fault, by its line and its kind
abbrev pub fault : ℕ × FaultKind → ScriptFault
fault f = record { line = f.0; kind = number_of_kind f.1 }

-- the script that is read
unfoldable pub script_from : Progress → Script
script_from p = record { version = p.version; workers = p.workers; depth = p.depth; start = p.start; step = p.step; rounds = p.rounds; tasks = p.tasks; events = p.events }

-- the script that is read, or the first fault
abbrev pub script_read : Result Progress (ℕ × FaultKind) → Result Script ScriptFault
script_read (Ok p) = Ok (script_from p)
script_read (Err f) = Err (fault f)

-- the script of a text of at most so many bytes
abbrev pub script_within : ℕ → List ℕ → Result Script ScriptFault
script_within limit bytes = script_read (read_within scripts nothing limit bytes)

-- the first line of a text, of which no more than 13 bytes count
abbrev pub first_line : List ℕ → List ℕ
first_line bytes = slice_index_or (pieces 10 (take 13 bytes)) 0 []

-- the version that a text says in its first line, or the newest where it says none
unfoldable pub version_in : List ℕ → ℕ
version_in bytes = unwrap_or (version_of (first_line bytes)) newest

-- the most bytes that a text of this version may have
abbrev pub most_bytes : List ℕ → ℕ
most_bytes bytes = (limits_of (version_in bytes)).bytes

-- the most bytes that any script may have
abbrev pub byte_limit : ℕ
byte_limit = (limits_of newest).bytes

-- the script of a text, or the line and the kind of its first fault; no byte further behind the limit of its version counts
unfoldable pub script_of : List ℕ → Result Script ScriptFault
script_of bytes = script_within (most_bytes bytes) (take (most_bytes bytes + 1) bytes)
