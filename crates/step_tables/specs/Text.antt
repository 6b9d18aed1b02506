-- The words that say what a line says, and the text of a script: docs/SCRIPT.md, "Lines" and "Text".
use Rattle.std.specs.Prelude.{ℕ, ◌+◌, Bool, true, false, List, [], ◌∷◌, ◌++◌, map, length, codes, flat_map, decimal, slice_index_or, ◌==◌, if◌then◌else◌}
use Rattle.std.specs.List.{join_with_byte}
use Rattle.std.specs.Fmt.{signed_decimal}
use Rattle.step_tables.specs.Types.{Class, Urgent, Normal, Bulk, Heavy, Action, Wake, Kill, Expiry, Keep, After, Never, Kind, Pinned, Shared, Tasklet, Row, TaskDef, Event, Setting, Workers, Depth, Start, Step, Rounds}
use Rattle.step_tables.specs.declared.tables.Script.{Script}
pub use Rattle.text_lines.specs.Added.{spaced}
unfoldable pub use Rattle.text_lines.specs.Reasons.{reasons_word as reasons_text}
use Rattle.step_tables.specs.Words.{Word}
use Rattle.step_tables.specs.Shapes.{Order, wakes, kills, Delay, keeps, after, never, Place, pinned, shared, tasklet, Said, sets, task, row, event, ends, setting_name, all_settings}

-- the name of a class
abbrev pub class_name : Class → Word
class_name Urgent = codes "urgent"
class_name Normal = codes "normal"
class_name Bulk = codes "bulk"
class_name Heavy = codes "heavy"

-- the words of an action
abbrev pub order_words : Order → List Word
order_words (wakes name f) = codes "wake" ∷ name ∷ reasons_text f ∷ []
order_words (kills name) = codes "kill" ∷ name ∷ []

-- the words of an expiry, or none
abbrev pub delay_words : Delay → List Word
delay_words keeps = []
delay_words (after ticks) = codes "after" ∷ ticks ∷ []
delay_words never = codes "never" ∷ []

-- `init`, or nothing
abbrev pub init_words : Bool → List Word
init_words true = codes "init" ∷ []
init_words false = []

-- the words of the place where a task runs
abbrev pub place_words : Place → List Word
place_words (pinned home nice) = codes "home" ∷ home ∷ codes "nice" ∷ nice ∷ []
place_words (shared nice) = codes "shared" ∷ codes "nice" ∷ nice ∷ []
place_words (tasklet home class) = codes "home" ∷ home ∷ codes "class" ∷ class_name class ∷ []

-- the first word of a task's line
abbrev pub task_word : Place → Word
task_word (pinned home nice) = codes "task"
task_word (shared nice) = codes "task"
task_word (tasklet home class) = codes "tasklet"

-- the words of a line
abbrev pub said_words : Said → List Word
said_words (sets setting value) = setting_name setting ∷ value ∷ []
said_words (task line) = task_word line.place ∷ line.name ∷ (place_words line.place ++ codes "rows" ∷ line.rows ∷ init_words line.init)
said_words (row line) = codes "row" ∷ line.name ∷ line.number ∷ (flat_map order_words line.orders ++ (delay_words line.delay ++ codes "next" ∷ line.next ∷ []))
said_words (event line) = codes "event" ∷ line.round ∷ order_words line.order
said_words ends = codes "end" ∷ []

-- the name of the task of this number
abbrev pub name_at : List Word → ℕ → Word
name_at names i = slice_index_or names i []

-- what is said of an action
unfoldable pub order_said : List Word → Action → Order
order_said names (Wake i reasons) = wakes (name_at names i.0) reasons
order_said names (Kill i) = kills (name_at names i.0)

-- what is said of an expiry
unfoldable pub delay_said : Expiry → Delay
delay_said Keep = keeps
delay_said (After ticks) = after (decimal ticks)
delay_said Never = never

-- what is said of a kind of task
unfoldable pub place_said : Kind → Place
place_said (Pinned home nice) = pinned (decimal home) (signed_decimal nice)
place_said (Shared nice) = shared (signed_decimal nice)
place_said (Tasklet home class) = tasklet (decimal home) class

-- the line of a task that has so many rows
unfoldable pub task_said : TaskDef → ℕ → Said
task_said t rows = task (record { name = t.name; place = place_said t.kind; rows = decimal rows; init = t.init })

-- the line of the row of this number
unfoldable pub row_said : List Word → Word → ℕ → Row → Said
row_said names name number r = row (record { name = name; number = decimal number; orders = map (order_said names) r.actions; delay = delay_said r.expiry; next = decimal r.next })

-- the lines of a task's rows, from this number on
unfoldable pub rows_said : List Word → Word → ℕ → List Row → List Said
rows_said names name number [] = []
rows_said names name number (r ∷ rs) = row_said names name number r ∷ rows_said names name (number + 1) rs

-- the line of an event
unfoldable pub event_said : List Word → Event → Said
event_said names e = event (record { round = decimal e.round; order = order_said names e.action })

-- the names of the tasks
abbrev pub names_of : List TaskDef → List Word
names_of tasks = map (λ t. t.name) tasks

-- the value of a setting
abbrev pub setting_of : Script → Setting → ℕ
setting_of s Workers = s.workers
setting_of s Depth = s.depth
setting_of s Start = s.start
setting_of s Step = s.step
setting_of s Rounds = s.rounds

-- the lines of the settings
abbrev pub settings_said : Script → List Said
settings_said s = map (λ k. sets k (decimal (setting_of s k))) all_settings

-- the lines of the tasks, then those of their rows, then those of the events, then the last
unfoldable pub body_said : List TaskDef → List Event → List Said
body_said tasks events =
    map (λ t. task_said t (length t.rows)) tasks
    ++ (flat_map (λ t. rows_said (names_of tasks) t.name 0 t.rows) tasks
    ++ (map (event_said (names_of tasks)) events
    ++ ends ∷ []))

-- a line of these words
abbrev pub line_text : List Word → List ℕ
line_text ws = join_with_byte 32 ws ++ 10 ∷ []

-- the text of lines
abbrev pub lines_text : List Said → List ℕ
lines_text lines = flat_map (λ said. line_text (said_words said)) lines

-- the first line of a script of this version
unfoldable pub header_of : ℕ → List ℕ
header_of version = if version == 2 then codes "taskscript 2" else codes "taskscript 1"

-- the text of a script: the one that is read as this script
unfoldable pub script_text : Script → List ℕ
script_text s = header_of s.version ++ 10 ∷ lines_text (settings_said s ++ body_said s.tasks s.events)
