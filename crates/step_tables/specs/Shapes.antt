-- The shapes of a script's lines, with numbers still as words and tasks by name: docs/SCRIPT.md, "Lines".
use Rattle.std.specs.Prelude.{ℕ, zero, suc, Bool, true, false, List, [], ◌∷◌, length, Option, Some, None, option_map, slice_index_or, codes, if◌then◌else◌}
use Rattle.step_tables.specs.Types.{Class, Urgent, Normal, Bulk, Heavy, Setting, Workers, Depth, Start, Step, Rounds}
use Rattle.text_lines.specs.Slots.{Slot, Value, word, any, reasons, choice, name, text_at, reasons_at, index_at}
use Rattle.text_lines.specs.Shapes.{front, whole}
use Rattle.step_tables.specs.Words.{Word, ◌>>=◌, ◌or_else◌, only_if, is_empty}

-- an action, with its task by name
pub data Order : Type 0 where
  wakes : Word → ℕ → Order
  kills : Word → Order

-- an expiry, or none
pub data Delay : Type 0 where
  keeps : Delay
  after : Word → Delay
  never : Delay

-- where a task runs, with home and nice as words
pub data Place : Type 0 where
  pinned : Word → Word → Place
  shared : Word → Place
  tasklet : Word → Class → Place

-- the line of a task or a tasklet
pub record TaskLine : Type 0 where
  pub name : Word
  pub place : Place
  pub rows : Word
  pub init : Bool

-- the line of a row
pub record RowLine : Type 0 where
  pub name : Word
  pub number : Word
  pub orders : List Order
  pub delay : Delay
  pub next : Word

-- the line of an event
pub record EventLine : Type 0 where
  pub round : Word
  pub order : Order

-- what a line says, where its words fit a shape
pub data Said : Type 0 where
  sets : Setting → Word → Said
  task : TaskLine → Said
  row : RowLine → Said
  event : EventLine → Said
  ends : Said

-- the name of a setting
abbrev pub setting_name : Setting → Word
setting_name Workers = codes "workers"
setting_name Depth = codes "depth"
setting_name Start = codes "start"
setting_name Step = codes "step"
setting_name Rounds = codes "rounds"

-- all settings, in the order of their lines
abbrev pub all_settings : List Setting
all_settings = Workers ∷ Depth ∷ Start ∷ Step ∷ Rounds ∷ []

-- the names of the classes, and the class at a place
abbrev pub class_names : List Word
class_names = codes "urgent" ∷ codes "normal" ∷ codes "bulk" ∷ codes "heavy" ∷ []

abbrev pub class_at : ℕ → Class
class_at i = slice_index_or (Urgent ∷ Normal ∷ Bulk ∷ Heavy ∷ []) i Heavy

-- the slots of each shape
abbrev pub setting_slots : Setting → List Slot
setting_slots setting = word (setting_name setting) ∷ any ∷ []

abbrev pub pinned_slots : List Slot
pinned_slots = word (codes "task") ∷ name ∷ word (codes "home") ∷ any ∷ word (codes "nice") ∷ any ∷ word (codes "rows") ∷ any ∷ []

abbrev pub shared_slots : List Slot
shared_slots = word (codes "task") ∷ name ∷ word (codes "shared") ∷ word (codes "nice") ∷ any ∷ word (codes "rows") ∷ any ∷ []

abbrev pub tasklet_slots : List Slot
tasklet_slots = word (codes "tasklet") ∷ name ∷ word (codes "home") ∷ any ∷ word (codes "class") ∷ choice class_names ∷ word (codes "rows") ∷ any ∷ []

abbrev pub init_slots : List Slot
init_slots = word (codes "init") ∷ []

abbrev pub row_slots : List Slot
row_slots = word (codes "row") ∷ name ∷ any ∷ []

abbrev pub wake_slots : List Slot
wake_slots = word (codes "wake") ∷ name ∷ reasons ∷ []

abbrev pub kill_slots : List Slot
kill_slots = word (codes "kill") ∷ name ∷ []

abbrev pub keeps_slots : List Slot
keeps_slots = word (codes "next") ∷ any ∷ []

abbrev pub after_slots : List Slot
after_slots = word (codes "after") ∷ any ∷ keeps_slots

abbrev pub never_slots : List Slot
never_slots = word (codes "never") ∷ keeps_slots

abbrev pub event_slots : List Slot
event_slots = word (codes "event") ∷ any ∷ []

abbrev pub end_slots : List Slot
end_slots = word (codes "end") ∷ []

-- whether `init` stands last, where nothing or it may stand
unfoldable pub init_at : List Word → Option Bool
init_at ws = if is_empty ws then Some false else option_map (λ vs. true) (whole init_slots ws)

-- the values of a task's line, and whether it is to run from the start on
unfoldable pub task_at : List Slot → List Word → Option (List Value × Bool)
task_at slots ws = front slots ws >>= λ r. init_at r.1 >>= λ init. Some (r.0, init)

-- `task` name `home` number `nice` signed `rows` number, then nothing or `init`
abbrev pub pinned_line : List Value → Bool → TaskLine
pinned_line vs init = record { name = text_at vs 0; place = pinned (text_at vs 1) (text_at vs 2); rows = text_at vs 3; init = init }

-- `task` name `shared nice` signed `rows` number, then nothing or `init`
abbrev pub shared_line : List Value → Bool → TaskLine
shared_line vs init = record { name = text_at vs 0; place = shared (text_at vs 1); rows = text_at vs 2; init = init }

-- `tasklet` name `home` number `class` class `rows` number, then nothing or `init`
abbrev pub tasklet_line : List Value → Bool → TaskLine
tasklet_line vs init = record { name = text_at vs 0; place = tasklet (text_at vs 1) (class_at (index_at vs 2)); rows = text_at vs 3; init = init }

-- the line of a task or a tasklet
unfoldable pub task_line : List Word → Option TaskLine
task_line ws =
    option_map (λ r. pinned_line r.0 r.1) (task_at pinned_slots ws)
    or_else option_map (λ r. shared_line r.0 r.1) (task_at shared_slots ws)
    or_else option_map (λ r. tasklet_line r.0 r.1) (task_at tasklet_slots ws)

-- `wake` name reason-list, or `kill` name, and the words after it
unfoldable pub order_at : List Word → Option (Order × List Word)
order_at ws =
    option_map (λ r. (wakes (text_at r.0 0) (reasons_at r.0 1), r.1)) (front wake_slots ws)
    or_else option_map (λ r. (kills (text_at r.0 0), r.1)) (front kill_slots ws)

-- the action that was found, and the actions that stand after it; or none, and all the words
abbrev pub and_more : List Word → Option (Order × List Word) → (List Word → List Order × List Word) → List Order × List Word
and_more ws None more = ([], ws)
and_more ws (Some order) more = (order.0 ∷ (more order.1).0, (more order.1).1)

-- the actions that stand first, at most so many, and the words after them
unfoldable pub orders_at : ℕ → List Word → List Order × List Word
orders_at zero ws = ([], ws)
orders_at (suc most) ws = and_more ws (order_at ws) (orders_at most)

-- an expiry or nothing, then `next` number
unfoldable pub closing : List Word → Option (Delay × Word)
closing ws =
    option_map (λ vs. (keeps, text_at vs 0)) (whole keeps_slots ws)
    or_else option_map (λ vs. (after (text_at vs 0), text_at vs 1)) (whole after_slots ws)
    or_else option_map (λ vs. (never, text_at vs 0)) (whole never_slots ws)

-- `row` name number, then actions, then an expiry or nothing, then `next` number
unfoldable pub row_said : List Word → Option Said
row_said ws = do
  start ← front row_slots ws
  close ← closing (orders_at (length start.1) start.1).1
  Some (row (record { name = text_at start.0 0; number = text_at start.0 1; orders = (orders_at (length start.1) start.1).0; delay = close.0; next = close.1 }))

-- `event` number action
unfoldable pub event_said : List Word → Option Said
event_said ws = do
  start ← front event_slots ws
  order ← order_at start.1
  only_if (is_empty order.1) (event (record { round = text_at start.0 0; order = order.0 }))

-- `end`
unfoldable pub end_said : List Word → Option Said
end_said ws = option_map (λ vs. ends) (whole end_slots ws)

-- the setting's name, then a number
unfoldable pub setting_line : Setting → List Word → Option Said
setting_line setting ws = option_map (λ vs. sets setting (text_at vs 0)) (whole (setting_slots setting) ws)

-- a line after the settings
unfoldable pub body_line : List Word → Option Said
body_line ws = row_said ws or_else option_map task (task_line ws) or_else event_said ws or_else end_said ws
