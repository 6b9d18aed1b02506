-- The seven reasons to run a task, each as the set that has it alone (docs/MODEL.md, "Reasons").
use Rattle.std.specs.Prelude.{ℕ}

-- the task is to run for the first time
abbrev pub init : ℕ
init = 1

-- its timer expired
abbrev pub timer : ℕ
timer = 2

-- input or output is ready
abbrev pub io : ℕ
io = 4

-- a signal came
abbrev pub signal : ℕ
signal = 8

-- a message came
abbrev pub msg : ℕ
msg = 16

-- a resource that it waits for is free
abbrev pub res : ℕ
res = 32

-- anything else
abbrev pub other : ℕ
other = 64
