-- The state word of a task: what it stands for, and what each call makes of it (docs/BOARD.md, "The state word").
use Rattle.std.specs.Prelude.{◌≡◌, ℕ, ◌+◌, ◌*◌, ◌/◌, ◌%◌, ◌^◌, ◌-◌, ◌<◌, Bool, true, false, not, ◌||◌, ◌==◌, if◌then◌else◌}
use Rattle.std.specs.Int.{bit_at}
use Rattle.task_machine.specs.declared.task.Stand.{Stand}
use Rattle.task_machine.specs.declared.task.Stand.TheVariants as stands
use Rattle.task_machine.specs.declared.task.Seen.{Seen}
use Rattle.task_machine.specs.declared.task.Seen.TheVariants as views
use Rattle.task_machine.specs.declared.task.TaskState.{TaskState}
use Rattle.task_machine.specs.Task.{IsValidTask, seen_of}
use Rattle.task_machine.specs.Step.{bit}

-- whether a task that stands so has the bit "running"
abbrev pub is_running : Stand → Bool
is_running stands.Rest = false
is_running stands.Queued = false
is_running stands.Runs = true

-- whether it has the bit "queued": a queued task has it, and a running one that has something to run for
abbrev pub is_queued : Stand → ℕ → Bool → Bool
is_queued stands.Rest n b = false
is_queued stands.Queued n b = true
is_queued stands.Runs n b = not (n == 0) || b

-- the bits "running", "queued" and "killed"
abbrev pub flags_with : Bool → Bool → Bool → ℕ
flags_with r q b = bit r + (2 * bit q + 4 * bit b)

-- the word with these bits, reasons from bit 8 on, and takes from bit 16 on
abbrev pub word_with : Bool → Bool → Bool → ℕ → ℕ → ℕ
word_with r q b n m = m * 2 ^ 16 + (n * 2 ^ 8 + flags_with r q b)

-- the word of what is seen of a task
abbrev pub word_of : Seen → ℕ
word_of views.Gone = 8
word_of (views.Live st n b m) = word_with (is_running st) (is_queued st n b) b n m

-- how a task stands by its word
abbrev pub stand_in : ℕ → Stand
stand_in w = if bit_at w 0 == 1 then stands.Runs else (if bit_at w 1 == 1 then stands.Queued else stands.Rest)

-- how often a task was taken, by the word of one that is not gone
abbrev pub word_takes : ℕ → ℕ
word_takes w = w / 2 ^ 16

-- what is seen of a task by its word: gone where bit 3 is set, whatever else is
abbrev pub seen_in : ℕ → Seen
seen_in w =
    if bit_at w 3 == 1 then views.Gone else views.Live (stand_in w) (w / 2 ^ 8 % 2 ^ 7) (bit_at w 2 == 1) (word_takes w)

-- the numbers fit their bits
abbrev pub HasWord : Seen → Type 0
HasWord views.Gone = Unit {0}
HasWord (views.Live st n b m) = (n < 2 ^ 7) × (m < 2 ^ 48)

-- the word stands for what is seen of a task; any word with bit 3 stands for a task that is gone
abbrev pub StandsFor : ℕ → Seen → Type 0
StandsFor w views.Gone = bit_at w 3 ≡ 1
StandsFor w (views.Live st n b m) = (w ≡ word_of (views.Live st n b m)) × HasWord (views.Live st n b m)

-- where the old word stands for a task, the new word stands for the task after the change
abbrev pub Follows : (TaskState → TaskState) → ℕ → ℕ → Type 0
Follows change old new =
    (t : TaskState) → IsValidTask t → StandsFor old (seen_of t) → StandsFor new (seen_of (change t))

-- the bits that a wake with the reasons f sets
abbrev pub wake_bits : ℕ → ℕ
wake_bits f = f * 2 ^ 8 + 2

-- the bits that a kill sets
abbrev pub kill_bits : ℕ
kill_bits = 6

-- the bits that a drop keeps: all but the lowest
abbrev pub drop_mask : ℕ
drop_mask = 2 ^ 64 - 2

-- the word of a task that was taken this often before, and is now taken once more
abbrev pub taken_word : ℕ → ℕ
taken_word m = (m + 1) * 2 ^ 16 + 1
