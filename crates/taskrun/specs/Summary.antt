-- The summary of a run (docs/MODEL.md, "Summaries").
use Prim.Native.String.{String}
use Rattle.std.specs.Prelude.{◌≡◌, ℕ, ◌+◌, ◌-◌, ◌*◌, ◌^◌, ◌<◌, ◌≤◌, Bool, true, false, List, [], ◌∷◌, ◌++◌, length, codes, count_by, decimal, Option}
use Rattle.std.specs.List.{flat_map}
use Rattle.task_machine.specs.declared.calls.Call.{Call}
use Rattle.task_machine.specs.declared.calls.Call.TheVariants.{Wake, Kill, Post, Get, Draw, Take, DropRun, Retire}
use Rattle.task_machine.specs.declared.calls.Entry.{Entry}
use Rattle.step_tables.specs.declared.tables.Script.{Script}
use Rattle.run_model.specs.Run.{Round, Run}
use Rattle.transcript.specs.Spelling.{end_text}
use Rattle.thread_loop.specs.declared.crew.Kept.{Kept}
use Rattle.thread_loop.specs.Crews.{Grows}
use Rattle.taskrun.specs.declared.counting.Counts.{Counts}
use Rattle.taskrun.specs.declared.courses.Course.{Course}
use Rattle.taskrun.specs.Courses.{Runs}
use Rattle.taskrun.specs.Headline.{IsRunOf, history_of, kept_of}

-- whether the call is a take
abbrev pub is_take_call : Call → Bool
is_take_call (Take i) = true
is_take_call (Wake i reasons) = false
is_take_call (Kill i) = false
is_take_call (Post i box) = false
is_take_call (Get group) = false
is_take_call (Draw i) = false
is_take_call (DropRun i) = false
is_take_call (Retire i) = false

-- whether the call is a wake
abbrev pub is_wake_call : Call → Bool
is_wake_call (Wake i reasons) = true
is_wake_call (Take i) = false
is_wake_call (Kill i) = false
is_wake_call (Post i box) = false
is_wake_call (Get group) = false
is_wake_call (Draw i) = false
is_wake_call (DropRun i) = false
is_wake_call (Retire i) = false

-- the same of an entry
abbrev pub is_take : Entry → Bool
is_take e = is_take_call e.call

abbrev pub is_wake : Entry → Bool
is_wake e = is_wake_call e.call

-- so many takes and wakes, as an end of the 128 bits is far away
abbrev pub CanCount : Counts → Type 0
CanCount c = (c.takes < 2 ^ 100) × (c.wakes < 2 ^ 100)

-- the entries of a round were counted too
pub record HasCounted (entries : List Entry) (old new : Counts) : Type 0 where
  pub takes : new.takes ≡ old.takes + count_by is_take entries
  pub wakes : new.wakes ≡ old.wakes + count_by is_wake entries
  pub few_takes : new.takes ≤ old.takes + 2 ^ 64
  pub few_wakes : new.wakes ≤ old.wakes + 2 ^ 64

-- a line of a name and a number
abbrev pub number_line : String → ℕ → List ℕ
number_line name n = codes name ++ (32 ∷ (decimal n ++ 10 ∷ []))

-- the lines of a summary: so many tasks, rounds, takes and wakes, and the end line
abbrev pub summary_text : ℕ → ℕ → ℕ → ℕ → Bool → List ℕ
summary_text tasks rounds takes wakes rest =
    number_line "tasks" tasks ++ (number_line "rounds" rounds ++ (number_line "takes" takes ++ (number_line "wakes" wakes ++ end_text rest (rounds - 1))))

-- the entries of rounds, one after another
abbrev pub entries_of : List Round → List Entry
entries_of rounds = flat_map (λ round. round.entries) rounds

-- the summary of a run of a script: the takes and wakes of its history are counted
unfoldable pub summary_of : Script → Run → List ℕ
summary_of s run =
    summary_text (length s.tasks) (length run.rounds) (count_by is_take (history_of run)) (count_by is_wake (history_of run)) run.rest

-- a summary of a run of the script, whose calls the crew tells
abbrev pub IsSummary : Script → Option (List Kept) → Option (List Kept) → List ℕ → Type 0
IsSummary s told tells text = (run : Run) × IsRunOf s run × (text ≡ summary_of s run) × Grows told tells (kept_of s run)

-- whole rounds were counted, in which so many takes and wakes were made, and the next one is made
pub record Counted (s : Script) (q : ℕ) (c : Course) (told tells : Option (List Kept)) (counts : Counts) : Type 0 where
  pub rounds : List Round
  pub runs : Runs s rounds q told tells c
  pub takes : counts.takes ≡ count_by is_take (entries_of rounds)
  pub wakes : counts.wakes ≡ count_by is_wake (entries_of rounds)
  pub few_takes : counts.takes ≤ q * 2 ^ 64
  pub few_wakes : counts.wakes ≤ q * 2 ^ 64
