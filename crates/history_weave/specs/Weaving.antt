-- What a weaver holds, and when it weaves (docs/WEAVE.md, "What a merge is").
use Rattle.std.specs.Prelude.{◌≡◌, ℕ, ◌+◌, ◌-◌, ◌^◌, ◌<◌, List, [], ◌∷◌, length, sum_by}
use Rattle.task_machine.specs.declared.calls.Call.{Call}
use Rattle.task_machine.specs.declared.calls.Call.TheVariants as calls
use Rattle.task_machine.specs.declared.calls.Entry.{Entry}
use Rattle.task_machine.specs.Logged.{Logged}
use Rattle.task_machine.specs.Step.{State, task_at}
use Rattle.task_machine.specs.History.{IsMerge}
use Rattle.history_weave.specs.Places.{log_at}

-- the entries of a merge, the machines for which it is, and how many entries have room
pub record Weaving : Type 0 where
  pub entries : List Entry
  pub tasks : ℕ
  pub workers : ℕ
  pub room : ℕ

-- how many takes there are among the entries
abbrev pub take_of : Call → ℕ
take_of (calls.Take i) = 1
take_of c = 0

abbrev pub takes_in : List Entry → ℕ
takes_in [] = 0
takes_in (e ∷ es) = take_of e.call + takes_in es

-- how many takes there are in the logs together
abbrev pub take_count : List Logged → ℕ
take_count logs = sum_by (λ log. takes_in log.entries) logs

-- each task can be taken as often as the logs take any
abbrev pub HasTakesLeft : State → List Logged → Type 0
HasTakesLeft s logs = (i : ℕ) → (task_at s i).takes + take_count logs < 2 ^ 48 - 1

-- the logs have a legal merge from state s
abbrev pub HasMerge : State → List Logged → Type 0
HasMerge s logs = (es : List Entry) × IsMerge s (log_at logs) es

-- the logs of which these entries are left have a legal merge of n entries, and no take in it is one
-- too many
pub record CanMerge (s : State) (logs : ℕ → List Entry) (n : ℕ) : Type 0 where
  pub merge : List Entry
  pub legal : IsMerge s logs merge
  pub count : length merge ≡ n
  pub room : (i : ℕ) → (task_at s i).takes + takes_in merge < 2 ^ 48 - 1
