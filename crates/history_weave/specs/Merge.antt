-- Legal merges of logs (docs/WEAVE.md, "What a merge is").
use Rattle.std.specs.Prelude.{◌≡◌, ℕ, List}
use Rattle.task_machine.specs.declared.calls.Entry.{Entry}
use Rattle.task_machine.specs.Step.{State}
use Rattle.task_machine.specs.History.{led, IsMerge}

-- all legal merges of the same logs from the same state lead to one state
abbrev pub MergesAgree : Type 0
MergesAgree =
    (s : State) (logs : ℕ → List Entry) (es fs : List Entry) → IsMerge s logs es → IsMerge s logs fs → led s es ≡ led s fs
