-- What a pass has by its own entries (docs/BOARD.md, "Passes").
use Rattle.std.specs.Prelude.{◌≡◌, ℕ, ◌+◌, List, [], ◌∷◌}
use Rattle.task_machine.specs.declared.calls.Entry.{Entry}
use Rattle.task_machine.specs.Step.{task_at, bit}
use Rattle.task_machine.specs.Since.{is_take}
use Rattle.atomic_table.specs.Table.{Me}
use Rattle.atomic_table.specs.Seated.{TableId}
use Rattle.wake_board.specs.declared.body.Body.{Body}
use Rattle.wake_board.specs.declared.views.View.{View}
use Rattle.wake_board.specs.Start.{Start, start_in}
use Rattle.wake_board.specs.Outs.{Carries}
use Rattle.wake_board.specs.Seen.{Held, own_log}

-- how often the entries take task i
abbrev pub takes_in : ℕ → List Entry → ℕ
takes_in i [] = 0
takes_in i (e ∷ es) = bit (is_take i e.call) + takes_in i es

-- the takes of task i, which only the caller of these entries takes
abbrev pub known_takes : Start → List Entry → ℕ → ℕ
known_takes o es i = (task_at o.state i).takes + takes_in i es

-- what a pass is to contracts, by the number of its caller and the view of its seat
abbrev pub held_by : TableId → ℕ → View → Held
held_by board who v =
    record { board = board; who = who; start = start_in v.start; entries = own_log v.logs; misses = v.misses; outs = v.outs }

-- the parts of a pass go together: its seat has its caller's log alone, and the slots of the bodies that are out with it
pub record IsPass (who : ℕ) (me : Me Body View) : Type 0 where
  pub log : me.0.logs ≡ own_log me.0.logs ∷ []
  pub number : me.0.first ≡ who
  pub slots : Carries me.1 me.0.outs
