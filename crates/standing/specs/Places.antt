-- Whom a task belongs to, as numbers (docs/MODEL.md, "Machine and books agree").
use Rattle.std.specs.Prelude.{ℕ}
use Rattle.sched_base.specs.declared.names.CallerId.{CallerId}
use Rattle.task_machine.specs.Task.{in_hands, in_draw, in_run}
use Rattle.task_machine.specs.Step.{State, task_at, bit}

-- whether caller k has task i in hand: 1 or 0
abbrev pub held : CallerId → State → ℕ → ℕ
held k state i = bit (in_hands k (task_at state i).place)

-- whether it runs it
abbrev pub ran : CallerId → State → ℕ → ℕ
ran k state i = bit (in_run k (task_at state i).place)

-- whether it has drawn it
abbrev pub drawn_to : CallerId → State → ℕ → ℕ
drawn_to k state i = bit (in_draw k (task_at state i).place)
