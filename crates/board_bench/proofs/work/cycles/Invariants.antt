use Rattle.task_machine.specs.Own.{away}
use Rattle.board_bench.specs.Callers.{IsAt}
use Rattle.board_bench.proofs.work.cycles.Given as goal

-- the pass has nothing of the task, and took it as often as the loop went round
abbrev pub invariant-loop-i : goal.invariant-loop-i
invariant-loop-i l = IsAt l.board l.pass l.id.0 away l.i
