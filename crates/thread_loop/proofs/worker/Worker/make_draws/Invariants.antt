use Rattle.std.proofs.Common.{◌≡◌, None}
use Rattle.turn_steps.specs.Left.{asked}
use Rattle.thread_loop.specs.Workers.{stage_of}
use Rattle.thread_loop.specs.Workers.{calls_in}
use Rattle.thread_loop.specs.BoardTurns.{OnBoard, HasCalled}
use Rattle.thread_loop.proofs.worker.Worker.make_draws.Given as goal

-- no call is left but draws
abbrev pub invariant-loop-self : goal.invariant-loop-self
invariant-loop-self g l = record {
  on : OnBoard l.script l.board l.self l.pass;
  called : HasCalled l.script l.initial.self l.initial.pass l.self l.pass;
  over : asked l.script (stage_of l.script l.self) ≡ None;
}

abbrev pub decreases-loop-self : goal.decreases-loop-self
decreases-loop-self g l = calls_in l.script l.self
