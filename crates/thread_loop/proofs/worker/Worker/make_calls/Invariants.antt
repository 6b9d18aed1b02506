use Rattle.std.proofs.Common.{◌≡◌, ◌≤◌, ℕ}
use Rattle.turn_steps.specs.Has.{drawn_by}
use Rattle.thread_loop.specs.Workers.{stage_of}
use Rattle.thread_loop.specs.Workers.{calls_in}
use Rattle.thread_loop.specs.BoardTurns.{OnBoard, HasCalled}
use Rattle.thread_loop.proofs.worker.Worker.make_calls.Given as goal

-- the turn goes on
abbrev pub invariant-loop-call : goal.invariant-loop-call
invariant-loop-call g l = record {
  on : OnBoard l.script l.board l.self l.pass;
  called : HasCalled l.script l.initial.self l.initial.pass l.self l.pass;
  undrawn : (i : ℕ) → drawn_by i (stage_of l.script l.self).left ≡ 0;
  fewer : calls_in l.script l.self ≤ calls_in l.script l.initial.self;
}

abbrev pub decreases-loop-call : goal.decreases-loop-call
decreases-loop-call g l = calls_in l.script l.self
