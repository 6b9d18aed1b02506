use Rattle.std.proofs.Common.{◌∙◌}
use Rattle.thread_loop.proofs.BoardTurns.{called-none, called-trans}
use Rattle.thread_loop.proofs.worker.Worker.make_draws.Goals as goal

pub loop-self-init : goal.loop-self-init
loop-self-init g c = record {
  on = c.requires.on;
  called = called-none c.args.script.now c.args.self.now c.args.pass.now;
  over = c.requires.over;
}

pub draw_next-requires-clause-outs : goal.draw_next-requires-clause-outs
draw_next-requires-clause-outs g c = c.loop-self.invariant.called.grown.outs ∙ c.requires.outs

pub loop-self-preserved : goal.loop-self-preserved
loop-self-preserved g c = record {
  on = c.draw_next.ensures.on;
  called = called-trans c.args.script.now c.args.self.now c.loop-self.self c.draw_next.new.self c.args.pass.now c.loop-self.pass c.draw_next.new.pass c.loop-self.invariant.called c.draw_next.ensures.called;
  over = c.draw_next.ensures.over;
}

pub returns-then-not-draw_next-clause-called : goal.returns-then-not-draw_next-clause-called
returns-then-not-draw_next-clause-called g c = called-trans c.args.script.now c.args.self.now c.loop-self.self c.draw_next.new.self c.args.pass.now c.loop-self.pass c.draw_next.new.pass c.loop-self.invariant.called c.draw_next.ensures.called
