use Rattle.std.proofs.Common.{◌∙◌, arith}
use Rattle.thread_loop.proofs.BoardTurns.{called-none, called-trans}
use Rattle.thread_loop.proofs.worker.Worker.make_calls.Goals as goal

pub loop-call-init : goal.loop-call-init
loop-call-init g c = record {
  on = c.requires.on;
  called = called-none c.args.script.now c.args.self.now c.args.pass.now;
  undrawn = c.requires.undrawn;
  fewer = omega arith;
}

pub make_call-requires-clause-outs : goal.make_call-requires-clause-outs
make_call-requires-clause-outs g c = c.loop-call.invariant.called.grown.outs ∙ c.requires.outs

pub loop-call-preserved : goal.loop-call-preserved
loop-call-preserved g c = record {
  on = c.make_call.ensures.on;
  called = called-trans c.args.script.now c.args.self.now c.loop-call.self c.make_call.new.self c.args.pass.now c.loop-call.pass c.make_call.new.pass c.loop-call.invariant.called c.make_call.ensures.called;
  undrawn = c.make_call.ensures.undrawn;
  fewer = (let less = c.make_call.ensures.fewer in let before = c.loop-call.invariant.fewer in omega arith);
}
