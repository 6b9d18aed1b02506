use Rattle.taskrun.proofs.Played.{after_error}
use Rattle.taskrun.proofs.Counted.{summary_none}
use Rattle.taskrun.proofs.summary.sum_up.Goals as goal

pub returns-in_err-text-clause-err : goal.returns-in_err-text-clause-err
returns-in_err-text-clause-err g c = after_error _ _ (summary_none c.args.script.now (g.O.Sink.held c.args.out.now) c.summary.ensures.sound)
