use Rattle.taskrun.proofs.Played.{adds_round, adds_end}
use Rattle.taskrun.proofs.RunTexts.{may_note}
use Rattle.taskrun.proofs.rounds.add_round.Goals as goal

pub advance-requires-clause-runs : goal.advance-requires-clause-runs
advance-requires-clause-runs g c κs within = c.requires.runs

pub advance-requires-clause-can : goal.advance-requires-clause-can
advance-requires-clause-can g c κs within = λ next comes. may_note c.args.script.now c.args.round _ c.args.course.now next c.requires.sound comes

pub returns-else-after : goal.returns-else-after
returns-else-after g c = λ rounds told runs. adds_round c.args.script.now rounds c.args.round told _ c.args.text.now.items c.advance.new.scribe.items c.advance.new.self c.in_ok-after.after (c.in_ok-after.ensures.advanced rounds told runs) c.if-after.false

pub returns-in_ok-write_end : goal.returns-in_ok-write_end
returns-in_ok-write_end g c = λ rounds told runs. adds_end c.args.script.now rounds c.args.round told _ c.args.text.now.items c.advance.new.scribe.items c.write_end.new.out.items c.advance.new.self c.in_ok-after.after (c.in_ok-after.ensures.advanced rounds told runs) c.if-after.true c.in_ok-write_end.ensures.written
