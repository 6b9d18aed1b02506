use Rattle.std.proofs.Common.{refl}
use Rattle.run_replay.specs.Watching.{opened}
use Rattle.run_replay.proofs.Watching.{inside, open-start, open-inside, open-end}
use Rattle.run_replay.proofs.watcher.Watcher.may_open.Goals as goal

pub may_follow-requires : goal.may_follow-requires
may_follow-requires c =
    let p = inside c.args.script.now c.requires.0 c.args.self.now c.in-Round.last c.in-Round.now c.requires.1 c.in-Round.is in
    (opened c.in-Round.last c.in-Round.now p.old, p.entries, p.stands, refl, refl)

pub returns-in-Start : goal.returns-in-Start
returns-in-Start c = λ t at. open-start c.args.script.now t c.args.self.now c.args.number c.args.tick c.is_first.result at c.in-Start.is c.is_first.ensures

pub returns-in-Round : goal.returns-in-Round
returns-in-Round c = λ t at. open-inside c.args.script.now t c.args.self.now c.may_follow.new.self c.in-Round.last c.in-Round.now c.args.number c.args.tick c.may_follow.result at c.in-Round.is c.may_follow.ensures

pub returns-in-End : goal.returns-in-End
returns-in-End c = λ t at u may. open-end c.args.script.now t c.args.self.now c.args.number c.args.tick at c.in-End.is u may
