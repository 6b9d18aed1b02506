use Rattle.std.proofs.Common.{refl, inl, inr}
use Rattle.run_replay.specs.Watching.{opened}
use Rattle.run_replay.proofs.Watching.{inside, other-position, end-start, end-end, end-inside}
use Rattle.run_replay.proofs.watcher.Watcher.may_end.Goals as goal

pub ends_after-requires : goal.ends_after-requires
ends_after-requires c =
    let p = inside c.args.script.now c.requires.0 c.args.self.now c.in-Round.number _ c.requires.1 c.in-Round.is in
    (opened c.in-Round.number c.in-Round.tick p.old, p.entries, p.stands, refl)

pub returns-in-Round : goal.returns-in-Round
returns-in-Round c = λ t at. end-inside c.args.script.now t c.args.self.now c.args.rest c.args.last c.in-Round.number _ c.ends_after.result at c.in-Round.is c.ends_after.ensures

pub returns-in_default : goal.returns-in_default
returns-in_default c = λ t at u may. elim (other-position c.args.self.now.position c.in_default.not-Round) [
  | inl start ↦ end-start c.args.script.now t c.args.self.now c.args.rest c.args.last at start u may
  | inr end ↦ end-end c.args.script.now t c.args.self.now c.args.rest c.args.last at end u may
]
