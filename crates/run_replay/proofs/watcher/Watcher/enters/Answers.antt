use Rattle.std.proofs.Common.{refl, inl, inr}
use Rattle.run_replay.specs.Watching.{opened}
use Rattle.run_replay.proofs.Watching.{inside, other-position, enter-start, enter-end, enter-inside}
use Rattle.run_replay.proofs.watcher.Watcher.enters.Goals as goal

pub makes-requires : goal.makes-requires
makes-requires c =
    let p = inside c.args.script.now c.requires.0 c.args.self.now c.in-Round.number _ c.requires.1 c.in-Round.is in
    (opened c.in-Round.number c.in-Round.tick p.old, p.entries, p.stands, refl)

pub returns-in-Round : goal.returns-in-Round
returns-in-Round c = λ t at. enter-inside c.args.script.now t c.args.self.now c.makes.new.self c.args.entry.now c.in-Round.number _ c.makes.result at c.in-Round.is c.makes.ensures.position c.makes.ensures.made

pub returns-in_default : goal.returns-in_default
returns-in_default c = λ t at u may. elim (other-position c.args.self.now.position c.in_default.not-Round) [
  | inl start ↦ enter-start c.args.script.now t c.args.self.now c.args.entry.now at start u may
  | inr end ↦ enter-end c.args.script.now t c.args.self.now c.args.entry.now at end u may
]
