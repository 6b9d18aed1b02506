use Rattle.std.proofs.Common.{◌≡◌, arith}
use Rattle.fronts.specs.Lines.{IsWhole}
use Rattle.run_replay.specs.Watching.{IsOver, EndsAfter, left_after, standing_of}
use Rattle.run_replay.proofs.Facts.{never, on-true, on-false}
use Rattle.run_replay.proofs.Watching.{ends-or-not}
use Rattle.run_replay.proofs.watcher.Watcher.ends_after.Goals as goal

pub returns-then-not-close : goal.returns-then-not-close
returns-then-not-close c = λ g es h same. never (EndsAfter c.args.script.now g es c.args.rest c.args.last) (λ f. on-false c.close.result (IsWhole c.args.script.now g.round g.tick g.old es × IsOver c.args.script.now c.args.round c.close.new.self × (standing_of c.close.new.self ≡ left_after c.args.script.now g es)) (IsWhole c.args.script.now g.round g.tick g.old es → ⊥) c.if-not-close.true (c.close.ensures g es h same) f.0)

pub ends_so-requires : goal.ends_so-requires
ends_so-requires c =
    let g = c.requires.0 in
    let es = c.requires.1 in
    (on-true c.close.result (IsWhole c.args.script.now g.round g.tick g.old es × IsOver c.args.script.now c.args.round c.close.new.self × (standing_of c.close.new.self ≡ left_after c.args.script.now g es)) (IsWhole c.args.script.now g.round g.tick g.old es → ⊥) c.if-not-close.false (c.close.ensures g es c.requires.2 c.requires.3)).1

pub returns : goal.returns
returns c = λ g es h same.
    let x = on-true c.close.result (IsWhole c.args.script.now g.round g.tick g.old es × IsOver c.args.script.now c.args.round c.close.new.self × (standing_of c.close.new.self ≡ left_after c.args.script.now g es)) (IsWhole c.args.script.now g.round g.tick g.old es → ⊥) c.if-not-close.false (c.close.ensures g es h same) in
    ends-or-not c.args.script.now g es c.close.new.self c.args.round c.args.last c.args.rest c.ends_so.result same (omega arith) x.0 x.2 c.ends_so.ensures
