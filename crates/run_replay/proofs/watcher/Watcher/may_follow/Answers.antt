use Rattle.std.proofs.Common.{◌≡◌, arith}
use Rattle.fronts.specs.Lines.{IsWhole}
use Rattle.run_replay.specs.Watching.{IsOver, left_after, standing_of}
use Rattle.run_replay.proofs.Facts.{on-true, on-false}
use Rattle.run_replay.proofs.Watching.{few-within, follows-or-not}
use Rattle.run_replay.proofs.watcher.Watcher.may_follow.Goals as goal

pub overflow_add-last : goal.overflow_add-last
overflow_add-last c =
    let few = few-within c.args.script.now c.requires.0 c.requires.1 c.args.self.now c.requires.2 in
    let same = c.requires.3 in
    omega arith

pub returns-then-not-close : goal.returns-then-not-close
returns-then-not-close c = λ g es h same at f. on-false c.close.result (IsWhole c.args.script.now g.round g.tick g.old es × IsOver c.args.script.now c.args.last c.close.new.self × (standing_of c.close.new.self ≡ left_after c.args.script.now g es)) (IsWhole c.args.script.now g.round g.tick g.old es → ⊥) c.if-not-close.true (c.close.ensures g es h same) f.0

pub goes_on-requires : goal.goes_on-requires
goes_on-requires c =
    let g = c.requires.0 in
    let es = c.requires.1 in
    (on-true c.close.result (IsWhole c.args.script.now g.round g.tick g.old es × IsOver c.args.script.now c.args.last c.close.new.self × (standing_of c.close.new.self ≡ left_after c.args.script.now g es)) (IsWhole c.args.script.now g.round g.tick g.old es → ⊥) c.if-not-close.false (c.close.ensures g es c.requires.2 c.requires.3)).1

pub returns : goal.returns
returns c = λ g es h same at.
    let x = on-true c.close.result (IsWhole c.args.script.now g.round g.tick g.old es × IsOver c.args.script.now c.args.last c.close.new.self × (standing_of c.close.new.self ≡ left_after c.args.script.now g es)) (IsWhole c.args.script.now g.round g.tick g.old es → ⊥) c.if-not-close.false (c.close.ensures g es h same) in
    follows-or-not c.args.script.now g es c.close.new.self c.args.last c.args.now c.args.number c.args.tick c.goes_on.result same at (omega arith) x.0 x.1 x.2 c.goes_on.ensures
