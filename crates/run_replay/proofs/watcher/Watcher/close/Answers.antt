use Rattle.std.proofs.Common.{ℕ, subst}
use Rattle.fronts.specs.Lines.{IsWhole}
use Rattle.run_replay.specs.Watching.{IsOver}
use Rattle.run_replay.specs.declared.watcher.Watcher.{Watcher}
use Rattle.run_replay.proofs.Facts.{no-fact, the-fact}
use Rattle.run_replay.proofs.Rounds.{AllEnd, may-end-all, is-over, standing-left, with_workers}
use Rattle.run_replay.proofs.watcher.Watcher.close.Goals as goal

pub returns-then-not-is_whole : goal.returns-then-not-is_whole
returns-then-not-is_whole c = λ g es h same. no-fact c.is_whole.result (IsWhole c.args.script.now g.round g.tick g.old es) c.if-not-is_whole.true (c.is_whole.ensures g es h same)

pub end_turns-requires : goal.end_turns-requires
end_turns-requires c =
    let g = c.requires.0 in
    let es = c.requires.1 in
    let whole = the-fact c.is_whole.result (IsWhole c.args.script.now g.round g.tick g.old es) c.if-not-is_whole.false (c.is_whole.ensures g es c.requires.2 c.requires.3) in
    may-end-all c.args.script.now g es c.args.self.now c.requires.2 whole.0

pub returns : goal.returns
returns c = λ g es h same.
    let s = c.args.script.now in
    let w = c.args.self.now in
    let new : Watcher = record w { workers = c.end_turns.new.workers } in
    let whole = the-fact c.is_whole.result (IsWhole s g.round g.tick g.old es) c.if-not-is_whole.false (c.is_whole.ensures g es h same) in
    let all : AllEnd s w new = record { count = c.end_turns.ensures.count; ended = c.end_turns.ensures.ended } in
    (whole, subst (λ (r : ℕ). IsOver s r (with_workers w new)) same (is-over s g es w new h whole all), standing-left s g es w new h whole.0 all)
