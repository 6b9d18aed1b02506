use Rattle.std.proofs.Common.{◌∙◌, sym, eqb-true}
use Rattle.standing.specs.Going.{IsDone}
use Rattle.fronts.specs.Lines.{IsWhole}
use Rattle.run_replay.specs.Floors.{after_all}
use Rattle.run_replay.proofs.Facts.{the-fact, surely}
use Rattle.run_replay.proofs.Served.{served-empty}
use Rattle.run_replay.proofs.Watching.{whole-or-not}
use Rattle.run_replay.proofs.watcher.Watcher.is_whole.Goals as goal

pub returns-then-is_empty : goal.returns-then-is_empty
returns-then-is_empty c = λ g es h same.
    let s = c.args.script.now in
    let w = c.args.self.now in
    let done = the-fact c.is_done.result (IsDone s (after_all s g es)) c.if-not-is_done.false (c.is_done.ensures g es h same) in
    surely (IsWhole s g.round g.tick g.old es) (done, served-empty s g es w.floor w.shared h.making h.shared (eqb-true w.shared.waiting 0 (sym c.is_empty.ensures ∙ c.if-is_empty.true)))

pub returns : goal.returns
returns c = λ g es h same.
    let s = c.args.script.now in
    let w = c.args.self.now in
    let done = the-fact c.is_done.result (IsDone s (after_all s g es)) c.if-not-is_done.false (c.is_done.ensures g es h same) in
    whole-or-not s g es w c.may_draw.result h done (sym c.is_empty.ensures ∙ c.if-is_empty.false) c.may_draw.ensures
