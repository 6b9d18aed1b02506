use Rattle.std.proofs.Common.{◌∙◌, ◌+◌, sym}
use Rattle.run_model.specs.Standing.{is_still, no_later, no_timer}
use Rattle.run_replay.specs.Watching.{standing_of}
use Rattle.run_replay.proofs.Resting.{over_late, over_timed, over_still}
use Rattle.run_replay.proofs.Watching.{rest-later, fits-over}
use Rattle.run_replay.proofs.watcher.Watcher.is_at_rest.Goals as goal

pub is_last-requires : goal.is_last-requires
is_last-requires c = (c.args.round + 1, c.requires.injection)

pub returns-then-not-is_last : goal.returns-then-not-is_last
returns-then-not-is_last c =
    let s = c.args.script.now in
    let st = standing_of c.args.self.now in
    over_late (is_still st) (no_timer st) (no_later s c.args.round) (sym (rest-later s c.args.round c.args.self.now c.requires) ∙ sym c.is_last.ensures ∙ c.if-not-is_last.true)

pub has_no_timer-requires : goal.has_no_timer-requires
has_no_timer-requires c = fits-over c.args.script.now c.args.round c.args.self.now c.requires

pub returns-then-not-has_no_timer : goal.returns-then-not-has_no_timer
returns-then-not-has_no_timer c =
    let s = c.args.script.now in
    let st = standing_of c.args.self.now in
    over_timed (is_still st) (no_later s c.args.round) (no_timer st) (sym c.has_no_timer.ensures ∙ c.if-not-has_no_timer.true)

pub returns : goal.returns
returns c =
    let s = c.args.script.now in
    let st = standing_of c.args.self.now in
    c.is_still.ensures ∙ over_still (is_still st) (no_later s c.args.round) (no_timer st) (sym (rest-later s c.args.round c.args.self.now c.requires) ∙ sym c.is_last.ensures ∙ c.if-not-is_last.false) (sym c.has_no_timer.ensures ∙ c.if-not-has_no_timer.false)
