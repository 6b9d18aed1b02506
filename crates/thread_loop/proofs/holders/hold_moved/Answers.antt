use Rattle.std.proofs.Common.{◌≡◌, Bool, if◌then◌else◌, sym, ap, ◌∙◌}
use Rattle.wake_board.specs.Start.{no_holder}
use Rattle.thread_loop.proofs.Hands.{holds-moved}
use Rattle.thread_loop.proofs.holders.hold_moved.Goals.{then-moved, else-moved}
use Rattle.thread_loop.proofs.holders.hold_moved.Goals as goal

pub returns-after-moved : goal.returns-after-moved
returns-after-moved c =
    let m = c.in-Some.moved in
    let k = c.args.who in
    let is : c.if-moved.holder ≡ (if m.held then k else no_holder) = elim c.if-moved.branch [
      | then-moved w ↦ w.holder-is ∙ sym (ap (λ (b : Bool). if b then k else no_holder) w.if-moved.true)
      | else-moved w ↦ w.holder-is ∙ sym (ap (λ (b : Bool). if b then k else no_holder) w.if-moved.false)
    ] in
    holds-moved k m.task c.if-moved.holder m.held c.args.entry.now c.args.homes.now c.args.holders.now c.give.new.holders c.in-Some.ensures.some is c.give.ensures
