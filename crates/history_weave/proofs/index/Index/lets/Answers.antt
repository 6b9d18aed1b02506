use Rattle.std.proofs.Common.{sym, ◌∙◌, below_more}
use Rattle.history_weave.specs.Rule.{Lets}
use Rattle.history_weave.specs.Places.{left_of}
use Rattle.history_weave.proofs.Lookups.{lets-marked}
use Rattle.history_weave.proofs.index.Index.lets.Goals as goal
use Rattle.history_weave.proofs.index.Index.lets.Goals.{else-at-mark-via-then-at-mark+else-not-lets_next, else-at-mark-via-else-at-mark}

pub loop-k-preserved : goal.loop-k-preserved
loop-k-preserved c =
    let x = c.args.self.now in
    let k = c.loop-k.k in
    let here : Lets c.args.task c.args.seen.now (left_of c.args.logs.now x.next.items k) =
    elim c.else-at-mark.branch [
      | else-at-mark-via-then-at-mark+else-not-lets_next w ↦ w.lets_next.ensures.0 w.if-not-lets_next.false
      | else-at-mark-via-else-at-mark w ↦
          lets-marked c.args.logs.now x c.args.task k c.args.seen.now c.requires.indexed c.requires.task c.loop-k-test.true (λ e. w.if-at-mark.false (c.at.ensures ∙ e ∙ sym c.seen_mark-mark.ensures))
    ] in
    below_more _ _ c.loop-k.invariant here
