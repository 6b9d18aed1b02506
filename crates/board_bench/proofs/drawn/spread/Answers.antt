use Rattle.std.proofs.Common.{◌≡◌, ◌+◌, ◌*◌, ◌≤◌, false, length, sym, ◌∙◌, arith}
use Rattle.task_machine.specs.Own.{away, holding}
use Rattle.board_bench.proofs.OneTask.{one_first, one_last, one_woken, one_posted, when_true, when_false, longer, same_who}
use Rattle.board_bench.proofs.drawn.spread.Goals as goal
use Rattle.board_bench.proofs.drawn.spread.Goals.{then-rests, else-rests}

pub post-requires-clause-held : goal.post-requires-clause-held
post-requires-clause-held c =
    let test = c.if-rests.true in
    let one = one_woken _ _ _ _ _ c.wake-woken.result false (one_first _ _ c.loop-i.i c.loop-i.invariant.clear) c.wake-woken.ensures in
    (when_true _ _ _ _ holding away (sym c.rests.ensures ∙ test) one).has

pub loop-i-preserved : goal.loop-i-preserved
loop-i-preserved c =
    let i = c.loop-i.invariant in
    let few = i.few in
    let one = one_woken _ _ _ _ _ c.wake-woken.result false (one_first _ _ c.loop-i.i i.clear) c.wake-woken.ensures in
    let woken = longer _ _ _ _ c.wake-woken.ensures in
    elim c.if-rests.branch [
      | then-rests w ↦
          let done = one_posted _ _ _ _ _ (when_true _ _ _ _ holding away (sym c.rests.ensures ∙ w.if-rests.true) one) w.post.ensures in
          let posted = longer _ _ _ _ w.post.ensures in
          rw w.pass-is (record { clear = one_last _ _ _ done; few = omega arith; who = same_who _ _ _ _ w.post.ensures ∙ (same_who _ _ _ _ c.wake-woken.ensures ∙ i.who) })
      | else-rests w ↦
          rw w.pass-is (record { clear = one_last _ _ _ (when_false _ _ _ _ holding away (sym c.rests.ensures ∙ w.if-rests.false) one); few = omega arith; who = same_who _ _ _ _ c.wake-woken.ensures ∙ i.who })
    ]
