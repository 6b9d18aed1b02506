use Rattle.std.proofs.Common.{◌<◌, ◌/◌, [], ◌∷◌, length, arith}
use Rattle.shared_queue.specs.Looking.{IsFirst}
use Rattle.shared_queue.proofs.Looks.{board_missed, tried_more, looked_all, looked_drawn, without_less}
use Rattle.shared_queue.proofs.drawing.try_seen.Goals as goal

pub returns-then-draw-clause-drawn : goal.returns-then-draw-clause-drawn
returns-then-draw-clause-drawn c = λ p looked.
    looked_drawn c.args.ranking.now (length c.args.words.now) c.tries.words c.in-Some.task p c.tries.pass c.draw.new.pass c.requires.sized (c.tries.invariant.looked p looked) c.in-Some.ensures (c.draw.ensures.drawn c.if-draw.true)

pub tries-smaller : goal.tries-smaller
tries-smaller c =
    let first : IsFirst c.args.ranking.now c.tries.words c.in-Some.task = c.in-Some.ensures in
    let exists = first.exists in
    let within : c.in-Some.task / 64 < length c.tries.words = omega arith in
    without_less c.tries.words c.in-Some.task within first.set

pub tries-preserved : goal.tries-preserved
tries-preserved c =
    let first : IsFirst c.args.ranking.now c.tries.words c.in-Some.task = c.in-Some.ensures in
    let exists = first.exists in
    let missed = c.draw.ensures.missed c.if-draw.false in
    record {
      board = board_missed c.args.board.now c.tries.pass c.draw.new.pass (c.in-Some.task ∷ []) c.tries.invariant.board missed;
      looked = λ p h.
          tried_more (length c.args.ranking.now) (length c.args.words.now) c.in-Some.task c.tries.words p c.tries.pass c.draw.new.pass (omega arith) first.exists (omega arith) (c.tries.invariant.looked p h) missed;
    }

pub returns-clause-drawn : goal.returns-clause-drawn
returns-clause-drawn c = λ p looked.
    looked_all c.args.ranking.now (length c.args.words.now) c.tries.words p c.tries.pass c.requires.sized (c.tries.invariant.looked p looked) c.in_default.ensures
