use Rattle.std.proofs.Common.{length, arith}
use Rattle.wake_board.specs.Seen.{clear_in}
use Rattle.shared_queue.proofs.Looks.{board_missed, looked_more}
use Rattle.shared_queue.proofs.drawing.look.Goals as goal

pub looks-preserved : goal.looks-preserved
looks-preserved c =
    let n = length c.args.board.now.start.state.tasks in
    let before = c.looks.invariant in
    record {
      board = board_missed c.args.board.now c.looks.pass c.peep.new.pass (clear_in n c.looks.group c.peep.result) before.board c.peep.ensures;
      looked = looked_more n c.looks.group c.peep.result c.looks.words c.args.pass.now c.looks.pass c.peep.new.pass (omega arith) before.looked c.peep.ensures;
    }
