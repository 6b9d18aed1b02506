use Rattle.std.proofs.Common.{arith}
use Rattle.thread_loop.specs.declared.plant.RoundInHand.{RoundInHand}
use Rattle.thread_loop.proofs.PlantBegun.{can-open-by, opened-by}
use Rattle.thread_loop.proofs.plant.Plant.begin_round.Goals as goal

pub from_words-requires : goal.from_words-requires
from_words-requires c = can-open-by c.args.script.now c.args.round c.reserve.new.self c.in_ok-words.words c.deref.result.now c.deref-2.result.now c.in_ok-words.ensures c.deref.ensures.value c.deref-2.ensures.value c.reserve.ensures.ready c.requires.more

pub returns-clause-can_run : goal.returns-clause-can_run
returns-clause-can_run c =
    let h : RoundInHand = record { board = c.in_ok-board.board; passes = c.in_ok-board.passes; out = c.in_ok-out.out } in
    opened-by c.args.script.now c.args.round c.reserve.new.self h c.in_ok-words.words c.deref.result.now c.deref-2.result.now c.in_ok-words.ensures c.deref.ensures.value c.deref-2.ensures.value c.reserve.ensures.ready c.requires.more c.in_ok-reserve.ensures.roomy c.in_ok-board.ensures c.in_ok-out.ensures.items (let room = c.in_ok-out.ensures.capacity in let size = c.len.ensures in omega arith)
