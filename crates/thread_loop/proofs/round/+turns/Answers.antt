use Rattle.std.proofs.Common.{ℕ, ◌/◌, ◌<◌, List, take, drop, length, get_or, sym, subst, arith, false-eqb}
use Rattle.turn_steps.specs.Has.{caller}
use Rattle.wake_board.specs.Seen.{Held}
use Rattle.thread_loop.specs.Plants.{AllCanTurn, HasTurned}
use Rattle.thread_loop.specs.Workers.{number_of}
use Rattle.thread_loop.specs.declared.worker.Worker.{Worker}
use Rattle.thread_loop.proofs.Halves.{as-many, can-front, can-back, turned-halves, turned-one, book-any, turn-now, listed-now, own-now}
use Rattle.thread_loop.proofs.round.+turns.Goals as goal

pub turns-split_at_mut-left-requires : goal.turns-split_at_mut-left-requires
turns-split_at_mut-left-requires g t c = omega (arith, as-many c.args.script.now c.args.tick c.args.board.now c.args.workers.now c.args.passes.now c.requires.can)

pub turns-both-requires-clause-can_front : goal.turns-both-requires-clause-can_front
turns-both-requires-clause-can_front g t c κs within =
    let s = c.args.script.now in
    let b = c.args.board.now in
    let T = c.args.tick in
    let ws = c.args.workers.now in
    let ps = c.args.passes.now in
    let k : ℕ = length ws / 2 in
    subst (λ (xs : List Worker). AllCanTurn s T b xs c.split_at_mut-left.result.0.now) (sym c.split_at_mut-front.ensures.front)
    (subst (λ (ys : List Held). AllCanTurn s T b (take k ws) ys) (sym c.split_at_mut-left.ensures.front) (can-front s T b k ws ps c.requires.can))

pub turns-both-requires-clause-can_back : goal.turns-both-requires-clause-can_back
turns-both-requires-clause-can_back g t c κs within =
    let s = c.args.script.now in
    let b = c.args.board.now in
    let T = c.args.tick in
    let ws = c.args.workers.now in
    let ps = c.args.passes.now in
    let k : ℕ = length ws / 2 in
    subst (λ (xs : List Worker). AllCanTurn s T b xs c.split_at_mut-left.result.1.now) (sym c.split_at_mut-front.ensures.back)
    (subst (λ (ys : List Held). AllCanTurn s T b (drop k ws) ys) (sym c.split_at_mut-left.ensures.back) (can-back s T b k ws ps c.requires.can))

pub turns-returns-then-workers-gt1 : goal.turns-returns-then-workers-gt1
turns-returns-then-workers-gt1 g t c = record {
  turned = turned-halves c.args.script.now c.args.tick c.args.workers.now c.args.passes.now c.split_at_mut-front.result.0.now c.split_at_mut-left.result.0.now c.split_at_mut-front.result.1.now c.split_at_mut-left.result.1.now c.both.new.front c.both.new.left c.both.new.back c.both.new.right c.split_at_mut-front.ensures.value c.split_at_mut-left.ensures.value c.both.ensures.front c.both.ensures.back;
}

pub turns-returns-then-not-is_empty : goal.turns-returns-then-not-is_empty
turns-returns-then-not-is_empty g t c =
    let s = c.args.script.now in
    let b = c.args.board.now in
    let T = c.args.tick in
    let ws = c.args.workers.now in
    let ps = c.args.passes.now in
    let d = c.index-workers-0-then-not-is_empty.result in
    let e = c.index-passes-0.result in
    let w : Worker = get_or ws 0 d in
    let p : Held = get_or ps 0 e in
    let v = c.turn.new.self in
    let q = c.turn.new.pass in
    let some : 0 < length ws = omega (arith, false-eqb (length ws) 0 c.if-not-is_empty.ensures) in
    let book = book-any T ws c.index-workers-0.result d some c.keep_book.ensures in
    let said = c.turn.ensures in
    let turned : HasTurned s T w p v q = record {
      fits = said.fits;
      over = said.over;
      number = said.number;
      tick = said.tick;
      turns = said.turns;
      turn = turn-now s (caller (number_of w)) T w v _ book said.tick said.turn;
      grown = said.grown;
      served = said.served;
      listed = listed-now T v q said.tick said.listed;
      takes = said.takes;
      own = own-now s T v said.tick said.own;
    } in
    record { turned = turned-one s T b ws ps d e v q c.requires.can (omega arith) turned }
