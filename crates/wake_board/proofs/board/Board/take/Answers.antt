use Rattle.std.proofs.Common.{◌≡◌, ◌<◌, ◌+◌, length, refl, ap, ◌∙◌, arith}
use Rattle.task_machine.specs.declared.calls.Call.TheVariants as calls
use Rattle.task_machine.specs.declared.calls.Reply.TheVariants as replies
use Rattle.task_word.specs.Word.{seen_in, taken_word}
use Rattle.wake_board.specs.Start.{start_of, start_in}
use Rattle.wake_board.proofs.Grown.{IsPass-told, Calls-told}
use Rattle.wake_board.proofs.Takings.{by_number, looks_on, may_take}
use Rattle.wake_board.proofs.board.Board.take.Goals as goal

pub load-before-requires : goal.load-before-requires
load-before-requires c =
    let key = c.self.inside.table.shared.key in
    let seat = c.pass.inside.seat in
    let sized = c.self.invariant in
    let within : c.args.id.0 < length (start_of key).state.tasks = rw (← c.self.view_is) at c.requires.exists in (
      rw (← c.self.view_is, ← c.pass.view_is) at c.requires.board.board,
      omega arith,
      looks_on key c.self.inside.table.shared.table_id.slots seat.id seat.me c.args.id.0 (c.args.id.0 + 1) c.pass.invariant.log within refl,
    )

pub after_take-taken-requires : goal.after_take-taken-requires
after_take-taken-requires c =
    let seat = c.pass.inside.seat in
    let may = by_number seat.table_id c.pass.inside.who.0 seat.me c.args.id.0 c.requires.may.0 c.pass.invariant (rw (← c.pass.view_is) at c.requires.may.1) in
    let known = c.load-before.ensures.2.takes seat.table_id c.args.id.0 c.requires.may.0 refl may in
    let room = c.requires.may.2 in
    let read = c.takes_of.ensures.value in
    omega arith

pub swap-word-requires : goal.swap-word-requires
swap-word-requires c =
    let key = c.self.inside.table.shared.key in
    let seat = c.pass.inside.seat in
    let within : c.args.id.0 < length (start_of key).state.tasks = rw (← c.self.view_is) at c.requires.exists in
    let same : seat.table_id ≡ c.self.inside.table.shared.table_id = rw (← c.self.view_is, ← c.pass.view_is) at c.requires.board.board in
    let start : start_in seat.me.0.start ≡ start_of key = rw (← c.self.view_is, ← c.pass.view_is) at c.requires.board.start in
    let sized = c.self.invariant in
    let may = by_number seat.table_id c.pass.inside.who.0 seat.me c.args.id.0 c.requires.may.0 c.pass.invariant (rw (← c.pass.view_is) at c.requires.may.1) in
    let looked = c.load-before.ensures.2 in
    let known = c.takes_of.ensures.value ∙ looked.takes seat.table_id c.args.id.0 c.requires.may.0 refl may in (
      c.load-before.ensures.0 ∙ same,
      omega arith,
      rw (c.load-before.ensures.1, looked.seat) (may_take key c.self.inside.table.shared.table_id.slots seat.id seat.table_id seat.me c.args.id.0 (c.args.id.0 + 1) c.requires.may.0 c.after_take-taken.result c.pass.invariant.log start within may c.requires.may.2 refl (c.after_take-taken.ensures.value ∙ ap taken_word known)),
    )

pub invariant_of-pass : goal.invariant_of-pass
invariant_of-pass c =
    let told = (c.swap-word.ensures.2 c.args.id.0 c.takes_of.result refl c.after_take-taken.ensures.value).0 in
    IsPass-told c.pass.inside.who.0 c.pass.inside.seat.me c.swap-word.new.seat.me (calls.Take c.args.id) (replies.Task (seen_in c.swap-word.result)) c.pass.invariant (rw (c.load-before.ensures.2.seat) at told)

pub returns-clause-calls : goal.returns-clause-calls
returns-clause-calls c =
    let told = (c.swap-word.ensures.2 c.args.id.0 c.takes_of.result refl c.after_take-taken.ensures.value).0 in
    rw (c.seen_of.ensures.value, ← c.pass.view_is) (Calls-told c.pass.inside.seat.table_id c.swap-word.new.seat.table_id c.pass.inside.who.0 c.pass.inside.seat.me c.swap-word.new.seat.me (calls.Take c.args.id) (replies.Task (seen_in c.swap-word.result)) (c.swap-word.ensures.0 ∙ c.load-before.ensures.0) c.pass.invariant (rw (c.load-before.ensures.2.seat) at told))

pub returns-clause-takes : goal.returns-clause-takes
returns-clause-takes c =
    λ t may'.
    let seat = c.pass.inside.seat in
    let may = by_number seat.table_id c.pass.inside.who.0 seat.me c.args.id.0 t c.pass.invariant (rw (← c.pass.view_is) at may') in
    let known = c.takes_of.ensures.value ∙ c.load-before.ensures.2.takes seat.table_id c.args.id.0 t refl may in
    rw (c.seen_of.ensures.value) ((c.swap-word.ensures.2 c.args.id.0 c.takes_of.result refl c.after_take-taken.ensures.value).1 ∙ known)
