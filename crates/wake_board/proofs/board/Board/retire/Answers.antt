use Rattle.std.proofs.Common.{◌≡◌, ◌≢◌, ◌<◌, ◌+◌, length, refl, sym, ◌∙◌, arith}
use Rattle.task_machine.specs.declared.calls.Call.TheVariants as calls
use Rattle.task_machine.specs.declared.calls.Reply.TheVariants as replies
use Rattle.task_machine.specs.Own.{away}
use Rattle.task_word.specs.Word.{seen_in}
use Rattle.wake_board.specs.Start.{start_of}
use Rattle.wake_board.specs.Seen.{own_view}
use Rattle.wake_board.specs.Outs.{NoBody}
use Rattle.wake_board.specs.Own.{held_by}
use Rattle.wake_board.specs.Ends.{own_by}
use Rattle.wake_board.proofs.Runs.{retires_on}
use Rattle.wake_board.proofs.Grown.{IsPass-told, Calls-told, own_view-held}
use Rattle.wake_board.proofs.board.Board.retire.Goals as goal

pub swap-word-requires : goal.swap-word-requires
swap-word-requires c =
    let key = c.self.inside.table.shared.key in
    let seat = c.pass.inside.seat in
    let within : c.args.id.0 < length (start_of key).state.tasks = rw (← c.self.view_is) at c.requires.exists in
    let same : seat.table_id ≡ c.self.inside.table.shared.table_id = rw (← c.self.view_is, ← c.pass.view_is) at c.requires.board.board in
    let sized = c.self.invariant in
    let some_own : own_by (held_by seat.table_id c.pass.inside.who.0 seat.me.0) c.args.id.0 ≢ away = rw (← c.pass.view_is) at c.requires.has in
    let some_place : own_view seat.me.0 c.args.id.0 ≢ away = λ e. some_own (sym (own_view-held seat.table_id c.pass.inside.who.0 seat.me c.args.id.0 c.pass.invariant) ∙ e) in
    let none_out : NoBody seat.me.0.outs c.args.id.0 = rw (← c.pass.view_is) at c.requires.body in (
      same,
      omega arith,
      retires_on key c.self.inside.table.shared.table_id.slots seat.id seat.me c.args.id.0 (c.args.id.0 + 1) 8 c.pass.invariant.log within some_place none_out refl refl,
    )

pub invariant_of-pass : goal.invariant_of-pass
invariant_of-pass c =
    IsPass-told c.pass.inside.who.0 c.pass.inside.seat.me c.swap-word.new.seat.me (calls.Retire c.args.id) (replies.Task (seen_in c.swap-word.result)) c.pass.invariant (c.swap-word.ensures.2 c.args.id.0 refl)

pub returns : goal.returns
returns c =
    rw (c.seen_of.ensures.value, ← c.pass.view_is) (Calls-told c.pass.inside.seat.table_id c.swap-word.new.seat.table_id c.pass.inside.who.0 c.pass.inside.seat.me c.swap-word.new.seat.me (calls.Retire c.args.id) (replies.Task (seen_in c.swap-word.result)) c.swap-word.ensures.0 c.pass.invariant (c.swap-word.ensures.2 c.args.id.0 refl))
