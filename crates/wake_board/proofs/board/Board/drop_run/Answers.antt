use Rattle.std.proofs.Common.{◌≡◌, ◌<◌, ◌+◌, length, refl, ◌∙◌, arith}
use Rattle.task_machine.specs.declared.calls.Call.TheVariants as calls
use Rattle.task_machine.specs.declared.calls.Reply.TheVariants as replies
use Rattle.task_machine.specs.Own.{running}
use Rattle.task_word.specs.Word.{seen_in}
use Rattle.wake_board.specs.Start.{start_of}
use Rattle.wake_board.specs.Seen.{own_view}
use Rattle.wake_board.specs.Outs.{NoBody}
use Rattle.wake_board.proofs.Runs.{drops_on}
use Rattle.wake_board.proofs.Grown.{IsPass-told, Calls-told, own_view-held}
use Rattle.wake_board.proofs.board.Board.drop_run.Goals as goal

pub fetch_and-word-requires : goal.fetch_and-word-requires
fetch_and-word-requires c =
    let key = c.self.inside.table.shared.key in
    let seat = c.pass.inside.seat in
    let within : c.args.id.0 < length (start_of key).state.tasks = rw (← c.self.view_is) at c.requires.exists in
    let same : seat.table_id ≡ c.self.inside.table.shared.table_id = rw (← c.self.view_is, ← c.pass.view_is) at c.requires.board.board in
    let sized = c.self.invariant in
    let has = own_view-held seat.table_id c.pass.inside.who.0 seat.me c.args.id.0 c.pass.invariant in
    let runs : own_view seat.me.0 c.args.id.0 ≡ running = has ∙ (rw (← c.pass.view_is) at c.requires.runs) in
    let none_out : NoBody seat.me.0.outs c.args.id.0 = rw (← c.pass.view_is) at c.requires.body in (
      same,
      omega arith,
      drops_on key c.self.inside.table.shared.table_id.slots seat.id seat.me c.args.id.0 (c.args.id.0 + 1) 18446744073709551614 c.pass.invariant.log within runs none_out refl refl,
    )

pub invariant_of-pass : goal.invariant_of-pass
invariant_of-pass c =
    IsPass-told c.pass.inside.who.0 c.pass.inside.seat.me c.fetch_and-word.new.seat.me (calls.DropRun c.args.id) (replies.Task (seen_in c.fetch_and-word.result)) c.pass.invariant (c.fetch_and-word.ensures.2 c.args.id.0 refl)

pub returns : goal.returns
returns c =
    rw (c.seen_of.ensures.value, ← c.pass.view_is) (Calls-told c.pass.inside.seat.table_id c.fetch_and-word.new.seat.table_id c.pass.inside.who.0 c.pass.inside.seat.me c.fetch_and-word.new.seat.me (calls.DropRun c.args.id) (replies.Task (seen_in c.fetch_and-word.result)) c.fetch_and-word.ensures.0 c.pass.invariant (c.fetch_and-word.ensures.2 c.args.id.0 refl))
