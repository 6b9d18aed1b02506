use Rattle.std.proofs.Common.{ℕ, sym, subst}
use mathlib.Core.Option.{none}
use Rattle.atomic_table.specs.Table as table
use Rattle.wake_board.specs.Rule.{IsKept}
use Rattle.wake_board.specs.Seen.{TellsOut}
use Rattle.wake_board.proofs.BodySteps.{goes_out}
use Rattle.wake_board.proofs.slots.slot_out.Goals as goal

pub load-requires : goal.load-requires
load-requires g c =
    let o = c.args.shared.now.key in
    let seat = c.args.seat.now in
    let slots = c.args.shared.now.table_id.slots in (
      c.requires.same,
      c.requires.words,
      subst (λ (i : ℕ). table.Allows (IsKept o) slots seat.id seat.me 0 (λ n. n) (TellsOut i (table.step slots 0 0 0 none) seat.me)) (sym c.requires.named) (goes_out o slots seat.id seat.me c.args.task c.requires.log c.requires.exists c.requires.drawn c.requires.home),
    )
