use Rattle.std.proofs.Common.{◌≡◌, ◌<◌, ◌*◌, ℕ, length, sym, ap, subst, ◌∙◌, arith}
use Rattle.wake_board.specs.Rows.{box_at}
use Rattle.wake_board.specs.Start.{Start, start_of, start_in}
use Rattle.wake_board.specs.Seen.{Misses, count_in, shared_at, clear_in}
use Rattle.wake_board.specs.Own.{held_by}
use Rattle.wake_board.proofs.Draws.{peeps_on}
use Rattle.wake_board.proofs.Grown.{IsPass-missed, Misses-told}
use Rattle.wake_board.proofs.board.Board.peep.Goals as goal

pub load-requires : goal.load-requires
load-requires c =
    let key = c.self.inside.table.shared.key in
    let seat = c.pass.inside.seat in
    let within : 64 * c.args.group < length (start_of key).state.tasks = rw (← c.self.view_is) at c.requires.exists in
    let same : seat.table_id ≡ c.self.inside.table.shared.table_id = rw (← c.self.view_is, ← c.pass.view_is) at c.requires.board.board in
    let sized = c.self.invariant in
    let workers : c.workers.result ≡ (start_of key).state.workers = c.workers.ensures ∙ sym sized.workers in
    let place : c.box_place-at.result ≡ box_at (length (start_of key).state.tasks) (start_of key).state.workers c.args.group = c.box_place-at.ensures.place ∙ (ap (λ (n : ℕ). box_at n c.workers.result c.args.group) (sym sized.tasks) ∙ ap (λ (w : ℕ). box_at (length (start_of key).state.tasks) w c.args.group) workers) in (
      same,
      subst (λ (w : ℕ). c.box_place-at.result < w) (sym sized.words) c.box_place-at.ensures.within,
      peeps_on key c.self.inside.table.shared.table_id.slots seat.id seat.me c.args.group c.box_place-at.result c.pass.invariant.log within place,
    )

pub invariant_of-pass : goal.invariant_of-pass
invariant_of-pass c =
    let key = c.self.inside.table.shared.key in
    let seat = c.pass.inside.seat in
    let within : 64 * c.args.group < length (start_of key).state.tasks = rw (← c.self.view_is) at c.requires.exists in
    let start : start_in seat.me.0.start ≡ start_of key = rw (← c.self.view_is, ← c.pass.view_is) at c.requires.board.start in
    let sized = c.self.invariant in
    let count : count_in seat.me.0 ≡ c.self.inside.words.tasks = ap (λ (o : Start). length o.state.tasks) start ∙ sized.tasks in
    let workers : c.workers.result ≡ (start_in seat.me.0.start).state.workers = c.workers.ensures ∙ (sym sized.workers ∙ ap (λ (o : Start). o.state.workers) (sym start)) in
    let place : c.box_place-at.result ≡ shared_at seat.me.0 c.args.group = c.box_place-at.ensures.place ∙ (ap (λ (n : ℕ). box_at n c.workers.result c.args.group) (sym count) ∙ ap (λ (w : ℕ). box_at (count_in seat.me.0) w c.args.group) workers) in
    let told = c.load.ensures.2 c.args.group (omega arith) place in
    IsPass-missed c.pass.inside.who.0 seat.me c.load.new.seat.me (clear_in (count_in seat.me.0) c.args.group c.load.result) c.pass.invariant told

pub returns : goal.returns
returns c =
    let key = c.self.inside.table.shared.key in
    let seat = c.pass.inside.seat in
    let within : 64 * c.args.group < length (start_of key).state.tasks = rw (← c.self.view_is) at c.requires.exists in
    let start : start_in seat.me.0.start ≡ start_of key = rw (← c.self.view_is, ← c.pass.view_is) at c.requires.board.start in
    let sized = c.self.invariant in
    let count : count_in seat.me.0 ≡ c.self.inside.words.tasks = ap (λ (o : Start). length o.state.tasks) start ∙ sized.tasks in
    let workers : c.workers.result ≡ (start_in seat.me.0.start).state.workers = c.workers.ensures ∙ (sym sized.workers ∙ ap (λ (o : Start). o.state.workers) (sym start)) in
    let place : c.box_place-at.result ≡ shared_at seat.me.0 c.args.group = c.box_place-at.ensures.place ∙ (ap (λ (n : ℕ). box_at n c.workers.result c.args.group) (sym count) ∙ ap (λ (w : ℕ). box_at (count_in seat.me.0) w c.args.group) workers) in
    let told = c.load.ensures.2 c.args.group (omega arith) place in
    let made = Misses-told seat.table_id c.load.new.seat.table_id c.pass.inside.who.0 seat.me c.load.new.seat.me (clear_in (count_in seat.me.0) c.args.group c.load.result) c.load.ensures.0 c.pass.invariant told in
    let by_board = subst (λ (n : ℕ). Misses (held_by seat.table_id c.pass.inside.who.0 seat.me.0) (clear_in n c.args.group c.load.result) (held_by c.load.new.seat.table_id c.pass.inside.who.0 c.load.new.seat.me.0)) (ap (λ (o : Start). length o.state.tasks) start) made in
    rw (← c.pass.view_is, ← c.self.view_is) by_board
