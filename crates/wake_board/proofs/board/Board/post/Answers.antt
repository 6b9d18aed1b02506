use Rattle.std.proofs.Common.{◌≡◌, ◌<◌, ◌≤◌, ◌/◌, ℕ, length, refl, sym, ap, subst, ◌∙◌, arith}
use Rattle.task_machine.specs.declared.calls.Call.TheVariants as calls
use Rattle.task_machine.specs.declared.calls.Reply.TheVariants as replies
use Rattle.task_machine.specs.Own.{holding}
use Rattle.wake_board.specs.Rows.{box_at}
use Rattle.wake_board.specs.Start.{Start, start_of, start_in, home_of}
use Rattle.wake_board.specs.Seen.{own_view, count_in}
use Rattle.wake_board.proofs.Boxes.{posts_on}
use Rattle.wake_board.proofs.Grown.{IsPass-told, Calls-told, own_view-held}
use Rattle.wake_board.proofs.board.Board.post.Goals as goal

pub fetch_or-requires : goal.fetch_or-requires
fetch_or-requires c =
    let key = c.self.inside.table.shared.key in
    let seat = c.pass.inside.seat in
    let within : c.args.id.0 < length (start_of key).state.tasks = rw (← c.self.view_is) at c.requires.exists in
    let box_exists : c.args.boxno ≤ (start_of key).state.workers = rw (← c.self.view_is) at c.requires.box_exists in
    let home : home_of (start_of key) c.args.id.0 ≡ c.args.boxno = rw (← c.self.view_is) at c.requires.home in
    let same : seat.table_id ≡ c.self.inside.table.shared.table_id = rw (← c.self.view_is, ← c.pass.view_is) at c.requires.board.board in
    let sized = c.self.invariant in
    let has = own_view-held seat.table_id c.pass.inside.who.0 seat.me c.args.id.0 c.pass.invariant in
    let held : own_view seat.me.0 c.args.id.0 ≡ holding = has ∙ (rw (← c.pass.view_is) at c.requires.held) in (
      same,
      subst (λ (w : ℕ). c.box_place-at.result < w) (sym sized.words) c.box_place-at.ensures.within,
      posts_on key c.self.inside.table.shared.table_id.slots seat.id seat.me c.args.id.0 c.args.boxno c.box_place-at.result _ c.pass.invariant.log within box_exists held home (c.box_place-at.ensures.place ∙ ap (λ (n : ℕ). box_at n c.args.boxno (c.args.id.0 / 64)) (sym sized.tasks)) refl,
    )

pub invariant_of-pass : goal.invariant_of-pass
invariant_of-pass c =
    let key = c.self.inside.table.shared.key in
    let seat = c.pass.inside.seat in
    let within : c.args.id.0 < length (start_of key).state.tasks = rw (← c.self.view_is) at c.requires.exists in
    let box_exists : c.args.boxno ≤ (start_of key).state.workers = rw (← c.self.view_is) at c.requires.box_exists in
    let start : start_in seat.me.0.start ≡ start_of key = rw (← c.self.view_is, ← c.pass.view_is) at c.requires.board.start in
    let sized = c.self.invariant in
    let count : count_in seat.me.0 ≡ c.self.inside.words.tasks = ap (λ (o : Start). length o.state.tasks) start ∙ sized.tasks in
    let workers = ap (λ (o : Start). o.state.workers) start in
    let told = c.fetch_or.ensures.2 c.args.id.0 c.args.boxno (omega arith) (omega arith) (c.box_place-at.ensures.place ∙ ap (λ (n : ℕ). box_at n c.args.boxno (c.args.id.0 / 64)) (sym count)) refl in
    IsPass-told c.pass.inside.who.0 seat.me c.fetch_or.new.seat.me (calls.Post c.args.id c.args.boxno) replies.Done c.pass.invariant told

pub returns : goal.returns
returns c =
    let key = c.self.inside.table.shared.key in
    let seat = c.pass.inside.seat in
    let within : c.args.id.0 < length (start_of key).state.tasks = rw (← c.self.view_is) at c.requires.exists in
    let box_exists : c.args.boxno ≤ (start_of key).state.workers = rw (← c.self.view_is) at c.requires.box_exists in
    let start : start_in seat.me.0.start ≡ start_of key = rw (← c.self.view_is, ← c.pass.view_is) at c.requires.board.start in
    let sized = c.self.invariant in
    let count : count_in seat.me.0 ≡ c.self.inside.words.tasks = ap (λ (o : Start). length o.state.tasks) start ∙ sized.tasks in
    let workers = ap (λ (o : Start). o.state.workers) start in
    let told = c.fetch_or.ensures.2 c.args.id.0 c.args.boxno (omega arith) (omega arith) (c.box_place-at.ensures.place ∙ ap (λ (n : ℕ). box_at n c.args.boxno (c.args.id.0 / 64)) (sym count)) refl in
    rw (← c.pass.view_is) (Calls-told seat.table_id c.fetch_or.new.seat.table_id c.pass.inside.who.0 seat.me c.fetch_or.new.seat.me (calls.Post c.args.id c.args.boxno) replies.Done c.fetch_or.ensures.0 c.pass.invariant told)
