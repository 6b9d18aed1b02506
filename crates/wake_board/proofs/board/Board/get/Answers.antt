use Rattle.std.proofs.Common.{◌≡◌, ◌<◌, ◌+◌, ◌*◌, ℕ, length, sym, ap, subst, ◌∙◌, arith}
use Rattle.task_machine.specs.declared.calls.Call.TheVariants as calls
use Rattle.task_machine.specs.declared.calls.Reply.TheVariants as replies
use Rattle.wake_board.specs.Rows.{box_at}
use Rattle.wake_board.specs.Start.{Start, start_of, start_in, home_of}
use Rattle.wake_board.specs.Seen.{count_in}
use Rattle.wake_board.proofs.Boxes.{gets_on}
use Rattle.wake_board.proofs.Grown.{IsPass-told, Calls-told, own_view-held}
use Rattle.wake_board.proofs.board.Board.get.Goals as goal

pub swap-requires : goal.swap-requires
swap-requires c =
    let key = c.self.inside.table.shared.key in
    let seat = c.pass.inside.seat in
    let within : 64 * c.args.group < length (start_of key).state.tasks = rw (← c.self.view_is) at c.requires.exists in
    let worker : c.pass.inside.who.0 < (start_of key).state.workers = rw (← c.self.view_is, ← c.pass.view_is) at c.requires.worker in
    let start : start_in seat.me.0.start ≡ start_of key = rw (← c.self.view_is, ← c.pass.view_is) at c.requires.board.start in
    let number : seat.me.0.first ≡ c.pass.inside.who.0 = c.pass.invariant.number in
    let sized = c.self.invariant in
    let count : count_in seat.me.0 ≡ c.self.inside.words.tasks = ap (λ (o : Start). length o.state.tasks) start ∙ sized.tasks in
    let same : seat.table_id ≡ c.self.inside.table.shared.table_id = rw (← c.self.view_is, ← c.pass.view_is) at c.requires.board.board in (
      same,
      subst (λ (w : ℕ). c.box_place-at.result < w) (sym sized.words) c.box_place-at.ensures.within,
      gets_on key c.self.inside.table.shared.table_id.slots seat.id seat.me c.args.group c.box_place-at.result c.pass.invariant.log within (omega arith) (c.box_place-at.ensures.place ∙ (ap (λ (n : ℕ). box_at n c.pass.inside.who.0 c.args.group) (sym sized.tasks) ∙ ap (λ (k : ℕ). box_at (length (start_of key).state.tasks) k c.args.group) (sym number))),
    )

pub invariant_of-pass : goal.invariant_of-pass
invariant_of-pass c =
    let key = c.self.inside.table.shared.key in
    let seat = c.pass.inside.seat in
    let within : 64 * c.args.group < length (start_of key).state.tasks = rw (← c.self.view_is) at c.requires.exists in
    let worker : c.pass.inside.who.0 < (start_of key).state.workers = rw (← c.self.view_is, ← c.pass.view_is) at c.requires.worker in
    let start : start_in seat.me.0.start ≡ start_of key = rw (← c.self.view_is, ← c.pass.view_is) at c.requires.board.start in
    let number : seat.me.0.first ≡ c.pass.inside.who.0 = c.pass.invariant.number in
    let sized = c.self.invariant in
    let count : count_in seat.me.0 ≡ c.self.inside.words.tasks = ap (λ (o : Start). length o.state.tasks) start ∙ sized.tasks in
    let told = c.swap.ensures.2 c.args.group (omega arith) (c.box_place-at.ensures.place ∙ (ap (λ (n : ℕ). box_at n c.pass.inside.who.0 c.args.group) (sym count) ∙ ap (λ (k : ℕ). box_at (count_in seat.me.0) k c.args.group) (sym number))) in
    IsPass-told c.pass.inside.who.0 seat.me c.swap.new.seat.me (calls.Get c.args.group) (replies.Group c.swap.result) c.pass.invariant told.0

pub returns-clause-calls : goal.returns-clause-calls
returns-clause-calls c =
    let key = c.self.inside.table.shared.key in
    let seat = c.pass.inside.seat in
    let within : 64 * c.args.group < length (start_of key).state.tasks = rw (← c.self.view_is) at c.requires.exists in
    let worker : c.pass.inside.who.0 < (start_of key).state.workers = rw (← c.self.view_is, ← c.pass.view_is) at c.requires.worker in
    let start : start_in seat.me.0.start ≡ start_of key = rw (← c.self.view_is, ← c.pass.view_is) at c.requires.board.start in
    let number : seat.me.0.first ≡ c.pass.inside.who.0 = c.pass.invariant.number in
    let sized = c.self.invariant in
    let count : count_in seat.me.0 ≡ c.self.inside.words.tasks = ap (λ (o : Start). length o.state.tasks) start ∙ sized.tasks in
    let told = c.swap.ensures.2 c.args.group (omega arith) (c.box_place-at.ensures.place ∙ (ap (λ (n : ℕ). box_at n c.pass.inside.who.0 c.args.group) (sym count) ∙ ap (λ (k : ℕ). box_at (count_in seat.me.0) k c.args.group) (sym number))) in
    rw (← c.pass.view_is) (Calls-told seat.table_id c.swap.new.seat.table_id c.pass.inside.who.0 seat.me c.swap.new.seat.me (calls.Get c.args.group) (replies.Group c.swap.result) c.swap.ensures.0 c.pass.invariant told.0)

pub returns-clause-homes : goal.returns-clause-homes
returns-clause-homes c =
    let key = c.self.inside.table.shared.key in
    let seat = c.pass.inside.seat in
    let within : 64 * c.args.group < length (start_of key).state.tasks = rw (← c.self.view_is) at c.requires.exists in
    let worker : c.pass.inside.who.0 < (start_of key).state.workers = rw (← c.self.view_is, ← c.pass.view_is) at c.requires.worker in
    let start : start_in seat.me.0.start ≡ start_of key = rw (← c.self.view_is, ← c.pass.view_is) at c.requires.board.start in
    let number : seat.me.0.first ≡ c.pass.inside.who.0 = c.pass.invariant.number in
    let sized = c.self.invariant in
    let count : count_in seat.me.0 ≡ c.self.inside.words.tasks = ap (λ (o : Start). length o.state.tasks) start ∙ sized.tasks in
    let told = c.swap.ensures.2 c.args.group (omega arith) (c.box_place-at.ensures.place ∙ (ap (λ (n : ℕ). box_at n c.pass.inside.who.0 c.args.group) (sym count) ∙ ap (λ (k : ℕ). box_at (count_in seat.me.0) k c.args.group) (sym number))) in
    λ j l set'. rw (← c.self.view_is, ← c.pass.view_is) (ap (λ (o : Start). home_of o (64 * c.args.group + j)) (sym start) ∙ ((told.1 j l set').0 ∙ number))

pub returns-clause-fresh : goal.returns-clause-fresh
returns-clause-fresh c =
    let key = c.self.inside.table.shared.key in
    let seat = c.pass.inside.seat in
    let within : 64 * c.args.group < length (start_of key).state.tasks = rw (← c.self.view_is) at c.requires.exists in
    let worker : c.pass.inside.who.0 < (start_of key).state.workers = rw (← c.self.view_is, ← c.pass.view_is) at c.requires.worker in
    let start : start_in seat.me.0.start ≡ start_of key = rw (← c.self.view_is, ← c.pass.view_is) at c.requires.board.start in
    let number : seat.me.0.first ≡ c.pass.inside.who.0 = c.pass.invariant.number in
    let sized = c.self.invariant in
    let count : count_in seat.me.0 ≡ c.self.inside.words.tasks = ap (λ (o : Start). length o.state.tasks) start ∙ sized.tasks in
    let told = c.swap.ensures.2 c.args.group (omega arith) (c.box_place-at.ensures.place ∙ (ap (λ (n : ℕ). box_at n c.pass.inside.who.0 c.args.group) (sym count) ∙ ap (λ (k : ℕ). box_at (count_in seat.me.0) k c.args.group) (sym number))) in
    λ j l set'. rw (← c.pass.view_is) (sym (own_view-held seat.table_id c.pass.inside.who.0 seat.me (64 * c.args.group + j) c.pass.invariant) ∙ (told.1 j l set').1)
