use Rattle.std.proofs.Common.{◌≡◌, ◌≢◌, ◌<◌, ◌/◌, ◌%◌, [], ◌∷◌, ℕ, length, refl, sym, ap, subst, ◌∙◌, inl, inr, arith, eq-eqb, eqb-true}
use Rattle.std.proofs.lemmas.Bool.{cases_eq}
use Rattle.std.proofs.lemmas.Nat.Bits.{shr_and_one, bit_at-lt}
use Rattle.std.specs.Int.{bit_at}
use Rattle.task_machine.specs.declared.calls.Call.TheVariants as calls
use Rattle.task_machine.specs.declared.calls.Reply.TheVariants as replies
use Rattle.wake_board.specs.Rows.{box_at}
use Rattle.wake_board.specs.Start.{Start, start_of, start_in}
use Rattle.wake_board.specs.Seen.{count_in, shared_at}
use Rattle.wake_board.proofs.Draws.{draws_on}
use Rattle.wake_board.proofs.Grown.{IsPass-told, IsPass-missed, Calls-told, Misses-told}
use Rattle.wake_board.proofs.board.Board.draw.Goals as goal

pub fetch_and-word-requires : goal.fetch_and-word-requires
fetch_and-word-requires c =
    let key = c.self.inside.table.shared.key in
    let seat = c.pass.inside.seat in
    let within : c.args.id.0 < length (start_of key).state.tasks = rw (← c.self.view_is) at c.requires.exists in
    let same : seat.table_id ≡ c.self.inside.table.shared.table_id = rw (← c.self.view_is, ← c.pass.view_is) at c.requires.board.board in
    let sized = c.self.invariant in
    let workers : c.workers.result ≡ (start_of key).state.workers = c.workers.ensures ∙ sym sized.workers in
    let place : c.box_place-at.result ≡ box_at (length (start_of key).state.tasks) (start_of key).state.workers (c.args.id.0 / 64) = c.box_place-at.ensures.place ∙ (ap (λ (n : ℕ). box_at n c.workers.result (c.args.id.0 / 64)) (sym sized.tasks) ∙ ap (λ (w : ℕ). box_at (length (start_of key).state.tasks) w (c.args.id.0 / 64)) workers) in (
      same,
      subst (λ (w : ℕ). c.box_place-at.result < w) (sym sized.words) c.box_place-at.ensures.within,
      draws_on key c.self.inside.table.shared.table_id.slots seat.id seat.me c.args.id.0 c.box_place-at.result _ c.pass.invariant.log within place refl,
    )

pub invariant_of-pass : goal.invariant_of-pass
invariant_of-pass c =
    let key = c.self.inside.table.shared.key in
    let seat = c.pass.inside.seat in
    let within : c.args.id.0 < length (start_of key).state.tasks = rw (← c.self.view_is) at c.requires.exists in
    let start : start_in seat.me.0.start ≡ start_of key = rw (← c.self.view_is, ← c.pass.view_is) at c.requires.board.start in
    let sized = c.self.invariant in
    let count : count_in seat.me.0 ≡ c.self.inside.words.tasks = ap (λ (o : Start). length o.state.tasks) start ∙ sized.tasks in
    let workers : c.workers.result ≡ (start_in seat.me.0.start).state.workers = c.workers.ensures ∙ (sym sized.workers ∙ ap (λ (o : Start). o.state.workers) (sym start)) in
    let place : c.box_place-at.result ≡ shared_at seat.me.0 (c.args.id.0 / 64) = c.box_place-at.ensures.place ∙ (ap (λ (n : ℕ). box_at n c.workers.result (c.args.id.0 / 64)) (sym count) ∙ ap (λ (w : ℕ). box_at (count_in seat.me.0) w (c.args.id.0 / 64)) workers) in
    let told = c.fetch_and-word.ensures.2 c.args.id.0 (omega arith) place refl in
    elim (cases_eq (bit_at c.fetch_and-word.result (c.args.id.0 % 64)) 1) [
      | inl one ↦ IsPass-told c.pass.inside.who.0 seat.me c.fetch_and-word.new.seat.me (calls.Draw c.args.id) replies.Done c.pass.invariant (told.0 one)
      | inr ne ↦ IsPass-missed c.pass.inside.who.0 seat.me c.fetch_and-word.new.seat.me (c.args.id.0 ∷ []) c.pass.invariant (told.1 (omega (arith, bit_at-lt c.fetch_and-word.result (c.args.id.0 % 64))))
    ]

pub returns-clause-drawn : goal.returns-clause-drawn
returns-clause-drawn c =
    let key = c.self.inside.table.shared.key in
    let seat = c.pass.inside.seat in
    let within : c.args.id.0 < length (start_of key).state.tasks = rw (← c.self.view_is) at c.requires.exists in
    let start : start_in seat.me.0.start ≡ start_of key = rw (← c.self.view_is, ← c.pass.view_is) at c.requires.board.start in
    let sized = c.self.invariant in
    let count : count_in seat.me.0 ≡ c.self.inside.words.tasks = ap (λ (o : Start). length o.state.tasks) start ∙ sized.tasks in
    let workers : c.workers.result ≡ (start_in seat.me.0.start).state.workers = c.workers.ensures ∙ (sym sized.workers ∙ ap (λ (o : Start). o.state.workers) (sym start)) in
    let place : c.box_place-at.result ≡ shared_at seat.me.0 (c.args.id.0 / 64) = c.box_place-at.ensures.place ∙ (ap (λ (n : ℕ). box_at n c.workers.result (c.args.id.0 / 64)) (sym count) ∙ ap (λ (w : ℕ). box_at (count_in seat.me.0) w (c.args.id.0 / 64)) workers) in
    let told = c.fetch_and-word.ensures.2 c.args.id.0 (omega arith) place refl in
    λ yes'.
    let one : bit_at c.fetch_and-word.result (c.args.id.0 % 64) ≡ 1 = sym (shr_and_one c.fetch_and-word.result (c.args.id.0 % 64)) ∙ eqb-true _ 1 yes' in
    rw (← c.pass.view_is) (Calls-told seat.table_id c.fetch_and-word.new.seat.table_id c.pass.inside.who.0 seat.me c.fetch_and-word.new.seat.me (calls.Draw c.args.id) replies.Done c.fetch_and-word.ensures.0 c.pass.invariant (told.0 one))

pub returns-clause-missed : goal.returns-clause-missed
returns-clause-missed c =
    let key = c.self.inside.table.shared.key in
    let seat = c.pass.inside.seat in
    let within : c.args.id.0 < length (start_of key).state.tasks = rw (← c.self.view_is) at c.requires.exists in
    let start : start_in seat.me.0.start ≡ start_of key = rw (← c.self.view_is, ← c.pass.view_is) at c.requires.board.start in
    let sized = c.self.invariant in
    let count : count_in seat.me.0 ≡ c.self.inside.words.tasks = ap (λ (o : Start). length o.state.tasks) start ∙ sized.tasks in
    let workers : c.workers.result ≡ (start_in seat.me.0.start).state.workers = c.workers.ensures ∙ (sym sized.workers ∙ ap (λ (o : Start). o.state.workers) (sym start)) in
    let place : c.box_place-at.result ≡ shared_at seat.me.0 (c.args.id.0 / 64) = c.box_place-at.ensures.place ∙ (ap (λ (n : ℕ). box_at n c.workers.result (c.args.id.0 / 64)) (sym count) ∙ ap (λ (w : ℕ). box_at (count_in seat.me.0) w (c.args.id.0 / 64)) workers) in
    let told = c.fetch_and-word.ensures.2 c.args.id.0 (omega arith) place refl in
    λ no'.
    let ne : bit_at c.fetch_and-word.result (c.args.id.0 % 64) ≢ 1 = λ one. (let z = sym (eq-eqb _ 1 (shr_and_one c.fetch_and-word.result (c.args.id.0 % 64) ∙ one)) ∙ no' in cc) in
    rw (← c.pass.view_is) (Misses-told seat.table_id c.fetch_and-word.new.seat.table_id c.pass.inside.who.0 seat.me c.fetch_and-word.new.seat.me (c.args.id.0 ∷ []) c.fetch_and-word.ensures.0 c.pass.invariant (told.1 (omega (arith, bit_at-lt c.fetch_and-word.result (c.args.id.0 % 64)))))
