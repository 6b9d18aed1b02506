use Rattle.std.proofs.Common.{◌≡◌, ◌∙◌, ◌∷◌, ℕ, List, sym, ap, subst}
use mathlib.Core.Option.{none}
use Rattle.atomic_table.specs.Table as table
use Rattle.wake_board.specs.declared.body.Body.{Body}
use Rattle.wake_board.specs.declared.views.View.{View}
use Rattle.wake_board.specs.Rule.{IsKept}
use Rattle.wake_board.specs.Outs.{out_of, HasBody, without, Carries}
use Rattle.wake_board.specs.Seen.{TellsFront, FrontTold, with_out, outs_after}
use Rattle.wake_board.proofs.BodySteps.{seat_of, comes_first, goes_back}
use Rattle.wake_board.proofs.slots.slot_in.Goals as goal

pub load-requires : goal.load-requires
load-requires g c =
    let o = c.args.shared.now.key in
    let seat = c.args.seat.now in
    let slots = c.args.shared.now.table_id.slots in (
      c.requires.same,
      c.requires.words,
      subst (λ (i : ℕ). table.Allows (IsKept o) slots seat.id seat.me 0 (λ n. n) (TellsFront i (table.step slots 0 0 0 none) seat.me)) (sym c.requires.named) (comes_first o slots seat.id seat.me c.args.task c.requires.out.0 c.requires.carries c.requires.out.1),
    )

pub exchange-requires : goal.exchange-requires
exchange-requires g c =
    let me = c.args.seat.now.me in
    let n = c.requires.out.0 in
    let front : FrontTold me c.args.task n c.load.new.seat.me = subst (λ (i : ℕ). (t : ℕ) → HasBody me.0.outs i t → FrontTold me i t c.load.new.seat.me) c.requires.named c.load.ensures.2 n c.requires.out.1 in (
      c.load.ensures.0 ∙ c.requires.same,
      (front.body, subst (λ (z : table.Me Body View). z.1 ≡ (c.args.task, front.body) ∷ table.rest z.1) (sym front.seat) (λ k. (c.args.task, front.body) ∷ front.slots)),
    )

pub load-requires-2 : goal.load-requires-2
load-requires-2 g c =
    let o = c.args.shared.now.key in
    let me = c.args.seat.now.me in
    let n = c.requires.out.0 in
    let front : FrontTold me c.args.task n c.load.new.seat.me = subst (λ (i : ℕ). (t : ℕ) → HasBody me.0.outs i t → FrontTold me i t c.load.new.seat.me) c.requires.named c.load.ensures.2 n c.requires.out.1 in
    let written : c.exchange.new.seat.me ≡ seat_of (with_out me.0 (out_of c.args.task n ∷ without c.args.task me.0.outs)) ((c.args.task, c.args.body) ∷ front.slots) = c.exchange.ensures.3 ∙ ap (λ (z : table.Me Body View). seat_of z.0 ((c.args.task, c.args.body) ∷ table.rest z.1)) front.seat in (
      c.exchange.ensures.0 ∙ (c.load.ensures.0 ∙ c.requires.same),
      c.requires.words,
      goes_back o c.args.shared.now.table_id.slots c.exchange.new.seat.id me.0 c.exchange.new.seat.me c.args.task n c.args.body front.slots written c.requires.log c.requires.out.2 c.requires.row,
    )

pub returns-clause-view : goal.returns-clause-view
returns-clause-view g c =
    let me = c.args.seat.now.me in
    let n = c.requires.out.0 in
    let front : FrontTold me c.args.task n c.load.new.seat.me = subst (λ (i : ℕ). (t : ℕ) → HasBody me.0.outs i t → FrontTold me i t c.load.new.seat.me) c.requires.named c.load.ensures.2 n c.requires.out.1 in
    let written : c.exchange.new.seat.me ≡ seat_of (with_out me.0 (out_of c.args.task n ∷ without c.args.task me.0.outs)) ((c.args.task, c.args.body) ∷ front.slots) = c.exchange.ensures.3 ∙ ap (λ (z : table.Me Body View). seat_of z.0 ((c.args.task, c.args.body) ∷ table.rest z.1)) front.seat in
    ap (λ (z : table.Me Body View). z.0) c.load-2.ensures.2 ∙ ap (λ (z : table.Me Body View). with_out z.0 (outs_after z.0.outs)) written

pub returns-clause-slots : goal.returns-clause-slots
returns-clause-slots g c =
    let me = c.args.seat.now.me in
    let n = c.requires.out.0 in
    let front : FrontTold me c.args.task n c.load.new.seat.me = subst (λ (i : ℕ). (t : ℕ) → HasBody me.0.outs i t → FrontTold me i t c.load.new.seat.me) c.requires.named c.load.ensures.2 n c.requires.out.1 in
    let written : c.exchange.new.seat.me ≡ seat_of (with_out me.0 (out_of c.args.task n ∷ without c.args.task me.0.outs)) ((c.args.task, c.args.body) ∷ front.slots) = c.exchange.ensures.3 ∙ ap (λ (z : table.Me Body View). seat_of z.0 ((c.args.task, c.args.body) ∷ table.rest z.1)) front.seat in
    subst (λ (l : List (ℕ × Body)). Carries l (without c.args.task me.0.outs)) (sym (ap (λ (z : table.Me Body View). z.1) c.load-2.ensures.2 ∙ ap (λ (z : table.Me Body View). table.rest z.1) written)) front.carries
