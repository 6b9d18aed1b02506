use Rattle.std.proofs.Common.{◌≡◌, ◌∙◌, ℕ, suc, ◌+◌, ◌-◌, List, [], ◌∷◌, ◌++◌, Some, None, Option, get_or, length, length-append, ap, subst, sym, arith}
use Rattle.atomic_table.specs.Table.{Me}
use Rattle.wake_board.specs.declared.body.Body.{Body}
use Rattle.wake_board.specs.declared.views.View.{View}
use Rattle.wake_board.specs.Start.{start_of}
use Rattle.wake_board.specs.Seen.{Held}
use Rattle.wake_board.specs.Own.{held_by}
use Rattle.wake_board.specs.Ends.{fresh}
use Rattle.wake_board.proofs.Deals.{view_from, splits_from, left_from, IsPass-fresh, held-fresh, each_more}
use Rattle.wake_board.proofs.open.deal_passes.Goals as goal

pub split_seat-requires : goal.split_seat-requires
split_seat-requires c =
    let o = c.args.shared.now.key in
    let r = c.loop-k.invariant.seat in
    let more = r.1 in
    let n : r.0 ≡ suc (r.0 - 1) = omega arith in
    let is : c.loop-k.seat.me ≡ (view_from o c.loop-k.k (suc (r.0 - 1)), []) = subst (λ (m : ℕ). c.loop-k.seat.me ≡ (view_from o c.loop-k.k m, [])) n r.2 in (
      c.loop-k.invariant.table,
      c.requires.words,
      splits_from o c.loop-k.seat.id c.loop-k.seat.me.0 c.loop-k.k (r.0 - 1) (ap (λ (x : Me Body View). x.0) is),
    )

pub invariant_of-pass : goal.invariant_of-pass
invariant_of-pass c =
    let o = c.args.shared.now.key in
    let r = c.loop-k.invariant.seat in
    let more = r.1 in
    let n : r.0 ≡ suc (r.0 - 1) = omega arith in
    let is : c.loop-k.seat.me ≡ (view_from o c.loop-k.k (suc (r.0 - 1)), []) = subst (λ (m : ℕ). c.loop-k.seat.me ≡ (view_from o c.loop-k.k m, [])) n r.2 in
    IsPass-fresh o c.loop-k.seat.me c.split_seat.result.me c.loop-k.k (r.0 - 1) is c.split_seat.ensures.4

pub loop-k-preserved : goal.loop-k-preserved
loop-k-preserved c =
    let o = c.args.shared.now.key in
    let r = c.loop-k.invariant.seat in
    let more = r.1 in
    let n : r.0 ≡ suc (r.0 - 1) = omega arith in
    let next : c.loop-k.k + 1 ≡ suc c.loop-k.k = omega arith in
    let is : c.loop-k.seat.me ≡ (view_from o c.loop-k.k (suc (r.0 - 1)), []) = subst (λ (m : ℕ). c.loop-k.seat.me ≡ (view_from o c.loop-k.k m, [])) n r.2 in
    let left : c.split_seat.new.seat.me ≡ (view_from o (suc c.loop-k.k) (r.0 - 1), []) = left_from o c.loop-k.seat.me c.split_seat.new.seat.me c.loop-k.k (r.0 - 1) is c.split_seat.ensures.2 in
    let pass : Held = held_by c.split_seat.result.table_id c.loop-k.k c.split_seat.result.me.0 in
    let made : pass ≡ fresh (record { board = c.args.shared.now.table_id; start = start_of o }) c.loop-k.k = held-fresh o c.args.shared.now.table_id c.split_seat.result.table_id c.loop-k.seat.me c.split_seat.result.me c.loop-k.k (r.0 - 1) (c.split_seat.ensures.3 ∙ c.loop-k.invariant.table) is c.split_seat.ensures.4 in
    let items : c.push.new.self.items ≡ c.loop-k.places.items ++ Some pass ∷ [] = c.in_ok-push.ensures.items in
    let count = c.loop-k.invariant.count in
    record {
      table = c.split_seat.ensures.0 ∙ c.loop-k.invariant.table;
      seat = (r.0 - 1, omega arith, subst (λ (m : ℕ). c.split_seat.new.seat.me ≡ (view_from o m (r.0 - 1), [])) (sym next) left);
      count = ap length items ∙ (length-append c.loop-k.places.items (Some pass ∷ []) ∙ ap (λ (m : ℕ). m + 1) count);
      each = λ j l.
          subst (λ (xs : List (Option Held)). get_or xs j None ≡ Some (fresh (record { board = c.args.shared.now.table_id; start = start_of o }) j)) (sym items) (each_more (λ i x. x ≡ Some (fresh (record { board = c.args.shared.now.table_id; start = start_of o }) i)) c.loop-k.places.items (Some pass) c.loop-k.k count c.loop-k.invariant.each (ap Some made) j l);
    }
