use Rattle.std.proofs.Common.{◌≡◌, ◌∙◌, ℕ, suc, ◌+◌, ◌<◌, ◌≤◌, List, [], ◌∷◌, ◌++◌, Some, None, Option, IsSome, get_or, length, length-append, ap, subst, sym, refl, arith}
use Rattle.atomic_table.specs.Table.{Me}
use Rattle.wake_board.specs.declared.body.Body.{Body}
use Rattle.wake_board.specs.declared.views.View.{View}
use Rattle.wake_board.specs.Start.{start_of}
use Rattle.wake_board.specs.Seen.{Held, Laid, view_both}
use Rattle.wake_board.specs.Ends.{IsIdle, AllBack}
use Rattle.wake_board.specs.Gathered.{Gathers}
use Rattle.wake_board.proofs.Joins.{joins}
use Rattle.wake_board.proofs.Deals.{Popped, popped, some_head, gathers-more}
use Rattle.wake_board.proofs.open.gather.Goals as goal

-- the pass at the place that was popped
there : (b : Laid) (all xs ys : List (Option Held)) (x : Option Held) → AllBack b all → length xs < length all → xs ≡ ys ++ x ∷ [] → Popped all ys x → (p : Held) × (get_or all (length ys) None ≡ Some p) × (x ≡ Some p) × IsIdle b (length ys) p
there b all xs ys x back fewer is pop =
    let count : length xs ≡ length ys + 1 = ap length is ∙ length-append ys (x ∷ []) in
    let near : length ys ≤ b.start.state.workers = omega (arith, back.count) in
    let h = back.back (length ys) near in
    (h.0, h.1, pop.last ∙ h.1, h.2)

pub seat_of-other-requires : goal.seat_of-other-requires
seat_of-other-requires c =
    let r = c.loop-place.invariant in
    let pop = popped c.args.places.items c.loop-place.places.items c.pop-in-loop-place.new.self.items c.in-Some-pop.place r.left c.in-Some-pop.ensures.items in
    let h = there (record { board = c.args.shared.now.table_id; start = start_of c.args.shared.now.key }) c.args.places.items c.loop-place.places.items c.pop-in-loop-place.new.self.items c.in-Some-pop.place c.requires.back r.fewer c.in-Some-pop.ensures.items pop in
    subst (λ (x : Option Held). IsSome x) (sym h.2) refl

pub join_seat-requires : goal.join_seat-requires
join_seat-requires c =
    let o = c.args.shared.now.key in
    let r = c.loop-place.invariant in
    let ys : List (Option Held) = c.pop-in-loop-place.new.self.items in
    let xs : List (Option Held) = c.loop-place.places.items in
    let is : xs ≡ ys ++ c.in-Some-pop.place ∷ [] = c.in-Some-pop.ensures.items in
    let pop = popped c.args.places.items xs ys c.in-Some-pop.place r.left is in
    let h = there (record { board = c.args.shared.now.table_id; start = start_of o }) c.args.places.items xs ys c.in-Some-pop.place c.requires.back r.fewer is pop in
    let seat = c.seat_of-other.ensures h.0 h.2 in
    let v : View = c.loop-place.seat.me.0 in
    let w : View = c.seat_of-other.result.me.0 in
    let count : length xs ≡ length ys + 1 = ap length is ∙ length-append ys (c.in-Some-pop.place ∷ []) in
    let all = r.all.count in
    let fewer = r.fewer in
    let heads = some_head v.logs (omega arith) in
    let first : w.first ≡ length ys = seat.first ∙ h.3.who in
    let one : length w.logs ≡ 1 = ap length seat.log in
    let of : v.first ≡ length xs = r.all.first in (
      r.table,
      seat.board ∙ h.3.board,
      seat.slots h.3.outs,
      c.requires.words,
      joins o c.loop-place.seat.id v c.seat_of-other.result.id w heads.0 heads.1 heads.2 (seat.outs ∙ h.3.outs) (omega arith),
    )

pub loop-place-preserved : goal.loop-place-preserved
loop-place-preserved c =
    let o = c.args.shared.now.key in
    let r = c.loop-place.invariant in
    let ys : List (Option Held) = c.pop-in-loop-place.new.self.items in
    let xs : List (Option Held) = c.loop-place.places.items in
    let is : xs ≡ ys ++ c.in-Some-pop.place ∷ [] = c.in-Some-pop.ensures.items in
    let pop = popped c.args.places.items xs ys c.in-Some-pop.place r.left is in
    let h = there (record { board = c.args.shared.now.table_id; start = start_of o }) c.args.places.items xs ys c.in-Some-pop.place c.requires.back r.fewer is pop in
    let seat = c.seat_of-other.ensures h.0 h.2 in
    let v : View = c.loop-place.seat.me.0 in
    let w : View = c.seat_of-other.result.me.0 in
    let count : length xs ≡ length ys + 1 = ap length is ∙ length-append ys (c.in-Some-pop.place ∷ []) in
    let next : length xs ≡ suc (length ys) = omega arith in
    let fewer = r.fewer in
    let both : c.join_seat.new.seat.me.0 ≡ view_both v w = ap (λ (x : Me Body View). x.0) c.join_seat.ensures.2 in
    record {
      table = c.join_seat.ensures.0 ∙ r.table;
      left = pop.left;
      fewer = omega arith;
      all = subst (Gathers c.args.places.items (length ys)) (sym both) (gathers-more c.args.places.items (length ys) v w h.0 (subst (λ (n : ℕ). Gathers c.args.places.items n v) next r.all) h.1 (seat.first ∙ h.3.who) seat.log seat.misses);
    }
