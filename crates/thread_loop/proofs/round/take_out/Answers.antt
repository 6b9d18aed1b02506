use Rattle.std.proofs.Common.{◌≡◌, ℕ, ◌+◌, ◌<◌, ◌∷◌, ◌++◌, [], Option, None, IsSome, List, true, false, set, replicate, vec_capacity, length, refl, sym, ap, subst, ◌∙◌, arith}
use Rattle.wake_board.specs.Seen.{Held}
use Rattle.thread_loop.proofs.Passing.{IsOut, out-none, out-more, out-all}
use Rattle.thread_loop.proofs.round.take_out.Goals.{in-Some, in_default}
use Rattle.thread_loop.proofs.round.take_out.Goals as goal

pub push_reserved-requires : goal.push_reserved-requires
push_reserved-requires c = omega (arith, c.loop-who.out.ok.0, c.loop-who.invariant.out.size, c.loop-who.invariant.room, c.requires.room)

pub loop-who-init : goal.loop-who-init
loop-who-init c = record { out = out-none c.args.passes.now c.args.out.now.items c.requires.empty; room = refl }

pub loop-who-preserved : goal.loop-who-preserved
loop-who-preserved c =
    let all = c.args.passes.now in
    let n = c.loop-who.who in
    let h = c.loop-who.invariant.out in
    let lt : n < length all = omega (arith, c.requires.count) in
    let some : IsSome c.take.result = subst (λ (x : Option Held). IsSome x) (sym (c.take.ensures.found ∙ h.above n (omega arith))) (c.requires.back n (omega arith)) in
    elim c.match-take.branch [
      | in-Some w ↦ (
          let p = w.in-Some.pass in
          let more : IsOut all (set c.loop-who.passes n None) (c.loop-who.out.items ++ p ∷ []) (n + 1) = out-more all c.loop-who.passes c.loop-who.out.items n p h lt (sym c.take.ensures.found ∙ w.in-Some.is) in
          let items : c.match-take.out.items ≡ c.loop-who.out.items ++ p ∷ [] = ap (λ v. v.items) w.out-is ∙ w.push_reserved.ensures.items in
          record {
            out = subst (λ (ps : List (Option Held)). IsOut all ps c.match-take.out.items (n + 1)) (sym c.take.ensures.out) (subst (λ (ps : List Held). IsOut all (set c.loop-who.passes n None) ps (n + 1)) (sym items) more);
            room = ap (λ v. vec_capacity v) w.out-is ∙ w.push_reserved.ensures.capacity ∙ c.loop-who.invariant.room;
          })
      | in_default w ↦ (let bad : false ≡ true = subst (λ (x : Option Held). IsSome x) w.in_default.is some in cc)
    ]

pub returns : goal.returns
returns c =
    let h = c.loop-who.invariant.out in
    let both = out-all c.args.passes.now c.loop-who.passes c.loop-who.out.items c.loop-who.who h (omega (arith, c.requires.count)) in
    let end : c.loop-who.who ≡ c.args.callers = omega arith in
    record {
      out = both.0;
      places = both.1 ∙ ap (λ (n : ℕ). replicate n None) end;
      room = c.loop-who.invariant.room;
    }
