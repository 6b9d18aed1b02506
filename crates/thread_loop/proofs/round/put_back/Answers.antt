use Rattle.std.proofs.Common.{◌≡◌, ℕ, ◌+◌, ◌-◌, List, take, take_all, vec_len, Option, [], length, slice_get, sym, ap, subst, ◌∙◌, arith}
use Rattle.wake_board.specs.Seen.{Held}
use Rattle.thread_loop.proofs.Passing.{IsBack, IsIdlePass, back-none, back-last, back-more, back-all, none-left, numbered-at, idle-at}
use Rattle.thread_loop.proofs.round.put_back.Goals as goal

pub put-requires : goal.put-requires
put-requires c =
    let all = c.args.out.now.items in
    let p = c.in-Some.pass in
    let more = c.pop.new.self.items in
    let last = back-last all c.loop-pass.passes c.loop-pass.out.items more p c.loop-pass.invariant c.in-Some.ensures.items in
    let who : p.who ≡ length more = ap (λ (q : Held). q.who) (sym last.at) ∙ numbered-at 0 all (length more) p c.requires.numbers last.some ∙ (let e : 0 + length more ≡ length more = omega arith in e) in
    let idle : IsIdlePass p = subst (λ (q : Held). IsIdlePass q) last.at (idle-at all (length more) p c.requires.idle last.some) in
    record {
      out = ap (λ (j : ℕ). slice_get c.loop-pass.passes j) who ∙ last.empty;
      bodies = idle.outs;
      undrawn = idle.draws;
    }

pub loop-pass-init : goal.loop-pass-init
loop-pass-init c = back-none c.args.out.now.items c.args.passes.now c.requires.places

pub loop-pass-preserved : goal.loop-pass-preserved
loop-pass-preserved c =
    let all = c.args.out.now.items in
    let p = c.in-Some.pass in
    let more = c.pop.new.self.items in
    let is = c.in-Some.ensures.items in
    let last = back-last all c.loop-pass.passes c.loop-pass.out.items more p c.loop-pass.invariant is in
    let who : p.who ≡ length more = ap (λ (q : Held). q.who) (sym last.at) ∙ numbered-at 0 all (length more) p c.requires.numbers last.some ∙ (let e : 0 + length more ≡ length more = omega arith in e) in
    subst (λ (ps : List (Option Held)). IsBack all ps more) (sym c.put.ensures) (back-more all c.loop-pass.passes c.loop-pass.out.items more p p.who c.loop-pass.invariant is who)

pub returns : goal.returns
returns c =
    let said = c.in_default.ensures in
    let none : c.loop-pass.out.items ≡ [] = none-left c.loop-pass.out.items (omega (arith, c.loop-pass.out.ok.0, said.cases.0)) in
    record {
      places = back-all c.args.out.now.items c.loop-pass.passes c.loop-pass.out.items c.loop-pass.invariant none;
      out = said.rest ∙ ap (λ (ps : List Held). take (vec_len c.loop-pass.out - 1) ps) none ∙ take_all (vec_len c.loop-pass.out - 1) [] (omega arith);
    }
