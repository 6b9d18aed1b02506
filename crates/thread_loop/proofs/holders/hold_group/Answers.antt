use Rattle.std.proofs.Common.{ℕ, List, ◌<◌, ◌≢◌, ◌^◌, refl, sym, subst, ◌∙◌, arith, w64}
use Rattle.std.specs.Int.{trailing_zeros}
use Rattle.std.proofs.lemmas.Nat.Bits.{bit_at-trailing_zeros, bit_at_clear_same, bit_at_clear_other}
use Rattle.thread_loop.proofs.Hands.{GroupedBut, grouped-first, grouped-next, grouped-all}
use Rattle.thread_loop.proofs.Members.{group-first}
use Rattle.thread_loop.proofs.Collecting.{rest-shorter, shorter}
use Rattle.thread_loop.proofs.holders.hold_group.Goals as goal

pub loop-rest-init : goal.loop-rest-init
loop-rest-init c = record { grouped = grouped-first c.args.who c.args.group c.args.mask c.args.homes.now c.args.holders.now }

pub loop-rest-smaller : goal.loop-rest-smaller
loop-rest-smaller c = shorter _ _ (rest-shorter _ _ _ (group-first c.args.group c.loop-rest.rest c.loop-rest-test.true c.loop-rest.auto.rest-fits))

pub loop-rest-preserved : goal.loop-rest-preserved
loop-rest-preserved c =
    let rest = c.loop-rest.rest in
    let fits = c.loop-rest.auto.rest-fits in
    let some = c.loop-rest-test.true in
    let low = bit_at-trailing_zeros w64 rest (omega arith) (omega arith) in
    let n : ℕ = trailing_zeros w64 rest in
    record {
      grouped = grouped-next c.args.who c.args.group c.args.mask rest _ n low.1 low.0 (bit_at_clear_same w64 rest n low.0) (λ b lt ne. bit_at_clear_other w64 rest n low.0 b lt ne) _ c.args.homes.now c.args.holders.now c.loop-rest.holders _ refl c.give.ensures c.loop-rest.invariant.grouped;
    }

pub returns : goal.returns
returns c =
    grouped-all c.args.who c.args.group c.args.mask c.args.homes.now c.args.holders.now c.loop-rest.holders (subst (λ (r : ℕ). GroupedBut c.args.who c.args.group c.args.mask r c.args.homes.now c.args.holders.now c.loop-rest.holders) c.loop-rest-test.false c.loop-rest.invariant.grouped)
