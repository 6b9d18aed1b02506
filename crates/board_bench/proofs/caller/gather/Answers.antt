use Rattle.std.proofs.Common.{◌≡◌, ℕ, ◌<◌, ◌==◌, if◌then◌else◌, length, get_or, set, refl, sym, ap, ◌∙◌, inl, inr, subst, arith}
use Rattle.std.proofs.lemmas.Bool.{cases_eq}
use Rattle.std.proofs.lemmas.List.{get_or-set_same, get_or-set_other, get_or_default}
use Rattle.std.proofs.lemmas.Nat.Bits.{shr_and_one}
use Rattle.std.proofs.Math.ListN.{length-set}
use Rattle.std.specs.Int.{bit_at}
use Rattle.board_bench.specs.declared.has.Has.{Has}
use Rattle.board_bench.specs.declared.has.Has.TheVariants as kinds
use Rattle.board_bench.proofs.caller.gather.Goals as goal

pub loop-i-init : goal.loop-i-init
loop-i-init c = record { count = refl; done = λ k l. absurd (omega arith); left = λ k l. refl }

pub loop-i-preserved : goal.loop-i-preserved
loop-i-preserved c =
    let before = c.loop-i.invariant in
    let has = c.loop-i.has.items in
    let i : ℕ = c.loop-i.i in
    let within : i < length has = (let z = before.count in let y = c.loop-i-test.true in omega arith) in
    let read : c.index.result.now ≡ get_or has i kinds.Nothing = c.index.ensures ∙ get_or_default has i c.index.result.now kinds.Nothing within in
    record {
      count = length-set has i c.gathered.result ∙ before.count;
      done = λ k l. elim (cases_eq k i) [
        | inl same ↦
            (let here : get_or (set has i c.gathered.result) i kinds.Nothing ≡ (if bit_at c.args.word i == 1 then kinds.Hands else get_or c.args.has.now.items i kinds.Nothing) = get_or-set_same has i c.gathered.result kinds.Nothing within ∙ (c.gathered.ensures ∙ (ap (λ (n : ℕ). if n == 1 then kinds.Hands else c.index.result.now) (shr_and_one c.args.word i) ∙ ap (λ (h : Has). if bit_at c.args.word i == 1 then kinds.Hands else h) (read ∙ before.left i (omega arith)))) in
            subst (λ (n : ℕ). get_or (set has i c.gathered.result) n kinds.Nothing ≡ (if bit_at c.args.word n == 1 then kinds.Hands else get_or c.args.has.now.items n kinds.Nothing)) (sym same) here)
        | inr ne ↦ get_or-set_other has i k c.gathered.result kinds.Nothing ne ∙ before.done k (omega arith)
      ];
      left = λ k l. get_or-set_other has i k c.gathered.result kinds.Nothing (λ e. omega arith) ∙ before.left k (omega arith);
    }

pub returns-clause-each : goal.returns-clause-each
returns-clause-each c =
    let before = c.loop-i.invariant in
    let far = c.loop-i-test.false in λ i l. before.done i (omega arith)
