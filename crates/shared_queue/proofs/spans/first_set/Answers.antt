use Rattle.std.proofs.Common.{ℕ, get_or, refl, arith, w64}
use Rattle.std.specs.Prelude.{bit_and}
use Rattle.std.specs.Int.{trailing_zeros}
use Rattle.std.proofs.lemmas.Nat.{and_le_r}
use Rattle.shared_queue.specs.Spans.{span_at}
use Rattle.shared_queue.proofs.Firsts.{lowest, none_more, first_here}
use Rattle.shared_queue.proofs.spans.first_set.Goals as goal

pub returns-then-seen-ne0 : goal.returns-then-seen-ne0
returns-then-seen-ne0 c =
    let spans = c.args.spans.now in
    let words = c.args.words.now in
    let n = c.loop-span.span-index in
    let seen : ℕ = bit_and (span_at spans n).mask (get_or words (span_at spans n).group 0) in
    let small = and_le_r (span_at spans n).mask (get_or words (span_at spans n).group 0) in
    first_here spans words n (trailing_zeros w64 seen) (omega arith) (lowest seen (trailing_zeros w64 seen) (omega arith) (omega (arith, c.type_inv.words (span_at spans n).group)) refl) c.loop-span.invariant

pub loop-span-preserved : goal.loop-span-preserved
loop-span-preserved c = none_more c.args.spans.now c.args.words.now c.loop-span.span-index c.if-seen-ne0.false c.loop-span.invariant
