use Rattle.std.proofs.Common.{arith}
use Rattle.history_weave.proofs.Entering.{laid_out}
use Rattle.history_weave.proofs.index.Index.lay_out.Goals as goal

pub returns-clause-indexed : goal.returns-clause-indexed
returns-clause-indexed c =
    let v = c.loop-k.invariant in
    laid_out c.args.logs.now c.args.self.now c.loop-k.self c.requires.few c.requires.room c.requires.clear v.looks v.marks v.gets v.draws v.links v.link_marks v.starts_len v.next_len (λ j lj. v.starts j (omega arith)) (λ j lj. v.next j (omega arith))
