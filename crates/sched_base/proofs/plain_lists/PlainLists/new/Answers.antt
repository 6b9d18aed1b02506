use Rattle.std.proofs.Common.{◌≡◌, replicate, arith}
use Rattle.std.proofs.lemmas.Grind.{common_steps}
use Rattle.sched_base.proofs.Rows.{empty_means}
use Rattle.sched_base.proofs.plain_lists.PlainLists.new.Goals as goal

pub returns : goal.returns
returns c =
    let counts : c.resize.new.self.items ≡ replicate c.args.roots 0 = grind (arith, common_steps, c.in_ok-resize.ensures.items, c.in_ok-insertions.ensures.items, c.in_ok-insertions.ensures.len) in
    empty_means _ _ c.args.roots c.args.entries c.in_ok-rows.ensures.items counts
