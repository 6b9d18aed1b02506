use Rattle.std.proofs.Common.{◌≡◌, ℕ, Some, sym, ◌∙◌}
use Rattle.sched_base.specs.KeyedList.{StandsIn}
use Rattle.eb32_core.specs.Forest.{seen_of}
use Rattle.eb32_core.proofs.Standing.{free_is}
use Rattle.eb32_core.proofs.tests.put.Goals as goal

pub insert-requires-clause-free : goal.insert-requires-clause-free
insert-requires-clause-free g c =
    let one : (q : ℕ) → StandsIn q c.args.entry (seen_of c.args.forest.now) → c.is_in.result ≡ Some q = c.is_in.ensures.one in
    free_is (seen_of c.args.forest.now) c.args.entry c.is_in.result one (sym c.is_some.ensures ∙ c.if-is_some.false)
