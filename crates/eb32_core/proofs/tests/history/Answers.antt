use Rattle.std.proofs.Common.{◌%◌, ◌∙◌, arith}
use Rattle.eb32_core.proofs.tests.history.Goals as goal

pub loop-init : goal.loop-init
loop-init g c = record { roots = c.requires.roots; entries = c.requires.entries; count = λ r. c.requires.insertions r }

pub toggle-requires-clause-root : goal.toggle-requires-clause-root
toggle-requires-clause-root g c = omega (arith, c.loop.invariant.roots)

pub toggle-requires-clause-entry : goal.toggle-requires-clause-entry
toggle-requires-clause-entry g c = omega (arith, c.loop.invariant.entries)

pub toggle-requires-clause-room : goal.toggle-requires-clause-room
toggle-requires-clause-room g c = omega (arith, c.loop.invariant.count (c.shuffled-number.result % 2), c.loop-test.true)

pub asked-requires : goal.asked-requires
asked-requires g c = omega (arith, c.loop.invariant.roots, c.toggle.ensures.roots)

pub loop-preserved : goal.loop-preserved
loop-preserved g c = record {
  roots = c.toggle.ensures.roots ∙ c.loop.invariant.roots;
  entries = c.toggle.ensures.entries ∙ c.loop.invariant.entries;
  count = λ r. omega (arith, c.toggle.ensures.insertions r, c.loop.invariant.count r);
}
