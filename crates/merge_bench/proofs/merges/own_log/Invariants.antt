use Rattle.std.proofs.Common.{◌≡◌, take}
use Rattle.task_machine.specs.History.{calls_of}
use Rattle.merge_bench.proofs.merges.own_log.Given as goal

abbrev pub invariant-loop-entry : goal.invariant-loop-entry
invariant-loop-entry l = l.log.entries ≡ calls_of l.k (take l.entry-index l.entries)
