use Rattle.std.proofs.Common.{take}
use Rattle.task_machine.specs.History.{History}
use Rattle.merge_bench.specs.Histories.{TakenAtMost}
use Rattle.merge_bench.proofs.merges.lead.Given as goal

-- the entries so far are a history, and each takes a task once at most
abbrev pub invariant-loop-entry : goal.invariant-loop-entry
invariant-loop-entry l = record {
  history : History l.fn.machine (take l.entry-index l.entries) l.machine;
  taken : TakenAtMost l.entry-index l.machine;
}
