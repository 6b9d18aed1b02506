use Rattle.std.proofs.Common.{◌≡◌, take}
use Rattle.history_weave.specs.Places.{entry_count}
use Rattle.thread_loop.proofs.merger.count.Given as goal

-- the logs so far are counted
abbrev pub invariant-loop-log : goal.invariant-loop-log
invariant-loop-log l = record { counted : l.count ≡ entry_count (take l.log-index l.logs) }
