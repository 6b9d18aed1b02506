use Rattle.std.proofs.Common.{◌≡◌, ◌++◌, take, vec_capacity}
use Rattle.thread_loop.specs.Crews.{kept_logs}
use Rattle.thread_loop.proofs.crew.keep_all.Given as goal

-- the logs so far are kept
abbrev pub invariant-loop-log : goal.invariant-loop-log
invariant-loop-log l = record {
  so_far : l.calls.items ≡ l.initial.calls.items ++ kept_logs l.round (take l.log-index l.logs);
  room : vec_capacity l.calls ≡ vec_capacity l.initial.calls;
}
