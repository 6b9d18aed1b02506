use Rattle.std.proofs.Common.{◌≡◌, ◌++◌, take, vec_capacity}
use Rattle.thread_loop.specs.Crews.{kept}
use Rattle.thread_loop.proofs.crew.keep.Given as goal

-- the entries so far are kept
abbrev pub invariant-loop-entry : goal.invariant-loop-entry
invariant-loop-entry l = record {
  so_far : l.calls.items ≡ l.initial.calls.items ++ kept l.round (take l.entry-index l.entries);
  room : vec_capacity l.calls ≡ vec_capacity l.initial.calls;
}
