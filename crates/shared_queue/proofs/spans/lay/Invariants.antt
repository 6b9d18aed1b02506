use Rattle.std.proofs.Common.{◌≡◌, ◌≤◌, vec_len, vec_capacity}
use Rattle.shared_queue.specs.Spans.{AreLaid}
use Rattle.shared_queue.proofs.spans.lay.Given as goal

-- the tasks before this one are laid, in no more spans than tasks
abbrev pub invariant-loop-place : goal.invariant-loop-place
invariant-loop-place l = record {
  laid : AreLaid l.place-index l.order l.spans.items;
  few : vec_len l.spans ≤ l.place-index;
  capacity : vec_capacity l.spans ≡ vec_capacity l.fn.spans;
}
