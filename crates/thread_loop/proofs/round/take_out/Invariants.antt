use Rattle.std.proofs.Common.{◌≡◌, vec_capacity}
use Rattle.thread_loop.proofs.Passing.{IsOut}
use Rattle.thread_loop.proofs.round.take_out.Given as goal

abbrev pub invariant-loop-who : goal.invariant-loop-who
invariant-loop-who l = record {
  out : IsOut l.fn.passes l.passes l.out.items l.who;
  room : vec_capacity l.out ≡ vec_capacity l.fn.out;
}
