use Rattle.std.proofs.Common.{◌≤◌, ◌^◌, length, ap, arith}
use Rattle.board_bench.proofs.rounds.shared_alone.Goals as goal

pub draws-requires-clause-fresh : goal.draws-requires-clause-fresh
draws-requires-clause-fresh c =
    let none = ap length c.in_ok-pair.ensures.0.first_new in omega arith
