use Rattle.std.proofs.Common.{[], ◌∷◌}
use Rattle.board_bench.specs.Callers.{IsDriven}
use Rattle.board_bench.proofs.tests.played.Given as goal

-- the board is driven
abbrev pub invariant-loop-who : goal.invariant-loop-who
invariant-loop-who l =
    (goal.iterator-loop-who).can_next l.who-iterator ×
    (goal.iterator-loop-who).is_finite l.who-iterator ×
    IsDriven l.driven (0 ∷ []) 1
