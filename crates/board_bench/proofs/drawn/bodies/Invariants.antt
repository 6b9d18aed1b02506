use Rattle.board_bench.specs.Drawn.{HasDrawn}
use Rattle.board_bench.proofs.drawn.bodies.Given as goal

-- the task is drawn, with its body at home
abbrev pub invariant-loop : goal.invariant-loop
invariant-loop l = HasDrawn l.board l.pass l.id.0
