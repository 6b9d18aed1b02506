use Rattle.std.proofs.Common.{sym, subst}
use Rattle.wake_board.specs.Seen.{Laid}
use Rattle.board_bench.specs.Drawn.{IsSharedTask}
use Rattle.board_bench.proofs.tests.two_threads_draw_shared_tasks.Goals as goal

pub drawn_by_two-a-requires-clause-tasks : goal.drawn_by_two-a-requires-clause-tasks
drawn_by_two-a-requires-clause-tasks g c =
    λ i l. subst (λ (b : Laid). IsSharedTask b i 2) (sym c.in-Some.ensures.1) (c.in_ok-board.ensures.tasks i l)
