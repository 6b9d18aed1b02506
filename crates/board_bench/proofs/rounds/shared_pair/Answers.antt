use Rattle.std.proofs.Common.{◌≡◌, ◌∙◌, sym, ap, subst}
use Rattle.wake_board.specs.Seen.{Laid}
use Rattle.board_bench.specs.Drawn.{IsSharedTask}
use Rattle.board_bench.proofs.Pairs.{shared_fresh, shared_task}
use Rattle.board_bench.proofs.rounds.shared_pair.Goals as goal

pub paired-requires : goal.paired-requires
paired-requires c = shared_fresh _ _ c.in_ok-board.ensures.shared

pub returns : goal.returns
returns c =
    let both = c.in-Some.ensures in (
      both.0,
      subst (λ (b : Laid). IsSharedTask b 0 2) (sym both.1) (shared_task _ _ c.in_ok-board.ensures.shared),
      ap (λ (b : Laid). b.start.nexts) both.1 ∙ (c.in_ok-board.ensures.nexts ∙ c.in_ok-nexts.ensures),
    )
