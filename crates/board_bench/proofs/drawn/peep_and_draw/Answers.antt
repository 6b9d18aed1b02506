use Rattle.board_bench.proofs.OneTask.{clear_missed, one_first, one_drawn}
use Rattle.board_bench.proofs.drawn.peep_and_draw.Goals as goal

pub returns-clause-drawn : goal.returns-clause-drawn
returns-clause-drawn c =
    λ drew.
    let clear = clear_missed _ _ _ _ c.requires.clear c.peep-word.ensures in
    record { exists = c.requires.exists; one = one_drawn _ _ _ c.args.id (one_first _ _ c.args.id.0 clear) (c.draw.ensures.drawn drew) }

pub returns-clause-not : goal.returns-clause-not
returns-clause-not c =
    λ missed.
    let clear = clear_missed _ _ _ _ c.requires.clear c.peep-word.ensures in
    clear_missed _ _ _ _ clear (c.draw.ensures.missed missed)
