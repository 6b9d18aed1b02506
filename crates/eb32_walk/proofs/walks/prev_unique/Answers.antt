use Rattle.eb32_walk.proofs.Climbing.{before_head}
use Rattle.eb32_walk.proofs.walks.prev_unique.Goals as goal

pub returns-clause-answer : goal.returns-clause-answer
returns-clause-answer c =
    before_head c.args.arena.now c.args.entry c.head_place.result c.neighbour.result c.head_place.ensures.head c.neighbour.ensures.answer
