use Rattle.eb32_walk.proofs.Seeking.{found_or_bare, reached_or_bare}
use Rattle.eb32_walk.proofs.search.descend_uncounted.Goals as goal

pub returns-clause-found : goal.returns-clause-found
returns-clause-found g c = found_or_bare c.args.arena.now c.args.root c.args.key _ _ c.descend.result c.descend.ensures

pub returns-clause-reached : goal.returns-clause-reached
returns-clause-reached g c = reached_or_bare c.args.arena.now c.args.root c.args.key _ _ c.new-steps.ensures c.descend.result c.descend.ensures
