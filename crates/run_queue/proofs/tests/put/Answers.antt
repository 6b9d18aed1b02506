use Rattle.run_queue.specs.Runners.{entry_of}
use Rattle.run_queue.proofs.Meaning.{free_from_none, not_listed}
use Rattle.run_queue.proofs.tests.put.Goals as goal

pub insert-requires-clause-absent : goal.insert-requires-clause-absent
insert-requires-clause-absent c =
    not_listed c.args.task c.args.queue.now c.args.lists.now c.requires.fits (free_from_none (entry_of c.args.task) c.args.lists.now c.root_of.result c.if-is_some.ensures c.root_of.ensures.one)
