use Rattle.run_queue.specs.Runners.{entry_of}
use Rattle.run_queue.proofs.Meaning.{free_from_none, not_listed}
use Rattle.trees_bench.proofs.tests.put.Goals as goal

pub insert-requires-clause-absent : goal.insert-requires-clause-absent
insert-requires-clause-absent g c =
    not_listed c.args.task c.args.queue.now (g.K.KeyedLists.seen c.args.lists.now) c.requires.fits (free_from_none (entry_of c.args.task) (g.K.KeyedLists.seen c.args.lists.now) c.root_of.result c.if-is_some.ensures c.root_of.ensures.one)
