use Rattle.thread_loop.proofs.Turns.{posts_in, returns_in}
use Rattle.thread_loop.proofs.turn.Turn.next_call.Goals as goal

pub home_of-requires : goal.home_of-requires
home_of-requires c = (posts_in c.args.script.now c.args.self.now.tick c.args.self.now.queues _ _ _ _ c.in-Posts.is c.requires.tasks).1

pub home_of-requires-in-Returns : goal.home_of-requires-in-Returns
home_of-requires-in-Returns c = returns_in c.args.script.now c.args.self.now.tick c.args.self.now.queues _ _ _ c.in-Returns.is c.requires.tasks
