use Rattle.thread_loop.proofs.Turns.{acts_in, posts_in, drops_in, retires_in}
use Rattle.thread_loop.proofs.turn.Turn.drawn_run.Goals as goal
use Rattle.thread_loop.proofs.turn.Turn.drawn_run.Goals.{in-Drops, in-Retires-false-default-default, in-Acts, in-Posts}

pub home_of-requires : goal.home_of-requires
home_of-requires c =
    elim c.match-self.branch [
      | in-Acts w ↦ rw w.task-is (acts_in c.args.script.now c.args.self.now.tick c.args.self.now.queues _ _ _ w.in-Acts.is c.requires)
      | in-Posts w ↦ rw w.task-is (posts_in c.args.script.now c.args.self.now.tick c.args.self.now.queues _ _ _ _ w.in-Posts.is c.requires).0
      | in-Drops w ↦ rw w.task-is (drops_in c.args.script.now c.args.self.now.tick c.args.self.now.queues _ _ _ w.in-Drops.is c.requires)
      | in-Retires-false-default-default w ↦ rw w.task-is (retires_in c.args.script.now c.args.self.now.tick c.args.self.now.queues _ _ _ _ w.in-Retires-false-default-default.is c.requires)
    ]
