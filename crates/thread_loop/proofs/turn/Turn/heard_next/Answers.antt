use Rattle.std.proofs.Common.{sym}
use Rattle.thread_loop.specs.Turns.{onward_of, book_now}
use Rattle.thread_loop.proofs.Turns.{next-listed}
use Rattle.thread_loop.proofs.turn.Turn.heard_next.Goals as goal

pub heard_take-requires-clause-exists : goal.heard_take-requires-clause-exists
heard_take-requires-clause-exists c = c.requires.tasks c.in-Some.next.task.0 (next-listed (onward_of c.args.onward.now) (book_now c.args.self.now) _ (sym c.in-Some.ensures))
