use Rattle.std.proofs.Common.{◌≡◌, set}
use Rattle.history_weave.specs.Indexed.{tasks_of, HasAsManyLinks, IsIndexed}
use Rattle.history_weave.proofs.index.Index.enter_log.Given as goal

-- the entries of log k are entered from this place on
abbrev pub invariant-loop-place : goal.invariant-loop-place
invariant-loop-place l =
    record {
      indexed : IsIndexed l.logs l.self;
      next : l.self.next.items ≡ set l.fn.self.next.items l.k l.place;
      tasks : tasks_of l.self ≡ tasks_of l.fn.self;
      links : HasAsManyLinks l.fn.self l.self;
    }
