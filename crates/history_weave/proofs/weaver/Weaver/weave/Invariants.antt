use Rattle.std.proofs.Common.{◌≡◌, ◌-◌, ◌<◌, ◌≤◌, length, vec_capacity, vec_len}
use Rattle.history_weave.specs.Indexed.{tasks_of, HasLinkRoom, IsIndexed}
use Rattle.history_weave.proofs.Weaves.{Underway}
use Rattle.history_weave.proofs.weaver.Weaver.weave.Given as goal

-- the merge is under way, and the weaver is as large as before
abbrev pub invariant-steps : goal.invariant-steps
invariant-steps l =
    record {
      underway : Underway l.fn.machine l.logs l.total l.self-inside.entries.items l.self-inside.index.next.items l.machine;
      indexed : IsIndexed l.logs l.self-inside.index;
      index_tasks : tasks_of l.self-inside.index ≡ l.fn.self.tasks;
      links : HasLinkRoom l.self-inside.room l.self-inside.index;
      capacity : l.self-inside.room ≤ vec_capacity l.self-inside.entries;
      tasks : l.self-inside.tasks ≡ l.fn.self.tasks;
      workers : l.self-inside.workers ≡ l.fn.self.workers;
      room : l.self-inside.room ≡ l.fn.self.room;
      last : l.last < length l.logs;
    }

abbrev pub decreases-steps : goal.decreases-steps
decreases-steps l = l.total - vec_len l.self-inside.entries
