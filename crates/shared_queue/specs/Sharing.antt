-- What a shared queue is to contracts (docs/SHARED.md, "The queue").
use Rattle.std.specs.Prelude.{◌≡◌, ◌+◌, ◌*◌, ◌≤◌, ℤ, List, length}
use Rattle.sched_base.specs.KeyedList.{KeyedRoots, root_at, ChangesRoot}
use Rattle.queue_model.specs.RunList.{RunList}
use Rattle.run_queue.specs.Runners.{Runners, run_list, Fits}

-- the keyed lists, the run queue over their root 0, and the nice of each task
pub record Sharing : Type 0 where
  pub lists : KeyedRoots
  pub queue : Runners
  pub ranks : List ℤ

-- the shared run list
abbrev pub shared_list : Sharing → RunList
shared_list q = run_list q.queue q.lists

-- the parts go together
pub record IsSharing (q : Sharing) : Type 0 where
  pub fits : Fits q.queue q.lists
  pub root : q.queue.root ≡ 0
  pub entries : q.lists.entries ≡ 2 * length q.ranks
  pub few : length q.ranks ≤ 65536

-- only the shared run list changed: the nices and the depth stay, and so do the numbers of roots and entries and all other
-- roots; as many insertions were made into root 0 as tasks arrived
pub record Moves (old new : Sharing) : Type 0 where
  pub ranks : new.ranks ≡ old.ranks
  pub depth : new.queue.depth ≡ old.queue.depth
  pub others : ChangesRoot 0 old.lists new.lists
  pub arrivals : (root_at 0 new.lists).insertions + old.queue.count ≡ (root_at 0 old.lists).insertions + new.queue.count
