-- Laws of run lists over keyed lists (docs/TIMERS.md, "Two queues in one set of lists").
use Rattle.std.specs.Prelude.{◌≡◌, ℕ, ◌*◌, false}
use Rattle.sched_base.specs.KeyedList.{KeyedRoots, root_at, holds, ChangesRoot}
use Rattle.run_queue.specs.Runners.{Runners, entry_of, run_list, Fits}

-- a change of another root that leaves none of its entries there keeps the queue fitting, and its run list
abbrev pub RunQueuesStayBeside : Type 0
RunQueuesStayBeside = (q : Runners) (lists new : KeyedRoots) (other : ℕ) → Fits q lists → ChangesRoot other lists new → (other ≡ q.root → ⊥) → ((task : ℕ) → holds (entry_of task) (root_at other new) ≡ false) → Fits q new × (run_list q new ≡ run_list q lists)

-- its own root holds odd entries alone
abbrev pub RunnersAreOdd : Type 0
RunnersAreOdd = (q : Runners) (lists : KeyedRoots) (task : ℕ) → Fits q lists → holds (2 * task) (root_at q.root lists) ≡ false
