-- Laws of wait lists over keyed lists (docs/TIMERS.md, "Sweeps in steps", "The window" and "Two queues in one set of lists").
use Rattle.std.specs.Prelude.{◌≡◌, ℕ, ◌+◌, ◌*◌, ◌^◌, ◌<◌, false, List}
use Rattle.sched_base.specs.KeyedList.{KeyedRoots, AreKeyed, root_at, holds, ChangesRoot}
use Rattle.queue_model.specs.WaitList.{WaitList}
use Rattle.queue_model.specs.Sweep.{fired, swept}
use Rattle.queue_model.specs.SweepStep.{SweepsBy}
use Rattle.queue_model.specs.Window.{AreNear}
use Rattle.wait_queue.specs.Timers.{Timers, entry_of, wait_list, Fits}

-- steps of a sweep, up to one that fires nothing, fire what the sweep fires and leave what it leaves
abbrev pub StepsComeToTheSweep : Type 0
StepsComeToTheSweep = (now : ℕ) (q : Timers) (lists : KeyedRoots) (ids : List ℕ) (new : WaitList) → now < 2 ^ 32 → AreKeyed lists → Fits q lists → SweepsBy now (wait_list now q lists) ids new → (ids ≡ fired now (wait_list now q lists)) × (new ≡ swept now (wait_list now q lists))

-- while all keys are near, the wait list is the same from both ticks
abbrev pub WaitListsStay : Type 0
WaitListsStay = (now later : ℕ) (q : Timers) (lists : KeyedRoots) → now < 2 ^ 32 → later < 2 ^ 32 → Fits q lists → AreNear now (root_at q.root lists).items → AreNear later (root_at q.root lists).items → wait_list now q lists ≡ wait_list later q lists

-- a change of another root that leaves none of its entries there keeps the queue fitting, and its wait list
abbrev pub WaitQueuesStayBeside : Type 0
WaitQueuesStayBeside = (q : Timers) (lists new : KeyedRoots) (other : ℕ) → Fits q lists → ChangesRoot other lists new → (other ≡ q.root → ⊥) → ((task : ℕ) → holds (entry_of task) (root_at other new) ≡ false) → Fits q new × ((now : ℕ) → wait_list now q new ≡ wait_list now q lists)

-- its own root holds even entries alone
abbrev pub TimersAreEven : Type 0
TimersAreEven = (q : Timers) (lists : KeyedRoots) (task : ℕ) → Fits q lists → holds (2 * task + 1) (root_at q.root lists) ≡ false
