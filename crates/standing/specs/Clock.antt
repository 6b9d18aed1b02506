-- The window of each worker's timers, within a round and between rounds (docs/MODEL.md, "Timers in their window").
use Rattle.std.specs.Prelude.{ℕ, ◌^◌, ◌<◌, ◌≤◌}
use Rattle.queue_model.specs.WaitList.{WaitList}
use Rattle.queue_model.specs.Clock.{Window, behind, ahead}
use Rattle.step_tables.specs.declared.tables.Expiry.{Expiry}
use Rattle.step_tables.specs.declared.tables.Expiry.TheVariants.{After}
use Rattle.step_tables.specs.declared.tables.Script.{Script}
use Rattle.run_model.specs.Tables.{row_at}
use Rattle.run_model.specs.Standing.{Standing, book_at}
use Rattle.turn_steps.specs.Left.{Left, gets, acts, posts, injects, carries, over, Stage}
use Rattle.standing.specs.Keeps.{Callers}

-- a delay that a row may set
abbrev pub DelayIn : Expiry → Type 0
DelayIn (After ticks) = (1 ≤ ticks) × (ticks ≤ 2 ^ 30)
DelayIn x = Unit {0}

-- the window at a stage: before the sweep a key may lie behind the tick, after it each is ahead
abbrev pub WindowOf : ℕ → Left → WaitList → Type 0
WindowOf T (gets g gs) l = Window behind T l
WindowOf T (acts a more i row q) l = Window ahead T l × DelayIn row.expiry
WindowOf T (posts j more i row q) l = Window ahead T l × DelayIn row.expiry
WindowOf T (injects a more) l = Unit {0}
WindowOf T (carries j more) l = Unit {0}
WindowOf T over l = Unit {0}
WindowOf T left l = Window ahead T l

abbrev pub InWindow : ℕ → Stage → Type 0
InWindow T g = WindowOf T g.left g.book.wait

-- within a round at tick T, and before and after it
abbrev pub KeepsClock : Script → ℕ → Callers → Type 0
KeepsClock s T c = (k : ℕ) → k ≤ s.workers → InWindow T (c.at k)

abbrev pub ClockBefore : Script → ℕ → Standing → Type 0
ClockBefore s T st = (k : ℕ) → k < s.workers → Window behind T (book_at st k).wait

abbrev pub ClockAfter : Script → ℕ → Standing → Type 0
ClockAfter s T st = (k : ℕ) → k < s.workers → Window ahead T (book_at st k).wait

-- the delays of all rows
abbrev pub DelaysAreIn : Script → Type 0
DelaysAreIn s = (i n : ℕ) → DelayIn (row_at s i n).expiry
