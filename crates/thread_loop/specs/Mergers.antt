-- What a merger stands for, and the rounds that are made for it (docs/MODEL.md, "A run on threads").
use Rattle.std.specs.Prelude.{◌≡◌, ℕ, suc, ◌+◌, ◌^◌, ◌<◌, List, length, Option}
use Rattle.step_tables.specs.declared.tables.Script.{Script}
use Rattle.task_machine.specs.declared.calls.Entry.{Entry}
use Rattle.task_machine.specs.Logged.{Logged}
use Rattle.task_machine.specs.Step.{State}
use Rattle.task_machine.specs.History.{IsMerge, led}
use Rattle.run_model.specs.Lawful.{RoundOf}
use Rattle.run_model.specs.Standing.{Standing, next_tick}
use Rattle.history_weave.specs.Places.{log_at, entry_count}
use Rattle.history_weave.specs.Weaving.{HasMerge, HasTakesLeft}
use Rattle.thread_loop.specs.Crews.{kept_logs, Grows}
use Rattle.thread_loop.specs.Plants.{standing_of, tick_next, logs_of, IsReady}
use Rattle.thread_loop.specs.declared.crew.Kept.{Kept}
use Rattle.thread_loop.specs.declared.merger.Merger.{Merger}
use Rattle.thread_loop.specs.declared.plant.Plant.{Plant}

-- the calls that a merger has to merge, caller by caller
abbrev pub logs_in : Merger → List Logged
logs_in w = w.logs.items

-- the entries of the history that it merged last
abbrev pub entries_of : Merger → List Entry
entries_of w = w.weaver.entries

-- the merger of a script, at this state of its machine
pub record IsMergerOf (s : Script) (m : State) (w : Merger) : Type 0 where
  pub machine : w.machine ≡ m
  pub tasks : w.weaver.tasks ≡ length s.tasks
  pub workers : w.weaver.workers ≡ s.workers
  pub logs : length (logs_in w) ≡ suc s.workers

-- its calls have a legal merge
pub record CanMerge (w : Merger) : Type 0 where
  pub tasks : length w.machine.tasks ≡ w.weaver.tasks
  pub workers : w.machine.workers ≡ w.weaver.workers
  pub logs : length (logs_in w) ≡ w.weaver.workers + 1
  pub few : entry_count (logs_in w) < 2 ^ 32
  pub takes_left : HasTakesLeft w.machine (logs_in w)
  pub merge : HasMerge w.machine (logs_in w)

-- they were merged, and the machine is led to the end of their history
pub record IsMerged (old new : Merger) : Type 0 where
  pub merge : IsMerge old.machine (log_at (logs_in old)) (entries_of new)
  pub machine : new.machine ≡ led old.machine (entries_of new)
  pub logs : new.logs ≡ old.logs
  pub tasks : new.weaver.tasks ≡ old.weaver.tasks
  pub workers : new.weaver.workers ≡ old.weaver.workers

-- the logs are those of round r, at tick T: they have a legal merge, and each one is a lawful round between these standings
pub record IsMade (s : Script) (r T : ℕ) (old : Standing) (logs : List Logged) (new : Standing) : Type 0 where
  pub count : length logs ≡ suc s.workers
  pub few : entry_count logs < 2 ^ 32
  pub takes_left : HasTakesLeft old.state logs
  pub merge : HasMerge old.state logs
  pub round : (es : List Entry) → IsMerge old.state (log_at logs) es → RoundOf s r T old (record { tick = T; entries = es }) new

-- a plant made round r whole, and its crew told its calls
pub record Plays (s : Script) (r : ℕ) (old new : Plant) (told tells : Option (List Kept)) : Type 0 where
  pub made : IsMade s r (tick_next old) (standing_of old) (logs_of new) (standing_of new)
  pub next : tick_next new ≡ next_tick s r (tick_next old) (standing_of new)
  pub ready : IsReady s (r + 1) new
  pub grown : Grows told tells (kept_logs r (logs_of new))

-- a merger took the logs of a plant's last round over for its own
pub record TakesOver (old new : Merger) (before after : Plant) : Type 0 where
  pub logs : logs_in new ≡ logs_of before
  pub rest : new ≡ record old { logs = new.logs }
  pub given : after ≡ record before { logs = old.logs }
