-- Where the injector stands in its round (docs/MODEL.md, "Replay").
use Rattle.std.specs.Prelude.{◌≡◌, ℕ, ◌<◌, ◌≤◌, ◌==◌, true, if◌then◌else◌, List, [], ◌∷◌, map, filter, drop, length, Option, None, Some}
use Rattle.std.specs.Option.{IfSome}
use Rattle.sched_base.specs.declared.names.TaskId.{TaskId}
use Rattle.step_tables.specs.declared.tables.Action.{Action}
use Rattle.step_tables.specs.declared.tables.Event.{Event}
use Rattle.step_tables.specs.declared.tables.Script.{Script}
use Rattle.step_tables.specs.Sound.{rising_below}
use Rattle.run_model.specs.Standing.{blank_book}
use Rattle.run_model.specs.Tables.{actions_in}
use Rattle.turn_steps.specs.Left.{Stage, stage, carries, at_events}
use Rattle.run_replay.specs.declared.injection.Injection.{Injection}

-- the actions of a round among some events
abbrev pub actions_of : ℕ → List Event → List Action
actions_of q es = map (λ e. e.action) (filter (λ e. e.round == q) es)

-- the actions of round r that are left
abbrev pub actions_left : Script → ℕ → Injection → List Action
actions_left s r i = actions_of r (drop i.next s.events)

-- a post that is owed, or else the actions that are left
abbrev pub owing : Option TaskId → List Action → Stage
owing None actions = at_events actions (blank_book 0)
owing (Some j) actions = stage (carries j.0 actions) (blank_book 0)

-- where the injector stands in round r
abbrev pub stage_in : Script → ℕ → Injection → Stage
stage_in s r i = owing i.held (actions_left s r i)

-- the events from the next one on are those that are left for round r and later
pub record AtEvents (s : Script) (r : ℕ) (i : Injection) : Type 0 where
  pub within : i.next ≤ length s.events
  pub later : (q : ℕ) → r < q → actions_in s q ≡ actions_of q (drop i.next s.events)
  pub ahead : rising_below r s.rounds (drop i.next s.events) ≡ true

-- the first of some events, if it is one of round r
abbrev pub first_of : ℕ → List Event → Option Event
first_of r [] = None
first_of r (e ∷ es) = if e.round == r then Some e else None

-- the task that it holds is one of the script
abbrev pub HoldsTask : Script → Injection → Type 0
HoldsTask s i = IfSome i.held (λ j. j.0 < length s.tasks)
