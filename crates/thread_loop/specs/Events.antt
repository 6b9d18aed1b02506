-- The actions of events (docs/MODEL.md, "A turn on a board").
use Rattle.std.specs.Prelude.{ℕ, ◌==◌, List, map, filter}
use Rattle.step_tables.specs.declared.tables.Action.{Action}
use Rattle.step_tables.specs.declared.tables.Event.{Event}

-- the actions of events
abbrev pub actions_all : List Event → List Action
actions_all es = map (λ e. e.action) es

-- the actions of a round among some events
abbrev pub actions_of : ℕ → List Event → List Action
actions_of q es = actions_all (filter (λ e. e.round == q) es)
