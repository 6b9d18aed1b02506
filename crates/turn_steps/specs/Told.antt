-- The begin of a caller's part, whatever the others do (docs/MODEL.md, "What is left of a turn").
use Rattle.std.specs.Prelude.{◌≡◌, ℕ, List, [], ◌∷◌}
use Rattle.sched_base.specs.declared.names.CallerId.{CallerId}
use Rattle.step_tables.specs.declared.tables.Script.{Script}
use Rattle.task_machine.specs.declared.calls.Entry.{Entry}
use Rattle.turn_steps.specs.Left.{Stage, MayCall, went}

-- each entry is a next call of the caller
abbrev pub Told : Script → CallerId → ℕ → Stage → List Entry → Type 0
Told s w T g [] = Unit {0}
Told s w T g (e ∷ es) = (e.caller ≡ w) × MayCall s g e.call × Told s w T (went s w T e.call e.reply g) es

-- the stage to which they lead
abbrev pub told : Script → CallerId → ℕ → Stage → List Entry → Stage
told s w T g [] = g
told s w T g (e ∷ es) = told s w T (went s w T e.call e.reply g) es
