-- What a written transcript is (docs/MODEL.md, "The headline").
use Rattle.std.specs.Prelude.{ℕ, suc, ◌+◌, Bool, List, [], ◌∷◌, ◌++◌}
use Rattle.std.specs.List.{flat_map}
use Rattle.task_machine.specs.declared.calls.Entry.{Entry}
use Rattle.task_machine.specs.Since.{TakesTell}
use Rattle.step_tables.specs.declared.tables.Script.{Script}
use Rattle.run_model.specs.Run.{Round, Run}
use Rattle.run_model.specs.Tables.{def_of}
use Rattle.run_model.specs.Lawful.{LawfulRun}
use Rattle.thread_loop.specs.Crews.{kept_calls}
use Rattle.thread_loop.specs.declared.crew.Kept.{Kept}

-- the one history of a run: the entries of its rounds, one after another
abbrev pub history_of : Run → List Entry
history_of run = flat_map (λ round. round.entries) run.rounds

-- whether a task is to run from the start on
abbrev pub is_init : Script → ℕ → Bool
is_init s i = (def_of s i).init

-- a lawful run of the script to its end, in which the reasons of each take are exactly those that were set since the
-- task's previous take
pub record IsRunOf (s : Script) (run : Run) : Type 0 where
  pub lawful : LawfulRun s run
  pub reasons : TakesTell (is_init s) (history_of run)

-- the calls of rounds from round r on, of so many callers: round by round, and in each caller by caller
abbrev pub kept_rounds : ℕ → ℕ → List Round → List Kept
kept_rounds callers r [] = []
kept_rounds callers r (round ∷ more) = kept_calls r callers round.entries ++ kept_rounds callers (r + 1) more

-- the calls of a run of the script
abbrev pub kept_of : Script → Run → List Kept
kept_of s run = kept_rounds (suc s.workers) 0 run.rounds
