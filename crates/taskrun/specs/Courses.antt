-- How far a run is made and noted (docs/MODEL.md, "The course of a run").
use Rattle.std.specs.Prelude.{◌≡◌, ℕ, suc, ◌+◌, ◌==◌, ◌||◌, Bool, true, false, List, [], ◌∷◌, ◌++◌, Option}
use Rattle.task_machine.specs.declared.calls.Entry.{Entry}
use Rattle.task_machine.specs.History.{IsMerge}
use Rattle.step_tables.specs.declared.tables.Script.{Script}
use Rattle.run_model.specs.Run.{Round}
use Rattle.run_model.specs.Lawful.{RoundOf, LawfulRun}
use Rattle.run_model.specs.Standing.{Standing, opening, is_at_rest, next_tick}
use Rattle.standing.specs.Passes.{Passes}
use Rattle.history_weave.specs.Places.{log_at}
use Rattle.thread_loop.specs.declared.crew.Kept.{Kept}
use Rattle.thread_loop.specs.declared.merger.Merger.{Merger}
use Rattle.thread_loop.specs.Crews.{kept_logs, Grows}
use Rattle.thread_loop.specs.Mergers.{logs_in, entries_of, IsMergerOf, IsMade, IsMerged}
use Rattle.thread_loop.specs.Plants.{standing_of, tick_next, IsReady}
use Rattle.taskrun.specs.declared.courses.AfterRound.{AfterRound}
use Rattle.taskrun.specs.declared.courses.Course.{Course}
use Rattle.taskrun.specs.Headline.{kept_rounds}

-- whether the run is over after round q
abbrev pub is_last : Script → ℕ → Standing → Bool
is_last s q st = is_at_rest s q st || (q + 1 == s.rounds)

-- whole rounds are noted, after which the run goes on, and round q is made, whose calls are still to be merged; the crew
-- told this before the first round, and tells that
pub record Runs (s : Script) (rounds : List Round) (q : ℕ) (told tells : Option (List Kept)) (c : Course) : Type 0 where
  pub old : Standing
  pub passes : Passes s 0 s.start (opening s) rounds q c.tick old
  pub merger : IsMergerOf s old.state c.merger
  pub made : IsMade s q c.tick old (logs_in c.merger) (standing_of c.plant)
  pub next : tick_next c.plant ≡ next_tick s q c.tick (standing_of c.plant)
  pub ready : IsReady s (q + 1) c.plant
  pub rest : c.after.rest ≡ is_at_rest s q (standing_of c.plant)
  pub over : c.after.over ≡ is_last s q (standing_of c.plant)
  pub grown : Grows told tells (kept_rounds (suc s.workers) 0 rounds ++ kept_logs q (logs_in c.merger))

-- a round that round q may turn out to be
pub record ComesNext (s : Script) (q : ℕ) (tells : Option (List Kept)) (c : Course) (round : Round) : Type 0 where
  pub rounds : List Round
  pub told : Option (List Kept)
  pub runs : Runs s rounds q told tells c
  pub lawful : RoundOf s q c.tick runs.old round (standing_of c.plant)

-- the rounds are those of a lawful run to its end, whose calls the crew told
pub record Ends (s : Script) (rounds : List Round) (rest : Bool) (told tells : Option (List Kept)) : Type 0 where
  pub lawful : LawfulRun s (record { rounds = rounds; rest = rest })
  pub grown : Grows told tells (kept_rounds (suc s.workers) 0 rounds)

-- round q was noted, so that what notes says of it holds; the run is over, or the next round is made
pub record Advances (s : Script) (rounds : List Round) (q : ℕ) (told tells : Option (List Kept)) (notes : Round → Type 0) (c : Course) (after : AfterRound) : Type 0 where
  pub round : Round
  pub noted : notes round
  pub ends : after.over ≡ true → Ends s (rounds ++ round ∷ []) after.rest told tells
  pub runs : after.over ≡ false → Runs s (rounds ++ round ∷ []) (q + 1) told tells c

-- each round that the calls may be merged to may be noted
abbrev pub CanNote : {A : Type 0} → (Round → A → Type 0) → ℕ → Merger → A → Type 0
CanNote can T w a = (es : List Entry) → IsMerge w.machine (log_at (logs_in w)) es → can (record { tick = T; entries = es }) a

-- the calls were merged, and the round noted
pub record HasNoted {A : Type 0} (notes : Round → A → A → Type 0) (T : ℕ) (old new : Merger) (before after : A) : Type 0 where
  pub merged : IsMerged old new
  pub noted : notes (record { tick = T; entries = entries_of new }) before after
