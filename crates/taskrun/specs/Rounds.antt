-- How far a run is made and written (docs/MODEL.md, "Rounds written").
use Rattle.std.specs.Prelude.{◌≡◌, ℕ, ◌+◌, Bool, true, false, if◌then◌else◌, List, [], ◌∷◌, ◌++◌, Option}
use Rattle.sched_base.specs.Streams.{Appends}
use Rattle.step_tables.specs.declared.tables.Script.{Script}
use Rattle.run_model.specs.Run.{Round}
use Rattle.transcript.specs.Spelling.{head_text, round_text, end_text}
use Rattle.run_texts.specs.RunText.{rounds_text}
use Rattle.thread_loop.specs.declared.crew.Kept.{Kept}
use Rattle.taskrun.specs.declared.courses.Course.{Course}
use Rattle.taskrun.specs.Courses.{Runs, Ends}

-- round q was added to a buffer, with the end line where the run is over; otherwise the next round is made
pub record Adds (s : Script) (rounds : List Round) (q : ℕ) (told tells : Option (List Kept)) (before after : List ℕ) (c : Course) (over : Bool) : Type 0 where
  pub round : Round
  pub rest : Bool
  pub text : after ≡ before ++ (round_text q round.tick round.entries ++ (if over then end_text rest q else []))
  pub ends : over ≡ true → Ends s (rounds ++ round ∷ []) rest told tells
  pub runs : over ≡ false → Runs s (rounds ++ round ∷ []) (q + 1) told tells c

-- what is written and what is in the buffer are the text of such rounds, and the next one is made; the sink held and the
-- crew told this before the first
pub record Underway (s : Script) (before now : Option (List ℕ)) (told tells : Option (List Kept)) (buffer : List ℕ) (q : ℕ) (c : Course) : Type 0 where
  pub rounds : List Round
  pub runs : Runs s rounds q told tells c
  pub written : List ℕ
  pub appended : Appends before now written
  pub text : written ++ buffer ≡ head_text ++ rounds_text 0 rounds
