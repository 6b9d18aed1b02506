-- The answers of the top call, from those of its parts.
use Rattle.std.proofs.Common.{◌≡◌, ℕ, ◌+◌, ◌<◌, ◌≤◌, List, [], length, take, refl, ◌∙◌, ap, subst, arith, Option, Some, None, IfSome, Result, Ok, Err}
use Rattle.step_tables.specs.declared.faults.ScriptFault.{ScriptFault}
use Rattle.step_tables.specs.declared.tables.Script.{Script}
use Rattle.step_tables.specs.Judging.{script_of, byte_limit}
use Rattle.step_tables.proofs.Length.{read_length, read_cut}
use Rattle.taskrun.specs.declared.status.Status.{Status}
use Rattle.taskrun.specs.declared.status.Status.TheVariants.{Done, ScriptRefused, Usage, ReadFault, WriteFault, NoMemory, NotLawful, TextRefused}
use Rattle.thread_loop.specs.declared.crew.Kept.{Kept}
use Rattle.taskrun.specs.Answers.{OnScript, Wrote, Answers, Expected, IsRunning}

-- there is a script
script_there : (r : Result Script ScriptFault) (P : Script → Type 0) → OnScript r P → (s : Script) × (r ≡ Ok s)
script_there (Ok s) P h = (s, refl)
script_there (Err fault) P h = absurd h

-- what an answer says of the bytes that were read it says of those that the source had
pub answers_cut : (source : Option (List ℕ)) (read : List ℕ) (before after : Option (List ℕ)) (told tells : Option (List Kept)) (status : Status) → IfSome source (λ all. read ≡ take (byte_limit + 1) all) → Answers (script_of read) before after told tells status → IfSome source (λ bytes. Answers (script_of bytes) before after told tells status)
answers_cut None read before after told tells status e h = tt
answers_cut (Some all) read before after told tells status e h =
    subst (λ r. Answers r before after told tells status) (ap script_of e ∙ read_cut all) h

-- where all was written, the source was read to its end
ended_done : (read : List ℕ) (before after ended : Option (List ℕ)) (told tells : Option (List Kept)) → Answers (script_of read) before after told tells Done → (length read < byte_limit + 1 → ended ≡ Some []) → ended ≡ Some []
ended_done read before after ended told tells h to_end =
    let there = script_there (script_of read) (Wrote before after told tells) h in
    let few : length read ≤ byte_limit = read_length read there.0 there.1 in
    to_end (omega arith)

pub ended_by : (source ended : Option (List ℕ)) (read : List ℕ) (before after : Option (List ℕ)) (told tells : Option (List Kept)) (status : Status) → IfSome source (λ all. length read < byte_limit + 1 → ended ≡ Some []) → Answers (script_of read) before after told tells status → IfSome source (λ all. status ≡ Done → ended ≡ Some [])
ended_by None ended read before after told tells status e h = tt
ended_by (Some all) ended read before after told tells status e h =
    λ done. ended_done read before after ended told tells (subst (λ x. Answers (script_of read) before after told tells x) done h) e

-- the answer that comes where no stream fails
expected : (r : Result Script ScriptFault) (before after : Option (List ℕ)) (told tells : Option (List Kept)) (status : Status) → Answers r before after told tells status → IsRunning status → (status ≡ WriteFault → ⊥) → Expected r status
expected (Ok s) before after told tells Done h running never = tt
expected (Err f) before after told tells Done h running never = absurd h
expected r before after told tells (ScriptRefused fault) h running never = h.0
expected r before after told tells Usage h running never = absurd running
expected r before after told tells ReadFault h running never = absurd running
expected r before after told tells WriteFault h running never = absurd (never refl)
expected r before after told tells NoMemory h running never = tt
expected r before after told tells (NotLawful line) h running never = absurd running
expected r before after told tells (TextRefused fault) h running never = absurd running

pub expected_by : (source : Option (List ℕ)) (read : List ℕ) (before after : Option (List ℕ)) (told tells : Option (List Kept)) (status : Status) → IfSome source (λ all. read ≡ take (byte_limit + 1) all) → Answers (script_of read) before after told tells status → IsRunning status → (status ≡ WriteFault → ⊥) → IfSome source (λ bytes. Expected (script_of bytes) status)
expected_by None read before after told tells status e h running never = tt
expected_by (Some all) read before after told tells status e h running never =
    subst (λ r. Expected r status) (ap script_of e ∙ read_cut all) (expected (script_of read) before after told tells status h running never)

-- the bytes as another slice
pub answers_along : (x y : List ℕ) (before after : Option (List ℕ)) (told tells : Option (List Kept)) (status : Status) → x ≡ y → Answers (script_of x) before after told tells status → Answers (script_of y) before after told tells status
answers_along x y before after told tells status e h = subst (λ bytes. Answers (script_of bytes) before after told tells status) e h
