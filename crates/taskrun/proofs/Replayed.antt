-- The answers to a replay, from those of its parts.
use Rattle.std.proofs.Common.{◌≡◌, ℕ, ◌<◌, List, [], length, take, refl, subst, arith, Option, Some, None, IfSome, Result, Ok, Err}
use Rattle.step_tables.specs.declared.faults.ScriptFault.{ScriptFault}
use Rattle.step_tables.specs.declared.tables.Script.{Script}
use Rattle.step_tables.specs.Judging.{script_of}
use Rattle.transcript.specs.declared.faults.TextFault.{TextFault}
use Rattle.transcript.specs.declared.lines.Line.{Line}
use Rattle.transcript.specs.Judging.{run_of}
use Rattle.taskrun.specs.declared.status.Status.{Status}
use Rattle.taskrun.specs.declared.status.Status.TheVariants.{Done, ScriptRefused, Usage, ReadFault, WriteFault, NoMemory, NotLawful, TextRefused}
use Rattle.taskrun.specs.Answers.{IsReplayed, Replays, ExpectedReplay, IsReplaying}
use Rattle.taskrun.specs.Inputs.{script_part, transcript_part}
use Rattle.taskrun.proofs.InputParts.{script_read, text_read, parts_short}

-- without a script nothing is said of the text behind it
refused : (fault : ScriptFault) (a b : Result (List Line) TextFault) (before after : Option (List ℕ)) (status : Status) → Replays (Err fault) a before after status → Replays (Err fault) b before after status
refused fault a b before after Done h = absurd h.0
refused fault a b before after (ScriptRefused f) h = h
refused fault a b before after Usage h = h
refused fault a b before after ReadFault h = h
refused fault a b before after WriteFault h = absurd h.0
refused fault a b before after NoMemory h = h
refused fault a b before after (NotLawful line) h = absurd h.0
refused fault a b before after (TextRefused f) h = absurd h.0

-- what an answer says of the bytes that were read it says of all
whole : (all : List ℕ) (r : Result Script ScriptFault) (before after : Option (List ℕ)) (status : Status) → script_of (script_part all) ≡ r → Replays r (run_of (transcript_part (take 71303169 all))) before after status → Replays r (run_of (transcript_part all)) before after status
whole all (Ok s) before after status e h = subst (λ ls. Replays (Ok s) ls before after status) (text_read all s e) h
whole all (Err fault) before after status e h = refused fault (run_of (transcript_part (take 71303169 all))) (run_of (transcript_part all)) before after status h

pub replays_cut : (source : Option (List ℕ)) (read : List ℕ) (before after : Option (List ℕ)) (status : Status) → IfSome source (λ all. read ≡ take 71303169 all) → Replays (script_of (script_part read)) (run_of (transcript_part read)) before after status → IfSome source (λ bytes. Replays (script_of (script_part bytes)) (run_of (transcript_part bytes)) before after status)
replays_cut None read before after status e h = tt
replays_cut (Some all) read before after status e h =
    let cut = subst (λ bytes. Replays (script_of (script_part bytes)) (run_of (transcript_part bytes)) before after status) e h in
    whole all (script_of (script_part all)) before after status refl (subst (λ r. Replays r (run_of (transcript_part (take 71303169 all))) before after status) (script_read all) cut)

-- lines of a run were read, and a script before them
both_read : (r : Result Script ScriptFault) (l : Result (List Line) TextFault) → IsReplayed r l → (s : Script) × (ls : List Line) × (r ≡ Ok s) × (l ≡ Ok ls)
both_read (Ok s) (Ok ls) h = (s, ls, refl, refl)
both_read (Ok s) (Err fault) h = absurd h
both_read (Err fault) l h = absurd h

-- where the answer is Done, the source was read to its end
ended_done : (read : List ℕ) (before after ended : Option (List ℕ)) → Replays (script_of (script_part read)) (run_of (transcript_part read)) before after Done → (length read < 71303169 → ended ≡ Some []) → ended ≡ Some []
ended_done read before after ended h to_end =
    let there = both_read _ _ h.0 in
    let few = parts_short read there.0 there.1 there.2 there.3 in
    to_end (omega arith)

pub replay_ended : (source ended : Option (List ℕ)) (read : List ℕ) (before after : Option (List ℕ)) (status : Status) → IfSome source (λ all. length read < 71303169 → ended ≡ Some []) → Replays (script_of (script_part read)) (run_of (transcript_part read)) before after status → IfSome source (λ all. status ≡ Done → ended ≡ Some [])
replay_ended None ended read before after status e h = tt
replay_ended (Some all) ended read before after status e h =
    λ done. ended_done read before after ended (subst (λ x. Replays (script_of (script_part read)) (run_of (transcript_part read)) before after x) done h) e

-- the answer that comes where no stream fails
expected : (r : Result Script ScriptFault) (l : Result (List Line) TextFault) (before after : Option (List ℕ)) (status : Status) → Replays r l before after status → IsReplaying status → (status ≡ WriteFault → ⊥) → ExpectedReplay r l status
expected r l before after Done h among never = h.0
expected r l before after (ScriptRefused fault) h among never = h.0
expected r l before after Usage h among never = absurd among
expected r l before after ReadFault h among never = absurd among
expected r l before after WriteFault h among never = absurd (never refl)
expected r l before after NoMemory h among never = tt
expected r l before after (NotLawful line) h among never = h.0
expected r l before after (TextRefused fault) h among never = h.0

expected_on : (o : Option (List ℕ)) (before after : Option (List ℕ)) (status : Status) → IfSome o (λ bytes. Replays (script_of (script_part bytes)) (run_of (transcript_part bytes)) before after status) → IsReplaying status → (status ≡ WriteFault → ⊥) → IfSome o (λ bytes. ExpectedReplay (script_of (script_part bytes)) (run_of (transcript_part bytes)) status)
expected_on None before after status h among never = tt
expected_on (Some all) before after status h among never = expected _ _ before after status h among never

pub replay_expected : (source : Option (List ℕ)) (read : List ℕ) (before after : Option (List ℕ)) (status : Status) → IfSome source (λ all. read ≡ take 71303169 all) → Replays (script_of (script_part read)) (run_of (transcript_part read)) before after status → IsReplaying status → (status ≡ WriteFault → ⊥) → IfSome source (λ bytes. ExpectedReplay (script_of (script_part bytes)) (run_of (transcript_part bytes)) status)
replay_expected source read before after status e h among never = expected_on source before after status (replays_cut source read before after status e h) among never

-- the bytes as another slice
pub replays_along : (x y : List ℕ) (before after : Option (List ℕ)) (status : Status) → x ≡ y → Replays (script_of (script_part x)) (run_of (transcript_part x)) before after status → Replays (script_of (script_part y)) (run_of (transcript_part y)) before after status
replays_along x y before after status e h = subst (λ bytes. Replays (script_of (script_part bytes)) (run_of (transcript_part bytes)) before after status) e h
