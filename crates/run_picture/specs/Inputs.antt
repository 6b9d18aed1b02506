-- What the input is: a transcript, or a script and then its transcript (docs/PICTURES.md, "The input").
use Rattle.std.specs.Prelude.{◌≡◌, ℕ, ◌+◌, ◌==◌, Bool, if◌then◌else◌, List, [], ◌∷◌, take, drop, length, codes, bytes_eq, Option, Some, None, Result, Ok, Err}
use Rattle.step_tables.specs.declared.faults.ScriptFault.{ScriptFault}
use Rattle.step_tables.specs.declared.faults.ScriptError.{ScriptError}
use Rattle.step_tables.specs.declared.faults.ScriptError.TheVariants as script
use Rattle.step_tables.specs.declared.tables.Script.{Script}
use Rattle.step_tables.specs.Judging.{script_of}
use Rattle.transcript.specs.declared.lines.Line.{Line}
use Rattle.transcript.specs.declared.faults.TextFault.{TextFault}
use Rattle.transcript.specs.declared.faults.TextError.{TextError}
use Rattle.transcript.specs.declared.faults.TextError.TheVariants as text
use Rattle.transcript.specs.Judging.{run_of}
use Rattle.program_edges.specs.Inputs.{script_part, transcript_part}
use Rattle.run_picture.specs.declared.inputs.Refusal.{Refusal}
use Rattle.run_picture.specs.declared.inputs.Refusal.TheVariants as refusals
use Rattle.run_picture.specs.declared.inputs.InputError.{InputError}
use Rattle.run_picture.specs.declared.inputs.InputError.TheVariants.{Refused, Memory}
use Rattle.run_picture.specs.declared.inputs.Input.{Input}

-- what the input tells: maybe a script, and the lines of a transcript
pub record Told : Type 0 where
  pub script : Option Script
  pub lines : List Line

-- whether a text begins with these bytes
abbrev pub begins : List ℕ → List ℕ → Bool
begins front bytes = bytes_eq (take (length front) bytes) front

-- whether a text begins as scripts do
abbrev pub has_script : List ℕ → Bool
has_script bytes = begins (codes "taskscript ") bytes

-- a script's first fault comes before any of its transcript
abbrev pub told_by : Option Script → Result (List Line) TextFault → Result Told Refusal
told_by s (Ok ls) = Ok (record { script = s; lines = ls })
told_by s (Err fault) = Err (refusals.Transcript fault)

abbrev pub told_behind : Result Script ScriptFault → Result (List Line) TextFault → Result Told Refusal
told_behind (Ok s) lines = told_by (Some s) lines
told_behind (Err fault) lines = Err (refusals.Script fault)

-- what the bytes tell, or why they are refused
abbrev pub input_of : List ℕ → Result Told Refusal
input_of bytes =
    if has_script bytes then told_behind (script_of (script_part bytes)) (run_of (transcript_part bytes))
    else told_by None (run_of bytes)

-- an answer that may want memory
abbrev pub GivesInput : Result Input InputError → Result Told Refusal → Type 0
GivesInput (Ok input) told = told ≡ Ok (record { script = input.script; lines = input.transcript })
GivesInput (Err (Refused refusal)) told = told ≡ Err refusal
GivesInput (Err Memory) told = Unit {0}

-- errors of a script and of a transcript
abbrev pub of_script : ScriptError → InputError
of_script (script.Refused fault) = Refused (refusals.Script fault)
of_script script.Memory = Memory

abbrev pub of_transcript : TextError → InputError
of_transcript (text.Refused fault) = Refused (refusals.Transcript fault)
of_transcript text.Memory = Memory
