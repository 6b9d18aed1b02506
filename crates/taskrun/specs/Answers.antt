-- What each answer of the top call says (docs/MODEL.md, "Answers").
use Rattle.std.specs.Prelude.{◌≡◌, ℕ, ◌≤◌, ◌⊎◌, Bool, true, false, List, codes, Option, Some, None, IfSome, Result, Ok, Err}
use Rattle.sched_base.specs.Streams.{Appends, AppendsFront}
use Rattle.step_tables.specs.declared.faults.ScriptFault.{ScriptFault}
use Rattle.step_tables.specs.declared.tables.Script.{Script}
use Rattle.step_tables.specs.Judging.{script_of}
use Rattle.command_line.specs.declared.command.Command.{Command}
use Rattle.command_line.specs.declared.command.Command.TheVariants.{Run as RunScript, Replay, Gen}
use Rattle.script_gen.specs.Generated.{generated}
use Rattle.run_model.specs.Run.{Run}
use Rattle.run_texts.specs.RunLines.{lines_of_run}
use Rattle.run_texts.specs.RunText.{text_of}
use Rattle.run_replay.specs.Verdicts.{AreOfRun, FirstNotLawful}
use Rattle.transcript.specs.declared.faults.TextFault.{TextFault}
use Rattle.transcript.specs.declared.lines.Line.{Line}
use Rattle.transcript.specs.Judging.{lines_of, run_of}
use Rattle.taskrun.specs.declared.status.Status.{Status}
use Rattle.taskrun.specs.declared.status.Status.TheVariants.{Done, ScriptRefused, Usage, ReadFault, WriteFault, NoMemory, NotLawful, TextRefused}
use Rattle.thread_loop.specs.Crews.{Grows}
use Rattle.thread_loop.specs.declared.crew.Kept.{Kept}
use Rattle.taskrun.specs.Headline.{IsRunOf, kept_of}
use Rattle.taskrun.specs.Inputs.{script_part, transcript_part}
use Rattle.taskrun.specs.Summary.{summary_of}

-- the number of an answer, which is the exit status of the program
abbrev pub code_of : Status → ℕ
code_of Done = 0
code_of (ScriptRefused fault) = 1
code_of Usage = 2
code_of ReadFault = 3
code_of WriteFault = 4
code_of NoMemory = 5
code_of (NotLawful line) = 6
code_of (TextRefused fault) = 7

-- there is a script, and what is said of it
abbrev pub OnScript : Result Script ScriptFault → (Script → Type 0) → Type 0
OnScript (Ok script) P = P script
OnScript (Err fault) P = ⊥

-- there is none, and this is the first fault of the text
abbrev pub IsRefused : Result Script ScriptFault → ScriptFault → Type 0
IsRefused (Ok script) fault = ⊥
IsRefused (Err first) fault = fault ≡ first

-- there are lines of a transcript, and what is said of them
abbrev pub OnLines : Result (List Line) TextFault → (List Line → Type 0) → Type 0
OnLines (Ok lines) P = P lines
OnLines (Err fault) P = ⊥

-- there are none, and this is the first fault of the text
abbrev pub IsTextRefused : Result (List Line) TextFault → TextFault → Type 0
IsTextRefused (Ok lines) fault = ⊥
IsTextRefused (Err first) fault = fault ≡ first

-- the whole text of a run of the script was written, and it reads back as that run; where the crew tells its calls, they
-- grew by those of this run
abbrev pub Wrote : Option (List ℕ) → Option (List ℕ) → Option (List Kept) → Option (List Kept) → Script → Type 0
Wrote before after told tells script =
    (run : Run) × IsRunOf script run × (lines_of (text_of run) ≡ Ok (lines_of_run run)) × Appends before after (text_of run) ×
    Grows told tells (kept_of script run)

-- a first part of the text of a run of the script was written
abbrev pub WroteFront : Option (List ℕ) → Option (List ℕ) → Script → Type 0
WroteFront before after script = (run : Run) × IsRunOf script run × AppendsFront before after (text_of run)

-- what an answer says of the script's text, of what the sink held before and holds after, and of the calls that the crew
-- told before and tells after
abbrev pub Answers : Result Script ScriptFault → Option (List ℕ) → Option (List ℕ) → Option (List Kept) → Option (List Kept) → Status → Type 0
Answers read before after told tells Done = OnScript read (Wrote before after told tells)
Answers read before after told tells (ScriptRefused fault) = IsRefused read fault × (after ≡ before)
Answers read before after told tells Usage = after ≡ before
Answers read before after told tells ReadFault = after ≡ before
Answers read before after told tells WriteFault = OnScript read (WroteFront before after)
Answers read before after told tells NoMemory = (after ≡ before) ⊎ OnScript read (WroteFront before after)
Answers read before after told tells (NotLawful line) = ⊥
Answers read before after told tells (TextRefused fault) = ⊥

-- the answer that comes where no stream fails, but for want of memory
abbrev pub Expected : Result Script ScriptFault → Status → Type 0
Expected read Done = OnScript read (λ script. Unit {0})
Expected read (ScriptRefused fault) = IsRefused read fault
Expected read NoMemory = Unit {0}
Expected read status = ⊥

-- the whole summary of a run of the script was written; where the crew tells its calls, they grew by those of this run
abbrev pub WroteSummary : Option (List ℕ) → Option (List ℕ) → Option (List Kept) → Option (List Kept) → Script → Type 0
WroteSummary before after told tells script =
    (run : Run) × IsRunOf script run × Appends before after (summary_of script run) × Grows told tells (kept_of script run)

-- a first part of the summary of a run of the script was written
abbrev pub WroteSummaryFront : Option (List ℕ) → Option (List ℕ) → Script → Type 0
WroteSummaryFront before after script = (run : Run) × IsRunOf script run × AppendsFront before after (summary_of script run)

-- what an answer says where a script was generated
abbrev pub Sums : Script → Option (List ℕ) → Option (List ℕ) → Option (List Kept) → Option (List Kept) → Status → Type 0
Sums script before after told tells Done = WroteSummary before after told tells script
Sums script before after told tells WriteFault = WroteSummaryFront before after script
Sums script before after told tells NoMemory = (after ≡ before) ⊎ WroteSummaryFront before after script
Sums script before after told tells status = ⊥

-- what a replay of lawful lines writes
abbrev pub lawful_text : List ℕ
lawful_text = codes "lawful\n"

-- the lines are those of a lawful run of the script
abbrev pub IsReplayed : Result Script ScriptFault → Result (List Line) TextFault → Type 0
IsReplayed read lines = OnScript read (λ script. OnLines lines (λ ls. AreOfRun script ls))

-- what an answer says of the script and of the transcript behind it, and of what the sink held before and holds after
abbrev pub Replays : Result Script ScriptFault → Result (List Line) TextFault → Option (List ℕ) → Option (List ℕ) → Status → Type 0
Replays read lines before after Done = IsReplayed read lines × Appends before after lawful_text
Replays read lines before after (ScriptRefused fault) = IsRefused read fault × (after ≡ before)
Replays read lines before after Usage = ⊥
Replays read lines before after ReadFault = after ≡ before
Replays read lines before after WriteFault = IsReplayed read lines × AppendsFront before after lawful_text
Replays read lines before after NoMemory = after ≡ before
Replays read lines before after (NotLawful line) = OnScript read (λ script. OnLines lines (λ ls. FirstNotLawful script ls line)) × (after ≡ before)
Replays read lines before after (TextRefused fault) = OnScript read (λ script. IsTextRefused lines fault) × (after ≡ before)

-- the answer to a replay that comes where no stream fails, but for want of memory
abbrev pub ExpectedReplay : Result Script ScriptFault → Result (List Line) TextFault → Status → Type 0
ExpectedReplay read lines Done = IsReplayed read lines
ExpectedReplay read lines (ScriptRefused fault) = IsRefused read fault
ExpectedReplay read lines NoMemory = Unit {0}
ExpectedReplay read lines (NotLawful line) = OnScript read (λ script. OnLines lines (λ ls. FirstNotLawful script ls line))
ExpectedReplay read lines (TextRefused fault) = OnScript read (λ script. IsTextRefused lines fault)
ExpectedReplay read lines status = ⊥

-- what an answer says, by the command, of the bytes that the source had, of what the sink held before and holds after, and
-- of the calls that the crew told before and tells after
abbrev pub AnswersTo : Option Command → Option (List ℕ) → Option (List ℕ) → Option (List ℕ) → Option (List Kept) → Option (List Kept) → Status → Type 0
AnswersTo None source before after told tells status = after ≡ before
AnswersTo (Some RunScript) source before after told tells status = IfSome source (λ bytes. Answers (script_of bytes) before after told tells status)
AnswersTo (Some Replay) source before after told tells status = IfSome source (λ bytes. Replays (script_of (script_part bytes)) (run_of (transcript_part bytes)) before after status)
AnswersTo (Some (Gen seed size)) source before after told tells status = Sums (generated seed size) before after told tells status

-- where a generated script was summed up, what was written is the summary of each of its runs: it has one
abbrev pub HasOneSummary : ℕ → ℕ → Option (List ℕ) → Option (List ℕ) → Status → Type 0
HasOneSummary seed size before after Done =
    (run : Run) → IsRunOf (generated seed size) run → Appends before after (summary_of (generated seed size) run)
HasOneSummary seed size before after status = Unit {0}

abbrev pub SumsAlike : Option Command → Option (List ℕ) → Option (List ℕ) → Status → Type 0
SumsAlike None before after status = Unit {0}
SumsAlike (Some RunScript) before after status = Unit {0}
SumsAlike (Some Replay) before after status = Unit {0}
SumsAlike (Some (Gen seed size)) before after status = HasOneSummary seed size before after status

-- an answer of a command that sums up a run
abbrev pub IsSumming : Status → Type 0
IsSumming Done = Unit {0}
IsSumming WriteFault = Unit {0}
IsSumming NoMemory = Unit {0}
IsSumming status = ⊥

-- the size of a script that is to be generated is 1 to 4,096
abbrev pub HasSize : Option Command → Type 0
HasSize None = Unit {0}
HasSize (Some RunScript) = Unit {0}
HasSize (Some Replay) = Unit {0}
HasSize (Some (Gen seed size)) = (1 ≤ size) × (size ≤ 4096)

-- usage, or want of memory
abbrev pub IsUsage : Status → Type 0
IsUsage Usage = Unit {0}
IsUsage NoMemory = Unit {0}
IsUsage status = ⊥

-- all was written, or want of memory
abbrev pub IsDone : Status → Type 0
IsDone Done = Unit {0}
IsDone NoMemory = Unit {0}
IsDone status = ⊥

-- the answer that comes, by the command, where no stream fails
abbrev pub ExpectedOf : Option Command → Option (List ℕ) → Status → Type 0
ExpectedOf None source status = IsUsage status
ExpectedOf (Some RunScript) source status = IfSome source (λ bytes. Expected (script_of bytes) status)
ExpectedOf (Some Replay) source status = IfSome source (λ bytes. ExpectedReplay (script_of (script_part bytes)) (run_of (transcript_part bytes)) status)
ExpectedOf (Some (Gen seed size)) source status = IsDone status

-- whether the command reads the source
abbrev pub reads_source : Option Command → Bool
reads_source None = false
reads_source (Some RunScript) = true
reads_source (Some Replay) = true
reads_source (Some (Gen seed size)) = false

-- whether the command makes a run
abbrev pub makes_run : Option Command → Bool
makes_run None = false
makes_run (Some RunScript) = true
makes_run (Some Replay) = false
makes_run (Some (Gen seed size)) = true

-- an answer that comes once the script's text is read
abbrev pub IsRunning : Status → Type 0
IsRunning Done = Unit {0}
IsRunning (ScriptRefused fault) = Unit {0}
IsRunning WriteFault = Unit {0}
IsRunning NoMemory = Unit {0}
IsRunning status = ⊥

-- an answer of a command that runs the script that it reads
abbrev pub IsOfSource : Status → Type 0
IsOfSource ReadFault = Unit {0}
IsOfSource status = IsRunning status

-- an answer of a replay
abbrev pub IsOfReplay : Status → Type 0
IsOfReplay Usage = ⊥
IsOfReplay status = Unit {0}

-- an answer to a script and a transcript that were read
abbrev pub IsReplaying : Status → Type 0
IsReplaying Usage = ⊥
IsReplaying ReadFault = ⊥
IsReplaying status = Unit {0}

-- an answer after which nothing was written
abbrev pub IsUnwritten : Status → Type 0
IsUnwritten (ScriptRefused fault) = Unit {0}
IsUnwritten Usage = Unit {0}
IsUnwritten ReadFault = Unit {0}
IsUnwritten (NotLawful line) = Unit {0}
IsUnwritten (TextRefused fault) = Unit {0}
IsUnwritten status = ⊥

-- the answers that a command may have; Usage comes exactly where the words are none
abbrev pub IsAmong : Option Command → Status → Type 0
IsAmong None status = IsUsage status
IsAmong (Some RunScript) status = IsOfSource status
IsAmong (Some Replay) status = IsOfReplay status
IsAmong (Some (Gen seed size)) status = IsSumming status

-- at most how many bytes a command reads of the source: a script and one byte more, or a script, a transcript and one
-- byte more
abbrev pub most_read : Option Command → ℕ
most_read None = 0
most_read (Some RunScript) = 4194305
most_read (Some Replay) = 71303169
most_read (Some (Gen seed size)) = 0
