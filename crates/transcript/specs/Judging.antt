-- Which text is a transcript, and else its first bad line: docs/TRANSCRIPT.md, "Faults".
use Rattle.std.specs.Prelude.{◌≡◌, ℕ, ◌+◌, Bool, true, false, not, ◌&&◌, ◌==◌, if◌then◌else◌, nat_lt, List, [], ◌∷◌, ◌++◌, Option, Some, None, Result, Ok, Err}
use Rattle.text_lines.specs.Lines.{Format, read_within, read_whole}
use Rattle.transcript.specs.Types.{Line, Said, First, Holds, Progress}
use Rattle.transcript.specs.declared.lines.Line.TheVariants as line
use Rattle.transcript.specs.declared.faults.FaultKind.{FaultKind}
use Rattle.transcript.specs.declared.faults.FaultKind.TheVariants as kinds
use Rattle.transcript.specs.declared.faults.TextFault.{TextFault}
use Rattle.transcript.specs.declared.faults.TextError.{TextError}
use Rattle.transcript.specs.declared.faults.TextError.TheVariants as error
use Rattle.transcript.specs.Grammar.{said}

-- the number of a kind of fault
abbrev pub number_of : FaultKind → ℕ
number_of kinds.Line = 1
number_of kinds.Order = 2
number_of kinds.Truncated = 3
number_of kinds.LimitPassed = 4

-- before the first line
abbrev pub opening : Progress
opening = record { begun = false; rounds = 0; ended = false; lines = [] }

-- a line of the run may follow r rounds: the next round, an entry of a round, or the end of the last
abbrev pub follows : ℕ → Line → Bool
follows r (line.Round number tick) = number == r
follows r (line.Entry e) = nat_lt 0 r
follows r (line.End rest last) = last + 1 == r

-- what may stand next: the first line at the start alone, and the lines of the run behind it
abbrev pub may_stand : Progress → Said → Bool
may_stand p First = not p.begun
may_stand p (Holds l) = p.begun && follows p.rounds l

-- how many rounds there are with a line, and whether the end has come
abbrev pub rounds_with : ℕ → Line → ℕ
rounds_with r (line.Round number tick) = r + 1
rounds_with r (line.Entry e) = r
rounds_with r (line.End rest last) = r

abbrev pub is_end : Line → Bool
is_end (line.Round number tick) = false
is_end (line.Entry e) = false
is_end (line.End rest last) = true

-- what is read with a line
abbrev pub past : Progress → Said → Progress
past p First = record { begun = true; rounds = p.rounds; ended = p.ended; lines = p.lines }
past p (Holds l) = record { begun = p.begun; rounds = rounds_with p.rounds l; ended = is_end l; lines = p.lines ++ l ∷ [] }

-- a line that says this, or nothing
abbrev pub judged_said : Progress → Option Said → Result Progress FaultKind
judged_said p None = Err kinds.Line
judged_said p (Some s) = if may_stand p s then Ok (past p s) else Err kinds.Order

-- the format of transcripts
abbrev pub transcripts : Format Progress FaultKind
transcripts = record { judge = λ n p text. judged_said p (said text); has_ended = λ p. p.ended; behind = kinds.Order; over = kinds.LimitPassed; short = kinds.Truncated }

-- a fault, by its line and its kind
abbrev pub fault : ℕ × FaultKind → TextFault
fault f = record { line = f.0; kind = number_of f.1 }

-- the lines of the run, or the first fault
abbrev pub lines_read : Result Progress (ℕ × FaultKind) → Result (List Line) TextFault
lines_read (Ok p) = Ok p.lines
lines_read (Err f) = Err (fault f)

-- the lines of a text, with no limit on its length
abbrev pub lines_of : List ℕ → Result (List Line) TextFault
lines_of bytes = lines_read (read_whole transcripts opening bytes)

-- the lines of a text of at most so many bytes
abbrev pub run_within : ℕ → List ℕ → Result (List Line) TextFault
run_within most bytes = lines_read (read_within transcripts opening most bytes)

-- the most bytes of a transcript, 64 MiB
abbrev pub byte_limit : ℕ
byte_limit = 67108864

-- the lines of a text within the limit
unfoldable pub run_of : List ℕ → Result (List Line) TextFault
run_of bytes = run_within byte_limit bytes

-- the answer of a call that may want memory
abbrev pub Gives : Result (List Line) TextError → Result (List Line) TextFault → Type 0
Gives (Ok ls) r = r ≡ Ok ls
Gives (Err (error.Refused f)) r = r ≡ Err f
Gives (Err error.Memory) r = Unit {0}

-- a line was taken, or refused with its fault, or there was no memory
abbrev pub Takes : Result (Unit {0}) TextError → Progress → Result Progress (ℕ × FaultKind) → Type 0
Takes (Ok done) new verdict = verdict ≡ Ok new
Takes (Err (error.Refused f)) new (Ok p) = ⊥
Takes (Err (error.Refused f)) new (Err first) = f ≡ fault first
Takes (Err error.Memory) new verdict = Unit {0}

-- each line may stand where it does, behind r rounds, and the last one is the end
abbrev pub GoesOn : ℕ → Bool → List Line → Type 0
GoesOn r ended [] = ended ≡ true
GoesOn r ended (l ∷ ls) = (ended ≡ false) × (follows r l ≡ true) × GoesOn (rounds_with r l) (is_end l) ls
