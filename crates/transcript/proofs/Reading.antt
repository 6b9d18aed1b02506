-- The rounds so far are counted while a text is read.
use Rattle.std.proofs.Common.{◌≡◌, ℕ, ◌+◌, ◌≤◌, Option, List, Result, Ok, Err, refl, ap, sym, ◌∙◌, subst, arith}
use Rattle.text_lines.specs.Lines.{line_taken}
use Rattle.transcript.specs.Types.{Said, First, Holds, Progress}
use Rattle.transcript.specs.declared.lines.Line.TheVariants as line
use Rattle.transcript.specs.declared.faults.FaultKind.{FaultKind}
use Rattle.transcript.specs.declared.faults.TextError.{TextError}
use Rattle.transcript.specs.declared.faults.TextError.TheVariants as error
use Rattle.transcript.specs.Judging.{transcripts, lines_read, past, Gives, Takes}
use Rattle.text_lines.proofs.LinesTaken.{taken_back}
use Rattle.transcript.proofs.TextBack.{good_back}

abbrev Answer : Type 0
Answer = Result Progress (ℕ × FaultKind)

past_rounds : (p : Progress) (s : Said) → (past p s).rounds ≤ p.rounds + 1
past_rounds p First = omega arith
past_rounds p (Holds (line.Round number tick)) = omega arith
past_rounds p (Holds (line.Entry e)) = omega arith
past_rounds p (Holds (line.End rest last)) = omega arith

pub rounds_taken : (over : Option ℕ) (n : ℕ) (p q : Progress) (text : List ℕ) → line_taken transcripts over n p text ≡ Ok q → q.rounds ≤ p.rounds + 1
rounds_taken over n p q text e =
    let (s, reads, stands, is) = good_back p q text (taken_back transcripts over n p q text e).1 in
    subst (λ q. q.rounds ≤ p.rounds + 1) is (past_rounds p s)

-- a text that is refused for a line, by the answer of the call
pub refused_whole : (e : TextError) (new : Progress) (v whole : Answer) → ((first : ℕ × FaultKind) → v ≡ Err first → whole ≡ Err first) → Takes (Err e) new v → Gives (Err e) (lines_read whole)
refused_whole error.Memory new v whole same t = tt
refused_whole (error.Refused f) new (Ok p) whole same t = absurd t
refused_whole (error.Refused f) new (Err first) whole same t = ap lines_read (same first refl) ∙ ap Err (sym t)
