-- What holds before each line of a text.
use Rattle.std.proofs.Common.{◌≡◌, ℕ, ◌+◌, ◌≤◌, ◌<◌, List, [], ◌∷◌, length, refl, ap, sym, ◌∙◌, arith}
use Rattle.std.specs.Prelude.{Option, Result, Ok, Err}
use Rattle.step_tables.specs.declared.faults.FaultKind.{FaultKind}
use Rattle.step_tables.specs.declared.progress.Progress.{Progress}
use Rattle.step_tables.specs.declared.faults.ScriptError.{ScriptError}
use Rattle.step_tables.specs.declared.faults.ScriptError.TheVariants.{Refused, Memory}
use Rattle.step_tables.specs.Views.{Takes, Gives}
use Rattle.step_tables.specs.Words.{pieces}
use Rattle.step_tables.specs.Judging.{scripts, script_read}
use Rattle.text_lines.specs.Lines.{line_taken, closed, folded}
use Rattle.text_lines.proofs.LinesRead.{read_closed, read_taken, read_refused}

-- so many lines were read of bytes, and the others decide
pub record Before (over : Option ℕ) (bytes rest : List ℕ) (n : ℕ) (p : Progress) (whole : Result Progress (ℕ × FaultKind)) : Type 0 where
  pub first : 1 ≤ n
  pub counted : n + length rest ≤ length bytes + 1
  pub same : folded scripts over n p (pieces 10 rest) ≡ whole

-- one line more
pub before_next : (over : Option ℕ) (bytes rest line more : List ℕ) (n : ℕ) (p q : Progress) (whole : Result Progress (ℕ × FaultKind))
    → pieces 10 rest ≡ line ∷ pieces 10 more → length more < length rest → line_taken scripts over n p line ≡ Ok q
    → Before over bytes rest n p whole → Before over bytes more (n + 1) q whole
before_next over bytes rest line more n p q whole cut less taken before =
    let counted : n + length rest ≤ length bytes + 1 = before.counted in
    record { first = omega arith; counted = omega arith; same = sym (read_taken scripts over n p q (pieces 10 rest) line more cut taken) ∙ before.same }

-- the open piece
pub before_end : (over : Option ℕ) (bytes rest line : List ℕ) (n : ℕ) (p : Progress) (whole : Result Progress (ℕ × FaultKind))
    → pieces 10 rest ≡ line ∷ [] → Before over bytes rest n p whole → closed scripts over n p line ≡ whole
before_end over bytes rest line n p whole cut before = sym (read_closed scripts over n p (pieces 10 rest) line cut) ∙ before.same

-- the fault of a line is that of the text
pub gives_fault : (over : Option ℕ) (bytes rest line more : List ℕ) (n : ℕ) (p q : Progress) (e : ScriptError) (whole : Result Progress (ℕ × FaultKind))
    → pieces 10 rest ≡ line ∷ pieces 10 more → Takes (Err e) q (line_taken scripts over n p line)
    → Before over bytes rest n p whole → Gives (Err e) (script_read whole)
gives_fault over bytes rest line more n p q e whole cut takes before =
    go e (line_taken scripts over n p line) (λ first t. sym before.same ∙ read_refused scripts over n p first (pieces 10 rest) line more cut t) takes
  where
    go : (e : ScriptError) (v : Result Progress (ℕ × FaultKind)) → ((first : ℕ × FaultKind) → v ≡ Err first → whole ≡ Err first) → Takes (Err e) q v → Gives (Err e) (script_read whole)
    go Memory v same t = tt
    go (Refused f) (Ok p) same t = absurd t
    go (Refused f) (Err first) same t = ap script_read (same first refl) ∙ ap Err (sym t)
