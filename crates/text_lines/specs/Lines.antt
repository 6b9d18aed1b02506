-- A text judged line by line, up to its first bad line: docs/TEXTS.md, "Judging".
use Rattle.std.specs.Prelude.{ℕ, ◌+◌, Bool, false, ◌==◌, if◌then◌else◌, nat_le, List, [], ◌∷◌, length, take, count_by, Option, Some, None, Result, Ok, Err}
use Rattle.text_lines.specs.Steps.{is_empty}
use Rattle.text_lines.specs.Pieces.{pieces}

-- how the lines of a format are judged: a line by its number and what was read before it; whether the last line has come; and the kinds of fault where bytes stand behind the last line, where the limit is passed, and where the text ends too early
pub record Format (P K : Type 0) : Type 0 where
  pub judge : ℕ → P → List ℕ → Result P K
  pub has_ended : P → Bool
  pub behind : K
  pub over : K
  pub short : K

-- the line n is the one in which the limit is passed
abbrev pub is_line : Option ℕ → ℕ → Bool
is_line None n = false
is_line (Some m) n = n == m

-- a verdict, with the line's number beside the kind
abbrev pub at_line : {P K : Type 0} → ℕ → Result P K → Result P (ℕ × K)
at_line n (Ok p) = Ok p
at_line n (Err kind) = Err (n, kind)

-- what is read with a whole line, or the line's fault
unfoldable pub line_taken : {P K : Type 0} → Format P K → Option ℕ → ℕ → P → List ℕ → Result P (ℕ × K)
line_taken f over n p line = if f.has_ended p then Err (n, f.behind) else (if is_line over n then Err (n, f.over) else at_line n (f.judge n p line))

-- what the open piece makes of what was read
unfoldable pub closed : {P K : Type 0} → Format P K → Option ℕ → ℕ → P → List ℕ → Result P (ℕ × K)
closed f over n p piece = if f.has_ended p then (if is_empty piece then Ok p else Err (n, f.behind)) else (if is_line over n then Err (n, f.over) else Err (n, f.short))

-- goes on behind a good line
abbrev pub go_on : {P K : Type 0} → Result P (ℕ × K) → (P → Result P (ℕ × K)) → Result P (ℕ × K)
go_on (Ok p) more = more p
go_on (Err first) more = Err first

-- what the lines from number n on make of what was read; the last of them is the open piece
unfoldable pub folded : {P K : Type 0} → Format P K → Option ℕ → ℕ → P → List (List ℕ) → Result P (ℕ × K)
folded f over n p [] = closed f over n p []
folded f over n p (piece ∷ []) = closed f over n p piece
folded f over n p (line ∷ next ∷ more) = go_on (line_taken f over n p line) (λ q. folded f over (n + 1) q (next ∷ more))

-- the line in which the byte behind the first `most` bytes stands
unfoldable pub line_over : ℕ → List ℕ → Option ℕ
line_over most bytes = if nat_le (length bytes) most then None else Some (1 + count_by (λ b. b == 10) (take most bytes))

-- what a text of at most so many bytes makes of what was read before it
abbrev pub read_within : {P K : Type 0} → Format P K → P → ℕ → List ℕ → Result P (ℕ × K)
read_within f start most bytes = folded f (line_over most bytes) 1 start (pieces 10 bytes)

-- the same with no limit on its length
abbrev pub read_whole : {P K : Type 0} → Format P K → P → List ℕ → Result P (ℕ × K)
read_whole f start bytes = folded f None 1 start (pieces 10 bytes)
