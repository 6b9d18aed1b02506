-- An input: a script with a transcript behind it (docs/MODEL.md, "Replay").
use Rattle.std.specs.Prelude.{ℕ, ◌+◌, List, [], ◌∷◌, length, take, drop, codes, bytes_eq, if◌then◌else◌}
use Rattle.text_lines.specs.Pieces.{pieces}

-- how many bytes the pieces of a text have through the first complete line that is exactly `end`; all where there is none
unfoldable pub through_end : List (List ℕ) → ℕ
through_end [] = 0
through_end (piece ∷ []) = length piece
through_end (line ∷ next ∷ more) = length line + 1 + (if bytes_eq line (codes "end") then 0 else through_end (next ∷ more))

abbrev pub script_length : List ℕ → ℕ
script_length bytes = through_end (pieces 10 bytes)

-- the script and the transcript of an input, as their bytes
abbrev pub script_part : List ℕ → List ℕ
script_part bytes = take (script_length bytes) bytes

abbrev pub transcript_part : List ℕ → List ℕ
transcript_part bytes = drop (script_length bytes) bytes
