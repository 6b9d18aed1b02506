-- A text in pieces: docs/TEXTS.md, "Lines and words".
use Rattle.std.specs.Prelude.{ℕ, List, [], ◌∷◌, Option, Some, None, ◌==◌}
use Rattle.std.specs.Borrow.{Bor}
use Rattle.std.specs.List.{slice_split}
use Rattle.text_lines.specs.declared.cursor.Words.{Words}

-- a word, as its bytes
abbrev pub Word : Type 0
Word = List ℕ

-- the pieces of a text between the bytes `at`
abbrev pub pieces : ℕ → List ℕ → List (List ℕ)
pieces at bytes = slice_split (λ b. b == at) bytes

-- the pieces of what is left of a text, if anything is
abbrev pub pieces_left : ℕ → Option (Bor (List ℕ)) → List (List ℕ)
pieces_left at None = []
pieces_left at (Some rest) = pieces at rest.now

-- the words that are not yet read
abbrev pub words_in : Words → List Word
words_in words = pieces_left 32 words.rest

-- the first word, and the words behind it
unfoldable pub word_at : List Word → Option (Word × List Word)
word_at [] = None
word_at (w ∷ ws) = Some (w, ws)

-- a word that was read, and the words behind it
abbrev pub word_and_rest : Bor (List ℕ) × Words → Word × List Word
word_and_rest found = (found.0.now, words_in found.1)
