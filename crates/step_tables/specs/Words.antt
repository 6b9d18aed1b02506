-- The words of scripts: docs/SCRIPT.md, "Bytes, words and numbers". What other texts have too is that of text_lines.
use Prim.Native.String.{String}
use Rattle.std.specs.Prelude.{ℕ, ℤ, Bool, not, ◌&&◌, List, Option, codes, bytes_eq, nat_lt}
use Rattle.std.specs.List.{list_all, list_any}
use Rattle.text_lines.specs.Numbers.{number, signed}
pub use Rattle.text_lines.specs.Steps.{◌>>=◌, ◌or_else◌, only_if, is_empty}
pub use Rattle.text_lines.specs.Pieces.{Word, pieces}
unfoldable pub use Rattle.text_lines.specs.Names.{is_name}
pub use Rattle.text_lines.specs.Names.{is_name_byte}

-- whether the word is spelled so
infix 40 ◌is◌
abbrev pub ◌is◌ : Word → String → Bool
w is s = bytes_eq w (codes s)

-- the words of a line; none where a space stands at an end or beside another, or a byte is not ASCII
unfoldable pub words_of : List ℕ → Option (List Word)
words_of line = only_if (list_all (λ b. nat_lt b 128) line && not (list_any is_empty (pieces 32 line))) (pieces 32 line)

-- the number that a word of at most ten digits writes
abbrev pub number_of : Word → Option ℕ
number_of w = number 9999999999 w

-- a number, or a number other than 0 behind a minus sign
abbrev pub signed_of : Word → Option ℤ
signed_of w = signed 9999999999 w
