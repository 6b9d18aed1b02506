-- Reason lists: docs/TEXTS.md, "Words".
use Rattle.std.specs.Prelude.{◌≡◌, ℕ, ◌+◌, ◌*◌, ◌/◌, ◌%◌, Bool, true, false, ◌==◌, if◌then◌else◌, List, [], ◌∷◌, codes, Option, Some, None}
use Rattle.std.specs.List.{join_with_byte}
use Rattle.std.specs.Str.{bytes_eq}
use Rattle.text_lines.specs.Steps.{◌>>=◌}
use Rattle.text_lines.specs.Pieces.{pieces}

-- the names of the reasons, from bit 0 on
abbrev pub reason_names : List (List ℕ)
reason_names = codes "init" ∷ codes "timer" ∷ codes "io" ∷ codes "signal" ∷ codes "msg" ∷ codes "res" ∷ codes "other" ∷ []

-- the names whose bits are set, the first name for bit 0
abbrev pub chosen : ℕ → List (List ℕ) → List (List ℕ)
chosen bits [] = []
chosen bits (name ∷ names) = if bits % 2 == 1 then name ∷ chosen (bits / 2) names else chosen (bits / 2) names

-- the reasons in their order, joined by commas
unfoldable pub reasons_word : ℕ → List ℕ
reasons_word bits = join_with_byte 44 (chosen bits reason_names)

-- reasons that are pending: a minus where there is none
abbrev pub pending_word : ℕ → List ℕ
pending_word bits = if bits == 0 then codes "-" else reasons_word bits

-- the bits of words that are some of the names, in the order of the names
abbrev pub bits_in : List (List ℕ) → List (List ℕ) → Option ℕ
bits_in [] [] = Some 0
bits_in [] (w ∷ ws) = None
bits_in (name ∷ names) [] = Some 0
bits_in (name ∷ names) (w ∷ ws) = elim (bytes_eq name w) [ true ↦ bits_in names ws >>= (λ n. Some (1 + 2 * n)) | false ↦ bits_in names (w ∷ ws) >>= (λ n. Some (2 * n)) ]

-- one reason or more, in their order and parted by commas
unfoldable pub reasons : List ℕ → Option ℕ
reasons w = bits_in reason_names (pieces 44 w)

-- reasons that are pending, or a minus for none
abbrev pub pending : List ℕ → Option ℕ
pending w = if bytes_eq (codes "-") w then Some 0 else reasons w

-- whether the first word is the name
abbrev pub begins_with : List ℕ → List (List ℕ) → Bool
begins_with name [] = false
begins_with name (w ∷ ws) = bytes_eq name w

-- the name is taken off where it is the first word
abbrev pub TakesName : List ℕ → List (List ℕ) → Bool → List (List ℕ) → Type 0
TakesName name before true after = before ≡ name ∷ after
TakesName name before false after = (after ≡ before) × (begins_with name before ≡ false)
