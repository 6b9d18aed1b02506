-- How words are read by the slots of a shape, and how the values of slots are written: docs/TEXTS.md, "Shapes".
use Rattle.std.specs.Prelude.{◌≡◌, ℕ, ◌+◌, ◌<◌, ◌^◌, Bool, true, false, not, ◌&&◌, List, [], ◌∷◌, ◌++◌, length, decimal, Option, Some, None, option_map, find, slice_index_or}
use Rattle.std.specs.List.{list_all}
use Rattle.std.specs.Str.{bytes_eq}
use Rattle.text_lines.specs.declared.shapes.Found.{Found}
use Rattle.text_lines.specs.declared.shapes.Found.TheVariants as found
use Rattle.text_lines.specs.Steps.{◌>>=◌, only_if, is_empty}
use Rattle.text_lines.specs.Pieces.{Word}
use Rattle.text_lines.specs.Numbers.{number}
use Rattle.text_lines.specs.Masks.{hex, hex_word}
use Rattle.text_lines.specs.Reasons as words_of
use Rattle.text_lines.specs.Names.{is_name, place_in, plain}
use Rattle.text_lines.specs.Slots.{Slot, Value, Row, value_of, of_small, of_number, of_reasons, of_index, of_text, small_at, number_at, reasons_at, index_at, text_at}
use Rattle.text_lines.specs.Slots as slot

-- the value of a word in a slot that has one
abbrev pub value_in : Slot → Word → Option Value
value_in (slot.word s) w = None
value_in slot.any w = Some (of_text w)
value_in slot.small w = option_map of_small (number 4294967295 w)
value_in slot.large w = option_map of_number (number 281474976710655 w)
value_in slot.mask w = option_map of_number (hex w)
value_in slot.reasons w = option_map of_reasons (words_of.reasons w)
value_in slot.pending w = option_map of_reasons (words_of.pending w)
value_in (slot.choice ws) w = option_map of_index (place_in ws w)
value_in slot.name w = only_if (is_name w) (of_text w)

-- the one value, as a list
abbrev pub alone : Option Value → Option (List Value)
alone None = None
alone (Some v) = Some (v ∷ [])

-- the values of a word in a slot: one, or none for the fixed word
abbrev pub taken : Slot → Word → Option (List Value)
taken (slot.word s) w = only_if (bytes_eq s w) []
taken s w = alone (value_in s w)

-- what the code found of a word in a slot
abbrev pub taken_view : Found → Option (List Value)
taken_view found.Refused = None
taken_view found.Fixed = Some []
taken_view (found.Holds v) = Some (value_of v ∷ [])

-- how many values the slots have
abbrev pub value_count : List Slot → ℕ
value_count [] = 0
value_count (slot.word w ∷ ss) = value_count ss
value_count (s ∷ ss) = value_count ss + 1

-- values, and the words behind theirs
abbrev pub Front : Type 0
Front = List Value × List Word

-- these values in front
abbrev pub led_by : Option (List Value) → Option Front → Option Front
led_by None r = None
led_by (Some vs) None = None
led_by (Some vs) (Some r) = Some (vs ++ r.0, r.1)

-- the values of the words in front, slot by slot
unfoldable pub front : List Slot → List Word → Option Front
front [] ws = Some ([], ws)
front (s ∷ ss) [] = None
front (s ∷ ss) (w ∷ ws) = led_by (taken s w) (front ss ws)

-- the values of the words, where no word is left
unfoldable pub whole : List Slot → List Word → Option (List Value)
whole ss ws = front ss ws >>= λ r. only_if (is_empty r.1) r.0

-- the word that is written in a slot, of which the value stands first
abbrev pub spelled_in : Slot → List Value → Word
spelled_in (slot.word w) vs = w
spelled_in slot.any vs = text_at vs 0
spelled_in slot.small vs = decimal (small_at vs 0)
spelled_in slot.large vs = decimal (number_at vs 0)
spelled_in slot.mask vs = hex_word 16 (number_at vs 0)
spelled_in slot.reasons vs = words_of.reasons_word (reasons_at vs 0)
spelled_in slot.pending vs = words_of.pending_word (reasons_at vs 0)
spelled_in (slot.choice ws) vs = slice_index_or ws (index_at vs 0) []
spelled_in slot.name vs = text_at vs 0

-- the values of the slots behind a slot
abbrev pub behind : Slot → List Value → List Value
behind (slot.word w) vs = vs
behind s [] = []
behind s (v ∷ vs) = vs

-- the words of a shape
unfoldable pub words : List Slot → List Value → List Word
words [] vs = []
words (s ∷ ss) vs = spelled_in s vs ∷ words ss (behind s vs)

-- the first value fits the slot
abbrev pub FitsIn : Slot → List Value → Type 0
FitsIn (slot.word w) vs = Unit {0}
FitsIn slot.any (of_text w ∷ vs) = Unit {0}
FitsIn slot.small (of_small n ∷ vs) = n < 2 ^ 32
FitsIn slot.large (of_number n ∷ vs) = n < 2 ^ 48
FitsIn slot.mask (of_number n ∷ vs) = n < 2 ^ 64
FitsIn slot.reasons (of_reasons f ∷ vs) = (0 < f) × (f < 128)
FitsIn slot.pending (of_reasons f ∷ vs) = f < 128
FitsIn (slot.choice ws) (of_index i ∷ vs) = i < length ws
FitsIn slot.name (of_text w ∷ vs) = is_name w ≡ true
FitsIn s vs = ⊥

-- the values are those of the slots
abbrev pub Fits : List Slot → List Value → Type 0
Fits [] [] = Unit {0}
Fits [] (v ∷ vs) = ⊥
Fits (s ∷ ss) vs = FitsIn s vs × Fits ss (behind s vs)

-- no two of these words are the same
abbrev pub all_differ : List Word → Bool
all_differ [] = true
all_differ (w ∷ ws) = list_all (λ c. not (bytes_eq w c)) ws && all_differ ws

-- whether the words of a slot are told apart
abbrev pub is_sound_slot : Slot → Bool
is_sound_slot (slot.choice ws) = all_differ ws
is_sound_slot s = true

-- whether no word of a slot has a space or a byte below it
abbrev pub is_plain_slot : Slot → Bool
is_plain_slot (slot.word w) = plain w
is_plain_slot (slot.choice ws) = list_all plain ws
is_plain_slot slot.any = false
is_plain_slot s = true

-- the kind whose row has this name
abbrev pub kind_named : {K : Type 0} → (K → Row) → List K → Word → Option K
kind_named row kinds w = find (λ k. bytes_eq (row k).name w) kinds

-- a part of a line: the kind of its row, its values, and the words behind it
pub record Part (K : Type 0) : Type 0 where
  pub kind : K
  pub values : List Value
  pub rest : List Word

abbrev pub part_of : {K : Type 0} → K → List Value → List Word → Part K
part_of k vs ws = record { kind = k; values = vs; rest = ws }

-- the part of this kind
abbrev pub of_kind : {K : Type 0} → K → Option Front → Option (Part K)
of_kind k None = None
of_kind k (Some r) = Some (part_of k r.0 r.1)

-- the part that stands first, by the table of the kinds
unfoldable pub part_at : {K : Type 0} → (K → Row) → List K → List Word → Option (Part K)
part_at row kinds [] = None
part_at row kinds (w ∷ ws) = kind_named row kinds w >>= λ k. of_kind k (front (row k).slots ws)

-- the words of a row
abbrev pub row_words : Row → List Value → List Word
row_words row vs = row.name ∷ words row.slots vs
