-- The slots of a line, and the values that stand in them: docs/TEXTS.md, "Shapes".
use Rattle.std.specs.Prelude.{ℕ, List, [], map, Option, Some, slice_get}
use Rattle.std.specs.Borrow.{Bor}
use Rattle.text_lines.specs.Pieces.{Word}
use Rattle.text_lines.specs.declared.slots.Slot.{Slot as CodeSlot}
use Rattle.text_lines.specs.declared.slots.Slot.TheVariants as code
use Rattle.text_lines.specs.declared.slots.Value.{Value as CodeValue}
use Rattle.text_lines.specs.declared.slots.Value.TheVariants as held
use Rattle.text_lines.specs.declared.slots.Row.{Row as CodeRow}

-- what may stand in one place of a line: this word; any word; a number below 2 ^ 32; a number below 2 ^ 48; 16 hexadecimal digits; a reason list; a reason list or a minus for none; one of these words; a name
pub data Slot : Type 0 where
  word : Word → Slot
  any : Slot
  small : Slot
  large : Slot
  mask : Slot
  reasons : Slot
  pending : Slot
  choice : List Word → Slot
  name : Slot

-- the value of a slot; a slot for one fixed word has none
pub data Value : Type 0 where
  of_small : ℕ → Value
  of_number : ℕ → Value
  of_reasons : ℕ → Value
  of_index : ℕ → Value
  of_text : Word → Value

-- a row of a table: its first word, and the slots behind it
pub record Row : Type 0 where
  pub name : Word
  pub slots : List Slot

-- what the code holds
abbrev pub slot_of : CodeSlot → Slot
slot_of (code.Word w) = word w.now
slot_of code.Any = any
slot_of code.Small = small
slot_of code.Large = large
slot_of code.Mask = mask
slot_of code.Reasons = reasons
slot_of code.Pending = pending
slot_of (code.Choice ws) = choice (map (λ (w : Bor (List ℕ)). w.now) ws.now)
slot_of code.Name = name

abbrev pub slots_of : List CodeSlot → List Slot
slots_of slots = map slot_of slots

abbrev pub row_of : CodeRow → Row
row_of row = record { name = row.name.now; slots = slots_of row.slots.now }

abbrev pub value_of : CodeValue → Value
value_of (held.Small n) = of_small n
value_of (held.Number n) = of_number n
value_of (held.Reasons bits) = of_reasons bits
value_of (held.Index i) = of_index i
value_of (held.Text w) = of_text w.now

abbrev pub values_of : List CodeValue → List Value
values_of vs = map value_of vs

-- what the value at a place holds, and 0 or no byte where there is no such value
abbrev pub in_small : Option Value → ℕ
in_small (Some (of_small n)) = n
in_small o = 0

abbrev pub in_number : Option Value → ℕ
in_number (Some (of_number n)) = n
in_number o = 0

abbrev pub in_reasons : Option Value → ℕ
in_reasons (Some (of_reasons f)) = f
in_reasons o = 0

abbrev pub in_index : Option Value → ℕ
in_index (Some (of_index i)) = i
in_index o = 0

abbrev pub in_text : Option Value → Word
in_text (Some (of_text w)) = w
in_text o = []

abbrev pub small_at : List Value → ℕ → ℕ
small_at vs i = in_small (slice_get vs i)

abbrev pub number_at : List Value → ℕ → ℕ
number_at vs i = in_number (slice_get vs i)

abbrev pub reasons_at : List Value → ℕ → ℕ
reasons_at vs i = in_reasons (slice_get vs i)

abbrev pub index_at : List Value → ℕ → ℕ
index_at vs i = in_index (slice_get vs i)

abbrev pub text_at : List Value → ℕ → Word
text_at vs i = in_text (slice_get vs i)
