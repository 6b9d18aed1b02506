-- What is written of a shape is read as the same values.
use Rattle.std.proofs.Common.{◌≡◌, true, List, [], ◌∷◌, ◌++◌, refl, ap, ◌∙◌, arith}
use Rattle.std.specs.Prelude.{Some, option_map}
use Rattle.std.specs.List.{list_all}
use Rattle.std.proofs.lemmas.Bool.{and_parts}
use Rattle.text_lines.specs.Steps.{only_if}
use Rattle.text_lines.specs.Pieces.{Word}
use Rattle.text_lines.specs.Slots.{Slot, Value, of_small, of_number, of_reasons, of_index, of_text}
use Rattle.text_lines.specs.Slots as slot
use Rattle.text_lines.specs.Shapes.{taken, alone, led_by, front, spelled_in, behind, words, FitsIn, Fits, is_sound_slot}
use Rattle.text_lines.proofs.NumbersAgain.{number_again}
use Rattle.text_lines.proofs.HexAgain.{hex_again}
use Rattle.text_lines.proofs.ReasonsAgain.{reasons_again, pending_again}
use Rattle.text_lines.proofs.Places.{same_bytes, place_again}

-- the value of the slot itself
pub firsts : Slot → List Value → List Value
firsts (slot.word w) vs = []
firsts s [] = []
firsts s (v ∷ vs) = v ∷ []

firsts_behind : (s : Slot) (vs : List Value) → firsts s vs ++ behind s vs ≡ vs
unfolding firsts
firsts_behind (slot.word w) vs = refl
firsts_behind s [] = refl
firsts_behind s (v ∷ vs) = refl

taken_again : (s : Slot) (vs : List Value) → is_sound_slot s ≡ true → FitsIn s vs → taken s (spelled_in s vs) ≡ Some (firsts s vs)
unfolding firsts
taken_again (slot.word w) vs sound fits = ap (λ b. only_if b []) (same_bytes w)
taken_again slot.any (of_text w ∷ vs) sound fits = refl
taken_again slot.small (of_small n ∷ vs) sound fits = ap (λ o. alone (option_map of_small o)) (number_again 4294967295 n (omega arith) (omega arith))
taken_again slot.large (of_number n ∷ vs) sound fits = ap (λ o. alone (option_map of_number o)) (number_again 281474976710655 n (omega arith) (omega arith))
taken_again slot.mask (of_number n ∷ vs) sound fits = ap (λ o. alone (option_map of_number o)) (hex_again n fits)
taken_again slot.reasons (of_reasons f ∷ vs) sound fits = ap (λ o. alone (option_map of_reasons o)) (reasons_again f fits.0 fits.1)
taken_again slot.pending (of_reasons f ∷ vs) sound fits = ap (λ o. alone (option_map of_reasons o)) (pending_again f fits)
taken_again (slot.choice ws) (of_index i ∷ vs) sound fits = ap (λ o. alone (option_map of_index o)) (place_again ws i sound fits)
taken_again slot.name (of_text w ∷ vs) sound fits = ap (λ b. alone (only_if b (of_text w))) fits
taken_again s vs sound fits = absurd (assumption fits)

pub front_again : (ss : List Slot) (vs : List Value) (ws : List Word) → list_all is_sound_slot ss ≡ true → Fits ss vs → front ss (words ss vs ++ ws) ≡ Some (vs, ws)
unfolding front words
front_again [] [] ws sound fits = refl
front_again [] (v ∷ vs) ws sound fits = absurd fits
front_again (s ∷ ss) vs ws sound fits =
    let p = and_parts _ _ sound in
    ap (λ o. led_by o (front ss (words ss (behind s vs) ++ ws))) (taken_again s vs p.0 fits.0) ∙ ap (led_by (Some (firsts s vs))) (front_again ss (behind s vs) ws p.1 fits.1) ∙ ap (λ x. Some (x, ws)) (firsts_behind s vs)
