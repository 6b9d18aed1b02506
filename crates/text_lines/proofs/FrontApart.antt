-- A shape is not read where words of another stand that has another fixed word at a place.
use Rattle.std.proofs.Common.{◌≡◌, Bool, true, false, true≢false, List, [], ◌∷◌, ◌++◌, refl, ap, sym, ◌∙◌}
use Rattle.std.specs.Prelude.{Option, Some, None, bytes_eq, not, ◌||◌}
use Rattle.text_lines.specs.Steps.{only_if}
use Rattle.text_lines.specs.Pieces.{Word}
use Rattle.text_lines.specs.Slots.{Slot, Value}
use Rattle.text_lines.specs.Slots as slot
use Rattle.text_lines.specs.Shapes.{taken, led_by, front, spelled_in, behind, words}

-- whether two shapes have other fixed words at a place
abbrev pub apart : List Slot → List Slot → Bool
apart (slot.word a ∷ ss) (slot.word b ∷ ts) = not (bytes_eq a b) || apart ss ts
apart (s ∷ ss) (t ∷ ts) = apart ss ts
apart ss ts = false

led_none : (o : Option (List Value)) → led_by o None ≡ None
led_none None = refl
led_none (Some vs) = refl

pub front_apart : (ss ts : List Slot) (vs : List Value) (ws : List Word) → apart ss ts ≡ true → front ss (words ts vs ++ ws) ≡ None
unfolding front words
front_apart [] ts vs ws e = absurd (true≢false (sym e))
front_apart (slot.word a ∷ ss) [] vs ws e = absurd (true≢false (sym e))
front_apart (s ∷ ss) [] vs ws e = absurd (true≢false (sym e))
front_apart (slot.word a ∷ ss) (slot.word b ∷ ts) vs ws e = go (bytes_eq a b) e (λ more. front_apart ss ts vs ws more) where
  go : (b : Bool) → (not b || apart ss ts) ≡ true → (apart ss ts ≡ true → front ss (words ts vs ++ ws) ≡ None) → led_by (only_if b []) (front ss (words ts vs ++ ws)) ≡ None
  go true e more = ap (led_by (Some [])) (more e)
  go false e more = refl
front_apart (s ∷ ss) (t ∷ ts) vs ws e = ap (led_by (taken s (spelled_in t vs))) (front_apart ss ts (behind t vs) ws e) ∙ led_none (taken s (spelled_in t vs))
