-- A shape that is read slot by slot.
use Rattle.std.proofs.Common.{◌≡◌, ℕ, ◌+◌, ◌<◌, ◌≤◌, Bool, true, false, List, [], ◌∷◌, ◌++◌, length, drop, get_or, refl, ap, sym, ◌∙◌, arith, append_assoc, append-nil}
use Rattle.std.specs.Prelude.{Option, Some, None, bytes_eq}
use Rattle.std.proofs.lemmas.List.{drop_more, drop_all, map-append}
use Rattle.text_lines.specs.declared.slots.Slot.{Slot as CodeSlot}
use Rattle.text_lines.specs.declared.slots.Slot.TheVariants as code
use Rattle.text_lines.specs.declared.slots.Value.{Value as CodeValue}
use Rattle.text_lines.specs.Steps.{only_if}
use Rattle.std.proofs.lemmas.Option.{none-some}
use Rattle.text_lines.specs.Pieces.{Word, word_at}
use Rattle.text_lines.specs.Slots.{Slot, Value, slot_of, slots_of, value_of, values_of}
use Rattle.text_lines.specs.Slots as slot
use Rattle.text_lines.specs.Shapes.{Front, value_count, taken, led_by, front}

-- the words, of which the first was read
pub word_there : (ws : List Word) (x : Word × List Word) → word_at ws ≡ Some x → ws ≡ x.0 ∷ x.1
unfolding word_at
word_there [] x e = absurd (none-some x e)
word_there (w ∷ ws) x e = cc

pub no_word : (ws : List Word) → word_at ws ≡ None → ws ≡ []
unfolding word_at
no_word [] e = refl
no_word (w ∷ ws) e = absurd (none-some (w, ws) (sym e))

pub led_twice : (xs ys : List Value) (r : Option Front) → led_by (Some xs) (led_by (Some ys) r) ≡ led_by (Some (xs ++ ys)) r
led_twice xs ys None = refl
led_twice xs ys (Some r) = ap (λ vs. Some (vs, r.1)) (sym (append_assoc xs ys r.0))

-- one slot more
pub front_more : (xs vs : List Value) (s : Slot) (ss : List Slot) (w : Word) (ws : List Word) → taken s w ≡ Some vs → led_by (Some (xs ++ vs)) (front ss ws) ≡ led_by (Some xs) (front (s ∷ ss) (w ∷ ws))
unfolding front
front_more xs vs s ss w ws e = sym (ap (λ o. led_by (Some xs) (led_by o (front ss ws))) e ∙ led_twice xs vs (front ss ws))

-- a word that may not stand in its slot
pub front_other : (xs : List Value) (s : Slot) (ss : List Slot) (w : Word) (ws : List Word) → taken s w ≡ None → led_by (Some xs) (front (s ∷ ss) (w ∷ ws)) ≡ None
unfolding front
front_other xs s ss w ws e = ap (λ o. led_by (Some xs) (led_by o (front ss ws))) e

-- too few words
pub front_short : (xs : List Value) (s : Slot) (ss : List Slot) → led_by (Some xs) (front (s ∷ ss) []) ≡ None
unfolding front
front_short xs s ss = refl

-- all slots are read
pub front_all : (xs : List Value) (ws : List Word) → led_by (Some xs) (front [] ws) ≡ Some (xs ++ [], ws)
unfolding front
front_all xs ws = refl

-- the slots from a place on, in the loop of the code
abbrev pub slots_from : List CodeSlot → ℕ → List Slot
slots_from slots i = slots_of (drop i slots)

slots_there : (slots : List CodeSlot) (i : ℕ) (d : CodeSlot) → i < length slots → slots_from slots i ≡ slot_of (get_or slots i d) ∷ slots_from slots (i + 1)
slots_there slots i d below = ap slots_of (drop_more slots i d below)

slots_none : (slots : List CodeSlot) (i : ℕ) → length slots ≤ i → slots_from slots i ≡ []
slots_none slots i past = ap slots_of (drop_all i slots past)

-- a slot whose word was taken
pub slot_taken : (slots : List CodeSlot) (i : ℕ) (d : CodeSlot) (xs vs : List Value) (ws : List Word) (x : Word × List Word) (whole : Option Front) → i < length slots → Some x ≡ word_at ws → Some vs ≡ taken (slot_of (get_or slots i d)) x.0 → led_by (Some xs) (front (slots_from slots i) ws) ≡ whole → led_by (Some (xs ++ vs)) (front (slots_from slots (i + 1)) x.1) ≡ whole
slot_taken slots i d xs vs ws x whole below word e so_far =
    front_more xs vs (slot_of (get_or slots i d)) (slots_from slots (i + 1)) x.0 x.1 (sym e)
    ∙ sym (ap (λ ss. led_by (Some xs) (front ss (x.0 ∷ x.1))) (slots_there slots i d below))
    ∙ ap (λ vs. led_by (Some xs) (front (slots_from slots i) vs)) (sym (word_there ws x (sym word)))
    ∙ so_far

-- a slot whose word was refused
pub slot_refused : (slots : List CodeSlot) (i : ℕ) (d : CodeSlot) (xs : List Value) (ws : List Word) (x : Word × List Word) (whole : Option Front) → i < length slots → Some x ≡ word_at ws → None ≡ taken (slot_of (get_or slots i d)) x.0 → led_by (Some xs) (front (slots_from slots i) ws) ≡ whole → None ≡ whole
slot_refused slots i d xs ws x whole below word e so_far =
    sym (front_other xs (slot_of (get_or slots i d)) (slots_from slots (i + 1)) x.0 x.1 (sym e))
    ∙ sym (ap (λ ss. led_by (Some xs) (front ss (x.0 ∷ x.1))) (slots_there slots i d below))
    ∙ ap (λ vs. led_by (Some xs) (front (slots_from slots i) vs)) (sym (word_there ws x (sym word)))
    ∙ so_far

-- a slot for which there is no word
pub slot_short : (slots : List CodeSlot) (i : ℕ) (xs : List Value) (ws : List Word) (whole : Option Front) → i < length slots → None ≡ word_at ws → led_by (Some xs) (front (slots_from slots i) ws) ≡ whole → None ≡ whole
slot_short slots i xs ws whole below word so_far =
    sym (front_short xs (slot_of (get_or slots i code.Any)) (slots_from slots (i + 1)))
    ∙ sym (ap (λ ss. led_by (Some xs) (front ss [])) (slots_there slots i code.Any below))
    ∙ ap (λ vs. led_by (Some xs) (front (slots_from slots i) vs)) (sym (no_word ws (sym word)))
    ∙ so_far

-- no slot is left
pub slots_done : (slots : List CodeSlot) (i : ℕ) (xs : List Value) (ws : List Word) (whole : Option Front) → length slots ≤ i → led_by (Some xs) (front (slots_from slots i) ws) ≡ whole → Some (xs, ws) ≡ whole
slots_done slots i xs ws whole past so_far =
    ap (λ vs. Some (vs, ws)) (sym (append-nil xs))
    ∙ sym (front_all xs ws)
    ∙ sym (ap (λ ss. led_by (Some xs) (front ss ws)) (slots_none slots i past))
    ∙ so_far

count_one : (s : Slot) (ss : List Slot) (w : Word) (v : Value) → Some (v ∷ []) ≡ taken s w → value_count (s ∷ ss) ≡ value_count ss + 1
count_one (slot.word t) ss w v e = absurd (no (bytes_eq t w) e) where
  no : (b : Bool) → Some (v ∷ []) ≡ only_if b [] → ⊥
  no true e = cc
  no false e = cc
count_one s ss w v e = refl

count_less : (s : Slot) (ss : List Slot) → value_count ss ≤ value_count (s ∷ ss)
count_less (slot.word t) ss = omega arith
count_less s ss = omega arith

-- there is room for one value more
pub room_for_one : (slots : List CodeSlot) (i : ℕ) (d : CodeSlot) (w : Word) (v : Value) (n : ℕ) → i < length slots → Some (v ∷ []) ≡ taken (slot_of (get_or slots i d)) w → n + value_count (slots_from slots i) ≤ 4 → n + 1 + value_count (slots_from slots (i + 1)) ≤ 4
room_for_one slots i d w v n below e room =
    let there = ap value_count (slots_there slots i d below) in
    let one = count_one (slot_of (get_or slots i d)) (slots_from slots (i + 1)) w v e in
    omega arith

pub room_still : (slots : List CodeSlot) (i n : ℕ) → i < length slots → n + value_count (slots_from slots i) ≤ 4 → n + value_count (slots_from slots (i + 1)) ≤ 4
room_still slots i n below room =
    let there = ap value_count (slots_there slots i code.Any below) in
    let less = count_less (slot_of (get_or slots i code.Any)) (slots_from slots (i + 1)) in
    omega arith

-- a fixed word stands where it should
pub slot_fixed : (slots : List CodeSlot) (i : ℕ) (d : CodeSlot) (xs : List Value) (ws : List Word) (x : Word × List Word) (whole : Option Front) → i < length slots → Some x ≡ word_at ws → Some [] ≡ taken (slot_of (get_or slots i d)) x.0 → led_by (Some xs) (front (slots_from slots i) ws) ≡ whole → led_by (Some xs) (front (slots_from slots (i + 1)) x.1) ≡ whole
slot_fixed slots i d xs ws x whole below word e so_far =
    ap (λ vs. led_by (Some vs) (front (slots_from slots (i + 1)) x.1)) (sym (append-nil xs)) ∙ slot_taken slots i d xs [] ws x whole below word e so_far

-- a value is put behind the others
pub slot_held : (slots : List CodeSlot) (i : ℕ) (d : CodeSlot) (items new : List CodeValue) (v : CodeValue) (ws : List Word) (x : Word × List Word) (whole : Option Front) → i < length slots → Some x ≡ word_at ws → Some (value_of v ∷ []) ≡ taken (slot_of (get_or slots i d)) x.0 → new ≡ items ++ v ∷ [] → led_by (Some (values_of items)) (front (slots_from slots i) ws) ≡ whole → led_by (Some (values_of new)) (front (slots_from slots (i + 1)) x.1) ≡ whole
slot_held slots i d items new v ws x whole below word e put so_far =
    ap (λ vs. led_by (Some vs) (front (slots_from slots (i + 1)) x.1)) (ap values_of put ∙ map-append value_of items (v ∷ [])) ∙ slot_taken slots i d (values_of items) (value_of v ∷ []) ws x whole below word e so_far
