-- What is read by a shape is written as the same words.
use Rattle.std.proofs.Common.{◌≡◌, List, [], ◌∷◌, ◌++◌, refl, ap, sym, ◌∙◌, true, arith, subst, append-nil}
use Rattle.std.specs.Prelude.{Option, Some, None, bytes_eq}
use Rattle.std.specs.Cmp.Lexicographic.{same_text}
use Rattle.std.proofs.lemmas.Option.{none-some}
use Rattle.text_lines.specs.Steps.{is_empty}
use Rattle.text_lines.specs.Pieces.{Word}
use Rattle.text_lines.specs.Numbers.{number}
use Rattle.text_lines.specs.Slots.{Slot, Value, of_small, of_number, of_reasons, of_index, of_text}
use Rattle.text_lines.specs.Slots as slot
use Rattle.text_lines.specs.Shapes.{Front, value_in, taken, alone, led_by, front, whole, spelled_in, behind, words, FitsIn, Fits}
use Rattle.text_lines.proofs.Steps.{some_same, bind_some, map_some, only_some}
use Rattle.text_lines.proofs.NumbersAgain.{number_back}
use Rattle.text_lines.proofs.HexAgain.{hex_back}
use Rattle.text_lines.proofs.ReasonsAgain.{reasons_back, pending_back}
use Rattle.text_lines.proofs.Places.{place_back}

-- the word is the one that is written of the values
abbrev SlotBack : Slot → Word → List Value → List Value → Type 0
SlotBack s w more vs = (w ≡ spelled_in s (vs ++ more)) × FitsIn s (vs ++ more) × (behind s (vs ++ more) ≡ more)

alone_some : (o : Option Value) (vs : List Value) → alone o ≡ Some vs → (v : Value) × (o ≡ Some v) × (v ∷ [] ≡ vs)
alone_some None vs e = absurd (none-some vs e)
alone_some (Some v) vs e = (v, refl, some_same e)

value_back : (s : Slot) (w : Word) (more : List Value) (v : Value) → value_in s w ≡ Some v → SlotBack s w more (v ∷ [])
value_back (slot.word t) w more v e = absurd (none-some v e)
value_back slot.any w more v e = subst (λ v. SlotBack slot.any w more (v ∷ [])) (some_same e) (refl, tt, refl)
value_back slot.small w more v e =
    let m = map_some of_small (number 4294967295 w) v e in
    let b = number_back 4294967295 m.0 w (omega arith) m.1 in
    subst (λ v. SlotBack slot.small w more (v ∷ [])) m.2 (b.0, omega (arith, b.1), refl)
value_back slot.large w more v e =
    let m = map_some of_number (number 281474976710655 w) v e in
    let b = number_back 281474976710655 m.0 w (omega arith) m.1 in
    subst (λ v. SlotBack slot.large w more (v ∷ [])) m.2 (b.0, omega (arith, b.1), refl)
value_back slot.mask w more v e =
    let m = map_some of_number _ v e in
    let b = hex_back w m.0 m.1 in
    subst (λ v. SlotBack slot.mask w more (v ∷ [])) m.2 (b.0, b.1, refl)
value_back slot.reasons w more v e =
    let m = map_some of_reasons _ v e in
    let b = reasons_back w m.0 m.1 in
    subst (λ v. SlotBack slot.reasons w more (v ∷ [])) m.2 (b.0, (b.1, b.2), refl)
value_back slot.pending w more v e =
    let m = map_some of_reasons _ v e in
    let b = pending_back w m.0 m.1 in
    subst (λ v. SlotBack slot.pending w more (v ∷ [])) m.2 (b.0, b.1, refl)
value_back (slot.choice ws) w more v e =
    let m = map_some of_index _ v e in
    let b = place_back ws m.0 w m.1 in
    subst (λ v. SlotBack (slot.choice ws) w more (v ∷ [])) m.2 (b.1, b.0, refl)
value_back slot.name w more v e =
    let m = only_some _ (of_text w) v e in
    subst (λ v. SlotBack slot.name w more (v ∷ [])) m.1 (refl, m.0, refl)

one_back : (s : Slot) (w : Word) (more vs : List Value) → alone (value_in s w) ≡ Some vs → SlotBack s w more vs
one_back s w more vs e =
    let a = alone_some (value_in s w) vs e in
    subst (SlotBack s w more) a.2 (value_back s w more a.0 a.1)

taken_back : (s : Slot) (w : Word) (more vs : List Value) → taken s w ≡ Some vs → SlotBack s w more vs
taken_back (slot.word t) w more vs e =
    let m = only_some (bytes_eq t w) [] vs e in
    subst (SlotBack (slot.word t) w more) m.1 (sym (same_text t w (sym m.0)), tt, refl)
taken_back s w more vs e = one_back s w more vs e

led_some : (o : Option (List Value)) (r : Option Front) (x : Front) → led_by o r ≡ Some x → (vs : List Value) × (q : Front) × (o ≡ Some vs) × (r ≡ Some q) × ((vs ++ q.0, q.1) ≡ x)
led_some None r x e = absurd (none-some x e)
led_some (Some vs) None x e = absurd (none-some x e)
led_some (Some vs) (Some q) x e = (vs, q, refl, refl, some_same e)

-- the words in front are those that are written of the values
abbrev pub FrontBack : List Slot → List Word → Front → Type 0
FrontBack ss ws x = (ws ≡ words ss x.0 ++ x.1) × Fits ss x.0

pub front_back : (ss : List Slot) (ws : List Word) (x : Front) → front ss ws ≡ Some x → FrontBack ss ws x
unfolding front words
front_back [] ws x e = subst (FrontBack [] ws) (some_same e) (refl, tt)
front_back (s ∷ ss) [] x e = absurd (none-some x e)
front_back (s ∷ ss) (w ∷ ws) x e =
    let l = led_some (taken s w) (front ss ws) x e in
    let rest = front_back ss ws l.1 l.3 in
    let here = taken_back s w l.1.0 l.0 l.2 in
    let left = here.2 in
    subst (FrontBack (s ∷ ss) (w ∷ ws)) l.4 (cons here.0 (rest.0 ∙ ap (λ vs. words ss vs ++ l.1.1) (sym left)), (here.1, subst (Fits ss) (sym left) rest.1)) where
      cons : {a b : Word} {xs ys : List Word} → a ≡ b → xs ≡ ys → (a ∷ xs) ≡ (b ∷ ys)
      cons p q = cc

-- the same where no word is left
pub whole_back : (ss : List Slot) (ws : List Word) (vs : List Value) → whole ss ws ≡ Some vs → (ws ≡ words ss vs) × Fits ss vs
unfolding whole
whole_back ss ws vs e =
    let r = bind_some (front ss ws) _ vs e in
    let last = only_some (is_empty r.0.1) r.0.0 vs r.2 in
    let back = front_back ss ws r.0 r.1 in
    (back.0 ∙ (λ i. words ss (last.1 i) ++ none r.0.1 last.0 i) ∙ append-nil (words ss vs), subst (Fits ss) last.1 back.1) where
      none : (xs : List Word) → is_empty xs ≡ true → xs ≡ []
      none [] e = refl
      none (x ∷ xs) e = cc
