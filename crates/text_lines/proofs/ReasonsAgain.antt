-- Reasons are read as they are written, and written as they were read.
use Rattle.std.proofs.Common.{◌≡◌, ℕ, suc, ◌+◌, ◌*◌, ◌/◌, ◌%◌, ◌^◌, ◌<◌, Bool, true, false, ◌==◌, ◌||◌, List, [], ◌∷◌, length, Option, Some, None, codes, refl, ap, ◌∙◌, sym, arith, ⊎_elim}
use Rattle.std.specs.List.{join_with_byte}
use Rattle.std.specs.Str.{bytes_eq}
use Rattle.std.specs.Cmp.Lexicographic.{same_text}
use Rattle.std.proofs.lemmas.List.Splits.{length-slice_split, join_with_byte-slice_split}
use Rattle.std.proofs.lemmas.Bool.{cond-true, cond-false, eq-eqb, eqb-true, ne_eqb, agree_below_at, cases_Bool, cases_eq, or_cases}
use Rattle.std.proofs.lemmas.Nat.{pow_pos}
use Rattle.std.proofs.Math.Nat.{pow-suc}
use Rattle.text_lines.proofs.NumbersAgain.{some_same}
use Rattle.text_lines.specs.Reasons.{reasons, pending, bits_in, reasons_word, pending_word, reason_names, chosen}
use Rattle.text_lines.specs.Pieces.{pieces}
use Rattle.text_lines.specs.Steps.{◌>>=◌}

-- whether a reading gave this number
gave : Option ℕ → ℕ → Bool
gave None n = false
gave (Some m) n = m == n

gave_is : (o : Option ℕ) (n : ℕ) → gave o n ≡ true → o ≡ Some n
unfolding gave
gave_is None n e = cc
gave_is (Some m) n e = ap Some (eqb-true m n e)

pub reasons_again : (f : ℕ) → 0 < f → f < 128 → reasons (reasons_word f) ≡ Some f
unfolding gave reasons reasons_word
reasons_again f some below =
    let tested = agree_below_at (λ f. (f == 0) || gave (reasons (reasons_word f)) f) (λ f. true) 128 f refl below in
    let none : (f == 0) ≡ true → gave (reasons (reasons_word f)) f ≡ true = λ e. absurd (omega (arith, eqb-true f 0 e)) in
    gave_is (reasons (reasons_word f)) f (⊎_elim none (λ t. t) (or_cases _ _ tested))

pub pending_again : (f : ℕ) → f < 128 → pending (pending_word f) ≡ Some f
unfolding gave reasons reasons_word
pending_again f below = gave_is (pending (pending_word f)) f (agree_below_at (λ f. gave (pending (pending_word f)) f) (λ f. true) 128 f refl below)

chosen_none : (names : List (List ℕ)) → chosen 0 names ≡ []
chosen_none [] = refl
chosen_none (name ∷ names) = chosen_none names

scaled_back : (o : Option ℕ) (f : ℕ → Option ℕ) (n : ℕ) → (o >>= f) ≡ Some n → (m : ℕ) × (o ≡ Some m) × (f m ≡ Some n)
scaled_back None f n e = cc
scaled_back (Some m) f n e = (m, refl, e)

-- the words of a list of reasons are those that their bits choose
bits_back : (names ws : List (List ℕ)) (n : ℕ) → bits_in names ws ≡ Some n → (ws ≡ chosen n names) × (n < 2 ^ length names)
bits_back [] [] n e = (refl, omega (arith, some_same e))
bits_back [] (w ∷ ws) n e = cc
bits_back (name ∷ names) [] n e =
    let zero_is : 0 ≡ n = some_same e in
    (sym (ap (λ k. chosen k (name ∷ names)) (sym zero_is) ∙ chosen_none (name ∷ names)), omega (arith, zero_is, pow_pos (suc (length names))))
bits_back (name ∷ names) (w ∷ ws) n e =
    let tested : Bool → Option ℕ = λ b. elim b [ true ↦ bits_in names ws >>= (λ n. Some (1 + 2 * n)) | false ↦ bits_in names (w ∷ ws) >>= (λ n. Some (2 * n)) ] in
    let power = pow-suc 2 (length names) in
    let yes : bytes_eq name w ≡ true → (w ∷ ws ≡ chosen n (name ∷ names)) × (n < 2 ^ suc (length names)) = λ t.
    let part = scaled_back (bits_in names ws) (λ n. Some (1 + 2 * n)) n (sym (ap tested t) ∙ e) in
    let m = part.0 in
    let is : 1 + 2 * m ≡ n = some_same part.2 in
    let rest = bits_back names ws m part.1 in
    let odd : n % 2 ≡ 1 = omega arith in
    let half : n / 2 ≡ m = omega arith in
    (sym (cond-true (n % 2 == 1) (name ∷ chosen (n / 2) names) (chosen (n / 2) names) (eq-eqb (n % 2) 1 odd) ∙ ap (λ k. name ∷ chosen k names) half ∙ ap (λ x. x ∷ chosen m names) (same_text name w (sym t)) ∙ ap (λ x. w ∷ x) (sym rest.0)), omega (arith, is, rest.1)) in
    let no : bytes_eq name w ≡ false → (w ∷ ws ≡ chosen n (name ∷ names)) × (n < 2 ^ suc (length names)) = λ t.
    let part = scaled_back (bits_in names (w ∷ ws)) (λ n. Some (2 * n)) n (sym (ap tested t) ∙ e) in
    let m = part.0 in
    let is : 2 * m ≡ n = some_same part.2 in
    let rest = bits_back names (w ∷ ws) m part.1 in
    let even : n % 2 ≡ 0 = omega arith in
    let half : n / 2 ≡ m = omega arith in
    (sym (cond-false (n % 2 == 1) (name ∷ chosen (n / 2) names) (chosen (n / 2) names) (ne_eqb (n % 2) 1 (λ (o : n % 2 ≡ 1). absurd (omega arith))) ∙ ap (λ k. chosen k names) half ∙ sym rest.0), omega (arith, is, rest.1)) in
    ⊎_elim yes no (cases_Bool (bytes_eq name w))

pub reasons_back : (w : List ℕ) (f : ℕ) → reasons w ≡ Some f → (w ≡ reasons_word f) × (0 < f) × (f < 128)
unfolding reasons reasons_word
reasons_back w f e =
    let back = bits_back reason_names (pieces 44 w) f e in
    let none : f ≡ 0 → 0 < f = λ z. absurd (omega (arith, length-slice_split (λ b. b == 44) w, ap length (back.0 ∙ ap (λ k. chosen k reason_names) z ∙ chosen_none reason_names))) in
    (sym (join_with_byte-slice_split 44 w) ∙ ap (join_with_byte 44) back.0, ⊎_elim none (λ ne. omega arith) (cases_eq f 0), back.1)

pub pending_back : (w : List ℕ) (f : ℕ) → pending w ≡ Some f → (w ≡ pending_word f) × (f < 128)
pending_back w f e =
    let minus : bytes_eq (codes "-") w ≡ true → (w ≡ pending_word f) × (f < 128) = λ t.
    let zero_is : 0 ≡ f = some_same (sym (cond-true (bytes_eq (codes "-") w) (Some 0) (reasons w) t) ∙ e) in
    (sym (same_text (codes "-") w (sym t)) ∙ ap pending_word zero_is, omega (arith, zero_is)) in
    let list : bytes_eq (codes "-") w ≡ false → (w ≡ pending_word f) × (f < 128) = λ t.
    let back = reasons_back w f (sym (cond-false (bytes_eq (codes "-") w) (Some 0) (reasons w) t) ∙ e) in
    (back.0 ∙ sym (cond-false (f == 0) (codes "-") (reasons_word f) (ne_eqb f 0 (λ (z : f ≡ 0). absurd (omega (arith, back.1))))), back.2) in
    ⊎_elim minus list (cases_Bool (bytes_eq (codes "-") w))
