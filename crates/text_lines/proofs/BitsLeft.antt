-- The bits of words, name by name as they are read.
use Rattle.std.proofs.Common.{◌≡◌, ℕ, ◌+◌, ◌*◌, ◌^◌, ◌<◌, ◌≤◌, Bool, true, false, ◌==◌, List, [], ◌∷◌, length, drop, get_or, Option, Some, None, refl, ap, ◌∙◌, sym, arith, add-one, subst}
use Rattle.std.specs.Option.{SomeIff}
use Rattle.std.specs.Str.{bytes_eq}
use Rattle.std.proofs.lemmas.List.{drop_more, drop_all}
use Rattle.std.proofs.lemmas.Bool.{and_from, eq-eqb}
use Rattle.std.proofs.lemmas.List.Splits.{length-slice_split}
use Rattle.std.proofs.Math.Nat.{pow-suc, pow-le-pow_right}
use Rattle.text_lines.specs.Reasons.{reason_names, bits_in, reasons, begins_with, TakesName}
use Rattle.text_lines.specs.Pieces.{pieces}
use Rattle.text_lines.specs.Steps.{◌>>=◌}

-- the bits so far with those of the words from a bit on
pub bits_left : ℕ → ℕ → List (List ℕ) → Option ℕ
bits_left bits bit ws = bits_in (drop bit reason_names) ws >>= (λ n. Some (bits + 2 ^ bit * n))

start : (o : Option ℕ) → (o >>= (λ n. Some (0 + 1 * n))) ≡ o
start None = refl
start (Some n) = ap Some (omega arith)

pub bits_start : (w : List ℕ) → bits_left 0 0 (pieces 44 w) ≡ reasons w
unfolding bits_left reasons
bits_start w = start (bits_in reason_names (pieces 44 w))

-- with the words behind a name that was taken
with_name : (o : Option ℕ) (bits bit : ℕ) → ((o >>= (λ n. Some (1 + 2 * n))) >>= (λ n. Some (bits + 2 ^ bit * n))) ≡ (o >>= (λ n. Some (bits + 2 ^ bit + 2 ^ (bit + 1) * n)))
with_name None bits bit = refl
with_name (Some n) bits bit = rw (add-one, pow-suc) (ap Some (omega arith))

-- with the same words behind a name that was not
without_name : (o : Option ℕ) (bits bit : ℕ) → ((o >>= (λ n. Some (2 * n))) >>= (λ n. Some (bits + 2 ^ bit * n))) ≡ (o >>= (λ n. Some (bits + 2 ^ (bit + 1) * n)))
without_name None bits bit = refl
without_name (Some n) bits bit = rw (add-one, pow-suc) (ap Some (omega arith))

bytes_eq_same : (w : List ℕ) → bytes_eq w w ≡ true
bytes_eq_same [] = refl
bytes_eq_same (b ∷ bs) = and_from _ _ (eq-eqb b b refl) (bytes_eq_same bs)

in_taken : (name : List ℕ) (names ws : List (List ℕ)) → bits_in (name ∷ names) (name ∷ ws) ≡ (bits_in names ws >>= (λ n. Some (1 + 2 * n)))
in_taken name names ws =
    let tested : Bool → Option ℕ = λ b. elim b [ true ↦ bits_in names ws >>= (λ n. Some (1 + 2 * n)) | false ↦ bits_in names (name ∷ ws) >>= (λ n. Some (2 * n)) ] in
    ap tested (bytes_eq_same name)

in_nothing : (names : List (List ℕ)) → bits_in names [] ≡ Some 0
in_nothing [] = refl
in_nothing (name ∷ names) = refl

in_left : (name : List ℕ) (names ws : List (List ℕ)) → begins_with name ws ≡ false → bits_in (name ∷ names) ws ≡ (bits_in names ws >>= (λ n. Some (2 * n)))
in_left name names [] e = rw (in_nothing names) refl
in_left name names (w ∷ ws) e =
    let tested : Bool → Option ℕ = λ b. elim b [ true ↦ bits_in names ws >>= (λ n. Some (1 + 2 * n)) | false ↦ bits_in names (w ∷ ws) >>= (λ n. Some (2 * n)) ] in
    ap tested e

pub bits_taken : (bits bit : ℕ) (before after : List (List ℕ)) → bit < 7 → TakesName (get_or reason_names bit []) before true after → bits_left (bits + 2 ^ bit) (bit + 1) after ≡ bits_left bits bit before
unfolding bits_left
bits_taken bits bit before after below e =
    let name = get_or reason_names bit [] in
    let scaled : Option ℕ → Option ℕ = λ o. o >>= (λ n. Some (bits + 2 ^ bit * n)) in
    sym (ap (λ ws. scaled (bits_in (drop bit reason_names) ws)) e ∙ ap (λ ns. scaled (bits_in ns (name ∷ after))) (drop_more reason_names bit [] below) ∙ ap scaled (in_taken name (drop (bit + 1) reason_names) after) ∙ with_name (bits_in (drop (bit + 1) reason_names) after) bits bit)

pub bits_kept : (bits bit : ℕ) (before after : List (List ℕ)) → bit < 7 → TakesName (get_or reason_names bit []) before false after → bits_left bits (bit + 1) after ≡ bits_left bits bit before
unfolding bits_left
bits_kept bits bit before after below e =
    let name = get_or reason_names bit [] in
    let scaled : Option ℕ → Option ℕ = λ o. o >>= (λ n. Some (bits + 2 ^ bit * n)) in
    ap (λ ws. bits_in (drop (bit + 1) reason_names) ws >>= (λ n. Some (bits + 2 ^ (bit + 1) * n))) e.0 ∙ sym (ap (λ ns. scaled (bits_in ns before)) (drop_more reason_names bit [] below) ∙ ap scaled (in_left name (drop (bit + 1) reason_names) before e.1) ∙ without_name (bits_in (drop (bit + 1) reason_names) before) bits bit)

pub bits_none : (bits bit : ℕ) → 7 ≤ bit → bits_left bits bit [] ≡ Some bits
unfolding bits_left
bits_none bits bit past =
    ap (λ ns. bits_in ns [] >>= (λ n. Some (bits + 2 ^ bit * n))) (drop_all bit reason_names past) ∙ ap Some (omega arith)

no_names : (ws : List (List ℕ)) → 0 < length ws → bits_in [] ws ≡ None
no_names [] some = absurd (omega arith)
no_names (w ∷ ws) some = refl

pub bits_some : (bits bit : ℕ) (w : List ℕ) → 7 ≤ bit → bits_left bits bit (pieces 44 w) ≡ None
unfolding bits_left
bits_some bits bit w past =
    let scaled : Option ℕ → Option ℕ = λ o. o >>= (λ n. Some (bits + 2 ^ bit * n)) in
    ap (λ ns. scaled (bits_in ns (pieces 44 w))) (drop_all bit reason_names past) ∙ ap scaled (no_names (pieces 44 w) (omega (arith, length-slice_split (λ b. b == 44) w)))

taken_is : (name : List ℕ) (before after : List (List ℕ)) (was is : Bool) → was ≡ is → TakesName name before was after → TakesName name before is after
taken_is name before after was is e t = subst (λ b. TakesName name before b after) e t

pub bits_step_yes : (bits bit : ℕ) (before after : List (List ℕ)) (was : Bool) → bit < 7 → bits < 2 ^ bit → TakesName (get_or reason_names bit []) before was after → was ≡ true → (bits + 2 ^ bit < 2 ^ (bit + 1)) × (bits_left (bits + 2 ^ bit) (bit + 1) after ≡ bits_left bits bit before)
bits_step_yes bits bit before after was below small t e =
    let power : 2 ^ (bit + 1) ≡ 2 ^ bit * 2 = rw (add-one, pow-suc) refl in
    (omega arith, bits_taken bits bit before after below (taken_is _ before after was true e t))

pub bits_step_no : (bits bit : ℕ) (before after : List (List ℕ)) (was : Bool) → bit < 7 → bits < 2 ^ bit → TakesName (get_or reason_names bit []) before was after → was ≡ false → (bits < 2 ^ (bit + 1)) × (bits_left bits (bit + 1) after ≡ bits_left bits bit before)
bits_step_no bits bit before after was below small t e =
    let power : 2 ^ (bit + 1) ≡ 2 ^ bit * 2 = rw (add-one, pow-suc) refl in
    (omega arith, bits_kept bits bit before after below (taken_is _ before after was false e t))

pub below_all : (bits bit : ℕ) → bits < 2 ^ bit → bit ≤ 7 → bits < 128
below_all bits bit small few =
    let most : 2 ^ bit ≤ 2 ^ 7 = pow-le-pow_right (omega arith) few in
    omega arith

pub some_if : (o : Option ℕ) (P : Type 0) (n : ℕ) → SomeIff o P n → P → o ≡ Some n
some_if None P n h p = absurd (h p)
some_if (Some m) P n h p = ap Some h.1
