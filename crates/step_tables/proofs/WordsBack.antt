-- From the value of a word back to the word, and from words back to their line.
use Rattle.std.proofs.Common.{◌≡◌, ℕ, suc, zero, ◌<◌, ◌^◌, arith, false, List, [], ◌∷◌, refl, ap, sym, ◌∙◌, inl, inr, lit<}
use Rattle.std.specs.Prelude.{Option, Some, None, option_map, is_none, unwrap_or, ◌==◌, decimal, ℤ, pos, negsuc}
use Rattle.std.specs.List.{join_with_byte}
use Rattle.std.specs.Fmt.{signed_decimal}
use Rattle.std.proofs.lemmas.Bool.{eqb-true}
use Rattle.std.proofs.lemmas.Option.{none-some}
use Rattle.std.proofs.lemmas.List.Splits.{join_with_byte-slice_split}
use Rattle.step_tables.specs.Words.{Word, pieces, words_of, number_of, signed_of}
use Rattle.text_lines.specs.Numbers.{below_zero, signed}
use Rattle.text_lines.proofs.NumbersAgain as numbers
use Rattle.step_tables.specs.Judging.{value, signed_value, no_number, no_signed}
use Rattle.text_lines.proofs.Steps.{bind_some, only_some}
use Rattle.step_tables.proofs.Steps.{chose}

-- a number's word is what is written of its value
pub number_back : (w : Word) (n : ℕ) → number_of w ≡ Some n → w ≡ decimal n
number_back w n e = (numbers.number_back 9999999999 n w (lit< tt) e).0

pub value_back : (w : Word) → no_number w ≡ false → w ≡ decimal (value w)
unfolding no_number value
value_back w e = go (number_of w) refl e
  where
    go : (o : Option ℕ) → number_of w ≡ o → is_none o ≡ false → w ≡ decimal (unwrap_or o 0)
    go None h f = absurd (cc)
    go (Some n) h f = number_back w n h

pub value_small : (w : Word) → no_number w ≡ false → value w < 10 ^ 10
unfolding no_number value
value_small w e = go (number_of w) refl e
  where
    go : (o : Option ℕ) → number_of w ≡ o → is_none o ≡ false → unwrap_or o 0 < 10 ^ 10
    go None h f = absurd (cc)
    go (Some n) h f = let few = (numbers.number_back 9999999999 n w (lit< tt) h).1 in omega arith

signed_back : (w : Word) (z : ℤ) → signed_of w ≡ Some z → w ≡ signed_decimal z
unfolding signed
signed_back [] z e = absurd (none-some z e)
signed_back (c ∷ ds) z e = elim (chose (c == 45) _ _ _ e) [
  | inl h ↦ (let (n, found, is) = bind_some (number_of ds) below_zero z h.1 in negative n found is (eqb-true c 45 h.0))
  | inr h ↦ positive (number_of (c ∷ ds)) refl h.1
]
  where
    negative : (n : ℕ) → number_of ds ≡ Some n → below_zero n ≡ Some z → c ≡ 45 → c ∷ ds ≡ signed_decimal z
    negative zero found is minus = absurd (none-some z is)
    negative (suc n) found is minus = (λ i. minus i ∷ number_back ds (suc n) found i) ∙ ap signed_decimal (same (negsuc n) z is)
      where
        same : (x y : ℤ) → Some x ≡ Some y → x ≡ y
        same x y h = cc

    positive : (o : Option ℕ) → number_of (c ∷ ds) ≡ o → option_map pos o ≡ Some z → c ∷ ds ≡ signed_decimal z
    positive None found is = absurd (none-some z is)
    positive (Some n) found is = number_back (c ∷ ds) n found ∙ ap signed_decimal (same (pos n) z is)
      where
        same : (x y : ℤ) → Some x ≡ Some y → x ≡ y
        same x y h = cc

pub signed_value_back : (w : Word) → no_signed w ≡ false → w ≡ signed_decimal (signed_value w)
unfolding no_signed signed_value
signed_value_back w e = go (signed_of w) refl e
  where
    go : (o : Option ℤ) → signed_of w ≡ o → is_none o ≡ false → w ≡ signed_decimal (unwrap_or o (pos 0))
    go None h f = absurd (cc)
    go (Some n) h f = signed_back w n h

-- a line is its words with a space between each two
pub words_back : (line : List ℕ) (ws : List Word) → words_of line ≡ Some ws → line ≡ join_with_byte 32 ws
unfolding words_of
words_back line ws e = let (test, is) = only_some _ (pieces 32 line) ws e in sym (join_with_byte-slice_split 32 line) ∙ ap (join_with_byte 32) is
