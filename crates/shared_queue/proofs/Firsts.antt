-- The first of the tasks that are set in some words, by the spans.
use Rattle.std.proofs.Common.{◌≡◌, ◌⊎◌, ℕ, ◌+◌, ◌*◌, ◌/◌, ◌%◌, ◌^◌, ◌<◌, ◌≤◌, Option, Some, None, List, length, get_or, sym, ap, subst, ◌∙◌, inl, inr, arith, w64}
use Rattle.std.specs.Prelude.{ℤ, MatchOption, bit_and}
use Rattle.std.specs.Int.{bit_at, trailing_zeros}
use Rattle.std.proofs.lemmas.Bool.{cases_eq, cases_lt}
use Rattle.std.proofs.lemmas.Int.{ints}
use Rattle.std.proofs.lemmas.Nat.Bits.{bit_at-lt, bit_at-zero, bit_at_and, bit_at-trailing_zeros}
use Rattle.shared_queue.specs.declared.spans.Span.{Span}
use Rattle.shared_queue.specs.Dealing.{nice_in}
use Rattle.shared_queue.specs.Drawing.{ComesBefore}
use Rattle.shared_queue.specs.Looking.{seen_bit, IsFirst, NoneSet}
use Rattle.shared_queue.specs.Spans.{span_at, IsOf, GoesFirst, AreSpans, IsFirstIn, NoneIn}

-- ---- in a span

-- the lowest set bit of a word
pub record IsLowest (word bit : ℕ) : Type 0 where
  pub below : bit < 64
  pub set : bit_at word bit ≡ 1
  pub least : (k : ℕ) → k < bit → bit_at word k ≡ 0

pub lowest : (word bit : ℕ) → 0 < word → word < 2 ^ 64 → bit ≡ trailing_zeros w64 word → IsLowest word bit
lowest word bit some' wide is =
    let low = bit_at-trailing_zeros w64 word some' wide in
    let below : trailing_zeros w64 word < 64 = low.0 in
    record {
      below = omega arith;
      set = ap (bit_at word) is ∙ low.1;
      least = λ k l. low.2 k (omega arith);
    }

-- what a span and the words share
abbrev shared : Span → List ℕ → ℕ
shared s words = bit_and s.mask (get_or words s.group 0)

both_set : (s : Span) (words : List ℕ) (i : ℕ) → IsOf s i → seen_bit words i ≡ 1 → bit_at (shared s words) (i % 64) ≡ 1
both_set s words i of seen =
    let mask : bit_at s.mask (i % 64) ≡ 1 = of.set in
    let word : bit_at (get_or words s.group 0) (i % 64) ≡ 1 = ap (λ (g : ℕ). bit_at (get_or words g 0) (i % 64)) (sym of.group) ∙ seen in
    let both = bit_at_and s.mask (get_or words s.group 0) (i % 64) in
    omega arith

-- no task of a span is set in the words
pub none_more : (spans : List Span) (words : List ℕ) (n : ℕ) → shared (span_at spans n) words ≡ 0 → ((k i : ℕ) → k < n → IsOf (span_at spans k) i → seen_bit words i ≡ 1 → ⊥) → (k i : ℕ) → k < n + 1 → IsOf (span_at spans k) i → seen_bit words i ≡ 1 → ⊥
none_more spans words n none before k i l of seen =
    elim (cases_eq k n) [
      | inl same ↦
          (let set' = both_set (span_at spans n) words i (subst (λ (m : ℕ). IsOf (span_at spans m) i) same of) seen in
          let zero' : bit_at (shared (span_at spans n) words) (i % 64) ≡ 0 = ap (λ (x : ℕ). bit_at x (i % 64)) none ∙ bit_at-zero (i % 64) in
          absurd (omega arith))
      | inr ne ↦ before k i (omega arith) of seen
    ]

-- some task of span n is set
pub first_here : (spans : List Span) (words : List ℕ) (n bit : ℕ) → n < length spans → IsLowest (shared (span_at spans n) words) bit → ((k i : ℕ) → k < n → IsOf (span_at spans k) i → seen_bit words i ≡ 1 → ⊥) → IsFirstIn spans words (64 * (span_at spans n).group + bit)
first_here spans words n bit within low before =
    let s : Span = span_at spans n in
    let r : ℕ = 64 * s.group + bit in
    let below = low.below in
    let in_group : r / 64 ≡ s.group = omega arith in
    let at_bit : r % 64 ≡ bit = omega arith in
    let both = bit_at_and s.mask (get_or words s.group 0) bit in
    let set' : bit_at (shared s words) bit ≡ 1 = low.set in
    let mask_lt = bit_at-lt s.mask bit in
    let word_lt = bit_at-lt (get_or words s.group 0) bit in
    let mask : bit_at s.mask bit ≡ 1 = omega arith in
    let word : bit_at (get_or words s.group 0) bit ≡ 1 = omega arith in
    record {
      span = n;
      exists = within;
      of = record { group = in_group; set = ap (bit_at s.mask) at_bit ∙ mask };
      set = ap (λ (g : ℕ). bit_at (get_or words g 0) (r % 64)) in_group ∙ (ap (bit_at (get_or words s.group 0)) at_bit ∙ word);
      first = λ l i le of seen. elim (cases_lt l n) [
        | inl lt ↦ absurd (before l i lt of seen)
        | inr ge ↦ elim (cases_eq l n) [
          | inr ne ↦ inl (omega arith)
          | inl same ↦
              (let here : IsOf s i = subst (λ (m : ℕ). IsOf (span_at spans m) i) same of in
              let group : i / 64 ≡ s.group = here.group in
              elim (cases_lt (i % 64) bit) [
                | inl lt ↦ (let zero' = low.least (i % 64) lt in let one' = both_set s words i here seen in absurd (omega arith))
                | inr up ↦ inr (sym same, omega arith)
              ])
        ]
      ];
    }

-- ---- by nice and number

-- task r of span k does not come behind a task j of span l, where the span goes first, or is the same and r is no greater
not_before : (ranks : List ℤ) (spans : List Span) (k l r j : ℕ) → AreSpans ranks spans → k < length spans → l < length spans → IsOf (span_at spans k) r → IsOf (span_at spans l) j → (k < l) ⊎ ((k ≡ l) × (r ≤ j)) → ComesBefore ranks j r → ⊥
not_before ranks spans k l r j are within within' of of' (inr same) (inl lt) =
    let a = (are.tasks k r within of).1 in
    let b = (are.tasks l j within' of').1 in
    let e = ap (λ (m : ℕ). (span_at spans m).nice) same.0 in
    absurd (omega (arith, ints))
not_before ranks spans k l r j are within within' of of' (inr same) (inr t) =
    let a = same.1 in let b = t.1 in absurd (omega arith)
not_before ranks spans k l r j are within within' of of' (inl less) before =
    behind (are.ordered k l less within') before
  where
    a : nice_in ranks r ≡ (span_at spans k).nice
    a = (are.tasks k r within of).1

    b : nice_in ranks j ≡ (span_at spans l).nice
    b = (are.tasks l j within' of').1

    behind : GoesFirst (span_at spans k) (span_at spans l) → ComesBefore ranks j r → ⊥
    behind (inl x) (inl y) = absurd (let e = a in let f = b in omega (arith, ints))
    behind (inl x) (inr y) = absurd (let e = a in let f = b in let g = y.0 in omega (arith, ints))
    behind (inr x) (inl y) = absurd (let e = a in let f = b in let g = x.0 in omega (arith, ints))
    behind (inr x) (inr y) = absurd (let e = of.group in let f = of'.group in let g = x.1 in let h = y.1 in omega arith)

pub first_ranked : (ranks : List ℤ) (spans : List Span) (words : List ℕ) (found : Option ℕ) → AreSpans ranks spans → MatchOption found (NoneIn spans words) (IsFirstIn spans words) → MatchOption found (NoneSet ranks words) (IsFirst ranks words)
first_ranked ranks spans words None are none = λ j l seen.
    (let there = are.each j l in none there.0 j there.1.exists there.1.of seen)
first_ranked ranks spans words (Some r) are first = record {
  exists = (are.tasks first.span r first.exists first.of).0;
  set = first.set;
  first = λ j l seen before.
      (let there = are.each j l in
      not_before ranks spans first.span there.0 r j are first.exists there.1.exists first.of there.1.of (first.first there.0 j there.1.exists there.1.of seen) before);
}
