-- Spans that are laid task by task.
use Rattle.std.proofs.Common.{◌≡◌, ◌≢◌, ◌⊎◌, ℕ, ◌+◌, ◌-◌, ◌/◌, ◌%◌, ◌<◌, ◌≤◌, false, List, [], ◌∷◌, length, pos, refl, sym, ap, subst, ◌∙◌, inl, inr, ⊎_elim, arith, length-append, length-set, get_or-set_same, get_or-set_other, w64}
use Rattle.std.specs.Prelude.{ℤ, ◌<ℤ◌, bit_or}
use Rattle.std.specs.Int.{bit_at}
use Rattle.std.specs.Ordering.{MatchOrdering, ordering_then, int_cmp, nat_cmp, is_lt}
use Rattle.std.specs.declared.cmp.Ordering.{Ordering}
use Rattle.std.specs.declared.cmp.Ordering.TheVariants.{Less, Equal, Greater}
use Rattle.std.specs.List.Sorted.{IsSorted}
use Rattle.std.proofs.Math.Seq.{get_or-append_seam}
use Rattle.std.proofs.lemmas.Bool.{cases_eq}
use Rattle.std.proofs.lemmas.Cmp.{ranked, int_ranked, then_total, on_total, int_cmp_total, nat_cmp_total}
use Rattle.std.proofs.lemmas.Int.{ints}
use Rattle.std.proofs.lemmas.List.{get_or_append_left}
use Rattle.std.proofs.lemmas.List.MinMax.{ranks_by}
use Rattle.std.proofs.lemmas.List.Sorted.{sorted_far}
use Rattle.std.proofs.lemmas.Nat.Bits.{bit_at-zero, bit_at_or, bit_at_set_same, bit_at_set_other}
use Rattle.shared_queue.specs.declared.spans.Span.{Span}
use Rattle.shared_queue.specs.Spans.{by_nice, place_at, no_span, span_at, last_of, IsOf, GoesFirst, AreLaid, task_bit, with_task, Joins, Opens}

-- ---- the order of tasks

-- one task comes no later than another one
abbrev IsUpTo : ℤ × ℕ → ℤ × ℕ → Type 0
IsUpTo x y = (x.0 <ℤ y.0) ⊎ ((x.0 ≡ y.0) × (x.1 ≤ y.1))

up_to : (x y : ℤ × ℕ) (r s : Ordering) → MatchOrdering r (y.0 <ℤ x.0) (y.0 ≡ x.0) (x.0 <ℤ y.0) → MatchOrdering s (y.1 < x.1) (y.1 ≡ x.1) (x.1 < y.1) → is_lt (ordering_then r s) ≡ false → IsUpTo x y
up_to x y Less s m n e = absurd (cc)
up_to x y Equal Less m n e = absurd (cc)
up_to x y Equal Equal m n e = inr (sym m, omega arith)
up_to x y Equal Greater m n e = inr (sym m, omega arith)
up_to x y Greater s m n e = inl m

far : (order : List (ℤ × ℕ)) → IsSorted by_nice order → (q p : ℕ) → q ≤ p → p < length order → IsUpTo (place_at order q) (place_at order p)
far order sorted q p low high =
    let x : ℤ × ℕ = place_at order q in
    let y : ℤ × ℕ = place_at order p in
    let total = then_total (on_total (λ (z : ℤ × ℕ). z.0) int_cmp_total) (on_total (λ (z : ℤ × ℕ). z.1) nat_cmp_total) in
    let not_less : is_lt (by_nice y x) ≡ false = sorted_far (λ (a b : ℤ × ℕ). is_lt (by_nice a b)) (ranks_by total (λ (z : ℤ × ℕ). z)) order sorted q p (pos 0, 0) low high in
    up_to x y (int_cmp y.0 x.0) (nat_cmp y.1 x.1) (int_ranked y.0 x.0 (int_cmp y.0 x.0) refl) (ranked y.1 x.1 (nat_cmp y.1 x.1) refl) not_less

-- ---- one more task in a span

joined_keeps : (s : Span) (i j : ℕ) → IsOf s i → IsOf (with_task s j) i
joined_keeps s i j of = record {
  group = of.group;
  set = elim (cases_eq (i % 64) (j % 64)) [
    | inl same ↦ ap (bit_at (with_task s j).mask) same ∙ bit_at_set_same w64 s.mask (j % 64) (omega arith)
    | inr ne ↦ bit_at_set_other w64 s.mask (j % 64) (omega arith) (i % 64) ne ∙ of.set
  ];
}

joined_has : (s : Span) (j : ℕ) → s.group ≡ j / 64 → IsOf (with_task s j) j
joined_has s j is = record { group = sym is; set = bit_at_set_same w64 s.mask (j % 64) (omega arith) }

joined_of : (s : Span) (i j : ℕ) → s.group ≡ j / 64 → IsOf (with_task s j) i → IsOf s i ⊎ (j ≡ i)
joined_of s i j is of =
    let group : i / 64 ≡ s.group = of.group in
    elim (cases_eq (i % 64) (j % 64)) [
      | inl same ↦ inr (omega arith)
      | inr ne ↦ inl (record { group = group; set = sym (bit_at_set_other w64 s.mask (j % 64) (omega arith) (i % 64) ne) ∙ of.set })
    ]

-- ---- a span of its own

abbrev alone : ℤ → ℕ → Span
alone rank j = record { nice = rank; group = j / 64; mask = task_bit j }

from_zero : (j k : ℕ) → bit_at (task_bit j) k ≡ bit_at (bit_or 0 (task_bit j)) k
from_zero j k =
    let or = bit_at_or 0 (task_bit j) k in
    let none = bit_at-zero k in
    omega arith

alone_has : (rank : ℤ) (j : ℕ) → IsOf (alone rank j) j
alone_has rank j = record { group = refl; set = from_zero j (j % 64) ∙ bit_at_set_same w64 0 (j % 64) (omega arith) }

alone_of : (rank : ℤ) (i j : ℕ) → IsOf (alone rank j) i → j ≡ i
alone_of rank i j of =
    let group : i / 64 ≡ j / 64 = of.group in
    elim (cases_eq (i % 64) (j % 64)) [
      | inl same ↦ omega arith
      | inr ne ↦
          (let clear : bit_at (task_bit j) (i % 64) ≡ 0 = from_zero j (i % 64) ∙ (bit_at_set_other w64 0 (j % 64) (omega arith) (i % 64) ne ∙ bit_at-zero (i % 64)) in
          let set' : bit_at (task_bit j) (i % 64) ≡ 1 = of.set in
          absurd (omega arith))
    ]

-- ---- spans

goes_as : (s t u v : Span) → u.nice ≡ s.nice → u.group ≡ s.group → v.nice ≡ t.nice → v.group ≡ t.group → GoesFirst s t → GoesFirst u v
goes_as s t u v a b d e (inl lt) = inl (omega (arith, ints))
goes_as s t u v a b d e (inr h) = inr (a ∙ (h.0 ∙ sym d), let l = h.1 in omega arith)

pub laid_none : (order : List (ℤ × ℕ)) (spans : List Span) → spans ≡ [] → AreLaid 0 order spans
laid_none order spans none =
    let empty : length spans ≡ 0 = ap length none in
    record {
      each = λ q l. absurd (omega arith);
      tasks = λ k i l of. absurd (omega arith);
      heads = λ k l. absurd (omega arith);
      few = omega arith;
      ordered = λ k l a b. absurd (omega arith);
    }

-- the task at place p went into the last span
laid_joined : (p : ℕ) (order : List (ℤ × ℕ)) (old new : List Span) → AreLaid p order old → Joins old (place_at order p).0 (place_at order p).1 new → AreLaid (p + 1) order new
laid_joined p order old new laid join =
    let rank : ℤ = (place_at order p).0 in
    let j : ℕ = (place_at order p).1 in
    let some' : 0 < length old = join.some in
    let last : ℕ = length old - 1 in
    let more : Span = with_task (last_of old) j in
    let size : length new ≡ length old = ap length join.new ∙ length-set old last more in
    let at_last : span_at new last ≡ more = ap (λ (xs : List Span). span_at xs last) join.new ∙ get_or-set_same old last more no_span (omega arith) in
    let at_other : (k : ℕ) → k ≢ last → span_at new k ≡ span_at old k = λ k ne. ap (λ (xs : List Span). span_at xs k) join.new ∙ get_or-set_other old last k more no_span ne in
    let nice : (k : ℕ) → (span_at new k).nice ≡ (span_at old k).nice = λ k. elim (cases_eq k last) [
      | inl same ↦ ap (λ (m : ℕ). (span_at new m).nice) same ∙ (ap (λ (s : Span). s.nice) at_last ∙ ap (λ (m : ℕ). (span_at old m).nice) (sym same))
      | inr ne ↦ ap (λ (s : Span). s.nice) (at_other k ne)
    ] in
    let group : (k : ℕ) → (span_at new k).group ≡ (span_at old k).group = λ k. elim (cases_eq k last) [
      | inl same ↦ ap (λ (m : ℕ). (span_at new m).group) same ∙ (ap (λ (s : Span). s.group) at_last ∙ ap (λ (m : ℕ). (span_at old m).group) (sym same))
      | inr ne ↦ ap (λ (s : Span). s.group) (at_other k ne)
    ] in
    let keeps : (k i : ℕ) → IsOf (span_at old k) i → IsOf (span_at new k) i = λ k i of. elim (cases_eq k last) [
      | inl same ↦ subst (λ (m : ℕ). IsOf (span_at new m) i) (sym same) (subst (λ (s : Span). IsOf s i) (sym at_last) (joined_keeps (last_of old) i j (subst (λ (m : ℕ). IsOf (span_at old m) i) same of)))
      | inr ne ↦ subst (λ (s : Span). IsOf s i) (sym (at_other k ne)) of
    ] in
    let from : (k i : ℕ) → IsOf (span_at new k) i → IsOf (span_at old k) i ⊎ ((k ≡ last) × (j ≡ i)) = λ k i of. elim (cases_eq k last) [
      | inl same ↦ ⊎_elim (λ before. inl (subst (λ (m : ℕ). IsOf (span_at old m) i) (sym same) before)) (λ own. inr (same, own)) (joined_of (last_of old) i j join.group (subst (λ (s : Span). IsOf s i) at_last (subst (λ (m : ℕ). IsOf (span_at new m) i) same of)))
      | inr ne ↦ inl (subst (λ (s : Span). IsOf s i) (at_other k ne) of)
    ] in
    record {
      each = λ q l. elim (cases_eq q p) [
        | inl same ↦ (
          last,
          record {
            exists = omega arith;
            nice = nice last ∙ (join.nice ∙ ap (λ (m : ℕ). (place_at order m).0) (sym same));
            of = subst (λ (m : ℕ). IsOf (span_at new last) (place_at order m).1) (sym same) (subst (λ (s : Span). IsOf s j) (sym at_last) (joined_has (last_of old) j join.group));
          },
        )
        | inr ne ↦
            (let before = laid.each q (omega arith) in
            let within = before.1.exists in (
              before.0,
              record {
                exists = omega arith;
                nice = nice before.0 ∙ before.1.nice;
                of = keeps before.0 (place_at order q).1 before.1.of;
              },
            ))
      ];
      tasks = λ k i l of. ⊎_elim
          (λ before. (let there = laid.tasks k i (omega arith) before in let low = there.1 in (there.0, omega arith, there.2 ∙ sym (nice k), there.3)))
          (λ own. (p, omega arith, sym (nice k ∙ (ap (λ (m : ℕ). (span_at old m).nice) own.0 ∙ join.nice)), own.1))
          (from k i of);
      heads = λ k l. (let there = laid.heads k (omega arith) in let low = there.1 in (there.0, omega arith, there.2 ∙ sym (nice k), there.3 ∙ sym (group k)));
      few = (let few = laid.few in omega arith);
      ordered = λ k l a b. goes_as (span_at old k) (span_at old l) (span_at new k) (span_at new l) (nice k) (group k) (nice l) (group l) (laid.ordered k l a (omega arith));
    }

-- a span whose head comes no later than a task goes before that task's own span, or is of its nice and group
no_later : (s : Span) (x y : ℤ × ℕ) → x.0 ≡ s.nice → x.1 / 64 ≡ s.group → IsUpTo x y → GoesFirst s (alone y.0 y.1) ⊎ ((s.nice ≡ y.0) × (s.group ≡ y.1 / 64))
no_later s x y a b (inl lt) = inl (inl (omega (arith, ints)))
no_later s x y a b (inr h) =
    let le = h.1 in
    elim (cases_eq s.group (y.1 / 64)) [
      | inl same ↦ inr (sym a ∙ h.0, same)
      | inr ne ↦ inl (inr (sym a ∙ h.0, omega arith))
    ]

-- and one that goes before that span does not
before_same : (s t : Span) (y : ℤ × ℕ) → GoesFirst s t → GoesFirst t (alone y.0 y.1) → GoesFirst s (alone y.0 y.1)
before_same s t y (inl a) (inl b) = inl (omega (arith, ints))
before_same s t y (inl a) (inr b) = inl (let e = b.0 in omega (arith, ints))
before_same s t y (inr a) (inl b) = inl (let e = a.0 in omega (arith, ints))
before_same s t y (inr a) (inr b) = inr (a.0 ∙ b.0, let k = a.1 in let l = b.1 in omega arith)

-- the task at place p has a span of its own
laid_opened : (p : ℕ) (order : List (ℤ × ℕ)) (old new : List Span) → IsSorted by_nice order → p < length order → AreLaid p order old → Opens old (place_at order p).0 (place_at order p).1 new → AreLaid (p + 1) order new
laid_opened p order old new sorted within laid open' =
    let y : ℤ × ℕ = place_at order p in
    let own : Span = alone y.0 y.1 in
    let n : ℕ = length old in
    let size : length new ≡ n + 1 = ap length open'.new ∙ length-append old (own ∷ []) in
    let at_end : span_at new n ≡ own = ap (λ (xs : List Span). span_at xs n) open'.new ∙ get_or-append_seam old own [] no_span in
    let at_old : (k : ℕ) → k < n → span_at new k ≡ span_at old k = λ k l. ap (λ (xs : List Span). span_at xs k) open'.new ∙ get_or_append_left old (own ∷ []) no_span k l in
    let first : (k : ℕ) → k < n → GoesFirst (span_at old k) own ⊎ (((span_at old k).nice ≡ y.0) × ((span_at old k).group ≡ y.1 / 64)) = λ k l. (let head = laid.heads k l in let low = head.1 in no_later (span_at old k) (place_at order head.0) y head.2 head.3 (far order sorted head.0 p (omega arith) within)) in
    let last_first : 0 < n → GoesFirst (last_of old) own = λ l. ⊎_elim (λ h. h) (λ same. absurd (open'.apart l same.0 same.1)) (first (n - 1) (omega arith)) in
    let all_first : (k : ℕ) → k < n → GoesFirst (span_at old k) own = λ k l. elim (cases_eq k (n - 1)) [
      | inl same ↦ subst (λ (m : ℕ). GoesFirst (span_at old m) own) (sym same) (last_first (omega arith))
      | inr ne ↦ before_same (span_at old k) (last_of old) y (laid.ordered k (n - 1) (omega arith) (omega arith)) (last_first (omega arith))
    ] in
    record {
      each = λ q l. elim (cases_eq q p) [
        | inl same ↦ (
          n,
          record {
            exists = omega arith;
            nice = ap (λ (s : Span). s.nice) at_end ∙ ap (λ (m : ℕ). (place_at order m).0) (sym same);
            of = subst (λ (m : ℕ). IsOf (span_at new n) (place_at order m).1) (sym same) (subst (λ (s : Span). IsOf s y.1) (sym at_end) (alone_has y.0 y.1));
          },
        )
        | inr ne ↦
            (let before = laid.each q (omega arith) in
            let there = at_old before.0 before.1.exists in
            let below = before.1.exists in (
              before.0,
              record {
                exists = omega arith;
                nice = ap (λ (s : Span). s.nice) there ∙ before.1.nice;
                of = subst (λ (s : Span). IsOf s (place_at order q).1) (sym there) before.1.of;
              },
            ))
      ];
      tasks = λ k i l of. elim (cases_eq k n) [
        | inl same ↦
            (let here : span_at new k ≡ own = ap (span_at new) same ∙ at_end in
            (p, omega arith, sym (ap (λ (s : Span). s.nice) here), alone_of y.0 i y.1 (subst (λ (s : Span). IsOf s i) here of)))
        | inr ne ↦
            (let here : span_at new k ≡ span_at old k = at_old k (omega arith) in
            let there = laid.tasks k i (omega arith) (subst (λ (s : Span). IsOf s i) here of) in
            let low = there.1 in
            (there.0, omega arith, there.2 ∙ sym (ap (λ (s : Span). s.nice) here), there.3))
      ];
      heads = λ k l. elim (cases_eq k n) [
        | inl same ↦
            (let here : span_at new k ≡ own = ap (span_at new) same ∙ at_end in
            (p, omega arith, sym (ap (λ (s : Span). s.nice) here), sym (ap (λ (s : Span). s.group) here)))
        | inr ne ↦
            (let here : span_at new k ≡ span_at old k = at_old k (omega arith) in
            let there = laid.heads k (omega arith) in
            let low = there.1 in
            (there.0, omega arith, there.2 ∙ sym (ap (λ (s : Span). s.nice) here), there.3 ∙ sym (ap (λ (s : Span). s.group) here)))
      ];
      few = (let few = laid.few in omega arith);
      ordered = λ k l a b.
          (let here : span_at new k ≡ span_at old k = at_old k (omega arith) in
          elim (cases_eq l n) [
            | inl same ↦ subst (λ (s : Span). GoesFirst (span_at new k) s) (sym (ap (span_at new) same ∙ at_end)) (subst (λ (s : Span). GoesFirst s own) (sym here) (all_first k (omega arith)))
            | inr ne ↦ subst (λ (s : Span). GoesFirst (span_at new k) s) (sym (at_old l (omega arith))) (subst (λ (s : Span). GoesFirst s (span_at old l)) (sym here) (laid.ordered k l a (omega arith)))
          ]);
    }

-- at most one more span
pub laid_length : (old new : List Span) (rank : ℤ) (j : ℕ) → Joins old rank j new ⊎ Opens old rank j new → length new ≤ length old + 1
laid_length old new rank j (inl join) =
    let size : length new ≡ length old = ap length join.new ∙ length-set old (length old - 1) (with_task (last_of old) j) in
    omega arith
laid_length old new rank j (inr open') =
    let size : length new ≡ length old + 1 = ap length open'.new ∙ length-append old (alone rank j ∷ []) in
    omega arith

pub laid_more : (p : ℕ) (order : List (ℤ × ℕ)) (old new : List Span) → IsSorted by_nice order → p < length order → AreLaid p order old → Joins old (place_at order p).0 (place_at order p).1 new ⊎ Opens old (place_at order p).0 (place_at order p).1 new → AreLaid (p + 1) order new
laid_more p order old new sorted within laid (inl join) = laid_joined p order old new laid join
laid_more p order old new sorted within laid (inr open') = laid_opened p order old new sorted within laid open'
