-- The spans of tasks that are sorted by nice and number.
use Rattle.std.proofs.Common.{◌≡◌, ℕ, ◌<◌, List, length, pos, refl, sym, ap, subst, ◌∙◌, arith}
use Rattle.std.specs.Prelude.{ℤ}
use Rattle.std.specs.List.{All, Contains}
use Rattle.std.specs.List.Sorted.{IsPermutation}
use Rattle.std.proofs.lemmas.List.{get_or_default}
use Rattle.std.proofs.lemmas.List.Elements.{All-from_get_or}
use Rattle.std.proofs.lemmas.List.Sorted.{All-permutation, Contains-permutation, length_permutation}
use Rattle.shared_queue.specs.declared.spans.Span.{Span}
use Rattle.shared_queue.specs.Dealing.{nice_in}
use Rattle.shared_queue.specs.Spans.{place_at, StandsAt, AreSpans, AreLaid}

-- a task beside its nice
record IsPlace (ranks : List ℤ) (x : ℤ × ℕ) : Type 0 where
  exists : x.1 < length ranks
  nice : nice_in ranks x.1 ≡ x.0

-- where the places of the tasks in ascending number are put into another order, and laid
pub ranked_spans : (ranks : List ℤ) (listed order : List (ℤ × ℕ)) (spans : List Span) → length listed ≡ length ranks → ((q : ℕ) → q < length ranks → place_at listed q ≡ (nice_in ranks q, q)) → IsPermutation listed order → AreLaid (length order) order spans → AreSpans ranks spans
ranked_spans ranks listed order spans size filled moved laid =
    let places : All (IsPlace ranks) order = All-permutation (IsPlace ranks) listed order moved (All-from_get_or (IsPlace ranks) listed (pos 0, 0) (λ q l. (let here : q < length ranks = omega arith in subst (IsPlace ranks) (sym (filled q here)) (record { exists = here; nice = refl })))) in
    record {
      each = λ i l.
          (let x : ℤ × ℕ = (nice_in ranks i, i) in
          let within : i < length listed = omega arith in
          let found : Contains order x = Contains-permutation listed order x moved (i, within, get_or_default listed i x (pos 0, 0) within ∙ filled i l) in
          let there : place_at order found.0 ≡ x = get_or_default order found.0 (pos 0, 0) x found.1 ∙ found.2 in
          let stands = laid.each found.0 found.1 in
          (stands.0, subst (λ (y : ℤ × ℕ). StandsAt spans stands.0 y.0 y.1) there stands.1));
      tasks = λ k i l of.
          (let there = laid.tasks k i l of in
          let place : IsPlace ranks (place_at order there.0) = places there.0 (pos 0, 0) there.1 in
          (subst (λ (j : ℕ). j < length ranks) there.3 place.exists, ap (nice_in ranks) (sym there.3) ∙ (place.nice ∙ there.2)));
      within = λ k l.
          (let head = laid.heads k l in
          let place : IsPlace ranks (place_at order head.0) = places head.0 (pos 0, 0) head.1 in
          let exists = place.exists in
          let group = head.3 in
          omega arith);
      few = (let few = laid.few in let same = length_permutation listed order moved in omega arith);
      ordered = laid.ordered;
    }
