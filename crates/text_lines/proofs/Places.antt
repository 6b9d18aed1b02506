-- The place of a word among some.
use Rattle.std.proofs.Common.{◌≡◌, ℕ, suc, zero, ◌+◌, ◌-◌, ◌≤◌, ◌<◌, Bool, true, false, cond, List, [], ◌∷◌, length, get_or, refl, ap, sym, ◌∙◌, arith}
use Rattle.std.specs.Prelude.{Some, bytes_eq, not}
use Rattle.std.specs.List.{list_all, position_from}
use Rattle.std.specs.Cmp.Lexicographic.{same_text}
use Rattle.std.proofs.lemmas.Option.{none-some}
use Rattle.std.proofs.lemmas.Bool.{and_parts, and_from, cond-true, cond-false, eq-eqb, not-true}
use Rattle.text_lines.specs.Names.{place_in}
use Rattle.text_lines.specs.Shapes.{all_differ}
use Rattle.text_lines.proofs.Steps.{some_same}

pub same_bytes : (w : List ℕ) → bytes_eq w w ≡ true
same_bytes [] = refl
same_bytes (b ∷ bs) = and_from _ _ (eq-eqb b b refl) (same_bytes bs)

-- the words before the one at a place are others
place_from_again : (ws : List (List ℕ)) (k i : ℕ) → all_differ ws ≡ true → i < length ws → position_from (λ word. bytes_eq word (get_or ws i [])) k ws ≡ Some (k + i)
place_from_again [] k i differ below = absurd (omega arith)
place_from_again (w ∷ ws) k zero differ below = cond-true (bytes_eq w w) _ _ (same_bytes w) ∙ ap Some (omega arith)
place_from_again (w ∷ ws) k (suc i) differ below =
    let p = and_parts _ _ differ in
    let other = at ws i (omega arith) p.0 in
    cond-false (bytes_eq w (get_or ws i [])) _ _ other ∙ place_from_again ws (k + 1) i p.1 (omega arith) ∙ ap Some (omega arith) where
      at : (vs : List (List ℕ)) (j : ℕ) → j < length vs → list_all (λ c. not (bytes_eq w c)) vs ≡ true → bytes_eq w (get_or vs j []) ≡ false
      at [] j below all = absurd (omega arith)
      at (v ∷ vs) zero below all = not-true _ (and_parts _ _ all).0
      at (v ∷ vs) (suc j) below all = at vs j (omega arith) (and_parts _ _ all).1

pub place_again : (ws : List (List ℕ)) (i : ℕ) → all_differ ws ≡ true → i < length ws → place_in ws (get_or ws i []) ≡ Some i
unfolding place_in
place_again ws i differ below = place_from_again ws 0 i differ below ∙ ap Some (omega arith)

place_from_back : (ws : List (List ℕ)) (k i : ℕ) (w : List ℕ) → position_from (λ word. bytes_eq word w) k ws ≡ Some i → (k ≤ i) × (i - k < length ws) × (w ≡ get_or ws (i - k) [])
place_from_back [] k i w e = absurd (none-some i e)
place_from_back (v ∷ vs) k i w e = go (bytes_eq v w) refl (place_from_back vs (k + 1) i w) e where
  go : (b : Bool) → bytes_eq v w ≡ b → (position_from (λ word. bytes_eq word w) (k + 1) vs ≡ Some i → (k + 1 ≤ i) × (i - (k + 1) < length vs) × (w ≡ get_or vs (i - (k + 1)) [])) → cond b (Some k) (position_from (λ word. bytes_eq word w) (k + 1) vs) ≡ Some i → (k ≤ i) × (i - k < length (v ∷ vs)) × (w ≡ get_or (v ∷ vs) (i - k) [])
  go true t rest e =
      let here : k ≡ i = some_same e in
      let first : i - k ≡ 0 = omega arith in
      (omega arith, omega arith, sym (same_text v w (sym t)) ∙ ap (λ n. get_or (v ∷ vs) n []) (sym first))
  go false t rest e =
      let back = rest e in
      let next : i - k ≡ suc (i - (k + 1)) = omega (arith, back.0) in
      (omega (arith, back.0), omega (arith, back.0, back.1), back.2 ∙ ap (λ n. get_or (v ∷ vs) n []) (sym next))

pub place_back : (ws : List (List ℕ)) (i : ℕ) (w : List ℕ) → place_in ws w ≡ Some i → (i < length ws) × (w ≡ get_or ws i [])
unfolding place_in
place_back ws i w e =
    let b = place_from_back ws 0 i w e in
    let same : i - 0 ≡ i = omega arith in
    (omega (arith, b.1), b.2 ∙ ap (λ n. get_or ws n []) same)
