-- A line, word by word as it is written.
use Rattle.std.proofs.Common.{◌≡◌, ℕ, List, [], ◌∷◌, ◌++◌, refl, ap, ◌∙◌, sym, append_assoc, append-nil}
use Rattle.std.specs.List.{join_with_byte}
use Rattle.text_lines.specs.Added.{spaced, spelled}

joined : (word : List ℕ) (words : List (List ℕ)) → join_with_byte 32 (word ∷ words) ≡ word ++ spaced words
joined word [] = sym (append-nil word)
joined word (next ∷ words) = ap (λ t. word ++ (32 ∷ t)) (joined next words)

pub spelled_cons : (word : List ℕ) (words : List (List ℕ)) → spelled (word ∷ words) ≡ word ++ (spaced words ++ 10 ∷ [])
unfolding spelled
spelled_cons word words = ap (λ t. t ++ 10 ∷ []) (joined word words) ∙ append_assoc word (spaced words) (10 ∷ [])

pub spaced_append : (xs ys : List (List ℕ)) → spaced (xs ++ ys) ≡ spaced xs ++ spaced ys
spaced_append [] ys = refl
spaced_append (x ∷ xs) ys = ap (λ t. 32 ∷ t) (ap (λ t. x ++ t) (spaced_append xs ys) ∙ sym (append_assoc x (spaced xs) (spaced ys)))

-- the first word, the others and the line feed, one after another
pub line_written : (word : List ℕ) (words : List (List ℕ)) (old first more new : List ℕ) → first ≡ old ++ word → more ≡ first ++ spaced words → new ≡ more ++ 10 ∷ [] → new ≡ old ++ spelled (word ∷ words)
line_written word words old first more new e f g = rw (g, f, e, spelled_cons word words) (simp append_assoc)
