-- The ends of lists in a row.
use Rattle.std.proofs.Common.{◌≡◌, ℕ, List, [], ◌∷◌, ◌++◌, reverse, refl, ap, ◌∙◌}
use Rattle.std.specs.Prelude.{Option, Some, None}
use Rattle.std.proofs.lemmas.List.{reverse-append}
use Rattle.sched_base.specs.KeyedList.{KeyedItem, first_entry}
use Rattle.eb32_walk.specs.Ends.{last_entry}

-- the first list's end, or the second's where there is none
abbrev pub or_else : Option ℕ → Option ℕ → Option ℕ
or_else None y = y
or_else (Some x) y = Some x

pub first-append : (xs ys : List KeyedItem) → first_entry (xs ++ ys) ≡ or_else (first_entry xs) (first_entry ys)
first-append [] ys = refl
first-append (x ∷ xs) ys = refl

pub last-append : (xs ys : List KeyedItem) → last_entry (xs ++ ys) ≡ or_else (last_entry ys) (last_entry xs)
last-append xs ys = ap first_entry (reverse-append xs ys) ∙ first-append (reverse ys) (reverse xs)

pub first_of : (xs ys : List KeyedItem) (e : ℕ) → first_entry xs ≡ Some e → first_entry (xs ++ ys) ≡ Some e
first_of xs ys e h = first-append xs ys ∙ ap (λ x. or_else x (first_entry ys)) h

pub last_of : (xs ys : List KeyedItem) (e : ℕ) → last_entry ys ≡ Some e → last_entry (xs ++ ys) ≡ Some e
last_of xs ys e h = last-append xs ys ∙ ap (λ x. or_else x (last_entry xs)) h
