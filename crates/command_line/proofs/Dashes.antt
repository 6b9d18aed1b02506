-- Words of which some begins with a dash are no command.
use Rattle.std.proofs.Common.{◌≡◌, ◌∙◌, ℕ, ◌<◌, ◌≤◌, ◌&&◌, ◌||◌, Bool, true, false, not, List, [], ◌∷◌, map, length, Option, Some, None, codes, refl, sym, ap, ap₂, arith, eqb-true}
use Rattle.std.specs.Prelude.{nat_le, if◌then◌else◌, option_and_then}
use Rattle.std.specs.List.{list_any}
use Rattle.std.specs.Str.{bytes_eq, all_ascii_digits}
use Rattle.std.proofs.lemmas.Bool.Decides.{nat_tests}
use Rattle.std.proofs.lemmas.List.{length-map}
use Rattle.text_lines.specs.Pieces.{Word}
use Rattle.text_lines.specs.Numbers.{number, plain_number, is_plain}
use Rattle.command_line.specs.Commands.{begins_with_dash, may_command, bare_command, generation, generation_of, command_in, command_of}

dash_bare : (w : Word) → begins_with_dash w ≡ true → bare_command w ≡ None
dash_bare [] e = cc
dash_bare (x ∷ xs) e = let is = eqb-true x 45 e in rw is refl

dash_named : (w seed size : Word) → begins_with_dash w ≡ true → command_in w (Some seed) (Some size) ≡ None
dash_named [] seed size e = cc
dash_named (x ∷ xs) seed size e = let is = eqb-true x 45 e in rw is refl

dash_plain : (most : ℕ) (xs : List ℕ) → plain_number most (45 ∷ xs) ≡ None
unfolding plain_number
dash_plain most xs = refl

dash_number : (most : ℕ) (w : Word) → begins_with_dash w ≡ true → number most w ≡ None
unfolding number
dash_number most [] e = cc
dash_number most (x ∷ xs) e =
    let is = eqb-true x 45 e in
    by_plain (is_plain (x ∷ xs)) (ap (λ y. plain_number most (y ∷ xs)) is ∙ dash_plain most xs)
  where
    by_plain : (b : Bool) → plain_number most (x ∷ xs) ≡ None → (if b then plain_number most (x ∷ xs) else None) ≡ None
    by_plain true none = none
    by_plain false none = refl

dash_seed : (seed size : Word) → begins_with_dash seed ≡ true → generation seed size ≡ None
dash_seed seed size e = ap (λ o. option_and_then (λ n. option_and_then (generation_of n) (number 4096 size)) o) (dash_number 18446744073709551615 seed e)

dash_size : (seed size : Word) → begins_with_dash size ≡ true → generation seed size ≡ None
dash_size seed size e = ap (λ o. option_and_then (λ n. option_and_then (generation_of n) o) (number 18446744073709551615 seed)) (dash_number 4096 size e) ∙ none_after (number 18446744073709551615 seed)
  where
    none_after : (o : Option ℕ) → option_and_then (λ n. option_and_then (generation_of n) None) o ≡ None
    none_after None = refl
    none_after (Some n) = refl

not_generated : (w seed size : Word) → generation seed size ≡ None → command_in w (Some seed) (Some size) ≡ None
not_generated w seed size none = by_name (bytes_eq w (codes "gen")) none
  where
    by_name : (b : Bool) → generation seed size ≡ None → (if b then generation seed size else None) ≡ None
    by_name true none = none
    by_name false none = refl

one_of_three : (a b c : Word) (x y z : Bool) → begins_with_dash a ≡ x → begins_with_dash b ≡ y → begins_with_dash c ≡ z → (x || (y || (z || false))) ≡ true → command_in a (Some b) (Some c) ≡ None
one_of_three a b c true y z e f g h = dash_named a b c e
one_of_three a b c false true z e f g h = not_generated a b c (dash_seed b c f)
one_of_three a b c false false true e f g h = not_generated a b c (dash_size b c g)
one_of_three a b c false false false e f g h = cc

just_one : (b : Bool) → (b || false) ≡ true → b ≡ true
just_one true e = refl
just_one false e = cc

pub dashes_no_command : (words : List Word) → list_any begins_with_dash words ≡ true → command_of words ≡ None
dashes_no_command [] e = refl
dashes_no_command (a ∷ []) e = dash_bare a (just_one _ e)
dashes_no_command (a ∷ b ∷ []) e = refl
dashes_no_command (a ∷ b ∷ c ∷ []) e = one_of_three a b c _ _ _ refl refl refl e
dashes_no_command (a ∷ b ∷ c ∷ d ∷ rest) e = refl

some_dash : (b : Bool) → not b ≡ false → b ≡ true
some_dash true e = refl
some_dash false e = cc

-- words that do not reach `clap` are no command
pub kept_out : (words : List Word) → may_command words ≡ false → command_of words ≡ None
kept_out [] e = refl
kept_out (a ∷ []) e = dashes_no_command (a ∷ []) (some_dash _ e)
kept_out (a ∷ b ∷ []) e = refl
kept_out (a ∷ b ∷ c ∷ []) e = dashes_no_command (a ∷ b ∷ c ∷ []) (some_dash _ e)
kept_out (a ∷ b ∷ c ∷ d ∷ rest) e = refl

-- ---- the test of the words

pub may_by_count : (words : List Word) (any : Bool) → any ≡ list_any begins_with_dash words → 1 ≤ length words → length words ≤ 3 → not any ≡ may_command words
may_by_count words any is low high =
    let first : nat_le 1 (length words) ≡ true = grind (arith, nat_tests) in
    let last : nat_le (length words) 3 ≡ true = grind (arith, nat_tests) in
    rw (first, last) (ap not is)

pub any_along : {A : Type 0} (f : A → Word) (xs : List A) → list_any (λ x. begins_with_dash (f x)) xs ≡ list_any begins_with_dash (map f xs)
any_along f [] = refl
any_along f (x ∷ xs) = ap (λ b. begins_with_dash (f x) || b) (any_along f xs)
