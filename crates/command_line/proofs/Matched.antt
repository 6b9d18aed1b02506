-- What is found in one, two or three words of which none begins with a dash.
use Rattle.std.proofs.Common.{◌≡◌, ◌≢◌, ◌∙◌, ℕ, ◌+◌, ◌<◌, ◌≤◌, ◌&&◌, ◌||◌, Bool, true, false, not, List, [], ◌∷◌, map, length, Option, Some, None, codes, refl, sym, ap, ap₂, arith}
use Rattle.std.specs.Prelude.{nat_le, option_and_then, is_some}
use Rattle.std.specs.List.{list_all, list_any}
use Rattle.std.proofs.lemmas.Bool.{and_parts}
use Rattle.std.proofs.lemmas.Bool.Decides.{nat_tests}
use Rattle.clap.specs.Walk.{Held, Text, Walk, walk, nothing_held, finished, first_of, rows_of}
use Rattle.clap.specs.Simple.{App, built, entered, is_simple, matches_of}
use Rattle.clap.specs.Takes.{takes, entered_passes, settle_passes, default_passes, is_valid}
use Rattle.clap.specs.Matches.{first_value, found_of}
use Rattle.clap.specs.declared.parser.matches.ArgMatches.{ArgMatches}
use Rattle.clap.proofs.WalkLemmas.{first_value-rows}
use Rattle.clap.proofs.OnLiterals.{clap_on_literals}
use Rattle.command_line.specs.declared.command.Command.{Command}
use Rattle.command_line.specs.Commands.{begins_with_dash, may_command, command_in, command_of}
use Rattle.command_line.specs.Words.{taskrun_app, command_found}
use Rattle.command_line.proofs.Walks.{top, rules, at, held_one, held_two, held_three, walk_one, walk_two, walk_three, passes_one, passes_two, passes_three}

pub app_is_simple : is_simple taskrun_app ≡ true
unfolding clap_on_literals
app_is_simple = refl

-- whether the words are taken, by where the walk over them ends and whether each passes
abbrev taken_at : Walk → Bool → Bool
taken_at w passes =
    is_simple taskrun_app && (entered_passes (built taskrun_app) w.stopped
    && (passes && (settle_passes rules top.args_override_self w.held && (list_all default_passes rules && is_valid top (finished rules w.held) (is_some (entered (built taskrun_app) w.stopped))))))

one_settled : (a : Text) → taken_at (at (held_one a) 2) true ≡ true
unfolding clap_on_literals
one_settled a = refl

two_settled : (a b : Text) → taken_at (at (held_two a b) 3) true ≡ true
unfolding clap_on_literals
two_settled a b = refl

three_settled : (a b c : Text) → taken_at (at (held_three a b c) 4) true ≡ true
unfolding clap_on_literals
three_settled a b c = refl

takes_one : (a : Text) → begins_with_dash a ≡ false → takes taskrun_app (a ∷ []) ≡ true
takes_one a e = ap₂ taken_at (walk_one a e) (passes_one a e) ∙ one_settled a

takes_two : (a b : Text) → begins_with_dash a ≡ false → begins_with_dash b ≡ false → takes taskrun_app (a ∷ b ∷ []) ≡ true
takes_two a b e f = ap₂ taken_at (walk_two a b e f) (passes_two a b e f) ∙ two_settled a b

takes_three : (a b c : Text) → begins_with_dash a ≡ false → begins_with_dash b ≡ false → begins_with_dash c ≡ false → takes taskrun_app (a ∷ b ∷ c ∷ []) ≡ true
takes_three a b c e f g = ap₂ taken_at (walk_three a b c e f g) (passes_three a b c e f g) ∙ three_settled a b c

-- the command that is found in a held state
abbrev found_in : Held → Option Command
found_in h = option_and_then (λ name. command_in name (first_of (codes "seed") (finished rules h)) (first_of (codes "size") (finished rules h))) (first_of (codes "command") (finished rules h))

one_found : (a : Text) → found_in (held_one a) ≡ command_in a None None
unfolding clap_on_literals
one_found a = refl

two_found : (a b : Text) → found_in (held_two a b) ≡ command_in a (Some b) None
unfolding clap_on_literals
two_found a b = refl

three_found : (a b c : Text) → found_in (held_three a b c) ≡ command_in a (Some b) (Some c)
unfolding clap_on_literals
three_found a b c = refl

-- what was found is what is held at the end of the walk
found_by : (m : ArgMatches) (words : List Text) (h : Held) (p : ℕ) → rows_of (found_of m) ≡ matches_of taskrun_app words → walk rules [] nothing_held words ≡ at h p → command_found m ≡ found_in h
found_by m words h p rows goes =
    let value : (id : Text) → first_value (found_of m) id ≡ first_of id (finished rules h) = λ id. first_value-rows (found_of m) id ∙ ap (first_of id) (rows ∙ ap (λ (w : Walk). finished rules w.held) goes) in
    λ i. option_and_then (λ name. command_in name (value (codes "seed") i) (value (codes "size") i)) (value (codes "command") i)

-- ---- which words reach `clap`

no_word : (b : Bool) → not b ≡ true → b ≡ false
no_word true e = cc
no_word false e = refl

neither : (a b : Bool) → (a || b) ≡ false → (a ≡ false) × (b ≡ false)
neither true b e = cc
neither false b e = (refl, e)

no_dashes : (words : List Text) → may_command words ≡ true → list_any begins_with_dash words ≡ false
no_dashes words may = no_word _ (and_parts _ _ (and_parts (nat_le 1 (length words)) _ may).1).1

few_words : (words : List Text) → may_command words ≡ true → (1 ≤ length words) × (length words ≤ 3)
few_words words may =
    let p = and_parts (nat_le 1 (length words)) _ may in
    let q = and_parts (nat_le (length words) 3) _ p.1 in
    let low = p.0 in
    let high = q.0 in
    (grind (arith, nat_tests), grind (arith, nat_tests))

pub all_taken : (words : List Text) → may_command words ≡ true → takes taskrun_app words ≡ true
all_taken [] may = cc
all_taken (a ∷ []) may = takes_one a (neither _ _ (no_dashes (a ∷ []) may)).0
all_taken (a ∷ b ∷ []) may =
    let p = neither _ _ (no_dashes (a ∷ b ∷ []) may) in
    takes_two a b p.0 (neither _ _ p.1).0
all_taken (a ∷ b ∷ c ∷ []) may =
    let p = neither _ _ (no_dashes (a ∷ b ∷ c ∷ []) may) in
    let q = neither _ _ p.1 in
    takes_three a b c p.0 q.0 (neither _ _ q.1).0
all_taken (a ∷ b ∷ c ∷ d ∷ rest) may = absurd (let few = few_words (a ∷ b ∷ c ∷ d ∷ rest) may in omega arith)

pub all_found : (m : ArgMatches) (words : List Text) → may_command words ≡ true → rows_of (found_of m) ≡ matches_of taskrun_app words → command_found m ≡ command_of words
all_found m [] may rows = cc
all_found m (a ∷ []) may rows =
    let p = neither _ _ (no_dashes (a ∷ []) may) in
    found_by m (a ∷ []) (held_one a) 2 rows (walk_one a p.0) ∙ one_found a
all_found m (a ∷ b ∷ []) may rows =
    let p = neither _ _ (no_dashes (a ∷ b ∷ []) may) in
    let q = neither _ _ p.1 in
    found_by m (a ∷ b ∷ []) (held_two a b) 3 rows (walk_two a b p.0 q.0) ∙ two_found a b
all_found m (a ∷ b ∷ c ∷ []) may rows =
    let p = neither _ _ (no_dashes (a ∷ b ∷ c ∷ []) may) in
    let q = neither _ _ p.1 in
    let r = neither _ _ q.1 in
    found_by m (a ∷ b ∷ c ∷ []) (held_three a b c) 4 rows (walk_three a b c p.0 q.0 r.0) ∙ three_found a b c
all_found m (a ∷ b ∷ c ∷ d ∷ rest) may rows = absurd (let few = few_words (a ∷ b ∷ c ∷ d ∷ rest) may in omega arith)
