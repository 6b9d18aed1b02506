-- How `clap` goes over words of which none begins with a dash.
use Rattle.std.proofs.Common.{◌≡◌, ◌∙◌, ℕ, ◌&&◌, ◌||◌, Bool, true, false, List, [], ◌∷◌, Some, None, refl, ap, ap₂}
use Rattle.std.specs.Prelude.{if◌then◌else◌, option_and_then}
use Rattle.std.specs.Option.{option_map_or}
use Rattle.std.specs.Str.{bytes_eq}
use Rattle.clap.specs.Lexer.{strip_byte, long_of, long_of_rest, short_of, short_of_rest}
use Rattle.clap.specs.Walk.{Held, Rule, Text, Walk, idle, value, trailing, walked, walk, walk_from, word_met, long_or_other, short_or_plain, to_positional, arg_by_index, after_step, nothing_held}
use Rattle.clap.specs.Simple.{Shape, built}
use Rattle.clap.specs.Takes.{turn_passes, word_passes, step_passes, walk_passes, flag_word_passes, bundle_passes}
use Rattle.command_line.specs.Commands.{begins_with_dash}
use Rattle.command_line.specs.Words.{taskrun_app}

-- the program's words, as they are built
abbrev pub top : Shape
top = (built taskrun_app).top

abbrev pub rules : List Rule
rules = top.rules

-- where a walk stands between two words
abbrev pub at : Held → ℕ → Walk
at h p = record { held = h; waiting = idle; position = p; is_trailing = false; stopped = None }

-- what a word without a dash is not
not_dashes : (w : Text) → begins_with_dash w ≡ false → bytes_eq w (45 ∷ 45 ∷ []) ≡ false
not_dashes [] e = refl
not_dashes (x ∷ xs) e = ap (λ b. b && bytes_eq xs (45 ∷ [])) e

not_stripped : (w : Text) → begins_with_dash w ≡ false → strip_byte 45 w ≡ None
not_stripped [] e = refl
not_stripped (x ∷ xs) e = ap (λ b. if b then Some xs else None) e

not_long : (w : Text) → begins_with_dash w ≡ false → long_of w ≡ None
not_long w e = ap (λ o. option_and_then long_of_rest (option_and_then (strip_byte 45) o)) (not_stripped w e)

not_short : (w : Text) → begins_with_dash w ≡ false → short_of w ≡ None
not_short w e = ap (λ o. option_and_then short_of_rest o) (not_stripped w e)

-- a word without a dash is a value
no_dash : (c : List Rule) (p : ℕ) (w : Text) (h : Held) → begins_with_dash w ≡ false → word_met c [] false idle p w h ≡ (h, value)
no_dash c p w h e =
    ap (λ b. if b then (h, trailing p) else long_or_other c idle w (long_of w) h) (not_dashes w e)
    ∙ ap (λ o. long_or_other c idle w o h) (not_long w e)
    ∙ ap (λ o. short_or_plain c idle w o h) (not_short w e)

pub goes : (h : Held) (p : ℕ) (w : Text) → begins_with_dash w ≡ false → walked rules [] (at h p) w ≡ to_positional rules (arg_by_index rules p) w (at h p) h
unfolding walked
goes h p w e = ap (λ met. after_step rules w (at h p) met.0 met.1) (no_dash rules p w h e)

word_ok : (w : Text) (h : Held) → begins_with_dash w ≡ false → word_passes top [] false idle w h ≡ true
word_ok w h e =
    ap (λ b. b || flag_word_passes rules top.args_override_self (long_of w) w h) (not_dashes w e)
    ∙ ap (λ o. flag_word_passes rules top.args_override_self o w h) (not_long w e)
    ∙ ap (λ o. option_map_or (λ flags. bundle_passes rules top.args_override_self flags h) o true) (not_short w e)

pub turn_ok : (h : Held) (p : ℕ) (w : Text) → begins_with_dash w ≡ false → step_passes top p h value ≡ true → turn_passes top [] (at h p) w ≡ true
turn_ok h p w e ok = ap₂ (λ a b. a && b) (word_ok w h e) (ap (λ met. step_passes top p met.0 met.1) (no_dash rules p w h e) ∙ ok)

-- ---- one, two and three words

-- what is held after a word at a place
abbrev pub then_held : ℕ → Text → Held → Held
then_held p w h = (to_positional rules (arg_by_index rules p) w (at h p) h).held

abbrev pub held_one : Text → Held
held_one a = then_held 1 a nothing_held

abbrev pub held_two : Text → Text → Held
held_two a b = then_held 2 b (held_one a)

abbrev pub held_three : Text → Text → Text → Held
held_three a b c = then_held 3 c (held_two a b)

pub walk_one : (a : Text) → begins_with_dash a ≡ false → walk rules [] nothing_held (a ∷ []) ≡ at (held_one a) 2
walk_one a e = goes nothing_held 1 a e

pub walk_two : (a b : Text) → begins_with_dash a ≡ false → begins_with_dash b ≡ false → walk rules [] nothing_held (a ∷ b ∷ []) ≡ at (held_two a b) 3
walk_two a b e f = ap (λ w. walked rules [] w b) (walk_one a e) ∙ goes (held_one a) 2 b f

pub walk_three : (a b c : Text) → begins_with_dash a ≡ false → begins_with_dash b ≡ false → begins_with_dash c ≡ false → walk rules [] nothing_held (a ∷ b ∷ c ∷ []) ≡ at (held_three a b c) 4
walk_three a b c e f g = ap (λ w. walked rules [] w c) (walk_two a b e f) ∙ goes (held_two a b) 3 c g

-- all words pass
last_passes : (h : Held) (p : ℕ) (w : Text) → begins_with_dash w ≡ false → step_passes top p h value ≡ true → walk_passes top [] (at h p) (w ∷ []) ≡ true
unfolding walk_passes
last_passes h p w e ok = ap (λ b. b && true) (turn_ok h p w e ok)

more_pass : (h next : Held) (p q : ℕ) (w : Text) (rest : List Text) → begins_with_dash w ≡ false → step_passes top p h value ≡ true → walked rules [] (at h p) w ≡ at next q → walk_passes top [] (at next q) rest ≡ true → walk_passes top [] (at h p) (w ∷ rest) ≡ true
unfolding walk_passes
more_pass h next p q w rest e ok goes_on others = ap₂ (λ a b. a && b) (turn_ok h p w e ok) (ap (λ v. walk_passes top [] v rest) goes_on ∙ others)

pub passes_one : (a : Text) → begins_with_dash a ≡ false → walk_passes top [] (walk_from nothing_held) (a ∷ []) ≡ true
passes_one a e = last_passes nothing_held 1 a e refl

pub passes_two : (a b : Text) → begins_with_dash a ≡ false → begins_with_dash b ≡ false → walk_passes top [] (walk_from nothing_held) (a ∷ b ∷ []) ≡ true
passes_two a b e f = more_pass nothing_held (held_one a) 1 2 a (b ∷ []) e refl (goes nothing_held 1 a e) (last_passes (held_one a) 2 b f refl)

pub passes_three : (a b c : Text) → begins_with_dash a ≡ false → begins_with_dash b ≡ false → begins_with_dash c ≡ false → walk_passes top [] (walk_from nothing_held) (a ∷ b ∷ c ∷ []) ≡ true
passes_three a b c e f g =
    more_pass nothing_held (held_one a) 1 2 a (b ∷ c ∷ []) e refl (goes nothing_held 1 a e)
    (more_pass (held_one a) (held_two a b) 2 3 b (c ∷ []) f refl (goes (held_one a) 2 b f) (last_passes (held_two a b) 3 c g refl))
