-- A script, line by line: the five settings, then the other lines.
use Rattle.std.proofs.lemmas.Option.{slice_get_past}
use Rattle.std.proofs.Common.{◌≡◌, ℕ, ◌+◌, ◌-◌, ◌<◌, ◌^◌, true, false, List, [], ◌∷◌, ◌++◌, map, refl, ap, sym, ◌∙◌, arith, subst}
use Rattle.std.proofs.lemmas.Bool.{both_ways, cond-true, and_from}
use Rattle.std.specs.Prelude.{Some, None, Ok, Err, decimal}
use Rattle.std.specs.List.{join_with_byte, list_all}
use Rattle.step_tables.specs.declared.faults.FaultKind.TheVariants as kinds
use Rattle.step_tables.specs.declared.progress.Progress.{Progress}
use Rattle.step_tables.specs.Types.{Setting, Workers}
use Rattle.step_tables.specs.Words.{Word, ◌>>=◌, is_empty, words_of}
use Rattle.step_tables.specs.Shapes.{Said, sets, setting_name, all_settings}
use Rattle.step_tables.specs.Text.{said_words}
use Rattle.step_tables.specs.Limits.{limits_of}
use Rattle.step_tables.specs.Judging.{first_fault, tests, may_come, value, outside, least, most, with_setting, with_line, judge_tested, judge_said, setting_at, said_in, said_of, judge, scripts}
use Rattle.text_lines.proofs.Steps.{bind_some}
use Rattle.text_lines.proofs.LinesTaken.{Steps}
use Rattle.step_tables.proofs.Back.{IsBody, body_back, setting_back}
use Rattle.step_tables.proofs.Bounds.{inside_small}
use Rattle.step_tables.proofs.Good.{passes, no_kind}
use Rattle.step_tables.proofs.Steps.{Passes, Runs, said_back, judged_later}
use Rattle.step_tables.proofs.WordsBack.{value_back, words_back}
use Rattle.step_tables.proofs.WordsAgain.{is_word, are_words, words_again, number_is_word, is_number, value_again}
use Rattle.step_tables.proofs.WordsFine.{words_fine}
use Rattle.step_tables.proofs.ShapesAgain.{body_again, setting_again}

-- a line's bytes, without the line feed
abbrev pub bytes_of : Said → List ℕ
bytes_of said = join_with_byte 32 (said_words said)

-- a good line behind the settings is that of what it says, which passes
passes_back : (n : ℕ) (line : List ℕ) (p q : Progress) → 6 < n → p.ended ≡ false → judge n p line ≡ Ok q → (x : Said) × (line ≡ bytes_of x) × Passes p x × (with_line p x ≡ q)
unfolding said_of said_in setting_at
passes_back n line p q behind unended e =
    let (x, says, comes, good, added) = said_back p q (said_of n line) (sym (judged_later n p line (omega arith)) ∙ e) in
    let none : setting_at n ≡ None = slice_get_past all_settings (n - 2) (omega arith) in
    let (ws, words, said) = bind_some (words_of line) (said_in (setting_at n)) x says in
    let (body, ws_is) = body_back ws x (ap (λ o. said_in o ws) (sym none) ∙ said) in
    (x, words_back line (said_words x) (words ∙ ap Some ws_is), record { unended = unended; body = body; comes = comes; good = good }, added)

-- lines behind the settings are those of what they say
pub run_back : (n : ℕ) (p q : Progress) (lines : List (List ℕ)) → 6 < n → Steps scripts n p lines q → (xs : List Said) × (lines ≡ map bytes_of xs) × Runs p xs q × (q.ended ≡ true)
run_back n p q [] behind steps = ([], refl, steps.1, ap (λ k. k.ended) (sym steps.1) ∙ steps.0)
run_back n p q (line ∷ lines) behind steps =
    let (m, going, good, more) = steps in
    let (x, is, one, added) = passes_back n line p m behind going good in
    let (xs, are, runs, ended) = run_back (n + 1) m q lines (omega arith) more in
    (x ∷ xs, (λ i. is i ∷ are i), (one, subst (λ k. Runs k xs q) (sym added) runs), ended)

-- what may come and has no fault is added
said_again : (p : Progress) (x : Said) → may_come p x ≡ true → first_fault (tests p x) ≡ None → judge_said p (Some x) ≡ Ok (with_line p x)
unfolding judge_said judge_tested
said_again p x comes good = cond-true (may_come p x) _ (Err kinds.Word) comes ∙ ap (λ k. judge_tested k (with_line p x)) good

some_words : (ws : List Word) → is_empty ws ≡ false → are_words ws ≡ true → words_of (join_with_byte 32 ws) ≡ Some ws
some_words [] e f = absurd (cc)
some_words (w ∷ ws) e f = words_again w ws f

pub said_some : (x : Said) → is_empty (said_words x) ≡ false
said_some (sets setting w) = refl
said_some x = refl

body_said_again : (n : ℕ) (x : Said) → 6 < n → IsBody x → are_words (said_words x) ≡ true → said_of n (bytes_of x) ≡ Some x
unfolding said_of said_in setting_at
body_said_again n x behind body words =
    ap (λ o. o >>= said_in (setting_at n)) (some_words (said_words x) (said_some x) words)
    ∙ ap (λ o. said_in o (said_words x)) (slice_get_past all_settings (n - 2) (omega arith))
    ∙ body_again x body

-- lines that pass are taken
pub run_again : (n : ℕ) (p q : Progress) (xs : List Said) → 6 < n → Runs p xs q → q.ended ≡ true → Steps scripts n p (map bytes_of xs) q
run_again n p q [] behind r ended = (ap (λ k. k.ended) r ∙ ended, r)
run_again n p q (x ∷ xs) behind r ended = (
  with_line p x,
  r.0.unended,
  judged_later n p (bytes_of x) (omega arith) ∙ ap (judge_said p) (body_said_again n x behind r.0.body (words_fine p x r.0.body r.0.good)) ∙ said_again p x r.0.comes r.0.good,
  run_again (n + 1) (with_line p x) q xs (omega arith) r.1 ended,
)

-- lines that pass have words
pub runs_words : (p q : Progress) (xs : List Said) → Runs p xs q → list_all (λ x. are_words (said_words x)) xs ≡ true
runs_words p q [] r = refl
runs_words p q (x ∷ xs) r = and_from _ _ (words_fine p x r.0.body r.0.good) (runs_words (with_line p x) q xs r.1)

-- these settings have the lines from number n on
abbrev pub AtLines : List Setting → ℕ → Type 0
AtLines [] n = Unit {0}
AtLines (k ∷ ks) n = (setting_at n ≡ Some k) × AtLines ks (n + 1)

-- the setting may have this value, in a script of this version
abbrev pub MayBe : ℕ → Setting → ℕ → Type 0
MayBe version k v = outside (least k) (most (limits_of version) k) v ≡ false

-- the lines of the settings, and those behind them
abbrev pub Settings : List Setting → ℕ → Progress → List (List ℕ) → Progress → Type 0
Settings [] n p lines q = Steps scripts n p lines q
Settings (k ∷ ks) n p lines q = (v : ℕ) × (rest : List (List ℕ)) × (lines ≡ bytes_of (sets k (decimal v)) ∷ rest) × MayBe p.version k v × Settings ks (n + 1) (with_setting p k v) rest q

-- a setting changes no version, and ends nothing
kept : (p : Progress) (k : Setting) (v : ℕ) → ((with_setting p k v).version ≡ p.version) × ((with_setting p k v).ended ≡ p.ended)
unfolding with_setting
kept p Workers v = (refl, refl)
kept p k v = (refl, refl)

setting_line_back : (k : Setting) (n : ℕ) (line : List ℕ) (p q : Progress) → setting_at n ≡ Some k → 1 < n → judge n p line ≡ Ok q → (v : ℕ) × (line ≡ bytes_of (sets k (decimal v))) × MayBe p.version k v × (with_setting p k v ≡ q)
unfolding said_of said_in with_line
setting_line_back k n line p q at later e =
    let (x, says, comes, good_x, added) = said_back p q (said_of n line) (sym (judged_later n p line later) ∙ e) in
    let (ws, words, said) = bind_some (words_of line) (said_in (setting_at n)) x says in
    let (w, is, ws_is) = setting_back k ws x (ap (λ o. said_in o ws) (sym at) ∙ said) in
    let good : first_fault (tests p (sets k w)) ≡ None = ap (λ x. first_fault (tests p x)) (sym is) ∙ good_x in
    let (number, e_2) = passes _ _ _ good in
    let (range, e_3) = passes _ _ _ e_2 in
    (value w, words_back line _ (words ∙ ap Some (ws_is ∙ ap said_words is)) ∙ ap (λ w. bytes_of (sets k w)) (value_back w number), range, ap (with_line p) (sym is) ∙ added)

pub settings_back : (ks : List Setting) (n : ℕ) (p q : Progress) (lines : List (List ℕ)) → AtLines ks n → 1 < n → p.ended ≡ false → Steps scripts n p lines q → Settings ks n p lines q
settings_back [] n p q lines at later unended steps = steps
settings_back (k ∷ ks) n p q [] at later unended steps = absurd (both_ways p.ended unended steps.0)
settings_back (k ∷ ks) n p q (line ∷ lines) at later unended steps =
    let (m, going, good, more) = steps in
    let (v, is, range, added) = setting_line_back k n line p m at.0 later good in
    let next = with_setting p k v in
    (v, lines, ap (λ l. l ∷ lines) is, range, settings_back ks (n + 1) next q lines at.1 (omega arith) ((kept p k v).1 ∙ unended) (subst (λ m. Steps scripts (n + 1) m lines q) (sym added) more))

-- with these values of settings, and the number of the line behind theirs
abbrev pub with_settings : Progress → List Setting → (Setting → ℕ) → Progress
with_settings p [] values = p
with_settings p (k ∷ ks) values = with_settings (with_setting p k (values k)) ks values

abbrev pub behind_of : List Setting → ℕ → ℕ
behind_of [] n = n
behind_of (k ∷ ks) n = behind_of ks (n + 1)

pub setting_words : (k : Setting) (v : ℕ) → v < 10 ^ 10 → are_words (said_words (sets k (decimal v))) ≡ true
setting_words k v h = and_from _ _ (named k) (and_from _ true (number_is_word v h) refl)
  where
    named : (k : Setting) → is_word (setting_name k) ≡ true
    named Workers = refl
    named k = refl

setting_line_again : (k : Setting) (n : ℕ) (p : Progress) (v : ℕ) → setting_at n ≡ Some k → 1 < n → MayBe p.version k v → judge n p (bytes_of (sets k (decimal v))) ≡ Ok (with_setting p k v)
unfolding said_of said_in with_line
setting_line_again k n p v at later range =
    let small = inside_small p.version k v range in
    let says : said_of n (bytes_of (sets k (decimal v))) ≡ Some (sets k (decimal v)) =
    ap (λ o. o >>= said_in (setting_at n)) (some_words (said_words (sets k (decimal v))) refl (setting_words k v small)) ∙ ap (λ o. said_in o (said_words (sets k (decimal v)))) at ∙ setting_again k (decimal v) in
    judged_later n p _ later ∙ ap (judge_said p) says
    ∙ said_again p (sets k (decimal v)) refl (no_kind _ kinds.Number _ (is_number v small) (no_kind _ kinds.LimitPassed None (ap (outside (least k) (most (limits_of p.version) k)) (value_again v small) ∙ range) refl))
    ∙ ap (λ m. Ok (with_setting p k m)) (value_again v small)

pub settings_again : (ks : List Setting) (n : ℕ) (p q : Progress) (values : Setting → ℕ) (lines : List (List ℕ)) → AtLines ks n → 1 < n → p.ended ≡ false → ((k : Setting) → MayBe p.version k (values k))
    → Steps scripts (behind_of ks n) (with_settings p ks values) lines q → Steps scripts n p (map (λ k. bytes_of (sets k (decimal (values k)))) ks ++ lines) q
settings_again [] n p q values lines at later unended range steps = steps
settings_again (k ∷ ks) n p q values lines at later unended range steps =
    let next = with_setting p k (values k) in (
      next,
      unended,
      setting_line_again k n p (values k) at.0 later (range k),
      settings_again ks (n + 1) next q values lines at.1 (omega arith) ((kept p k (values k)).1 ∙ unended) (λ j. ap (λ v. outside (least j) (most (limits_of v) j) (values j)) (kept p k (values k)).0 ∙ range j) steps,
    )
