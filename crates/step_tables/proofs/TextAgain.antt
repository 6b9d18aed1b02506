-- The text of a script in range is read as that script.
use Rattle.std.proofs.Common.{◌≡◌, ℕ, suc, ◌+◌, ◌^◌, ◌≤◌, ◌<◌, true, false, List, [], ◌∷◌, ◌++◌, map, length, refl, ap, sym, ◌∙◌, arith, subst, append_assoc, append-nil, length-append, lit<, inl, inr}
use Rattle.std.specs.Prelude.{Some, unwrap_or, codes, None, Ok, ◌==◌, nat_lt, nat_le, decimal, flat_map}
use Rattle.std.specs.List.{list_all, join_with_byte}
use Rattle.std.proofs.lemmas.Bool.{cases_Bool, eqb-true, and_from, or_from, eq-eqb, leb-true, lt-leb, ltb-true, le-ltb}
use Rattle.std.proofs.lemmas.Bool.Decides.{nat_tests}
use Rattle.std.proofs.lemmas.List.Folds.{list_all-append}
use Rattle.step_tables.specs.declared.faults.FaultKind.TheVariants as kinds
use Rattle.step_tables.specs.Types.{TaskDef, Event, Setting, Workers, Depth, Start, Step, Rounds}
use Rattle.step_tables.specs.declared.tables.Script.{Script}
use Rattle.step_tables.specs.declared.progress.Progress.{Progress}
use Rattle.step_tables.specs.Words.{Word, pieces, is_empty, is_name}
use Rattle.step_tables.specs.Shapes.{Said, sets, ends, all_settings}
use Rattle.step_tables.specs.Text.{header_of, line_text, said_words, task_said, rows_said, event_said, names_of, setting_of, settings_said, body_said, lines_text, script_text}
use Rattle.step_tables.specs.Sound.{within, is_sound_action, is_sound_task, rising_below, is_sound}
use Rattle.step_tables.specs.Limits.{newest, limits_of}
use Rattle.text_lines.specs.Lines.{folded, read_whole}
use Rattle.text_lines.proofs.LimitLaws.{short_text}
use Rattle.text_lines.proofs.LinesTaken.{Steps, steps_again}
use Rattle.step_tables.specs.Judging.{value, event_of, with_event, with_line, with_setting, nothing, script_from, setting_at, judge, judge_header, script_within, script_of, version_of, version_in, first_line, scripts, script_read}
use Rattle.step_tables.proofs.Good.{no_kind}
use Rattle.step_tables.proofs.Steps.{Passes, Runs, runs_then}
use Rattle.step_tables.proofs.RowsOf.{first_of_both, second_of_both}
use Rattle.step_tables.proofs.Valid.{last_from, last_is}
use Rattle.step_tables.proofs.WordsAgain.{are_words, is_number, value_again, line_cut}
use Rattle.step_tables.proofs.Bounds.{InRange, in_range, inside_small, within_outside, start_inside, workers_small, rounds_small}
use Rattle.step_tables.proofs.Walk.{bytes_of, run_again, runs_words, said_some, MayBe, setting_words, settings_again}
use Rattle.step_tables.proofs.TasksAgain.{base, lens, after_tasks, tasks_run}
use Rattle.step_tables.proofs.RowsAgain.{order_fine, order_known, action_again}
use Rattle.step_tables.proofs.Length.{whole_text}
use Rattle.step_tables.proofs.RowsRun.{Fine, between, rows_run}

-- all tasks are read, and these events
abbrev with_events : Script → List Event → Progress
with_events s es = base s s.tasks (lens s.tasks) (length s.tasks) es

-- an event's line passes, and adds its event
event_step : (s : Script) (es : List Event) (e : Event) → Fine s.tasks → s.rounds < 10 ^ 10 → is_sound_action (length s.tasks) e.action ≡ true → e.round < s.rounds → last_from 0 es ≤ e.round → length es < (limits_of s.version).events
    → Passes (with_events s es) (event_said (names_of s.tasks) e) × (with_line (with_events s es) (event_said (names_of s.tasks) e) ≡ with_events s (es ++ e ∷ []))
unfolding event_said event_of with_line with_event
event_step s es e fine rounds sound below rises few =
    let small : e.round < 10 ^ 10 = omega arith in (
      record {
        unended = refl;
        body = order_fine s.tasks e.action fine.fine sound;
        comes = eq-eqb (length s.tasks) (length s.tasks) refl;
        good =
            no_kind _ kinds.Number _ (is_number e.round small)
            (no_kind _ kinds.UnknownTask _ (order_known s.tasks e.action fine.distinct sound)
            (no_kind _ kinds.LimitPassed None (or_from (nat_le s.rounds (value (decimal e.round))) _ (ap (nat_le s.rounds) (value_again e.round small) ∙ lt-leb s.rounds e.round below)
            (or_from (nat_le (limits_of s.version).events (length es)) _ (lt-leb (limits_of s.version).events (length es) few)
            ((λ i. nat_lt (value_again e.round small i) (last_is 0 es i)) ∙ le-ltb e.round (last_from 0 es) rises))) refl));
      },
      λ i. base s s.tasks (lens s.tasks) (length s.tasks) (es ++ record { round = value_again e.round small i; action = action_again s.tasks e.action fine.distinct sound i } ∷ []),
    )

last_of_more : (from : ℕ) (es : List Event) (e : Event) → last_from from (es ++ e ∷ []) ≡ e.round
last_of_more from [] e = refl
last_of_more from (f ∷ es) e = last_of_more f.round es e

events_run : (s : Script) (es more : List Event) → Fine s.tasks → s.rounds < 10 ^ 10 → list_all (λ e. is_sound_action (length s.tasks) e.action) more ≡ true → rising_below (last_from 0 es) s.rounds more ≡ true → length (es ++ more) ≤ (limits_of s.version).events
    → Runs (with_events s es) (map (event_said (names_of s.tasks)) more) (with_events s (es ++ more))
events_run s es [] fine rounds sound rises few = ap (with_events s) (sym (append-nil es))
events_run s es (e ∷ more) fine rounds sound rises few =
    let long : length (es ++ e ∷ more) ≡ length es + suc (length more) = length-append es (e ∷ more) in
    let later = second_of_both (nat_le (last_from 0 es) e.round) _ rises in
    let step = event_step s es e fine rounds (first_of_both (is_sound_action (length s.tasks) e.action) _ sound) (ltb-true e.round s.rounds (first_of_both (nat_lt e.round s.rounds) _ later)) (leb-true (last_from 0 es) e.round (first_of_both (nat_le (last_from 0 es) e.round) _ rises)) (omega arith) in
    let next : (es ++ e ∷ []) ++ more ≡ es ++ e ∷ more = append_assoc es (e ∷ []) more in (
      step.0,
      subst (λ p. Runs p (map (event_said (names_of s.tasks)) more) (with_events s (es ++ e ∷ more))) (sym step.1)
          (subst (λ all. Runs (with_events s (es ++ e ∷ [])) (map (event_said (names_of s.tasks)) more) (with_events s all)) next
          (events_run s (es ++ e ∷ []) more fine rounds (second_of_both (is_sound_action (length s.tasks) e.action) _ sound)
          (ap (λ from. rising_below from s.rounds more) (last_of_more 0 es e) ∙ second_of_both (nat_lt e.round s.rounds) _ later) (subst (λ all. length all ≤ (limits_of s.version).events) (sym next) few))),
    )

-- the last line
end_run : (s : Script) → Runs (with_events s s.events) (ends ∷ []) (record (with_events s s.events) { ended = true })
unfolding with_line
end_run s = (record { unended = refl; body = tt; comes = eq-eqb (length s.tasks) (length s.tasks) refl; good = refl }, refl)

-- the names of tasks in range
names_fine : (workers n : ℕ) (ts : List TaskDef) → list_all (is_sound_task workers n) ts ≡ true → list_all is_name (names_of ts) ≡ true
names_fine workers n [] e = refl
names_fine workers n (t ∷ ts) e = and_from _ _ (first_of_both (is_name t.name) _ (first_of_both (is_sound_task workers n t) _ e)) (names_fine workers n ts (second_of_both (is_sound_task workers n t) _ e))

-- the lines behind the settings pass
body_run : (s : Script) → InRange s → Runs (base s [] [] 0 []) (body_said s.tasks s.events) (record (with_events s s.events) { ended = true })
unfolding body_said
body_run s r =
    let fine : Fine s.tasks = record { distinct = r.distinct; fine = names_fine s.workers (length s.tasks) s.tasks r.tasks } in
    let none : between s s.tasks [] ≡ with_events s [] = λ i. base s (append-nil s.tasks i) (lens (append-nil s.tasks i)) (length s.tasks) [] in
    runs_then (base s [] [] 0 []) (after_tasks s s.tasks) (record (with_events s s.events) { ended = true }) (map (λ t. task_said t (length t.rows)) s.tasks) _
    (tasks_run s (length s.tasks) [] s.tasks (workers_small _ _ _ _ _ _ r.settings) r.tasks r.distinct (leb-true (length s.tasks) (limits_of s.version).tasks r.few))
    (runs_then (after_tasks s s.tasks) (with_events s []) (record (with_events s s.events) { ended = true }) (flat_map (λ t. rows_said (names_of s.tasks) t.name 0 t.rows) s.tasks) _
    (subst (Runs (after_tasks s s.tasks) (flat_map (λ t. rows_said (names_of s.tasks) t.name 0 t.rows) s.tasks)) none (rows_run s s.tasks [] s.tasks refl fine r.tasks))
    (runs_then (with_events s []) (with_events s s.events) (record (with_events s s.events) { ended = true }) (map (event_said (names_of s.tasks)) s.events) (ends ∷ [])
    (events_run s [] s.events fine (rounds_small _ _ _ _ _ _ r.settings) r.actions r.rising (leb-true (length s.events) (limits_of s.version).events r.few_events))
    (end_run s)))

-- the first line is cut off the text behind it
header_cut : (version : ℕ) (rest : List ℕ) → pieces 10 (header_of version ++ 10 ∷ rest) ≡ header_of version ∷ pieces 10 rest
unfolding header_of
header_cut version rest = elim (cases_Bool (version == 2)) [
  | inl k ↦ rw k (line_cut (codes "taskscript") (codes "2" ∷ []) rest refl)
  | inr k ↦ rw k (line_cut (codes "taskscript") (codes "1" ∷ []) rest refl)
]

-- the settings of a script in range are not outside theirs
inside : (s : Script) → InRange s → (k : Setting) → MayBe s.version k (setting_of s k)
inside s r Workers = within_outside 1 (limits_of s.version).workers s.workers r.settings.workers
inside s r Depth = within_outside 1 (limits_of s.version).depth s.depth r.settings.depth
inside s r Start = start_inside s.start (limits_of s.version).start r.settings.start
inside s r Step = within_outside 1 (limits_of s.version).step s.step r.settings.step
inside s r Rounds = within_outside 1 (limits_of s.version).rounds s.rounds r.settings.rounds

setting_lines_words : (s : Script) (ks : List Setting) → ((k : Setting) → MayBe s.version k (setting_of s k)) → list_all (λ x. are_words (said_words x)) (map (λ k. sets k (decimal (setting_of s k))) ks) ≡ true
setting_lines_words s [] range = refl
setting_lines_words s (k ∷ ks) range = and_from _ _ (setting_words k (setting_of s k) (inside_small s.version k (setting_of s k) (range k))) (setting_lines_words s ks range)

-- the lines of a text without line feeds in them
cut_lines : (xs : List Said) → list_all (λ x. are_words (said_words x)) xs ≡ true → pieces 10 (lines_text xs) ≡ map bytes_of xs ++ [] ∷ []
cut_lines [] e = refl
cut_lines (x ∷ xs) e =
    cut (said_words x) (said_some x) (first_of_both (are_words (said_words x)) _ e)
    ∙ ap (λ r. bytes_of x ∷ r) (cut_lines xs (second_of_both (are_words (said_words x)) _ e))
  where
    cut : (ws : List Word) → is_empty ws ≡ false → are_words ws ≡ true → pieces 10 (line_text ws ++ lines_text xs) ≡ join_with_byte 32 ws ∷ pieces 10 (lines_text xs)
    cut [] some words = absurd (cc)
    cut (w ∷ ws) some words = line_cut w ws (lines_text xs) words

-- the lines of a script's text
text_lines : (s : Script) → InRange s → pieces 10 (script_text s) ≡ header_of s.version ∷ (map bytes_of (settings_said s ++ body_said s.tasks s.events) ++ [] ∷ [])
unfolding script_text
text_lines s r =
    header_cut s.version (lines_text (settings_said s ++ body_said s.tasks s.events))
    ∙ ap (λ ls. header_of s.version ∷ ls) (cut_lines (settings_said s ++ body_said s.tasks s.events)
    (list_all-append (λ x. are_words (said_words x)) (settings_said s) (body_said s.tasks s.events)
    ∙ and_from _ _ (setting_lines_words s all_settings (inside s r)) (runs_words (base s [] [] 0 []) (record (with_events s s.events) { ended = true }) (body_said s.tasks s.events) (body_run s r))))

-- the first line says the version
header_again : (version : ℕ) → within 1 newest version ≡ true → version_of (header_of version) ≡ Some version
unfolding header_of version_of
header_again version e =
    elim (cases_Bool (version == 2)) [
      | inl k ↦ rw k (ap Some (sym (eqb-true version 2 k)))
      | inr k ↦ rw k (ap Some (one version e k))
    ]
  where
    one : (n : ℕ) → within 1 newest n ≡ true → (n == 2) ≡ false → 1 ≡ n
    one n e k = grind (arith, nat_tests)

-- all lines are taken
taken_again : (s : Script) → InRange s → Steps scripts 1 nothing (header_of s.version ∷ map bytes_of (settings_said s ++ body_said s.tasks s.events)) (record (with_events s s.events) { ended = true })
unfolding judge judge_header with_setting setting_at
taken_again s r =
    let opened : Progress = record nothing { version = s.version } in
    let end : Progress = record (with_events s s.events) { ended = true } in (
      opened,
      refl,
      ap (judge_header nothing) (header_again s.version r.settings.version),
      settings_again all_settings 2 opened end (setting_of s) (map bytes_of (body_said s.tasks s.events)) (refl, (refl, (refl, (refl, (refl, tt))))) (lit< tt) refl (inside s r)
          (run_again 7 (base s [] [] 0 []) end (body_said s.tasks s.events) (lit< tt) (body_run s r) refl),
    )

judged_again : (s : Script) → InRange s → script_read (read_whole scripts nothing (script_text s)) ≡ Ok s
unfolding script_from
judged_again s r =
    ap (λ ls. script_read (folded scripts None 1 nothing ls)) (text_lines s r)
    ∙ ap script_read (steps_again scripts 1 nothing _ (header_of s.version ∷ map bytes_of (settings_said s ++ body_said s.tasks s.events)) (taken_again s r))

-- the text says the script's version in its first line
first_again : (version : ℕ) (rest : List ℕ) → first_line (header_of version ++ 10 ∷ rest) ≡ header_of version
unfolding header_of
first_again version rest = elim (cases_Bool (version == 2)) [ inl k ↦ rw k refl | inr k ↦ rw k refl ]

version_again : (s : Script) → InRange s → version_in (script_text s) ≡ s.version
unfolding version_in script_text
version_again s r = ap (λ o. unwrap_or o newest) (ap version_of (first_again s.version _) ∙ header_again s.version r.settings.version)

-- the text of a script in range is read as that script
pub text_again : (s : Script) → is_sound s ≡ true → length (script_text s) ≤ (limits_of s.version).bytes → script_of (script_text s) ≡ Ok s
text_again s e short =
    let text = script_text s in
    whole_text text ∙ ap (λ v. script_within (limits_of v).bytes text) (version_again s (in_range s e))
    ∙ ap script_read (short_text scripts nothing (limits_of s.version).bytes text short)
    ∙ judged_again s (in_range s e)
