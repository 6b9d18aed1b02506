-- From a script that was read back to its text.
use Rattle.std.proofs.lemmas.Bool.{not-true, eqb-true, eq-eqb, both_ways}
use Rattle.std.proofs.lemmas.Bool.Decides.{nat_tests}
use Rattle.std.proofs.Common.{◌≡◌, ℕ, Bool, true, false, List, [], ◌∷◌, ◌++◌, map, length, set, refl, ap, sym, ◌∙◌, arith, subst, append_assoc, append-nil, lit<}
use Rattle.std.specs.Prelude.{Option, Some, None, Result, Ok, Err, IfOk, IsTrue, decimal, nat_le}
use Rattle.std.proofs.lemmas.List.{map-append}
use Rattle.step_tables.specs.Types.{TaskDef, Workers, Depth, Start, Step, Rounds}
use Rattle.step_tables.specs.declared.tables.Script.{Script}
use Rattle.step_tables.specs.declared.progress.Progress.{Progress}
use Rattle.step_tables.specs.declared.faults.ScriptError.{ScriptError}
use Rattle.step_tables.specs.declared.faults.ScriptFault.{ScriptFault}
use Rattle.step_tables.specs.declared.faults.FaultKind.{FaultKind}
use Rattle.step_tables.specs.Limits.{limits_of}
use Rattle.step_tables.specs.Views.{Gives}
use Rattle.step_tables.specs.Words.{is_empty}
use Rattle.step_tables.specs.Sound.{is_sound}
use Rattle.step_tables.specs.Shapes.{TaskLine, RowLine, EventLine, Said, sets, task, row, event, ends, all_settings}
use Rattle.step_tables.specs.Text.{header_of, row_said, event_said, names_of, settings_said, body_said, said_words, line_text, lines_text, script_text}
use Rattle.text_lines.specs.Lines.{line_over, read_within}
use Rattle.text_lines.proofs.LinesTaken.{Steps, text_of, read_lines}
use Rattle.step_tables.specs.Judging.{may_come, all_rows, due, rows_made, value, outside, nothing, task_of, row_of, event_of, with_setting, setting_at, with_task, with_row, with_event, with_line, with_row_at_end, script_from, script_read, script_within, scripts}
use Rattle.step_tables.proofs.Back.{IsBody, AreOrders, IsOrder}
use Rattle.step_tables.proofs.Good.{GoodRow, good_row, GoodEvent, good_event, GoodTask, good_task}
use Rattle.step_tables.proofs.Steps.{Passes, Runs, first_back}
use Rattle.step_tables.proofs.SoundParts.{not_outside}
use Rattle.step_tables.proofs.RowsOf.{first_of_both, second_of_both, Fresh, Filled, fresh_from_filled}
use Rattle.step_tables.proofs.Valid.{Valid, valid_start, valid_step, valid_run, valid_end, map_set, empty_list, task_rows, row_name}
use Rattle.step_tables.proofs.Walk.{bytes_of, Settings, settings_back, run_back}
use Rattle.step_tables.proofs.SoFarSaid.{tasks_so_far, rows_so_far, end_so_far, so_far, task_line_back, row_line_back, event_line_back, tasks_more, no_rows_so_far, no_rows_more, rows_more_so_far, tasks_same, so_far_whole}

-- what was read, of a script
pub read_back_from : (r : Result Progress (ℕ × FaultKind)) (s : Script) → script_read r ≡ Ok s → (q : Progress) × (r ≡ Ok q) × (script_from q ≡ s)
read_back_from (Ok q) s e = (q, refl, cc)
read_back_from (Err f) s e = absurd (cc)

-- nothing but tasks so far
only_tasks : (xs rows events : List Said) (e : Bool) → rows ≡ [] → events ≡ [] → e ≡ false → xs ++ (rows ++ (events ++ end_so_far e)) ≡ xs
only_tasks xs rows events e r_is e_is f = (λ i. xs ++ (r_is i ++ (e_is i ++ end_so_far (f i)))) ∙ append-nil xs

-- no event so far
no_events : (xs rows events : List Said) (e : Bool) → events ≡ [] → e ≡ false → xs ++ (rows ++ (events ++ end_so_far e)) ≡ xs ++ rows
no_events xs rows events e e_is f = (λ i. xs ++ (rows ++ (e_is i ++ end_so_far (f i)))) ∙ ap (λ r. xs ++ r) (append-nil rows)

said_task : (p : Progress) (line : TaskLine) → p.ended ≡ false → may_come p (task line) ≡ true → GoodTask p line → Valid p → so_far (with_task p line) ≡ so_far p ++ task line ∷ []
unfolding with_task
said_task p line unended comes good v =
    let none_started = first_of_both _ _ comes in
    let no_event : p.events ≡ [] = empty_list p.events (second_of_both _ _ comes) in
    let at_start : p.at ≡ 0 = eqb-true p.at 0 (first_of_both _ _ none_started) in
    let fresh : Fresh p.workers p.tasks p.counts = fresh_from_filled p.workers (length p.tasks) p.tasks p.counts
    (subst (λ k. Filled p.workers (length p.tasks) k p.tasks p.counts) at_start v.tables) (started at_start (eqb-true _ 0 (second_of_both _ _ none_started))) in
    let before = only_tasks (tasks_so_far p.tasks p.counts) (rows_so_far (names_of p.tasks) p.tasks) (map (event_said (names_of p.tasks)) p.events) p.ended
    (no_rows_so_far p.workers (names_of p.tasks) p.tasks p.counts fresh) (ap (map (event_said (names_of p.tasks))) no_event) unended in
    let behind = only_tasks (tasks_so_far (p.tasks ++ task_of line ∷ []) (p.counts ++ value line.rows ∷ []))
    (rows_so_far (names_of (p.tasks ++ task_of line ∷ [])) (p.tasks ++ task_of line ∷ [])) (map (event_said (names_of (p.tasks ++ task_of line ∷ []))) p.events) p.ended
    (no_rows_more p.workers (names_of (p.tasks ++ task_of line ∷ [])) p.tasks p.counts (task_of line) fresh (task_rows line)) (ap (map (event_said (names_of (p.tasks ++ task_of line ∷ [])))) no_event) unended in
    behind
    ∙ tasks_more p.workers p.tasks p.counts (task_of line) (value line.rows) fresh
    ∙ (λ i. sym before i ++ task_line_back p line good i ∷ [])
  where
    started : p.at ≡ 0 → rows_made (due p) ≡ 0 → rows_made (due (record p { at = 0 })) ≡ 0
    started at made = ap (λ k. rows_made (due (record p { at = k }))) (sym at) ∙ made

said_row : (p : Progress) (line : RowLine) → AreOrders line.orders → p.ended ≡ false → may_come p (row line) ≡ true → GoodRow p line → Valid p → so_far (with_row p (due p) (row_of p.tasks line)) ≡ so_far p ++ row line ∷ []
unfolding with_row
said_row p line are unended comes good v = subst (λ d. so_far (with_row p d (row_of p.tasks line)) ≡ so_far p ++ row line ∷ []) (sym good.target.is_due) (
    let r = row_of p.tasks line in
    let new = with_row_at_end good.task r in
    let no_event : p.events ≡ [] = none p.events (λ some. v.whole some) in
    let names_same : names_of (set p.tasks p.at new) ≡ names_of p.tasks = map_set (λ t. t.name) p.tasks p.at good.task new good.target.is_due (row_name good.task r) in
    let before = no_events (tasks_so_far p.tasks p.counts) (rows_so_far (names_of p.tasks) p.tasks) (map (event_said (names_of p.tasks)) p.events) p.ended (ap (map (event_said (names_of p.tasks))) no_event) unended in
    let behind = no_events (tasks_so_far (set p.tasks p.at new) p.counts) (rows_so_far (names_of (set p.tasks p.at new)) (set p.tasks p.at new)) (map (event_said (names_of (set p.tasks p.at new))) p.events) p.ended
    (ap (map (event_said (names_of (set p.tasks p.at new)))) no_event) unended in
    behind
    ∙ (λ i. tasks_same p.tasks p.counts p.at good.task r good.target.is_due i ++ (ap (λ names. rows_so_far names (set p.tasks p.at new)) names_same ∙ rows_more_so_far p.workers (length p.tasks) p.at (names_of p.tasks) p.tasks p.counts good.task r v.tables good.target.is_due) i)
    ∙ sym (append_assoc (tasks_so_far p.tasks p.counts) (rows_so_far (names_of p.tasks) p.tasks) (row_said (names_of p.tasks) good.task.name (length good.task.rows) r ∷ []))
    ∙ (λ i. sym before i ++ row_line_back p line good are i ∷ []))
  where
    none : {A : Type 0} (xs : List A) → (is_empty xs ≡ false → p.at ≡ length p.tasks) → xs ≡ []
    none [] h = refl
    none (x ∷ xs) h = absurd (both_ways (all_rows p) (not-true (all_rows p) comes) (eq-eqb p.at (length p.tasks) (h refl)))

said_event : (p : Progress) (line : EventLine) → IsOrder line.order → p.ended ≡ false → GoodEvent p line → so_far (with_event p line) ≡ so_far p ++ event line ∷ []
unfolding with_event
said_event p line is unended good =
    let names = names_of p.tasks in
    let xs = tasks_so_far p.tasks p.counts in
    let ys = rows_so_far (names_of p.tasks) p.tasks in
    let es = map (event_said (names_of p.tasks)) p.events in
    let behind : es ++ event line ∷ [] ≡ map (event_said (names_of p.tasks)) (p.events ++ event_of p.tasks line ∷ []) =
    sym (map-append (event_said (names_of p.tasks)) p.events (event_of p.tasks line ∷ []) ∙ ap (λ x. es ++ x ∷ []) (event_line_back p line good is)) in
    joined xs ys es (map (event_said (names_of p.tasks)) (p.events ++ event_of p.tasks line ∷ [])) (event line) p.ended unended behind
  where
    joined : (xs ys es fs : List Said) (x : Said) (e : Bool) → e ≡ false → es ++ x ∷ [] ≡ fs → xs ++ (ys ++ (fs ++ end_so_far e)) ≡ (xs ++ (ys ++ (es ++ end_so_far e))) ++ x ∷ []
    joined xs ys es fs x e f is_2 =
        (λ i. xs ++ (ys ++ (sym is_2 i ++ end_so_far (f i))))
        ∙ ap (λ r. xs ++ (ys ++ r)) (append-nil (es ++ x ∷ []))
        ∙ ap (λ r. xs ++ r) (sym (append_assoc ys es (x ∷ [])))
        ∙ sym (append_assoc xs (ys ++ es) (x ∷ []))
        ∙ (λ i. (xs ++ (ys ++ (sym (append-nil es) ∙ (λ j. es ++ end_so_far (sym f j))) i)) ++ x ∷ [])

said_end : (xs ys es : List Said) (e : Bool) → e ≡ false → xs ++ (ys ++ (es ++ ends ∷ [])) ≡ (xs ++ (ys ++ (es ++ end_so_far e))) ++ ends ∷ []
said_end xs ys es e f =
    ap (λ r. xs ++ r) (sym (append_assoc ys es (ends ∷ [])))
    ∙ sym (append_assoc xs (ys ++ es) (ends ∷ []))
    ∙ (λ i. (xs ++ (ys ++ (sym (append-nil es) ∙ (λ j. es ++ end_so_far (sym f j))) i)) ++ ends ∷ [])

-- a line more is said
said_step : (p : Progress) (x : Said) → Passes p x → Valid p → so_far (with_line p x) ≡ so_far p ++ x ∷ []
unfolding with_line
said_step p (sets setting w) a v = absurd a.body
said_step p (task line) a v = said_task p line a.unended a.comes (good_task p line a.good) v
said_step p (row line) a v = said_row p line a.body.1 a.unended a.comes (good_row p line a.good) v
said_step p (event line) a v = said_event p line a.body a.unended (good_event p line a.good)
said_step p ends a v = said_end (tasks_so_far p.tasks p.counts) (rows_so_far (names_of p.tasks) p.tasks) (map (event_said (names_of p.tasks)) p.events) p.ended a.unended

said_run : (p q : Progress) (xs : List Said) → Runs p xs q → Valid p → so_far q ≡ so_far p ++ xs
said_run p q [] r v = ap so_far (sym r) ∙ sym (append-nil (so_far p))
said_run p q (x ∷ xs) r v = said_run (with_line p x) q xs r.1 (valid_step p x r.0 v) ∙ ap (λ ys. ys ++ xs) (said_step p x r.0 v) ∙ append_assoc (so_far p) (x ∷ []) xs

-- the version and the settings alone
abbrev head : Progress → Progress
head p = record { version = p.version; workers = p.workers; depth = p.depth; start = p.start; step = p.step; rounds = p.rounds; tasks = []; counts = []; at = 0; events = []; ended = false }

-- they stay as they are behind their lines
head_step : (p : Progress) (x : Said) → IsBody x → head (with_line p x) ≡ head p
unfolding with_line with_task with_row with_event
head_step p (sets setting w) body = absurd body
head_step p (task line) body = refl
head_step p (row line) body = go (due p)
  where
    go : (d : Option TaskDef) → head (with_row p d (row_of p.tasks line)) ≡ head p
    go None = refl
    go (Some t) = refl
head_step p (event line) body = refl
head_step p ends body = refl

head_run : (p q : Progress) (xs : List Said) → Runs p xs q → head q ≡ head p
head_run p q [] r = ap head (sym r)
head_run p q (x ∷ xs) r = head_run (with_line p x) q xs r.1 ∙ head_step p x r.0.body

-- a text that is read: its lines, and what they say
record Parts (lines : List (List ℕ)) (q : Progress) : Type 0 where
  start : Progress
  bare : head start ≡ start
  valid : Valid start
  said : List Said
  cut : lines ≡ header_of start.version ∷ map bytes_of (settings_said (script_from start) ++ said)
  runs : Runs start said q
  ended : q.ended ≡ true

parts : (lines : List (List ℕ)) (q : Progress) → Steps scripts 1 nothing lines q → Parts lines q
unfolding with_setting setting_at script_from
parts [] q steps = absurd (cc)
parts (line ∷ lines) q steps =
    let (m, going, good, more) = steps in
    let (v, line_is, newest_, opens) = first_back nothing m line good in
    let opened : Progress = record nothing { version = v } in
    let w : Settings all_settings 2 opened lines q = settings_back all_settings 2 opened q lines (refl, (refl, (refl, (refl, (refl, tt))))) (lit< tt) refl (subst (λ m. Steps scripts 2 m lines q) (sym opens) more) in
    let d = w.4 in
    let t = d.4 in
    let k = t.4 in
    let r = k.4 in
    let start : Progress = record opened { workers = w.0; depth = d.0; start = t.0; step = k.0; rounds = r.0 } in
    let (said, are, runs, ended) = run_back 7 start q r.1 (lit< tt) r.4 in
    record {
      start = start;
      bare = refl;
      valid = valid_start start (record {
        version = newest_;
        workers = not_outside 1 (limits_of v).workers w.0 w.3;
        depth = not_outside 1 (limits_of v).depth d.0 d.3;
        start = at_most t.0 (limits_of v).start t.3;
        step = not_outside 1 (limits_of v).step k.0 k.3;
        rounds = not_outside 1 (limits_of v).rounds r.0 r.3;
      }) refl;
      said = said;
      cut = (λ i. line_is i ∷ lines) ∙ ap (λ ls. header_of v ∷ ls) (w.2 ∙ ap (λ ls. bytes_of (sets Workers (decimal w.0)) ∷ ls) (d.2 ∙ ap (λ ls. bytes_of (sets Depth (decimal d.0)) ∷ ls) (t.2 ∙ ap (λ ls. bytes_of (sets Start (decimal t.0)) ∷ ls)
          (k.2 ∙ ap (λ ls. bytes_of (sets Step (decimal k.0)) ∷ ls) (r.2 ∙ ap (λ ls. bytes_of (sets Rounds (decimal r.0)) ∷ ls) are)))));
      runs = runs;
      ended = ended;
    }
  where
    at_most : (n high : ℕ) → outside 0 high n ≡ false → nat_le n high ≡ true
    at_most n high e = grind (arith, nat_tests)

-- the text of lines
text_said : (xs : List Said) → text_of (map bytes_of xs) ≡ lines_text xs
text_said [] = refl
text_said (x ∷ xs) = ap (λ r. line_text (said_words x) ++ r) (text_said xs)

-- a text that is read is the text of its script, which is in range
pub within_back : (limit : ℕ) (bytes : List ℕ) (s : Script) → script_within limit bytes ≡ Ok s → (is_sound s ≡ true) × (bytes ≡ script_text s)
unfolding script_text script_from
within_back limit bytes s e =
    let (q, is, same) = read_back_from (read_within scripts nothing limit bytes) s e in
    let (lines, text, steps) = read_lines scripts (line_over limit bytes) nothing q bytes is in
    let p = parts lines q steps in
    let valid = valid_run p.start q p.said p.runs p.valid in
    let body : p.said ≡ body_said q.tasks q.events = sym (said_run p.start q p.said p.runs p.valid ∙ ap (λ k. so_far k ++ p.said) (sym p.bare)) ∙ so_far_whole q valid p.ended in
    let first : Progress → List Said → List ℕ = λ k xs. header_of k.version ++ 10 ∷ lines_text (settings_said (script_from k) ++ xs) in
    let whole : bytes ≡ script_text (script_from q) =
    text ∙ ap text_of p.cut ∙ append_assoc (header_of p.start.version) (10 ∷ []) _ ∙ ap (λ r. header_of p.start.version ++ 10 ∷ r) (text_said (settings_said (script_from p.start) ++ p.said))
    ∙ (λ i. first (sym p.bare i) (body i)) ∙ ap (λ k. first k (body_said q.tasks q.events)) (sym (head_run p.start q p.said p.runs)) in
    (ap is_sound (sym same) ∙ valid_end q valid p.ended, whole ∙ ap script_text same)

pub gives_sound : (r : Result Script ScriptError) (limit : ℕ) (bytes : List ℕ) → Gives r (script_within limit bytes) → IfOk r (λ s. IsTrue (is_sound s))
gives_sound (Ok s) limit bytes e = (within_back limit bytes s e).0
gives_sound (Err e) limit bytes given = tt

-- what a text is read as is in range
pub read_sound : (r : Result Script ScriptFault) (limit : ℕ) (bytes : List ℕ) → r ≡ script_within limit bytes → IfOk r (λ s. IsTrue (is_sound s))
read_sound (Ok s) limit bytes e = (within_back limit bytes s (sym e)).0
read_sound (Err f) limit bytes e = tt
