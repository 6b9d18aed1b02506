-- What holds of what was read, line by line, and of the script at the end.
use Rattle.std.proofs.Common.{◌≡◌, ℕ, suc, zero, ◌+◌, ◌-◌, ◌≤◌, ◌<◌, Bool, true, false, cond, List, [], ◌∷◌, ◌++◌, map, length, set, refl, ap, sym, ◌∙◌, arith, subst, length-append}
use Rattle.std.specs.Prelude.{Option, Some, None, option_map, is_none, unwrap_or, bytes_eq, not, ◌||◌, ◌==◌, nat_le, nat_lt, slice_get, if◌then◌else◌}
use Rattle.std.specs.List.{list_all, list_any, position_or_len}
use Rattle.std.proofs.lemmas.Bool.{eqb-true, and_from, or_parts, not-true, eq-eqb, le-leb, lt-ltb, both_ways}
use Rattle.std.proofs.lemmas.Bool.Decides.{nat_tests}
use Rattle.std.proofs.lemmas.List.{map-append, length-set}
use Rattle.std.proofs.lemmas.List.Folds.{list_all-append}
use Rattle.step_tables.specs.Types.{Row, TaskDef, Event}
use Rattle.step_tables.specs.declared.progress.Progress.{Progress}
use Rattle.step_tables.specs.Words.{Word, is_empty, is_name}
use Rattle.step_tables.specs.Shapes.{TaskLine, RowLine, EventLine, Said, sets, task, row, event, ends}
use Rattle.step_tables.specs.Text.{names_of}
use Rattle.step_tables.specs.Sound.{is_sound_action, distinct_names, rising_below, is_sound}
use Rattle.step_tables.specs.Limits.{limits_of}
use Rattle.step_tables.specs.Judging.{may_come, all_rows, due, promised, rows_made, value, most, unknown, named, with_task, with_row, with_event, with_line, with_row_at_end, task_of, row_of, event_of, script_from}
use Rattle.step_tables.proofs.Bounds.{AreSettings}
use Rattle.step_tables.proofs.Back.{AreOrders, IsOrder}
use Rattle.step_tables.proofs.Good.{GoodRow, good_row, GoodEvent, good_event, GoodTask, good_task}
use Rattle.step_tables.proofs.Steps.{Passes, Runs}
use Rattle.step_tables.proofs.RowsOf.{first_of_both, second_of_both, Fresh, Filled, filled_from_fresh, fresh_from_filled, fresh_more, filled_more, all_filled}
use Rattle.step_tables.proofs.SoundParts.{sound_row, sound_task, sound_event}

pub record Valid (p : Progress) : Type 0 where
  pub settings : AreSettings p.version p.workers p.depth p.start p.step p.rounds
  pub few : nat_le (length p.tasks) (limits_of p.version).tasks ≡ true
  pub tables : Filled p.workers (length p.tasks) p.at p.tasks p.counts
  pub names : distinct_names (names_of p.tasks) ≡ true
  pub few_events : nat_le (length p.events) (limits_of p.version).events ≡ true
  pub actions : list_all (λ e. is_sound_action (length p.tasks) e.action) p.events ≡ true
  pub rising : rising_below 0 p.rounds p.events ≡ true
  pub whole : is_empty p.events ≡ false → p.at ≡ length p.tasks
  pub done : p.ended ≡ true → p.at ≡ length p.tasks

pub empty_list : {A : Type 0} (xs : List A) → is_empty xs ≡ true → xs ≡ []
empty_list [] e = refl
empty_list (x ∷ xs) e = absurd (cc)

at_most_more : (n most : ℕ) → nat_le most n ≡ false → nat_le (n + 1) most ≡ true
at_most_more n most e = grind (arith, nat_tests)

-- a name that no task has
none_named : (tasks : List TaskDef) (name : Word) → unknown tasks name ≡ true → list_any (λ other. bytes_eq other name) (names_of tasks) ≡ false
unfolding unknown named
none_named tasks name e = far tasks (missing (nat_lt (position_or_len (λ t. bytes_eq t.name name) tasks) (length tasks)) (position_or_len (λ t. bytes_eq t.name name) tasks) refl e)
  where
    missing : (b : Bool) (i : ℕ) → nat_lt i (length tasks) ≡ b → is_none (cond b (Some i) None) ≡ true → length tasks ≤ i
    missing true i h f = absurd (cc)
    missing false i h f = grind (arith, nat_tests)

    far : (ts : List TaskDef) → length ts ≤ position_or_len (λ t. bytes_eq t.name name) ts → list_any (λ other. bytes_eq other name) (names_of ts) ≡ false
    far [] h = refl
    far (t ∷ ts) h = step (bytes_eq t.name name) refl h (λ k. far ts k)
      where
        step : (b : Bool) → bytes_eq t.name name ≡ b → suc (length ts) ≤ cond (not b) (1 + position_or_len (λ u. bytes_eq u.name name) ts) 0
            → (length ts ≤ position_or_len (λ u. bytes_eq u.name name) ts → list_any (λ other. bytes_eq other name) (names_of ts) ≡ false)
            → (b || list_any (λ other. bytes_eq other name) (names_of ts)) ≡ false
        step true is k others = absurd (omega arith)
        step false is k others = others (omega arith)

-- one name more
distinct_more : (names : List Word) (name : Word) → distinct_names names ≡ true → list_any (λ other. bytes_eq other name) names ≡ false → distinct_names (names ++ name ∷ []) ≡ true
distinct_more [] name d e = refl
distinct_more (n ∷ ns) name d e =
    let (first, others) = or_parts _ _ e in
    and_from _ _ (ap not (any_more (λ other. bytes_eq n other) ns name (not-true _ (first_of_both _ _ d)) first)) (distinct_more ns name (second_of_both _ _ d) others)
  where
    any_more : (test : Word → Bool) (ws : List Word) (w : Word) → list_any test ws ≡ false → test w ≡ false → list_any test (ws ++ w ∷ []) ≡ false
    any_more test [] w none is = ap (λ b. b || false) is
    any_more test (v ∷ ws) w none is = let (a, b) = or_parts _ _ none in ap (λ c. c || list_any test (ws ++ w ∷ [])) a ∙ any_more test ws w b is

-- a change that keeps what is seen
pub map_set : {A B : Type 0} (f : A → B) (xs : List A) (i : ℕ) (x y : A) → slice_get xs i ≡ Some x → f y ≡ f x → map f (set xs i y) ≡ map f xs
map_set f [] i x y e same = refl
map_set f (v ∷ xs) zero x y e same = let is : v ≡ x = cc in ap (λ w. w ∷ map f xs) (same ∙ ap f (sym is))
map_set f (v ∷ xs) (suc i) x y e same = ap (λ ws. f v ∷ ws) (map_set f xs i x y e same)

-- the round of the last event, or this one
abbrev pub last_from : ℕ → List Event → ℕ
last_from from [] = from
last_from from (e ∷ es) = last_from e.round es

inside : (ys : List Event) (i : ℕ) → slice_get ys i ≡ None → i < length ys → ⊥
inside [] i k l = omega arith
inside (y ∷ ys) zero k l = cc
inside (y ∷ ys) (suc i) k l = inside ys i k (omega arith)

pub last_is : (from : ℕ) (es : List Event) → unwrap_or (option_map (λ e. e.round) (slice_get es (length es - 1))) from ≡ last_from from es
last_is from [] = refl
last_is from (e ∷ []) = refl
last_is from (e ∷ f ∷ es) =
    let index : suc (suc (length es)) - 1 ≡ suc (suc (length es) - 1) = omega arith in
    ap (λ i. unwrap_or (option_map (λ x. x.round) (slice_get (e ∷ f ∷ es) i)) from) index ∙ other (f ∷ es) (omega arith) ∙ last_is e.round (f ∷ es)
  where
    other : (xs : List Event) → 1 ≤ length xs → unwrap_or (option_map (λ x. x.round) (slice_get xs (length xs - 1))) from ≡ unwrap_or (option_map (λ x. x.round) (slice_get xs (length xs - 1))) e.round
    other xs h = go (slice_get xs (length xs - 1)) refl
      where
        go : (o : Option Event) → slice_get xs (length xs - 1) ≡ o → unwrap_or (option_map (λ x. x.round) o) from ≡ unwrap_or (option_map (λ x. x.round) o) e.round
        go (Some x) k = refl
        go None k = absurd (inside xs (length xs - 1) k (omega arith))

-- one event more
rising_more : (from rounds : ℕ) (es : List Event) (e : Event) → rising_below from rounds es ≡ true → last_from from es ≤ e.round → e.round < rounds → rising_below from rounds (es ++ e ∷ []) ≡ true
rising_more from rounds [] e r low high = and_from _ _ (le-leb from e.round low) (and_from _ _ (lt-ltb e.round rounds high) refl)
rising_more from rounds (f ∷ es) e r low high =
    and_from _ _ (first_of_both _ _ r) (and_from _ _ (first_of_both _ _ (second_of_both _ _ r)) (rising_more f.round rounds es e (second_of_both _ _ (second_of_both _ _ r)) low high))

pub task_rows : (l : TaskLine) → (task_of l).rows ≡ []
unfolding task_of
task_rows l = refl

task_name : (l : TaskLine) → (task_of l).name ≡ l.name
unfolding task_of
task_name l = refl

pub row_name : (t : TaskDef) (r : Row) → (with_row_at_end t r).name ≡ t.name
unfolding with_row_at_end
row_name t r = refl

event_round : (tasks : List TaskDef) (l : EventLine) → (event_of tasks l).round ≡ value l.round
unfolding event_of
event_round tasks l = refl

valid_task : (p : Progress) (line : TaskLine) → is_name line.name ≡ true → p.ended ≡ false → may_come p (task line) ≡ true → GoodTask p line → Valid p → Valid (with_task p line)
unfolding with_task
valid_task p line name unended comes good v =
    let none_started = first_of_both _ _ comes in
    let no_events : p.events ≡ [] = empty_list p.events (second_of_both _ _ comes) in
    let at_start : p.at ≡ 0 = eqb-true p.at 0 (first_of_both _ _ none_started) in
    let none_made : rows_made (slice_get p.tasks p.at) ≡ 0 = eqb-true _ 0 (second_of_both _ _ none_started) in
    let fresh : Fresh p.workers p.tasks p.counts = fresh_from_filled p.workers (length p.tasks) p.tasks p.counts
    (subst (λ k. Filled p.workers (length p.tasks) k p.tasks p.counts) at_start v.tables) (ap (λ k. rows_made (slice_get p.tasks k)) (sym at_start) ∙ none_made) in
    let long : length (p.tasks ++ task_of line ∷ []) ≡ length p.tasks + 1 = length-append p.tasks (task_of line ∷ []) in
    record {
      settings = v.settings;
      few = ap (λ n. nat_le n (limits_of p.version).tasks) long ∙ at_most_more (length p.tasks) (limits_of p.version).tasks good.few;
      tables = subst (λ k. Filled p.workers (length (p.tasks ++ task_of line ∷ [])) k (p.tasks ++ task_of line ∷ []) (p.counts ++ value line.rows ∷ [])) (sym at_start)
          (filled_from_fresh p.workers _ _ _ (fresh_more p.workers p.tasks p.counts (task_of line) (value line.rows) fresh (sound_task p line good name) (task_rows line)));
      names = ap distinct_names (map-append (λ t. t.name) p.tasks (task_of line ∷ [])) ∙ distinct_more (names_of p.tasks) (task_of line).name v.names (none_named p.tasks (task_of line).name (ap (unknown p.tasks) (task_name line) ∙ good.new));
      few_events = v.few_events;
      actions = ap (λ es. list_all (λ e. is_sound_action (length (p.tasks ++ task_of line ∷ [])) e.action) es) no_events;
      rising = v.rising;
      whole = λ some. absurd (both_ways (is_empty p.events) some (second_of_both _ _ comes));
      done = λ ended. absurd (both_ways p.ended unended ended);
    }

valid_row : (p : Progress) (line : RowLine) → AreOrders line.orders → p.ended ≡ false → may_come p (row line) ≡ true → GoodRow p line → Valid p → Valid (with_row p (due p) (row_of p.tasks line))
unfolding with_row
valid_row p line are unended comes good v = subst (λ d. Valid (with_row p d (row_of p.tasks line))) (sym good.target.is_due) (
    let new = with_row_at_end good.task (row_of p.tasks line) in
    let long : length (set p.tasks p.at new) ≡ length p.tasks = length-set p.tasks p.at new in
    record {
      settings = v.settings;
      few = ap (λ n. nat_le n (limits_of p.version).tasks) long ∙ v.few;
      tables = subst (λ n. Filled p.workers n (if length good.task.rows + 1 == promised p then p.at + 1 else p.at) (set p.tasks p.at new) p.counts) (sym long)
          (filled_more p.workers (length p.tasks) p.at p.tasks p.counts good.task (row_of p.tasks line) _ v.tables good.target.is_due (sound_row p line good are) refl);
      names = ap distinct_names (map_set (λ t. t.name) p.tasks p.at good.task new good.target.is_due (row_name good.task (row_of p.tasks line))) ∙ v.names;
      few_events = v.few_events;
      actions = ap (λ n. list_all (λ e. is_sound_action n e.action) p.events) long ∙ v.actions;
      rising = v.rising;
      whole = λ some. absurd (both_ways (all_rows p) (not-true _ comes) (eq-eqb p.at (length p.tasks) (v.whole some)));
      done = λ ended. absurd (both_ways p.ended unended ended);
    })

valid_event : (p : Progress) (line : EventLine) → IsOrder line.order → p.ended ≡ false → may_come p (event line) ≡ true → GoodEvent p line → Valid p → Valid (with_event p line)
unfolding with_event
valid_event p line is unended comes good v =
    let long : length (p.events ++ event_of p.tasks line ∷ []) ≡ length p.events + 1 = length-append p.events (event_of p.tasks line ∷ []) in
    let rising : last_from 0 p.events ≤ value line.round = subst (λ n. n ≤ value line.round) (last_is 0 p.events) good.rising in
    record {
      settings = v.settings;
      few = v.few;
      tables = v.tables;
      names = v.names;
      few_events = ap (λ n. nat_le n (limits_of p.version).events) long ∙ at_most_more (length p.events) (limits_of p.version).events good.few;
      actions = list_all-append (λ e. is_sound_action (length p.tasks) e.action) p.events (event_of p.tasks line ∷ []) ∙ and_from _ _ v.actions (and_from _ true (sound_event p line good is) refl);
      rising = rising_more 0 p.rounds p.events (event_of p.tasks line) v.rising (subst (λ n. last_from 0 p.events ≤ n) (sym (event_round p.tasks line)) rising) (subst (λ n. n < p.rounds) (sym (event_round p.tasks line)) good.round);
      whole = λ some. eqb-true p.at (length p.tasks) comes;
      done = λ ended. absurd (both_ways p.ended unended ended);
    }

-- before the lines behind the settings
pub valid_start : (p : Progress) → AreSettings p.version p.workers p.depth p.start p.step p.rounds → record p { tasks = []; counts = []; at = 0; events = []; ended = false } ≡ p → Valid p
valid_start p settings bare = subst Valid bare (record {
  settings = settings;
  few = none_over (limits_of p.version).tasks;
  tables = tt;
  names = refl;
  few_events = none_over (limits_of p.version).events;
  actions = refl;
  rising = refl;
  whole = λ some. refl;
  done = λ ended. refl;
})
  where
    none_over : (high : ℕ) → nat_le 0 high ≡ true
    none_over high = grind (arith, nat_tests)

-- a line more
pub valid_step : (p : Progress) (x : Said) → Passes p x → Valid p → Valid (with_line p x)
unfolding with_line
valid_step p (sets setting w) a v = absurd a.body
valid_step p (task line) a v = valid_task p line a.body a.unended a.comes (good_task p line a.good) v
valid_step p (row line) a v = valid_row p line a.body.1 a.unended a.comes (good_row p line a.good) v
valid_step p (event line) a v = valid_event p line a.body a.unended a.comes (good_event p line a.good) v
valid_step p ends a v = record {
  settings = v.settings;
  few = v.few;
  tables = v.tables;
  names = v.names;
  few_events = v.few_events;
  actions = v.actions;
  rising = v.rising;
  whole = v.whole;
  done = λ ended. eqb-true p.at (length p.tasks) a.comes;
}

pub valid_run : (p q : Progress) (xs : List Said) → Runs p xs q → Valid p → Valid q
valid_run p q [] r v = subst Valid r v
valid_run p q (x ∷ xs) r v = valid_run (with_line p x) q xs r.1 (valid_step p x r.0 v)

-- the end
pub valid_end : (p : Progress) → Valid p → p.ended ≡ true → is_sound (script_from p) ≡ true
unfolding is_sound script_from
valid_end p v ended =
    let of = v.settings in
    and_from _ _ of.version (and_from _ _ of.workers (and_from _ _ of.depth (and_from _ _ of.start (and_from _ _ of.step (and_from _ _ of.rounds (and_from _ _ v.few
    (and_from _ _ (all_filled p.workers (length p.tasks) p.at p.tasks p.counts v.tables (v.done ended))
    (and_from _ _ v.names (and_from _ _ v.few_events (and_from _ _ v.actions v.rising))))))))))
