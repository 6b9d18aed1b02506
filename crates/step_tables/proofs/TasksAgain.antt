-- The task lines of a script in range pass.
use Rattle.std.proofs.lemmas.Bool.{and_from, or_parts, or_from, lt-leb, ltb-true}
use Rattle.std.proofs.Common.{◌≡◌, ℕ, suc, ◌+◌, ◌^◌, ◌≤◌, ◌<◌, Bool, true, false, cond, List, [], ◌∷◌, ◌++◌, map, length, refl, ap, sym, ◌∙◌, arith, subst, append_assoc, append-nil, length-append}
use Rattle.std.specs.Prelude.{Some, None, ℤ, pos, negsuc, int_lt, is_none, bytes_eq, ◌&&◌, ◌||◌, not, ◌==◌, nat_lt, nat_le, decimal, slice_get}
use Rattle.std.specs.List.{list_all, list_any, position_or_len}
use Rattle.std.specs.Fmt.{signed_decimal}
use Rattle.std.proofs.lemmas.Bool.Decides.{nat_tests}
use Rattle.std.proofs.lemmas.List.{map-append, length-map}
use Rattle.step_tables.specs.declared.faults.FaultKind.TheVariants as kinds
use Rattle.step_tables.specs.Types.{Kind, Pinned, Shared, Tasklet, TaskDef, Event}
use Rattle.step_tables.specs.declared.tables.Script.{Script}
use Rattle.step_tables.specs.declared.progress.Progress.{Progress}
use Rattle.step_tables.specs.Words.{Word, is_name}
use Rattle.step_tables.specs.Text.{place_said, task_said, names_of}
use Rattle.step_tables.specs.Sound.{within, is_nice, is_sound_kind, is_sound_task, distinct_names}
use Rattle.step_tables.specs.Limits.{limits_of, most_rows}
use Rattle.step_tables.specs.Judging.{rows_made, value, signed_value, outside, outside_nice, place_no_number, place_outside, named, unknown, kind_of, task_of, with_task, with_line}
use Rattle.step_tables.proofs.RowsOf.{first_of_both, second_of_both}
use Rattle.step_tables.proofs.WordsAgain.{size, is_number, value_again, is_signed, signed_value_again}
use Rattle.step_tables.proofs.Bounds.{within_outside, rows_small}
use Rattle.step_tables.proofs.Good.{no_kind}
use Rattle.step_tables.proofs.Steps.{Passes, Runs}

-- what is read so far, of a script's settings and these parts
abbrev pub base : Script → List TaskDef → List ℕ → ℕ → List Event → Progress
base s tasks counts at events = record { version = s.version; workers = s.workers; depth = s.depth; start = s.start; step = s.step; rounds = s.rounds; tasks = tasks; counts = counts; at = at; events = events; ended = false }

-- a task before its rows
abbrev pub bare : TaskDef → TaskDef
bare t = record t { rows = [] }

-- how many rows tasks have
abbrev pub lens : List TaskDef → List ℕ
lens tasks = map (λ t. length t.rows) tasks

-- the first tasks
abbrev pub after_tasks : Script → List TaskDef → Progress
after_tasks s done = base s (map bare done) (lens done) 0 []

at_most : (limit n : ℕ) → not (nat_lt limit n) ≡ true → n ≤ limit
at_most limit n e = grind (arith, nat_tests)

nice_size : (z : ℤ) → is_nice z ≡ true → size z < 10 ^ 10
nice_size (pos n) e = let h = at_most 1024 n e in omega arith
nice_size (negsuc n) e = let h = at_most 1023 n (first_of_both (not (nat_lt 1023 n)) true e) in omega arith

nice_inside : (z : ℤ) → is_nice z ≡ true → outside_nice z ≡ false
nice_inside z e = step (int_lt z (negsuc 1023)) (int_lt (pos 1024) z) e
  where
    step : (a b : Bool) → (not a && not b) ≡ true → (a || b) ≡ false
    step true b h = absurd (cc)
    step false true h = absurd (cc)
    step false false h = refl

home_small : (home workers : ℕ) → nat_lt home workers ≡ true → workers < 10 ^ 10 → home < 10 ^ 10
home_small home workers e h = let less = below home workers e in omega arith
  where
    below : (a b : ℕ) → nat_lt a b ≡ true → a < b
    below a b f = grind (arith, nat_tests)

-- the place of a kind in range
place_numbers : (workers : ℕ) (kind : Kind) → workers < 10 ^ 10 → is_sound_kind workers kind ≡ true → place_no_number (place_said kind) ≡ false
unfolding place_no_number place_said
place_numbers workers (Pinned home nice) few e = or_from _ _ (is_number home (home_small home workers (first_of_both _ _ e) few)) (is_signed nice (nice_size nice (second_of_both (nat_lt home workers) _ e)))
place_numbers workers (Shared nice) few e = is_signed nice (nice_size nice e)
place_numbers workers (Tasklet home class) few e = is_number home (home_small home workers e few)

place_inside : (workers : ℕ) (kind : Kind) → workers < 10 ^ 10 → is_sound_kind workers kind ≡ true → place_outside workers (place_said kind) ≡ false
unfolding place_outside place_said
place_inside workers (Pinned home nice) few e =
    or_from (nat_le workers (value (decimal home))) (outside_nice (signed_value (signed_decimal nice)))
    (ap (nat_le workers) (value_again home (home_small home workers (first_of_both _ _ e) few)) ∙ lt-leb workers home (ltb-true home workers (first_of_both _ _ e)))
    (ap outside_nice (signed_value_again nice (nice_size nice (second_of_both (nat_lt home workers) _ e))) ∙ nice_inside nice (second_of_both (nat_lt home workers) _ e))
place_inside workers (Shared nice) few e = ap outside_nice (signed_value_again nice (nice_size nice e)) ∙ nice_inside nice e
place_inside workers (Tasklet home class) few e = ap (nat_le workers) (value_again home (home_small home workers e few)) ∙ lt-leb workers home (ltb-true home workers e)

kind_again : (workers : ℕ) (kind : Kind) → workers < 10 ^ 10 → is_sound_kind workers kind ≡ true → kind_of (place_said kind) ≡ kind
unfolding kind_of place_said
kind_again workers (Pinned home nice) few e =
    λ i. Pinned (value_again home (home_small home workers (first_of_both _ _ e) few) i) (signed_value_again nice (nice_size nice (second_of_both (nat_lt home workers) _ e)) i)
kind_again workers (Shared nice) few e = ap Shared (signed_value_again nice (nice_size nice e))
kind_again workers (Tasklet home class) few e = ap (λ n. Tasklet n class) (value_again home (home_small home workers e few))

-- a name that no task has
fresh_name : (tasks : List TaskDef) (name : Word) → list_any (λ other. bytes_eq other name) (names_of tasks) ≡ false → unknown tasks name ≡ true
unfolding unknown named
fresh_name tasks name e = past (position_or_len (λ t. bytes_eq t.name name) tasks) (far tasks e)
  where
    past : (i : ℕ) → length tasks ≤ i → is_none (cond (nat_lt i (length tasks)) (Some i) None) ≡ true
    past i h = go (nat_lt i (length tasks)) (no i (length tasks) h)
      where
        no : (a b : ℕ) → b ≤ a → nat_lt a b ≡ false
        no a b k = grind (arith, nat_tests)

        go : (b : Bool) → b ≡ false → is_none (cond b (Some i) None) ≡ true
        go true k = absurd (cc)
        go false k = refl

    far : (ts : List TaskDef) → list_any (λ other. bytes_eq other name) (names_of ts) ≡ false → length ts ≤ position_or_len (λ t. bytes_eq t.name name) ts
    far [] h = omega arith
    far (t ∷ ts) h = step (bytes_eq t.name name) (first_none _ _ h) (far ts (second_none _ _ h))
      where
        first_none : (a b : Bool) → (a || b) ≡ false → a ≡ false
        first_none true b k = absurd (cc)
        first_none false b k = refl

        second_none : (a b : Bool) → (a || b) ≡ false → b ≡ false
        second_none true b k = absurd (cc)
        second_none false b k = k

        step : (b : Bool) → b ≡ false → length ts ≤ position_or_len (λ u. bytes_eq u.name name) ts → suc (length ts) ≤ cond (not b) (1 + position_or_len (λ u. bytes_eq u.name name) ts) 0
        step true k others = absurd (cc)
        step false k others = omega arith

-- distinct names: one in the middle is none before
new_name : (before : List Word) (name : Word) (behind : List Word) → distinct_names (before ++ name ∷ behind) ≡ true → list_any (λ other. bytes_eq other name) before ≡ false
new_name [] name behind e = refl
new_name (w ∷ before) name behind e =
    or_from (bytes_eq w name) _ (other before (no_other _ (first_of_both _ _ e))) (new_name before name behind (second_of_both (not (list_any (λ other. bytes_eq w other) (before ++ name ∷ behind))) _ e))
  where
    no_other : (a : Bool) → not a ≡ true → a ≡ false
    no_other true k = absurd (cc)
    no_other false k = refl

    other : (ws : List Word) → list_any (λ v. bytes_eq w v) (ws ++ name ∷ behind) ≡ false → bytes_eq w name ≡ false
    other [] k = (or_parts (bytes_eq w name) _ k).0
    other (v ∷ ws) k = other ws (or_parts (bytes_eq w v) _ k).1

pub bare_names : (tasks : List TaskDef) → names_of (map bare tasks) ≡ names_of tasks
bare_names [] = refl
bare_names (t ∷ ts) = ap (λ ns. t.name ∷ ns) (bare_names ts)

none_started : (done : List TaskDef) → rows_made (slice_get (map bare done) 0) ≡ 0
none_started [] = refl
none_started (t ∷ ts) = refl

-- a task line adds its task
task_added : (s : Script) (done : List TaskDef) (t : TaskDef) → s.workers < 10 ^ 10 → is_sound_kind s.workers t.kind ≡ true → length t.rows < 10 ^ 10
    → with_line (after_tasks s done) (task_said t (length t.rows)) ≡ after_tasks s (done ++ t ∷ [])
unfolding with_line with_task task_said task_of
task_added s done t few kind small =
    λ i. base s
    ((ap (λ k. map bare done ++ record { name = t.name; kind = k; init = t.init; rows = [] } ∷ []) (kind_again s.workers t.kind few kind) ∙ sym (map-append bare done (t ∷ []))) i)
    ((ap (λ n. lens done ++ n ∷ []) (value_again (length t.rows) small) ∙ sym (map-append (λ u. length u.rows) done (t ∷ []))) i)
    0 []

-- a task line passes
task_passes : (s : Script) (done : List TaskDef) (t : TaskDef) (rest : List TaskDef) → s.workers < 10 ^ 10 → is_name t.name ≡ true → is_sound_kind s.workers t.kind ≡ true → within 1 most_rows (length t.rows) ≡ true → length t.rows < 10 ^ 10
    → distinct_names (names_of (done ++ t ∷ rest)) ≡ true → length done < (limits_of s.version).tasks → Passes (after_tasks s done) (task_said t (length t.rows))
unfolding task_said
task_passes s done t rest few name kind count small distinct room = record {
  unended = refl;
  body = name;
  comes = and_from _ true (and_from true _ refl (ap (λ n. n == 0) (none_started done))) refl;
  good =
      no_kind _ kinds.Number _ (or_from (place_no_number (place_said t.kind)) _ (place_numbers s.workers t.kind few kind) (is_number (length t.rows) small))
      (no_kind _ kinds.TwiceNamed _ (ap not (fresh_name (map bare done) t.name (ap (list_any (λ other. bytes_eq other t.name)) (bare_names done) ∙ new_name (names_of done) t.name (names_of rest) (ap distinct_names (sym (map-append (λ u. u.name) done (t ∷ rest))) ∙ distinct))))
      (no_kind _ kinds.LimitPassed None
      (or_from (place_outside s.workers (place_said t.kind)) _ (place_inside s.workers t.kind few kind)
      (or_from (outside 1 most_rows (value (decimal (length t.rows)))) _ (ap (outside 1 most_rows) (value_again (length t.rows) small) ∙ within_outside 1 most_rows (length t.rows) count)
      (ap (nat_le (limits_of s.version).tasks) (length-map done bare) ∙ lt-leb (limits_of s.version).tasks (length done) room)))
      refl));
}

-- the task lines pass, one after another
pub tasks_run : (s : Script) (n : ℕ) (done rest : List TaskDef) → s.workers < 10 ^ 10 → list_all (is_sound_task s.workers n) rest ≡ true → distinct_names (names_of (done ++ rest)) ≡ true → length (done ++ rest) ≤ (limits_of s.version).tasks
    → Runs (after_tasks s done) (map (λ t. task_said t (length t.rows)) rest) (after_tasks s (done ++ rest))
tasks_run s n done [] few sound distinct room = ap (after_tasks s) (sym (append-nil done))
tasks_run s n done (t ∷ rest) few sound distinct room =
    let is = first_of_both (is_sound_task s.workers n t) _ sound in
    let name = first_of_both (is_name t.name) _ is in
    let e_2 = second_of_both (is_name t.name) _ is in
    let kind = first_of_both (is_sound_kind s.workers t.kind) _ e_2 in
    let count = first_of_both (within 1 most_rows (length t.rows)) _ (second_of_both (is_sound_kind s.workers t.kind) _ e_2) in
    let small : length t.rows < 10 ^ 10 = rows_small (length t.rows) count in
    let long : length (done ++ t ∷ rest) ≡ length done + suc (length rest) = length-append done (t ∷ rest) in
    let less : length done < (limits_of s.version).tasks = omega arith in
    let next : done ++ t ∷ rest ≡ (done ++ t ∷ []) ++ rest = sym (append_assoc done (t ∷ []) rest) in (
      task_passes s done t rest few name kind count small distinct less,
      subst (λ p. Runs p (map (λ u. task_said u (length u.rows)) rest) (after_tasks s (done ++ t ∷ rest))) (sym (task_added s done t few kind small))
          (subst (λ all. Runs (after_tasks s (done ++ t ∷ [])) (map (λ u. task_said u (length u.rows)) rest) (after_tasks s all)) (sym next)
          (tasks_run s n (done ++ t ∷ []) rest few (second_of_both (is_sound_task s.workers n t) _ sound)
          (ap (λ all. distinct_names (names_of all)) (sym next) ∙ distinct) (subst (λ all. length all ≤ (limits_of s.version).tasks) next room))),
    )
