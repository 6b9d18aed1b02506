-- The row lines of a script in range pass, one after another.
use Rattle.std.proofs.lemmas.Option.{slice_get_within}
use Rattle.std.proofs.lemmas.Bool.{or_from, eq-eqb, leb-true, lt-leb, ltb-true, le-ltb, not_from_true}
use Rattle.std.proofs.Common.{◌≡◌, ℕ, suc, ◌+◌, ◌^◌, ◌≤◌, ◌<◌, Bool, true, false, cond, List, [], ◌∷◌, ◌++◌, map, length, set, refl, ap, sym, ◌∙◌, arith, subst, append_assoc, append-nil, length-append}
use Rattle.std.specs.Prelude.{Some, None, bytes_eq, not, ◌==◌, nat_lt, nat_le, decimal, slice_get, slice_index, flat_map, if◌then◌else◌}
use Rattle.std.specs.List.{list_all}
use Rattle.std.proofs.lemmas.Bool.Decides.{nat_tests}
use Rattle.std.proofs.lemmas.List.{map-append, length-map, get_or_at}
use Rattle.step_tables.specs.declared.faults.FaultKind.TheVariants as kinds
use Rattle.step_tables.specs.Types.{Row, TaskDef}
use Rattle.step_tables.specs.declared.tables.Script.{Script}
use Rattle.step_tables.specs.declared.progress.Progress.{Progress}
use Rattle.step_tables.specs.Words.{Word, is_name}
use Rattle.step_tables.specs.Shapes.{row}
use Rattle.step_tables.specs.Text.{name_at, order_said, delay_said, row_said, rows_said, names_of}
use Rattle.step_tables.specs.Sound.{within, is_sound_action, is_sound_expiry, is_sound_kind, is_sound_row, is_sound_task, distinct_names}
use Rattle.step_tables.specs.Limits.{most_rows, most_actions}
use Rattle.step_tables.specs.Judging.{all_rows, due, promised, value, no_number, delay_no_number, unknown, wrong_target, barred, with_row_at_end, with_row, with_line}
use Rattle.step_tables.proofs.RowsOf.{first_of_both, second_of_both}
use Rattle.step_tables.proofs.NameAt.{name_there}
use Rattle.step_tables.proofs.WordsAgain.{is_number, value_again}
use Rattle.step_tables.proofs.Good.{no_kind}
use Rattle.step_tables.proofs.Steps.{Passes, Runs, runs_then}
use Rattle.step_tables.proofs.Bounds.{within_most, rows_small}
use Rattle.step_tables.proofs.TasksAgain.{base, bare, lens, bare_names}
use Rattle.step_tables.proofs.RowsAgain.{known_again, name_fine, orders_fine, orders_known, delay_number, delay_inside, delay_allowed, row_line_of, row_again_of, same_word, chosen_then}

-- a row that comes now, of a task with so many rows
pub record RowNow (p : Progress) (u : TaskDef) (rows : ℕ) (r : Row) : Type 0 where
  pub unended : p.ended ≡ false
  pub is_due : due p ≡ Some u
  pub promise : promised p ≡ rows
  pub left : all_rows p ≡ false
  pub distinct : distinct_names (names_of p.tasks) ≡ true
  pub fine : list_all is_name (names_of p.tasks) ≡ true
  pub sound : is_sound_row (length p.tasks) u.kind rows r ≡ true
  pub few : rows < 10 ^ 10
  pub more : length u.rows < rows

due_name : (p : Progress) (u : TaskDef) → due p ≡ Some u → name_at (names_of p.tasks) p.at ≡ u.name
due_name p u e = name_there p.tasks p.at u e

small_below : (a b : ℕ) → a < 10 ^ 10 → b < a → b < 10 ^ 10
small_below a b h k = omega arith

-- it passes
row_passes : (p : Progress) (u : TaskDef) (rows : ℕ) (r : Row) → RowNow p u rows r → Passes p (row (row_line_of (names_of p.tasks) u.name (length u.rows) r))
row_passes p u rows r now =
    let e = now.sound in
    let e_2 = second_of_both (nat_le (length r.actions) most_actions) _ e in
    let actions = first_of_both (list_all (is_sound_action (length p.tasks)) r.actions) _ e_2 in
    let e_3 = second_of_both (list_all (is_sound_action (length p.tasks)) r.actions) _ e_2 in
    let expiry = first_of_both (is_sound_expiry u.kind r.expiry) _ e_3 in
    let next : r.next < rows = ltb-true r.next rows (second_of_both (is_sound_expiry u.kind r.expiry) _ e_3) in
    let at : p.at < length p.tasks = slice_get_within p.tasks p.at u now.is_due in
    let k_small : length u.rows < 10 ^ 10 = small_below rows (length u.rows) now.few now.more in
    let next_small : r.next < 10 ^ 10 = small_below rows r.next now.few next in
    let named : is_name u.name ≡ true = ap is_name (sym (due_name p u now.is_due)) ∙ name_fine p.tasks p.at now.fine at in
    record {
      unended = now.unended;
      body = (named, orders_fine p.tasks r.actions now.fine actions);
      comes = ap not now.left;
      good =
          no_kind _ kinds.Number _ (or_from (no_number (decimal (length u.rows))) _ (is_number (length u.rows) k_small) (or_from (delay_no_number (delay_said r.expiry)) _ (delay_number u.kind r.expiry expiry) (is_number r.next next_small)))
          (no_kind _ kinds.UnknownTask _ (or_from (unknown p.tasks u.name) _ (ap (unknown p.tasks) (sym (due_name p u now.is_due)) ∙ known_again p.tasks p.at now.distinct at) (orders_known p.tasks r.actions now.distinct actions))
          (no_kind _ kinds.RowTarget _ (ap (λ d. wrong_target p d (row_line_of (names_of p.tasks) u.name (length u.rows) r)) now.is_due
          ∙ or_from (not (bytes_eq u.name u.name)) _ (ap not (same_word u.name))
          (or_from (not (value (decimal (length u.rows)) == length u.rows)) _ (not_from_true _ (eq-eqb _ _ (value_again (length u.rows) k_small)))
          ((λ i. nat_le (now.promise i) (value_again r.next next_small i)) ∙ lt-leb rows r.next next)))
          (no_kind _ kinds.ExpiryBarred _ (ap (λ d. barred d (delay_said r.expiry)) now.is_due ∙ delay_allowed u.kind r.expiry expiry)
          (no_kind _ kinds.LimitPassed None (or_from (nat_lt most_actions (length (map (order_said (names_of p.tasks)) r.actions))) _ (ap (nat_lt most_actions) (length-map r.actions (order_said (names_of p.tasks))) ∙ le-ltb most_actions (length r.actions) (leb-true (length r.actions) most_actions (first_of_both (nat_le (length r.actions) most_actions) _ e))) (delay_inside u.kind r.expiry expiry)) refl))));
    }

-- and adds itself
row_added : (p : Progress) (u : TaskDef) (rows : ℕ) (r : Row) → RowNow p u rows r
    → with_line p (row (row_line_of (names_of p.tasks) u.name (length u.rows) r)) ≡ record p { tasks = set p.tasks p.at (with_row_at_end u r); at = if length u.rows + 1 == rows then p.at + 1 else p.at }
unfolding with_line with_row
row_added p u rows r now =
    (λ i. with_row p (now.is_due i) (row_again_of p.tasks u.kind rows u.name (length u.rows) r now.distinct now.few now.sound i))
    ∙ ap (λ n. record p { tasks = set p.tasks p.at (with_row_at_end u r); at = if length u.rows + 1 == n then p.at + 1 else p.at }) now.promise

get_middle : {A : Type 0} (xs : List A) (y : A) (ys : List A) → slice_get (xs ++ y ∷ ys) (length xs) ≡ Some y
get_middle [] y ys = refl
get_middle (x ∷ xs) y ys = get_middle xs y ys

set_middle : {A : Type 0} (xs : List A) (y z : A) (ys : List A) → set (xs ++ y ∷ ys) (length xs) z ≡ xs ++ z ∷ ys
set_middle [] y z ys = refl
set_middle (x ∷ xs) y z ys = ap (λ r. x ∷ r) (set_middle xs y z ys)

-- the tasks so far are whole, one has these rows, and the others none
abbrev pub amid : Script → List TaskDef → TaskDef → List Row → List TaskDef → Progress
amid s done t rs rest = base s (done ++ record t { rows = rs } ∷ map bare rest) (lens (done ++ t ∷ rest)) (length done) []

-- the tasks so far are whole, and the others have no row
abbrev pub between : Script → List TaskDef → List TaskDef → Progress
between s done rest = base s (done ++ map bare rest) (lens (done ++ rest)) (length done) []

-- facts of all tasks
pub record Fine (all : List TaskDef) : Type 0 where
  pub distinct : distinct_names (names_of all) ≡ true
  pub fine : list_all is_name (names_of all) ≡ true

amid_names : (done : List TaskDef) (t : TaskDef) (rs : List Row) (rest : List TaskDef) → names_of (done ++ record t { rows = rs } ∷ map bare rest) ≡ names_of (done ++ t ∷ rest)
amid_names done t rs rest =
    map-append (λ u. u.name) done (record t { rows = rs } ∷ map bare rest)
    ∙ ap (λ ns. names_of done ++ t.name ∷ ns) (bare_names rest)
    ∙ sym (map-append (λ u. u.name) done (t ∷ rest))

amid_length : (done : List TaskDef) (t : TaskDef) (rs : List Row) (rest : List TaskDef) → length (done ++ record t { rows = rs } ∷ map bare rest) ≡ length (done ++ t ∷ rest)
amid_length done t rs rest =
    let a = length-append done (record t { rows = rs } ∷ map bare rest) in
    let b = length-append done (t ∷ rest) in
    let c = length-map rest bare in
    omega arith

row_now : (s : Script) (done : List TaskDef) (t : TaskDef) (rs : List Row) (rest : List TaskDef) (r : Row) → Fine (done ++ t ∷ rest) → is_sound_row (length (done ++ t ∷ rest)) t.kind (length t.rows) r ≡ true → length t.rows < 10 ^ 10 → length rs < length t.rows
    → RowNow (amid s done t rs rest) (record t { rows = rs }) (length t.rows) r
row_now s done t rs rest r fine sound few more = record {
  unended = refl;
  is_due = get_middle done (record t { rows = rs }) (map bare rest);
  promise = ap (λ ls. slice_index ls (length done)) (map-append (λ u. length u.rows) done (t ∷ rest)) ∙ get_or_at (lens done) (length t.rows) (lens rest) 0 (length done) (length-map done (λ u. length u.rows));
  left = fewer (length done) (length (done ++ record t { rows = rs } ∷ map bare rest)) (let sum = length-append done (record t { rows = rs } ∷ map bare rest) in omega arith);
  distinct = ap distinct_names (amid_names done t rs rest) ∙ fine.distinct;
  fine = ap (list_all is_name) (amid_names done t rs rest) ∙ fine.fine;
  sound = ap (λ n. is_sound_row n t.kind (length t.rows) r) (amid_length done t rs rest) ∙ sound;
  few = few;
  more = more;
}
  where
    fewer : (a b : ℕ) → a < b → (a == b) ≡ false
    fewer a b h = grind (arith, nat_tests)

row_amid : (s : Script) (done : List TaskDef) (t : TaskDef) (rs : List Row) (rest : List TaskDef) (r : Row) → Fine (done ++ t ∷ rest) → is_sound_row (length (done ++ t ∷ rest)) t.kind (length t.rows) r ≡ true → length t.rows < 10 ^ 10 → length rs < length t.rows
    → Passes (amid s done t rs rest) (row_said (names_of (done ++ t ∷ rest)) t.name (length rs) r)
    × (with_line (amid s done t rs rest) (row_said (names_of (done ++ t ∷ rest)) t.name (length rs) r)
    ≡ base s (done ++ record t { rows = rs ++ r ∷ [] } ∷ map bare rest) (lens (done ++ t ∷ rest)) (if length rs + 1 == length t.rows then length done + 1 else length done) [])
unfolding row_said with_row_at_end
row_amid s done t rs rest r fine sound few more =
    let now = row_now s done t rs rest r fine sound few more in
    let P : List Word → Type 0 = λ names. Passes (amid s done t rs rest) (row (row_line_of names t.name (length rs) r))
    × (with_line (amid s done t rs rest) (row (row_line_of names t.name (length rs) r))
    ≡ base s (done ++ record t { rows = rs ++ r ∷ [] } ∷ map bare rest) (lens (done ++ t ∷ rest)) (if length rs + 1 == length t.rows then length done + 1 else length done) []) in
    subst P (amid_names done t rs rest) (
      row_passes (amid s done t rs rest) (record t { rows = rs }) (length t.rows) r now,
      row_added (amid s done t rs rest) (record t { rows = rs }) (length t.rows) r now
          ∙ ap (λ ts. base s ts (lens (done ++ t ∷ rest)) (if length rs + 1 == length t.rows then length done + 1 else length done) []) (set_middle done (record t { rows = rs }) (record t { rows = rs ++ r ∷ [] }) (map bare rest)),
    )

chosen_else : {A : Type 0} (b : Bool) (x y : A) → b ≡ false → cond b x y ≡ y
chosen_else true x y e = absurd (cc)
chosen_else false x y e = refl

-- the last row of a task makes it whole
last_row : (s : Script) (done : List TaskDef) (t : TaskDef) (rs : List Row) (rest : List TaskDef) (r : Row) → t.rows ≡ rs ++ r ∷ []
    → base s (done ++ record t { rows = rs ++ r ∷ [] } ∷ map bare rest) (lens (done ++ t ∷ rest)) (if length rs + 1 == length t.rows then length done + 1 else length done) [] ≡ between s (done ++ t ∷ []) rest
last_row s done t rs rest r e =
    let count : length rs + 1 ≡ length t.rows = sym (ap length e ∙ length-append rs (r ∷ [])) in
    let index : length done + 1 ≡ length (done ++ t ∷ []) = sym (length-append done (t ∷ [])) in
    λ i. base s
    ((ap (λ rows. done ++ record t { rows = rows } ∷ map bare rest) (sym e) ∙ sym (append_assoc done (t ∷ []) (map bare rest))) i)
    (lens (sym (append_assoc done (t ∷ []) rest) i))
    ((chosen_then (length rs + 1 == length t.rows) (length done + 1) (length done) (equal (length rs + 1) (length t.rows) count) ∙ index) i)
    []
  where
    equal : (a b : ℕ) → a ≡ b → (a == b) ≡ true
    equal a b h = grind (arith, nat_tests)

-- a row that is not the last leaves the others to come
not_last_row : (s : Script) (done : List TaskDef) (t : TaskDef) (rs : List Row) (rest : List TaskDef) (r : Row) → length rs + 1 < length t.rows
    → base s (done ++ record t { rows = rs ++ r ∷ [] } ∷ map bare rest) (lens (done ++ t ∷ rest)) (if length rs + 1 == length t.rows then length done + 1 else length done) [] ≡ amid s done t (rs ++ r ∷ []) rest
not_last_row s done t rs rest r h =
    ap (λ at. base s (done ++ record t { rows = rs ++ r ∷ [] } ∷ map bare rest) (lens (done ++ t ∷ rest)) at []) (chosen_else (length rs + 1 == length t.rows) (length done + 1) (length done) (other (length rs + 1) (length t.rows) h))
  where
    other : (a b : ℕ) → a < b → (a == b) ≡ false
    other a b k = grind (arith, nat_tests)

-- the rows of a task, from one on
row_run : (s : Script) (done : List TaskDef) (t : TaskDef) (rs : List Row) (rest : List TaskDef) (r : Row) (more : List Row) → t.rows ≡ rs ++ r ∷ more → Fine (done ++ t ∷ rest)
    → list_all (is_sound_row (length (done ++ t ∷ rest)) t.kind (length t.rows)) (r ∷ more) ≡ true → length t.rows < 10 ^ 10
    → Runs (amid s done t rs rest) (rows_said (names_of (done ++ t ∷ rest)) t.name (length rs) (r ∷ more)) (between s (done ++ t ∷ []) rest)
unfolding rows_said
row_run s done t rs rest r [] e fine sound few =
    let long : length t.rows ≡ length rs + 1 = ap length e ∙ length-append rs (r ∷ []) in
    let step = row_amid s done t rs rest r fine (first_of_both (is_sound_row (length (done ++ t ∷ rest)) t.kind (length t.rows) r) true sound) few (omega arith) in
    (step.0, step.1 ∙ last_row s done t rs rest r e)
row_run s done t rs rest r (r2 ∷ more) e fine sound few =
    let long : length t.rows ≡ length rs + suc (suc (length more)) = ap length e ∙ length-append rs (r ∷ r2 ∷ more) in
    let step = row_amid s done t rs rest r fine (first_of_both (is_sound_row (length (done ++ t ∷ rest)) t.kind (length t.rows) r) _ sound) few (omega arith) in
    let index : length (rs ++ r ∷ []) ≡ length rs + 1 = length-append rs (r ∷ []) in
    let others = row_run s done t (rs ++ r ∷ []) rest r2 more (e ∙ sym (append_assoc rs (r ∷ []) (r2 ∷ more))) fine (second_of_both (is_sound_row (length (done ++ t ∷ rest)) t.kind (length t.rows) r) _ sound) few in (
      step.0,
      subst (λ p. Runs p (rows_said (names_of (done ++ t ∷ rest)) t.name (length rs + 1) (r2 ∷ more)) (between s (done ++ t ∷ []) rest)) (sym (step.1 ∙ not_last_row s done t rs rest r (omega arith)))
          (subst (λ k. Runs (amid s done t (rs ++ r ∷ []) rest) (rows_said (names_of (done ++ t ∷ rest)) t.name k (r2 ∷ more)) (between s (done ++ t ∷ []) rest)) index others),
    )

-- all rows of a task
task_rows_run : (s : Script) (done : List TaskDef) (t : TaskDef) (rest : List TaskDef) → Fine (done ++ t ∷ rest) → is_sound_task s.workers (length (done ++ t ∷ rest)) t ≡ true
    → Runs (between s done (t ∷ rest)) (rows_said (names_of (done ++ t ∷ rest)) t.name 0 t.rows) (between s (done ++ t ∷ []) rest)
task_rows_run s done t rest fine sound =
    let e_2 = second_of_both (is_name t.name) _ sound in
    let e_3 = second_of_both (is_sound_kind s.workers t.kind) _ e_2 in
    let count = first_of_both (within 1 most_rows (length t.rows)) _ e_3 in
    go t.rows refl (within_most 1 most_rows (length t.rows) count).0 (rows_small (length t.rows) count) (second_of_both (within 1 most_rows (length t.rows)) _ e_3)
  where
    go : (rows : List Row) → t.rows ≡ rows → 1 ≤ length t.rows → length t.rows < 10 ^ 10 → list_all (is_sound_row (length (done ++ t ∷ rest)) t.kind (length t.rows)) t.rows ≡ true
        → Runs (between s done (t ∷ rest)) (rows_said (names_of (done ++ t ∷ rest)) t.name 0 t.rows) (between s (done ++ t ∷ []) rest)
    go [] e some few all = absurd (let none = ap length e in omega arith)
    go (r ∷ more) e some few all =
        subst (λ rows. Runs (between s done (t ∷ rest)) (rows_said (names_of (done ++ t ∷ rest)) t.name 0 rows) (between s (done ++ t ∷ []) rest)) (sym e)
        (row_run s done t [] rest r more e fine (ap (list_all (is_sound_row (length (done ++ t ∷ rest)) t.kind (length t.rows))) (sym e) ∙ all) few)

-- all rows
pub rows_run : (s : Script) (all done rest : List TaskDef) → done ++ rest ≡ all → Fine all → list_all (is_sound_task s.workers (length all)) rest ≡ true
    → Runs (between s done rest) (flat_map (λ t. rows_said (names_of all) t.name 0 t.rows) rest) (between s all [])
rows_run s all done [] e fine sound = ap (λ ts. between s ts []) (sym (append-nil done) ∙ e)
rows_run s all done (t ∷ rest) e fine sound =
    let one = subst (λ ts. Fine ts → is_sound_task s.workers (length ts) t ≡ true → Runs (between s done (t ∷ rest)) (rows_said (names_of ts) t.name 0 t.rows) (between s (done ++ t ∷ []) rest)) e (task_rows_run s done t rest) in
    runs_then (between s done (t ∷ rest)) (between s (done ++ t ∷ []) rest) (between s all []) (rows_said (names_of all) t.name 0 t.rows) (flat_map (λ u. rows_said (names_of all) u.name 0 u.rows) rest)
    (one fine (first_of_both (is_sound_task s.workers (length all) t) _ sound))
    (rows_run s all (done ++ t ∷ []) rest (append_assoc done (t ∷ []) rest ∙ e) fine (second_of_both (is_sound_task s.workers (length all) t) _ sound))
