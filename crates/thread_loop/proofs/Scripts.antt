-- What a sound script gives a worker: few tasks, and rows whose next rows are there.
use Rattle.std.proofs.Common.{◌≡◌, ℕ, zero, suc, ◌<◌, ◌≤◌, Bool, true, leb, List, [], ◌∷◌, length, get_or, IsTrue, arith, ltb-true}
use Rattle.std.specs.List.{list_all}
use Rattle.std.proofs.lemmas.Bool.{leb-true}
use Rattle.step_tables.specs.declared.tables.Kind.{Kind}
use Rattle.step_tables.specs.declared.tables.Row.{Row}
use Rattle.step_tables.specs.declared.tables.TaskDef.{TaskDef}
use Rattle.step_tables.specs.declared.tables.Script.{Script}
use Rattle.step_tables.specs.Sound.{within, is_sound, is_sound_action, is_sound_expiry, is_sound_kind, is_sound_row, is_sound_task}
use Rattle.run_model.specs.Tables.{groups, blank_row, blank_task, def_of, row_at, row_number}
use Rattle.run_model.proofs.Readings.{both}
use Rattle.turn_steps.proofs.Fit.{sound_parts, within-parts}

pub few_tasks : (s : Script) → IsTrue (is_sound s) → length s.tasks ≤ 4096
few_tasks s h = leb-true (length s.tasks) 4096 (sound_parts s h).tasks

pub few_groups : (s : Script) → IsTrue (is_sound s) → groups s < 65
few_groups s h = let e = few_tasks s h in omega arith

all_there : {X : Type 0} (p : X → Bool) (xs : List X) (i : ℕ) (d : X) → list_all p xs ≡ true → i < length xs → p (get_or xs i d) ≡ true
all_there p [] i d h lt = absurd (omega arith)
all_there p (x ∷ xs) zero d h lt = (both (p x) _ h).0
all_there p (x ∷ xs) (suc i) d h lt = all_there p xs i d (both (p x) _ h).1 (omega arith)

-- a task of a sound script is sound
task_there : (s : Script) (i : ℕ) → IsTrue (is_sound s) → i < length s.tasks → is_sound_task s.workers (length s.tasks) (def_of s i) ≡ true
task_there s i h lt = all_there (is_sound_task s.workers (length s.tasks)) s.tasks i blank_task (sound_parts s h).defs lt

one-some : (n : ℕ) → 1 ≤ n → 0 < n
one-some n h = omega arith

rows_there : (w n : ℕ) (d : TaskDef) → is_sound_task w n d ≡ true → (0 < length d.rows) × (list_all (is_sound_row n d.kind (length d.rows)) d.rows ≡ true)
rows_there w n d h =
    let a = both _ _ h in
    let b = both (is_sound_kind w d.kind) _ a.1 in
    let c = both (within 1 64 (length d.rows)) _ b.1 in
    let some = within-parts 1 64 (length d.rows) c.0 in
    (one-some (length d.rows) some.0, c.1)

next_there : (n : ℕ) (kind : Kind) (rows : ℕ) (row : Row) → is_sound_row n kind rows row ≡ true → row.next < rows
next_there n kind rows row h =
    let a = both (leb (length row.actions) 16) _ h in
    let b = both (list_all (is_sound_action n) row.actions) _ a.1 in
    let c = both (is_sound_expiry kind row.expiry) _ b.1 in
    ltb-true row.next rows c.1

-- the row after a row of a task is one of its rows
pub next_in : (s : Script) (i n : ℕ) → IsTrue (is_sound s) → i < length s.tasks → n < length (def_of s i).rows → (row_at s i n).next < length (def_of s i).rows
next_in s i n h lt below =
    let p = rows_there s.workers (length s.tasks) (def_of s i) (task_there s i h lt) in
    next_there (length s.tasks) (def_of s i).kind (length (def_of s i).rows) (row_at s i n) (all_there (is_sound_row (length s.tasks) (def_of s i).kind (length (def_of s i).rows)) (def_of s i).rows n blank_row p.1 below)

-- and so is the row of any number of takes
pub row_in : (s : Script) (i t : ℕ) → IsTrue (is_sound s) → i < length s.tasks → row_number s i t < length (def_of s i).rows
row_in s i zero h lt = (rows_there s.workers (length s.tasks) (def_of s i) (task_there s i h lt)).0
row_in s i (suc t) h lt = next_in s i (row_number s i t) h lt (row_in s i t h lt)
