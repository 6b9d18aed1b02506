-- A script's tables in range, as the queues' calls ask for it.
use Rattle.std.proofs.Common.{◌≡◌, ℕ, ◌<◌, true, List, get_or, subst, ◌∙◌, rules, length, sym, ap, arith, pos, negsuc, ◌≤ℤ◌, IsTrue, w32, to_z, of_z, FitsSigned}
use Rattle.std.specs.Prelude.{ℤ}
use Rattle.std.proofs.lemmas.Int.{ints, to_z-of_z}
use Rattle.std.proofs.lemmas.Option.{slice_get-get_or}
use Rattle.step_tables.specs.declared.tables.Kind.{Kind}
use Rattle.step_tables.specs.declared.tables.Kind.TheVariants.{Pinned, Shared}
use Rattle.step_tables.specs.declared.tables.TaskDef.{TaskDef}
use Rattle.step_tables.specs.declared.tables.Script.{Script}
use Rattle.step_tables.specs.Sound.{is_sound, is_nice}
use Rattle.step_tables.specs.Ranges.{ScriptRange, KindRange}
use Rattle.step_tables.proofs.RangeLaws.{range_of_sound}

pub in_range : (s : Script) → IsTrue (is_sound s) → ScriptRange s
in_range s h = range_of_sound s h

-- the kind of a task
pub kind_range : (s : Script) (i : ℕ) (d : TaskDef) → IsTrue (is_sound s) → i < length s.tasks → KindRange s.workers (get_or s.tasks i d).kind
kind_range s i d h lt = ((in_range s h).tasks i (get_or s.tasks i d) (slice_get-get_or s.tasks i d lt)).kind

-- a nice is in range, and as the machine keeps it it is the same
pub nice_parts : (n : ℤ) → is_nice n ≡ true → (negsuc 1023 ≤ℤ n) × (n ≤ℤ pos 1024)
nice_parts n h = (grind (arith, ints), grind (arith, ints))

nice_fits : (n : ℤ) → negsuc 1023 ≤ℤ n → n ≤ℤ pos 1024 → FitsSigned w32 n
nice_fits n low high = first_of (omega (arith, ints), grind (arith, ints), search (rules, ints))

pub nice_kept : (n : ℤ) → is_nice n ≡ true → (negsuc 1023 ≤ℤ to_z w32 (of_z w32 n)) × (to_z w32 (of_z w32 n) ≤ℤ pos 1024)
nice_kept n h = let p = nice_parts n h in rw (to_z-of_z w32 n (nice_fits n p.0 p.1)) p

-- the nice of a pinned task, and of a shared one
pub pinned_nice : (s : Script) (tasks : List TaskDef) (i home : ℕ) (nice : ℤ) (d : TaskDef) → tasks ≡ s.tasks → IsTrue (is_sound s) → i < length s.tasks → (get_or tasks i d).kind ≡ Pinned home nice → (negsuc 1023 ≤ℤ to_z w32 (of_z w32 nice)) × (to_z w32 (of_z w32 nice) ≤ℤ pos 1024)
pinned_nice s tasks i home nice d same h lt e =
    let kind : KindRange s.workers (Pinned home nice) = subst (λ (k : Kind). KindRange s.workers k) (ap (λ (ts : List TaskDef). (get_or ts i d).kind) (sym same) ∙ e) (kind_range s i d h lt) in
    nice_kept nice kind.1

pub shared_nice : (s : Script) (tasks : List TaskDef) (i : ℕ) (nice : ℤ) (d : TaskDef) → tasks ≡ s.tasks → IsTrue (is_sound s) → i < length s.tasks → (get_or tasks i d).kind ≡ Shared nice → (negsuc 1023 ≤ℤ to_z w32 (of_z w32 nice)) × (to_z w32 (of_z w32 nice) ≤ℤ pos 1024)
shared_nice s tasks i nice d same h lt e =
    let kind : KindRange s.workers (Shared nice) = subst (λ (k : Kind). KindRange s.workers k) (ap (λ (ts : List TaskDef). (get_or ts i d).kind) (sym same) ∙ e) (kind_range s i d h lt) in
    nice_kept nice kind
