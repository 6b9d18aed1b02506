-- The nices of a script's tasks are in range.
use Rattle.std.proofs.Common.{◌≡◌, ℕ, List, map, length, get_or, pos, negsuc, ◌≤ℤ◌, IsTrue, sym, subst, arith, inl, inr}
use Rattle.std.specs.Prelude.{ℤ}
use Rattle.std.proofs.lemmas.Bool.{cases_lt}
use Rattle.std.proofs.lemmas.Int.{ints}
use Rattle.std.proofs.lemmas.List.{get_or-map, get_or_past, length-map}
use Rattle.step_tables.specs.declared.tables.Kind.{Kind}
use Rattle.step_tables.specs.declared.tables.Kind.TheVariants.{Pinned, Shared, Tasklet}
use Rattle.step_tables.specs.declared.tables.Script.{Script}
use Rattle.step_tables.specs.declared.tables.TaskDef.{TaskDef}
use Rattle.step_tables.specs.Ranges.{KindRange}
use Rattle.step_tables.specs.Sound.{is_sound}
use Rattle.run_model.specs.Tables.{nice_in, blank_task}
use Rattle.shared_queue.specs.Dealing.{AreNices}
use Rattle.thread_loop.proofs.Ranges.{kind_range, nice_parts}

no_nice : (negsuc 1023 ≤ℤ pos 0) × (pos 0 ≤ℤ pos 1024)
no_nice = (grind (arith, ints), grind (arith, ints))

nice_of_kind : (w : ℕ) (k : Kind) → KindRange w k → (negsuc 1023 ≤ℤ nice_in k) × (nice_in k ≤ℤ pos 1024)
nice_of_kind w (Pinned home nice) h = nice_parts nice h.1
nice_of_kind w (Shared nice) h = nice_parts nice h
nice_of_kind w (Tasklet home class) h = no_nice

nice_at : (s : Script) (i : ℕ) → IsTrue (is_sound s) → (negsuc 1023 ≤ℤ get_or (map (λ (d : TaskDef). nice_in d.kind) s.tasks) i (pos 0)) × (get_or (map (λ (d : TaskDef). nice_in d.kind) s.tasks) i (pos 0) ≤ℤ pos 1024)
nice_at s i sound =
    elim (cases_lt i (length s.tasks)) [
      | inl lt ↦ subst (λ (n : ℤ). (negsuc 1023 ≤ℤ n) × (n ≤ℤ pos 1024)) (sym (get_or-map (λ (d : TaskDef). nice_in d.kind) s.tasks i blank_task (pos 0) lt)) (nice_of_kind s.workers (get_or s.tasks i blank_task).kind (kind_range s i blank_task sound lt))
      | inr past ↦ subst (λ (n : ℤ). (negsuc 1023 ≤ℤ n) × (n ≤ℤ pos 1024)) (sym (get_or_past (map (λ (d : TaskDef). nice_in d.kind) s.tasks) i (pos 0) (omega (arith, length-map s.tasks (λ (d : TaskDef). nice_in d.kind))))) no_nice
    ]

pub are_nices : (s : Script) (ns : List ℤ) → IsTrue (is_sound s) → ns ≡ map (λ (d : TaskDef). nice_in d.kind) s.tasks → AreNices ns
are_nices s ns sound same = subst (λ (xs : List ℤ). AreNices xs) (sym same) (record {
  low = λ i. (nice_at s i sound).0;
  high = λ i. (nice_at s i sound).1;
})
