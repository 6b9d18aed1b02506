-- The state after a call, task by task.
use Rattle.std.proofs.Common.{◌≡◌, ℕ, ◌+◌, ◌<◌, Bool, true, false, if◌then◌else◌, length, get_or, refl, sym, ap, ◌∙◌, inl, inr, arith, ne_eqb}
use Rattle.std.proofs.lemmas.Bool.{cases_lt}
use Rattle.std.proofs.lemmas.Bool.Decides.{nat_tests}
use Rattle.std.proofs.lemmas.List.{get_or_past}
use Rattle.sched_base.specs.declared.names.CallerId.{CallerId}
use Rattle.task_machine.specs.declared.calls.Call.{Call}
use Rattle.task_machine.specs.declared.calls.Call.TheVariants as calls
use Rattle.task_machine.specs.Task.{resting}
use Rattle.task_machine.specs.Step.{State, task_at, subject, is_about, is_named, moved, after}
use Rattle.task_machine.proofs.Lists.{length-each, get_or-each}

if_same : {X : Type 0} (b : Bool) (x : X) → (if b then x else x) ≡ x
if_same true x = refl
if_same false x = refl

-- a call leaves what is no task as it is
moved_past : (k : CallerId) (c : Call) (i : ℕ) → subject c < i → moved k c i resting ≡ resting
moved_past k (calls.Wake j f) i h = rw (ne_eqb i j.0 (omega arith))
moved_past k (calls.Kill j) i h = rw (ne_eqb i j.0 (omega arith))
moved_past k (calls.Post j b) i h = rw (ne_eqb i j.0 (omega arith))
moved_past k (calls.Get g) i h = if_same (is_about i (calls.Get g)) resting
moved_past k (calls.Draw j) i h = rw (ne_eqb i j.0 (omega arith))
moved_past k (calls.Take j) i h = rw (ne_eqb i j.0 (omega arith))
moved_past k (calls.DropRun j) i h = rw (ne_eqb i j.0 (omega arith))
moved_past k (calls.Retire j) i h = rw (ne_eqb i j.0 (omega arith))

pub task_at-after : (s : State) (k : CallerId) (c : Call) (i : ℕ) → subject c < length s.tasks → task_at (after s k c) i ≡ moved k c i (task_at s i)
task_at-after s k c i within =
    elim (cases_lt i (length s.tasks)) [
      | inl lt ↦ (let e : 0 + i ≡ i = omega arith in get_or-each (moved k c) 0 s.tasks i resting lt ∙ ap (λ j. moved k c j (get_or s.tasks i resting)) e)
      | inr le ↦
          get_or_past _ i resting (omega (arith, length-each (moved k c) 0 s.tasks)) ∙
          sym (ap (moved k c i) (get_or_past s.tasks i resting le) ∙ moved_past k c i (omega arith))
    ]

-- what a named call names is there
pub subject-lt : (s : State) (k : CallerId) (c : Call) → is_named s k c ≡ true → subject c < length s.tasks
subject-lt s k c h = grind (arith, nat_tests)

pub length-after : (s : State) (k : CallerId) (c : Call) → length (after s k c).tasks ≡ length s.tasks
length-after s k c = length-each (moved k c) 0 s.tasks
