-- Which tasks a call is about.
use Rattle.std.proofs.Common.{◌≡◌, ◌≢◌, ℕ, true, false, refl, arith, eq-eqb, ne_eqb, ◌<◌, ◌≤◌, ◌*◌, length, IsTrue}
use Rattle.std.proofs.lemmas.Bool.Decides.{nat_tests}
use Rattle.sched_base.specs.declared.names.CallerId.{CallerId}
use Rattle.sched_base.specs.declared.names.TaskId.{TaskId}
use Rattle.task_machine.specs.declared.calls.Call.{Call}
use Rattle.task_machine.specs.declared.calls.Call.TheVariants as calls
use Rattle.task_machine.specs.Step.{State, subject, is_about, is_named}

-- the call is no get, so it names one task
abbrev pub NoGet : Call → Type 0
NoGet c = (g : ℕ) → c ≢ calls.Get g

pub is_about-subject : (c : Call) → NoGet c → is_about (subject c) c ≡ true
is_about-subject (calls.Wake i f) h = eq-eqb i.0 i.0 refl
is_about-subject (calls.Kill i) h = eq-eqb i.0 i.0 refl
is_about-subject (calls.Post i b) h = eq-eqb i.0 i.0 refl
is_about-subject (calls.Get g) h = absurd (h g refl)
is_about-subject (calls.Draw i) h = eq-eqb i.0 i.0 refl
is_about-subject (calls.Take i) h = eq-eqb i.0 i.0 refl
is_about-subject (calls.DropRun i) h = eq-eqb i.0 i.0 refl
is_about-subject (calls.Retire i) h = eq-eqb i.0 i.0 refl

pub is_about-other : (i : ℕ) (c : Call) → NoGet c → i ≢ subject c → is_about i c ≡ false
is_about-other i (calls.Wake j f) h ne = ne_eqb i j.0 ne
is_about-other i (calls.Kill j) h ne = ne_eqb i j.0 ne
is_about-other i (calls.Post j b) h ne = ne_eqb i j.0 ne
is_about-other i (calls.Get g) h ne = absurd (h g refl)
is_about-other i (calls.Draw j) h ne = ne_eqb i j.0 ne
is_about-other i (calls.Take j) h ne = ne_eqb i j.0 ne
is_about-other i (calls.DropRun j) h ne = ne_eqb i j.0 ne
is_about-other i (calls.Retire j) h ne = ne_eqb i j.0 ne

-- what a named call names is there
pub is_named-task : (s : State) (k : CallerId) (c : Call) → IsTrue (is_named s k c) → subject c < length s.tasks
is_named-task s k c h = grind (arith, nat_tests)

pub is_named-get : (s : State) (k : CallerId) (g : ℕ) → IsTrue (is_named s k (calls.Get g)) → (k.0 < s.workers) × (64 * g < length s.tasks)
is_named-get s k g h = grind (arith, nat_tests)

pub is_named-post : (s : State) (k : CallerId) (i : TaskId) (b : ℕ) → IsTrue (is_named s k (calls.Post i b)) → (b ≤ s.workers) × (i.0 < length s.tasks)
is_named-post s k i b h = grind (arith, nat_tests)
