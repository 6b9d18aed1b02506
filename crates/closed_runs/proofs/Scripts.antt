-- What a script that is closed by homes gives its workers.
use Rattle.std.proofs.Common.{◌≡◌, ℕ, suc, ◌<◌, true, inl, inr, List, [], ◌∷◌, Some, length, get_or, IsTrue, refl, sym, ap, ◌∙◌, subst, ltb, ltb-true}
use Rattle.std.specs.List.{AllByRecursion}
use Rattle.std.specs.Prelude.{slice_get}
use Rattle.std.proofs.lemmas.Bool.{cases_lt}
use Rattle.std.proofs.lemmas.List.{get_or_past}
use Rattle.std.proofs.lemmas.Option.{slice_get-get_or, get_or_from_slice_get}
use Rattle.step_tables.specs.declared.tables.Action.{Action}
use Rattle.step_tables.specs.declared.tables.Action.TheVariants.{Wake, Kill}
use Rattle.step_tables.specs.declared.tables.Expiry.{Expiry}
use Rattle.step_tables.specs.declared.tables.Expiry.TheVariants.{Keep, After, Never}
use Rattle.step_tables.specs.declared.tables.Kind.{Kind}
use Rattle.step_tables.specs.declared.tables.Kind.TheVariants.{Pinned, Shared, Tasklet}
use Rattle.step_tables.specs.declared.tables.Row.{Row}
use Rattle.step_tables.specs.declared.tables.Script.{Script}
use Rattle.step_tables.specs.declared.tables.TaskDef.{TaskDef}
use Rattle.step_tables.specs.Homes.{own_home, task_named, StaysHome, IsClosedByHomes}
use Rattle.step_tables.specs.Sound.{is_sound, is_sound_kind, is_sound_task}
use Rattle.run_model.proofs.Readings.{both, some_inj}
use Rattle.run_model.specs.Tables.{blank_row, blank_task, def_of, row_at, home_in, home_of, target}
use Rattle.turn_steps.proofs.Fit.{sound_parts, at_all, task_parts, IsFit-sound}
use Rattle.standing.specs.Homes.{Timed, TimersHaveHomes}

-- each task has a worker for its home, its rows name tasks of that home only, and there is no event
pub record Closed (s : Script) : Type 0 where
  pub homes : (i : ℕ) → home_of s i < s.workers
  pub rows : (i n : ℕ) → AllByRecursion (λ (a : Action). home_of s (target a) ≡ home_of s i) (row_at s i n).actions
  pub events : s.events ≡ []

-- what each item at its place has, all have
all_gets : {X : Type 0} (P : X → Type 0) (xs : List X) → ((k : ℕ) (x : X) → slice_get xs k ≡ Some x → P x) → AllByRecursion P xs
all_gets P [] f = tt
all_gets P (x ∷ xs) f = (f 0 x refl, all_gets P xs (λ k y e. f (suc k) y e))

-- the home of a kind is the box to which its task is posted, and a worker
own_below : (s : Script) (kind : Kind) (home : ℕ) → is_sound_kind s.workers kind ≡ true → own_home kind ≡ Some home → home_in s kind < s.workers
own_below s (Pinned h nice) home sound e = ltb-true h s.workers (both (ltb h s.workers) _ sound).0
own_below s (Shared nice) home sound e = cc
own_below s (Tasklet h class) home sound e = ltb-true h s.workers sound

own_is : (s : Script) (kind : Kind) (home : ℕ) → own_home kind ≡ Some home → home_in s kind ≡ home
own_is s (Pinned h nice) home e = some_inj h home e
own_is s (Shared nice) home e = cc
own_is s (Tasklet h class) home e = some_inj h home e

named_target : (a : Action) → task_named a ≡ target a
named_target (Wake i reasons) = refl
named_target (Kill i) = refl

-- a fact of each task, within the tables and behind them
each_task : (s : Script) (closed : IsClosedByHomes s) (P : TaskDef → Type 0) (i : ℕ) → ((d : TaskDef) → StaysHome s.tasks d → P d) → P blank_task → P (def_of s i)
each_task s closed P i f blank =
    elim (cases_lt i (length s.tasks)) [
      | inl lt ↦ f (def_of s i) (closed.tasks i (def_of s i) (slice_get-get_or s.tasks i blank_task lt))
      | inr le ↦ subst P (sym (get_or_past s.tasks i blank_task le)) blank
    ]

-- the home of a sound task is a worker
sound_below : (s : Script) → (d : TaskDef) → is_sound_task s.workers (length s.tasks) d ≡ true → (home : ℕ) → own_home d.kind ≡ Some home → home_in s d.kind < s.workers
sound_below s d sound home e = own_below s d.kind home (task_parts s.workers (length s.tasks) d sound).kind e

home_below : (s : Script) → IsTrue (is_sound s) → IsClosedByHomes s → (i : ℕ) → home_of s i < s.workers
home_below s sound closed i =
    let some = (IsFit-sound s sound).some in
    let below = at_all (is_sound_task s.workers (length s.tasks)) (λ (d : TaskDef). (home : ℕ) → own_home d.kind ≡ Some home → home_in s d.kind < s.workers) s.tasks i blank_task (sound_parts s sound).defs (λ d h. sound_below s d h) (λ home e. some) in
    each_task s closed (λ (d : TaskDef). ((home : ℕ) → own_home d.kind ≡ Some home → home_in s d.kind < s.workers) → home_in s d.kind < s.workers) i (λ d stays f. f stays.0 stays.1) (λ f. some) below

-- a row names tasks of its own task's home
row_inward : (s : Script) (d : TaskDef) (n : ℕ) → StaysHome s.tasks d → AllByRecursion (λ (a : Action). home_of s (target a) ≡ home_in s d.kind) (get_or d.rows n blank_row).actions
row_inward s d n stays =
    elim (cases_lt n (length d.rows)) [
      | inl lt ↦
          all_gets (λ (a : Action). home_of s (target a) ≡ home_in s d.kind) (get_or d.rows n blank_row).actions (λ k a e.
          let names = stays.2 n (get_or d.rows n blank_row) (slice_get-get_or d.rows n blank_row lt) k a e in
          let there : home_of s (task_named a) ≡ home_in s names.0.kind = ap (λ (t : TaskDef). home_in s t.kind) (get_or_from_slice_get s.tasks (task_named a) names.0 blank_task names.1) in
          ap (home_of s) (sym (named_target a)) ∙ there ∙ own_is s names.0.kind stays.0 names.2 ∙ sym (own_is s d.kind stays.0 stays.1))
      | inr le ↦ subst (λ (row : Row). AllByRecursion (λ (a : Action). home_of s (target a) ≡ home_in s d.kind) row.actions) (sym (get_or_past d.rows n blank_row le)) tt
    ]

-- of a script that is sound and closed by homes
pub closed-homes : (s : Script) → IsTrue (is_sound s) → IsClosedByHomes s → Closed s
closed-homes s sound closed = record {
  homes = home_below s sound closed;
  rows = λ i n. each_task s closed (λ (d : TaskDef). AllByRecursion (λ (a : Action). home_of s (target a) ≡ home_in s d.kind) (get_or d.rows n blank_row).actions) i (λ d stays. row_inward s d n stays) tt;
  events = closed.events;
}

-- each task may have a timer
timed_any : (x : Expiry) (P : Type 0) → P → Timed x P
timed_any Keep P h = tt
timed_any (After d) P h = h
timed_any Never P h = tt

pub timers_have_homes : (s : Script) → Closed s → TimersHaveHomes s
timers_have_homes s closed i n = timed_any (row_at s i n).expiry (home_of s i < s.workers) (closed.homes i)
