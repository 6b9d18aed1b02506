-- What a script's soundness gives a turn.
use Rattle.std.proofs.Common.{◌≡◌, ℕ, zero, suc, ◌+◌, ◌<◌, ◌≤◌, ◌==◌, Bool, true, leb, ltb, List, [], ◌∷◌, map, length, get_or, IsTrue, arith, inl, inr, ltb-true}
use Rattle.std.specs.List.{list_all, filter}
use Rattle.std.proofs.lemmas.Bool.{cases_Bool, leb-true}
use Rattle.step_tables.specs.declared.tables.Action.{Action}
use Rattle.step_tables.specs.declared.tables.Event.{Event}
use Rattle.step_tables.specs.declared.tables.Kind.{Kind}
use Rattle.step_tables.specs.declared.tables.Kind.TheVariants.{Pinned, Shared, Tasklet}
use Rattle.step_tables.specs.declared.tables.Row.{Row}
use Rattle.step_tables.specs.declared.tables.Script.{Script}
use Rattle.step_tables.specs.declared.tables.TaskDef.{TaskDef}
use Rattle.step_tables.specs.Sound.{within, is_sound_action, is_sound_expiry, is_sound_kind, is_sound_row, is_sound_task, rising_below, is_sound}
use Rattle.run_model.specs.Tables.{blank_row, blank_task, def_of, row_at, home_in}
use Rattle.run_model.proofs.Readings.{both}
use Rattle.turn_steps.specs.Ranges.{AreSound, IsFit}

-- what all items pass and the default has, each item has
pub at_all : {X : Type 0} (p : X → Bool) (P : X → Type 0) (xs : List X) (i : ℕ) (d : X) → list_all p xs ≡ true → ((x : X) → p x ≡ true → P x) → P d → P (get_or xs i d)
at_all p P [] i d h f e = e
at_all p P (x ∷ xs) zero d h f e = f x (both (p x) _ h).0
at_all p P (x ∷ xs) (suc i) d h f e = at_all p P xs i d (both (p x) _ h).1 f e

-- the parts of a sound script
pub record Sound (s : Script) : Type 0 where
  pub workers : within 1 16 s.workers ≡ true
  pub depth : within 1 1000 s.depth ≡ true
  pub start : leb s.start 4294967295 ≡ true
  pub step : within 1 1048576 s.step ≡ true
  pub rounds : within 1 100000 s.rounds ≡ true
  pub tasks : leb (length s.tasks) 4096 ≡ true
  pub defs : list_all (is_sound_task s.workers (length s.tasks)) s.tasks ≡ true
  pub events : list_all (λ (e : Event). is_sound_action (length s.tasks) e.action) s.events ≡ true
  pub rising : rising_below 0 s.rounds s.events ≡ true

pub sound_parts : (s : Script) → IsTrue (is_sound s) → Sound s
unfolding is_sound
sound_parts s h =
    let v = both (within 1 2 s.version) _ h in
    let a = both (within 1 16 s.workers) _ v.1 in
    let b = both (within 1 1000 s.depth) _ a.1 in
    let c = both (leb s.start 4294967295) _ b.1 in
    let d = both (within 1 1048576 s.step) _ c.1 in
    let e = both (within 1 100000 s.rounds) _ d.1 in
    let f = both (leb (length s.tasks) 4096) _ e.1 in
    let g = both (list_all (is_sound_task s.workers (length s.tasks)) s.tasks) _ f.1 in
    let k = both _ _ g.1 in
    let l = both (leb (length s.events) 65536) _ k.1 in
    let m = both (list_all (λ (e : Event). is_sound_action (length s.tasks) e.action) s.events) _ l.1 in
    record { workers = a.0; depth = b.0; start = c.0; step = d.0; rounds = e.0; tasks = f.0; defs = g.0; events = m.0; rising = m.1 }

pub within-parts : (low high n : ℕ) → within low high n ≡ true → (low ≤ n) × (n ≤ high)
within-parts low high n h = let p = both (leb low n) _ h in (leb-true low n p.0, leb-true n high p.1)

-- the parts of a sound task, and of a sound row
pub record SoundTask (workers tasks : ℕ) (d : TaskDef) : Type 0 where
  pub kind : is_sound_kind workers d.kind ≡ true
  pub rows : list_all (is_sound_row tasks d.kind (length d.rows)) d.rows ≡ true

pub task_parts : (workers tasks : ℕ) (d : TaskDef) → is_sound_task workers tasks d ≡ true → SoundTask workers tasks d
task_parts workers tasks d h =
    let a = both _ _ h in
    let b = both (is_sound_kind workers d.kind) _ a.1 in
    let c = both (within 1 64 (length d.rows)) _ b.1 in
    record { kind = b.0; rows = c.1 }

pub record SoundRow (tasks : ℕ) (kind : Kind) (row : Row) : Type 0 where
  pub short : length row.actions ≤ 16
  pub actions : list_all (is_sound_action tasks) row.actions ≡ true
  pub expiry : is_sound_expiry kind row.expiry ≡ true

pub row_parts : (tasks : ℕ) (kind : Kind) (rows : ℕ) (row : Row) → is_sound_row tasks kind rows row ≡ true → SoundRow tasks kind row
row_parts tasks kind rows row h =
    let a = both (leb (length row.actions) 16) _ h in
    let b = both (list_all (is_sound_action tasks) row.actions) _ a.1 in
    let c = both (is_sound_expiry kind row.expiry) _ b.1 in
    record { short = leb-true _ _ a.0; actions = b.0; expiry = c.0 }

-- a fact of each row of each task, those that are not in the tables too
pub at_row : (s : Script) (P : Kind → Row → Type 0) → Sound s → ((kind : Kind) (rows : ℕ) (row : Row) → is_sound_row (length s.tasks) kind rows row ≡ true → P kind row) → ((kind : Kind) → P kind blank_row) → (i n : ℕ) → P (def_of s i).kind (row_at s i n)
at_row s P sound f none i n =
    at_all (is_sound_task s.workers (length s.tasks)) (λ d. P d.kind (get_or d.rows n blank_row)) s.tasks i blank_task sound.defs
    (λ d h. let t = task_parts s.workers (length s.tasks) d h in at_all (is_sound_row (length s.tasks) d.kind (length d.rows)) (λ row. P d.kind row) d.rows n blank_row t.rows (f d.kind (length d.rows)) (none d.kind))
    (none blank_task.kind)

sound_list : (n : ℕ) (acts : List Action) → list_all (is_sound_action n) acts ≡ true → AreSound n acts
sound_list n [] h = tt
sound_list n (a ∷ acts) h = let p = both (is_sound_action n a) _ h in (p.0, sound_list n acts p.1)

home-in : (s : Script) (kind : Kind) → 0 < s.workers → is_sound_kind s.workers kind ≡ true → home_in s kind < s.workers + 1
home-in s (Pinned home nice) some h = let lt = ltb-true home s.workers (both (ltb home s.workers) _ h).0 in omega arith
home-in s (Shared nice) some h = omega arith
home-in s (Tasklet home class) some h = let lt = ltb-true home s.workers h in omega arith

sound_events : (n r : ℕ) (es : List Event) → list_all (λ (e : Event). is_sound_action n e.action) es ≡ true → AreSound n (map (λ (e : Event). e.action) (filter (λ (e : Event). e.round == r) es))
sound_events n r [] h = tt
sound_events n r (e ∷ es) h =
    let p = both (is_sound_action n e.action) _ h in
    elim (cases_Bool (e.round == r)) [ inl k ↦ rw k (p.0, sound_events n r es p.1) | inr k ↦ rw k (sound_events n r es p.1) ]

pub IsFit-sound : (s : Script) → IsTrue (is_sound s) → IsFit s
IsFit-sound s h =
    let p = sound_parts s h in
    let some : 0 < s.workers = let w = within-parts 1 16 s.workers p.workers in omega (arith, w.0) in
    record {
      some = some;
      homes = λ i. at_all (is_sound_task s.workers (length s.tasks)) (λ d. home_in s d.kind < s.workers + 1) s.tasks i blank_task p.defs (λ d k. home-in s d.kind some (task_parts s.workers (length s.tasks) d k).kind) (omega arith);
      rows = at_row s (λ kind row. AreSound (length s.tasks) row.actions) p (λ kind rows row k. sound_list (length s.tasks) row.actions (row_parts (length s.tasks) kind rows row k).actions) (λ kind. tt);
      short = at_row s (λ kind row. length row.actions ≤ 16) p (λ kind rows row k. (row_parts (length s.tasks) kind rows row k).short) (λ kind. omega arith);
      events = λ r. sound_events (length s.tasks) r s.events p.events;
    }
