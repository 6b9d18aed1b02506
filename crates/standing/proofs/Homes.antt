-- A caller lists, runs and times tasks of its own, whatever it hears.
use Rattle.std.proofs.Common.{◌≡◌, ℕ, ◌<◌, Bool, true, false, ◌==◌, inl, inr, List, [], ◌∷◌, Option, None, Some, refl, sym, ap, arith, eq-eqb, eqb-true, ne_eqb, subst}
use Rattle.std.specs.List.{AllByRecursion}
use Rattle.std.proofs.lemmas.Bool.{cases_eq, cases_lt}
use Rattle.queue_model.proofs.ItemTasks.{TimersOf, fired-of, swept-of, unlinked-of, armed-of}
use Rattle.queue_model.specs.Classes.{Next}
use Rattle.queue_model.specs.Ticks.{later}
use Rattle.queue_model.specs.WaitList.{WaitList, with_expiry}
use Rattle.queue_model.specs.Sweep.{fired, swept}
use Rattle.step_tables.specs.declared.tables.Action.{Action}
use Rattle.step_tables.specs.declared.tables.Expiry.{Expiry}
use Rattle.step_tables.specs.declared.tables.Expiry.TheVariants.{Keep, After, Never}
use Rattle.step_tables.specs.declared.tables.Row.{Row}
use Rattle.step_tables.specs.declared.tables.Script.{Script}
use Rattle.task_machine.specs.declared.calls.Reply.{Reply}
use Rattle.task_machine.specs.Step.{bit}
use Rattle.run_model.specs.Replies.{is_rest, is_killed, has_reasons, takes_in, members}
use Rattle.run_model.specs.Tables.{home_of, row_number, row_by, target}
use Rattle.run_model.specs.Book.{Book, queued, queued_all, filled, taken_from, untimed, timed}
use Rattle.turn_steps.specs.Left.{Onward, by_draw, next_in, spent_in, Left, gets, wakes, runs, acts, posts, drops, retires, returns, drawn, injects, carries, over, Stage, stage, at_runs, at_wakes, at_gets, at_acts, at_events, waked, handed, acted, run_begun, taken, returned, dropped_live, dropped_as, injected, heard_in, drew}
use Rattle.turn_steps.specs.Times.{times, listed}
use Rattle.turn_steps.specs.Has.{run_by}
use Rattle.turn_steps.proofs.Measure.{wait-queued, wait-queued_all}
use Rattle.turn_steps.proofs.Books.{listed-queued, listed-queued_all, listed-filled, listed-taken}
use Rattle.standing.specs.Homes.{IsOf, MayRun, Timed, Homed, TimersHaveHomes}

-- a fact of the tasks that a book lists
abbrev pub ListsOf : (ℕ → Type 0) → Book → Type 0
ListsOf P b = (i : ℕ) → 0 < listed i b → P i

-- what a book has is of caller k
abbrev pub BookOf : Script → ℕ → Book → Type 0
BookOf s k b = ListsOf (IsOf s k) b × TimersOf (IsOf s k) b.wait

pub times_all : (P : ℕ → Type 0) (ids : List ℕ) → ((i : ℕ) → 0 < times i ids → P i) → AllByRecursion P ids
times_all P [] h = tt
times_all P (j ∷ js) h =
    let here : bit (j == j) ≡ 1 = ap bit (eq-eqb j j refl) in
    (h j (omega arith), times_all P js (λ i some. h i (omega arith)))

bit_same : (i j : ℕ) → 0 < bit (i == j) → i ≡ j
bit_same i j h =
    elim (cases_eq i j) [
      | inl same ↦ same
      | inr ne ↦ absurd (let none : bit (i == j) ≡ 0 = ap bit (ne_eqb i j ne) in omega arith)
    ]

-- ---- what is listed

lists-queued : (P : ℕ → Type 0) (s : Script) (j : ℕ) (b : Book) → P j → ListsOf P b → ListsOf P (queued s j b)
lists-queued P s j b here h i some =
    elim (cases_lt 0 (listed i b)) [
      | inl lt ↦ h i lt
      | inr none ↦ (let same : i ≡ j = bit_same i j (omega (arith, listed-queued s i j b)) in subst P (sym same) here)
    ]

lists-queued_all : (P : ℕ → Type 0) (s : Script) (ids : List ℕ) (b : Book) → ((i : ℕ) → 0 < times i ids → P i) → ListsOf P b → ListsOf P (queued_all s ids b)
lists-queued_all P s ids b new h i some =
    elim (cases_lt 0 (listed i b)) [
      | inl lt ↦ h i lt
      | inr none ↦ new i (omega (arith, listed-queued_all s i ids b))
    ]

lists-filled : (P : ℕ → Type 0) (d : ℕ) (b : Book) → ListsOf P b → ListsOf P (filled d b)
lists-filled P d b h i some = h i (omega (arith, listed-filled d i b))

lists-taken : (P : ℕ → Type 0) (b : Book) (q : Onward) (x : Next) → next_in q b ≡ Some x → ListsOf P b → ListsOf P (taken_from x.class b)
lists-taken P b q x e h i some = h i (omega (arith, listed-taken i b q x e))

lists-waked : (P : ℕ → Type 0) (s : Script) (rest : Bool) (j : ℕ) (b : Book) → P j → ListsOf P b → ListsOf P (waked s rest j b)
lists-waked P s true j b here h = lists-queued P s j b here h
lists-waked P s false j b here h = h

-- ---- timers

pub timed-of : (Q : ℕ → Type 0) (T i : ℕ) (x : Expiry) (l : WaitList) → Timed x (Q i) → TimersOf Q l → TimersOf Q (timed T i x l)
timed-of Q T i Keep l here h = h
timed-of Q T i (After d) l here h = armed-of Q T i (with_expiry i (later T d) l) here h
timed-of Q T i Never l here h = h

-- ---- a book's timers, where tasks are queued

book-queued : (s : Script) (k i : ℕ) (b : Book) → IsOf s k i → BookOf s k b → BookOf s k (queued s i b)
book-queued s k i b here h =
    (lists-queued (IsOf s k) s i b here h.0, subst (TimersOf (IsOf s k)) (sym (wait-queued s i b)) h.1)

book-queued_all : (s : Script) (k : ℕ) (ids : List ℕ) (b : Book) → ((i : ℕ) → 0 < times i ids → IsOf s k i) → BookOf s k b → BookOf s k (queued_all s ids b)
book-queued_all s k ids b new h =
    (lists-queued_all (IsOf s k) s ids b new h.0, subst (TimersOf (IsOf s k)) (sym (wait-queued_all s ids b)) h.1)

book-waked : (s : Script) (k : ℕ) (rest : Bool) (i : ℕ) (b : Book) → IsOf s k i → BookOf s k b → BookOf s k (waked s rest i b)
book-waked s k true i b here h = book-queued s k i b here h
book-waked s k false i b here h = h

-- ---- the stages

homed-runs : (s : Script) (k : ℕ) (b : Book) → BookOf s k b → Homed s k (at_runs s b)
homed-runs s k b h = record {
  lists = lists-filled (IsOf s k) s.depth b h.0;
  runs = λ i some. absurd (omega arith);
  timers = h.1;
  left = tt;
}

homed-wakes : (s : Script) (k : ℕ) (is : List ℕ) (b : Book) → AllByRecursion (IsOf s k) is → BookOf s k b → Homed s k (at_wakes s is b)
homed-wakes s k [] b all h = homed-runs s k b h
homed-wakes s k (i ∷ is) b all h = record {
  lists = h.0;
  runs = λ i some. absurd (omega arith);
  timers = h.1;
  left = all;
}

pub homed-gets : (s : Script) (k T : ℕ) (gs : List ℕ) (b : Book) → BookOf s k b → Homed s k (at_gets s T gs b)
homed-gets s k T [] b h =
    homed-wakes s k (fired T b.wait) (record b { wait = swept T b.wait }) (fired-of (IsOf s k) T b.wait h.1) (h.0, swept-of (IsOf s k) T b.wait h.1)
homed-gets s k T (g ∷ gs) b h = record {
  lists = h.0;
  runs = λ i some. absurd (omega arith);
  timers = h.1;
  left = tt;
}

one_run : (s : Script) (k i j : ℕ) → MayRun s k i → 0 < bit (j == i) → MayRun s k j
one_run s k i j may some = subst (MayRun s k) (sym (bit_same j i some)) may

homed-acts : (s : Script) (k T : ℕ) (more : List Action) (i : ℕ) (row : Row) (q : Onward) (b : Book) → MayRun s k i → Timed row.expiry (IsOf s k i) → BookOf s k b → Homed s k (at_acts T more i row q b)
homed-acts s k T [] i row q b may timed h = record {
  lists = h.0;
  runs = λ j some. one_run s k i j may some;
  timers = timed-of (IsOf s k) T i row.expiry b.wait timed h.1;
  left = tt;
}
homed-acts s k T (a ∷ more) i row q b may timed h = record {
  lists = h.0;
  runs = λ j some. one_run s k i j may some;
  timers = h.1;
  left = timed;
}

pub homed-events : (s : Script) (k : ℕ) (more : List Action) (b : Book) → BookOf s k b → Homed s k (at_events more b)
homed-events s k [] b h = record { lists = h.0; runs = λ i some. absurd (omega arith); timers = h.1; left = tt }
homed-events s k (a ∷ more) b h = record { lists = h.0; runs = λ i some. absurd (omega arith); timers = h.1; left = tt }

homed-handed : (s : Script) (k T : ℕ) (own : Bool) (x : ℕ) (more : List Action) (i : ℕ) (row : Row) (q : Onward) (b : Book) → (home_of s x == k) ≡ own → MayRun s k i → Timed row.expiry (IsOf s k i) → BookOf s k b → Homed s k (handed s T own x more i row q b)
homed-handed s k T true x more i row q b e may timed h =
    homed-acts s k T more i row q (queued s x b) may timed (book-queued s k x b (eqb-true (home_of s x) k e) h)
homed-handed s k T false x more i row q b e may timed h = record {
  lists = h.0;
  runs = λ j some. one_run s k i j may some;
  timers = h.1;
  left = timed;
}

homed-acted : (s : Script) (k T : ℕ) (rest : Bool) (x : ℕ) (more : List Action) (i : ℕ) (row : Row) (q : Onward) (b : Book) → MayRun s k i → Timed row.expiry (IsOf s k i) → BookOf s k b → Homed s k (acted s (record { 0 = k }) T rest x more i row q b)
homed-acted s k T true x more i row q b may timed h =
    homed-handed s k T (home_of s x == k) x more i row q b refl may timed h
homed-acted s k T false x more i row q b may timed h = homed-acts s k T more i row q b may timed h

-- only a worker's own task has a timer
timed_own : (s : Script) (k i : ℕ) (x : Expiry) → Timed x (home_of s i < s.workers) → MayRun s k i → Timed x (IsOf s k i)
timed_own s k i Keep h may = tt
timed_own s k i (After d) h may = elim may [ inl own ↦ own | inr shared ↦ absurd (omega arith) ]
timed_own s k i Never h may = tt

homed-run : (s : Script) (k T : ℕ) (r : Reply) (killed : Bool) (i : ℕ) (q : Onward) (b : Book) → TimersHaveHomes s → MayRun s k i → BookOf s k b → Homed s k (run_begun s T r killed i q b)
homed-run s k T r true i q b have may h = record {
  lists = h.0;
  runs = λ j some. one_run s k i j may some;
  timers = h.1;
  left = tt;
}
homed-run s k T r false i q b have may h =
    let row = row_by s i (takes_in r) in
    homed-acts s k T row.actions i row q b may (timed_own s k i row.expiry (have i (row_number s i (takes_in r))) may) h

homed-taken : (s : Script) (k T : ℕ) (r : Reply) (q : Onward) (o : Option Next) (b : Book) → next_in q b ≡ o → TimersHaveHomes s → BookOf s k b → Homed s k (taken s T r q o b)
homed-taken s k T r q None b e have h = record { lists = h.0; runs = λ i some. absurd (omega arith); timers = h.1; left = tt }
homed-taken s k T r q (Some x) b e have h =
    let one : bit (x.task == x.task) ≡ 1 = ap bit (eq-eqb x.task x.task refl) in
    let own : IsOf s k x.task = h.0 x.task (omega (arith, listed-taken x.task b q x e)) in
    homed-run s k T r (is_killed r) x.task (spent_in x.class q) (taken_from x.class b) have (inl own) (lists-taken (IsOf s k) b q x e h.0, h.1)

idle_of : (s : Script) (k : ℕ) (q : Onward) (b : Book) → BookOf s k b → Homed s k (stage (runs q) b)
idle_of s k q b h = record { lists = h.0; runs = λ i some. absurd (omega arith); timers = h.1; left = tt }

not_shared : (s : Script) (k i : ℕ) → (home_of s i == s.workers) ≡ false → MayRun s k i → IsOf s k i
not_shared s k i e may =
    elim may [ inl own ↦ own | inr shared ↦ (let is : (home_of s i == s.workers) ≡ true = eq-eqb (home_of s i) s.workers shared in cc) ]

homed-returned : (s : Script) (k : ℕ) (shared : Bool) (i : ℕ) (q : Onward) (b : Book) → (home_of s i == s.workers) ≡ shared → MayRun s k i → BookOf s k b → Homed s k (returned s shared i q b)
homed-returned s k true i q b e may h = record {
  lists = h.0;
  runs = λ j some. absurd (omega arith);
  timers = h.1;
  left = eqb-true (home_of s i) s.workers e;
}
homed-returned s k false i q b e may h = idle_of s k q (queued s i b) (book-queued s k i b (not_shared s k i e may) h)

homed-live : (s : Script) (k : ℕ) (busy : Bool) (i : ℕ) (q : Onward) (b : Book) → MayRun s k i → BookOf s k b → Homed s k (dropped_live s busy i q b)
homed-live s k true i q b may h = homed-returned s k (home_of s i == s.workers) i q b refl may h
homed-live s k false i q b may h = idle_of s k q b h

homed-dropped : (s : Script) (k : ℕ) (killed busy : Bool) (i : ℕ) (q : Onward) (b : Book) → MayRun s k i → BookOf s k b → Homed s k (dropped_as s killed busy i q b)
homed-dropped s k true busy i q b may h = record {
  lists = h.0;
  runs = λ j some. absurd (omega arith);
  timers = h.1;
  left = tt;
}
homed-dropped s k false busy i q b may h = homed-live s k busy i q b may h

homed-injected : (s : Script) (k : ℕ) (rest : Bool) (x : ℕ) (more : List Action) (b : Book) → BookOf s k b → Homed s k (injected rest x more b)
homed-injected s k true x more b h = record {
  lists = h.0;
  runs = λ j some. absurd (omega arith);
  timers = h.1;
  left = tt;
}
homed-injected s k false x more b h = homed-events s k more b h

-- the task that a stage runs
runs_one : (s : Script) (k i : ℕ) (l : Left) (b : Book) → run_by i l ≡ bit (i == i) → Homed s k (stage l b) → MayRun s k i
runs_one s k i l b e h =
    let one : bit (i == i) ≡ 1 = ap bit (eq-eqb i i refl) in
    h.runs i (omega arith)

-- whatever a caller hears
pub homed-heard : (s : Script) (k T : ℕ) (r : Reply) (l : Left) (b : Book) → TimersHaveHomes s → ((g i : ℕ) (gs : List ℕ) → l ≡ gets g gs → 0 < times i (members g r) → IsOf s k i) → Homed s k (stage l b) → Homed s k (heard_in s (record { 0 = k }) T r l b)
homed-heard s k T r (gets g gs) b have came h =
    homed-gets s k T gs (queued_all s (members g r) b) (book-queued_all s k (members g r) b (λ i some. came g i gs refl some) (h.lists, h.timers))
homed-heard s k T r (wakes j js) b have came h =
    homed-wakes s k js (waked s (is_rest r) j b) h.left.1 (book-waked s k (is_rest r) j b h.left.0 (h.lists, h.timers))
homed-heard s k T r (runs q) b have came h = homed-taken s k T r q (next_in q b) b refl have (h.lists, h.timers)
homed-heard s k T r (acts a more i row q) b have came h =
    homed-acted s k T (is_rest r) (target a) more i row q b (runs_one s k i (acts a more i row q) b refl h) h.left (h.lists, h.timers)
homed-heard s k T r (posts j more i row q) b have came h =
    homed-acts s k T more i row q b (runs_one s k i (posts j more i row q) b refl h) h.left (h.lists, h.timers)
homed-heard s k T r (drops i q) b have came h =
    homed-dropped s k (is_killed r) (has_reasons r) i q b (runs_one s k i (drops i q) b refl h) (h.lists, h.timers)
homed-heard s k T r (retires held i q) b have came h =
    idle_of s k q (untimed i b) (h.lists, unlinked-of (IsOf s k) i b.wait h.timers)
homed-heard s k T r (returns i q) b have came h = idle_of s k q b (h.lists, h.timers)
homed-heard s k T r (drawn i n) b have came h =
    homed-run s k T r (is_killed r) i (by_draw n) b have (inr h.left) (h.lists, h.timers)
homed-heard s k T r (injects a more) b have came h = homed-injected s k (is_rest r) (target a) more b (h.lists, h.timers)
homed-heard s k T r (carries j more) b have came h = homed-events s k more b (h.lists, h.timers)
homed-heard s k T r over b have came h = h

-- a draw of a shared task
pub homed-drew : (s : Script) (k i : ℕ) (g : Stage) → home_of s i ≡ s.workers → Homed s k g → Homed s k (drew s i g)
homed-drew s k i g shared h = record {
  lists = h.lists;
  runs = λ j some. absurd (omega arith);
  timers = h.timers;
  left = shared;
}
