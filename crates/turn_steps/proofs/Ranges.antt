-- What a caller names stays in range.
use Rattle.std.proofs.Common.{◌≡◌, ℕ, ◌*◌, ◌<◌, ◌==◌, Bool, true, false, List, [], ◌∷◌, length, Option, Some, None, refl, sym, ap, subst, eq-eqb}
use Rattle.std.specs.List.{AllByRecursion}
use Rattle.sched_base.specs.declared.names.CallerId.{CallerId}
use Rattle.queue_model.proofs.ItemTasks.{TimersOf, fired-of, swept-of, unlinked-of, armed-of}
use Rattle.queue_model.specs.Classes.{Next}
use Rattle.queue_model.specs.Ticks.{later}
use Rattle.queue_model.specs.WaitList.{WaitItem, WaitList, with_expiry}
use Rattle.queue_model.specs.Sweep.{fired, swept}
use Rattle.step_tables.specs.declared.tables.Action.{Action}
use Rattle.step_tables.specs.declared.tables.Expiry.{Expiry}
use Rattle.step_tables.specs.declared.tables.Expiry.TheVariants.{Keep, After, Never}
use Rattle.step_tables.specs.declared.tables.Row.{Row}
use Rattle.step_tables.specs.declared.tables.Script.{Script}
use Rattle.task_machine.specs.Step.{bit}
use Rattle.task_machine.specs.declared.calls.Reply.{Reply}
use Rattle.run_model.specs.Replies.{is_rest, is_killed, has_reasons, takes_in, members}
use Rattle.run_model.specs.Tables.{home_of, row_by, target, row_number}
use Rattle.run_model.specs.Book.{Book, queued, queued_all, taken_from, timed}
use Rattle.turn_steps.specs.Left.{Onward, by_draw, next_in, spent_in, Left, gets, wakes, runs, acts, posts, drops, retires, returns, drawn, injects, carries, over, Stage, stage, at_runs, at_wakes, at_gets, at_acts, at_events, waked, handed, acted, run_begun, taken, returned, dropped_live, dropped_as, injected, heard_in, drew}
use Rattle.turn_steps.specs.Has.{run_by, drawn_by}
use Rattle.turn_steps.specs.Ranges.{AreSound, TimersIn, InRange, IsFit}
use Rattle.turn_steps.proofs.Measure.{wait-queued, wait-queued_all, wait-waked}

-- ---- wait lists

timed-in : (n T i : ℕ) (x : Expiry) (b : Book) → i < n → TimersIn n b → AllByRecursion (λ (y : WaitItem). y.task < n) (timed T i x b.wait).items
timed-in n T i Keep b below h = h
timed-in n T i (After ticks) b below h = armed-of (λ i. i < n) T i (with_expiry i (later T ticks) b.wait) below h
timed-in n T i Never b below h = h

same-timers : (n : ℕ) (l m : WaitList) → m ≡ l → TimersOf (λ i. i < n) l → TimersOf (λ i. i < n) m
same-timers n l m e h = subst (TimersOf (λ i. i < n)) (sym e) h

-- ---- stages after silent changes

in-runs : (s : Script) (n : ℕ) (b : Book) → TimersIn n b → InRange n (at_runs s b)
in-runs s n b h = record { names = tt; timers = h }

pub in-wakes : (s : Script) (n : ℕ) (is : List ℕ) (b : Book) → AllByRecursion (λ i. i < n) is → TimersIn n b → InRange n (at_wakes s is b)
in-wakes s n [] b his h = in-runs s n b h
in-wakes s n (i ∷ is) b his h = record { names = his; timers = h }

pub in-gets : (s : Script) (T n : ℕ) (gs : List ℕ) (b : Book) → AllByRecursion (λ g. 64 * g < n) gs → TimersIn n b → InRange n (at_gets s T gs b)
in-gets s T n [] b hgs h = in-wakes s n (fired T b.wait) (record b { wait = swept T b.wait }) (fired-of (λ i. i < n) T b.wait h) (swept-of (λ i. i < n) T b.wait h)
in-gets s T n (g ∷ gs) b hgs h = record { names = hgs; timers = h }

in-acts : (n T : ℕ) (more : List Action) (i : ℕ) (row : Row) (q : Onward) (b : Book) → i < n → AreSound n more → TimersIn n b → InRange n (at_acts T more i row q b)
in-acts n T [] i row q b below sound h = record { names = tt; timers = timed-in n T i row.expiry b below h }
in-acts n T (a ∷ more) i row q b below sound h = record { names = sound; timers = h }

pub in-events : (n : ℕ) (more : List Action) (b : Book) → AreSound n more → TimersIn n b → InRange n (at_events more b)
in-events n [] b sound h = record { names = tt; timers = h }
in-events n (a ∷ more) b sound h = record { names = sound; timers = h }

-- ---- stages after replies

in-handed : (s : Script) (n T : ℕ) (own : Bool) (j : ℕ) (more : List Action) (i : ℕ) (row : Row) (q : Onward) (b : Book) → i < n → AreSound n more → TimersIn n b → InRange n (handed s T own j more i row q b)
in-handed s n T true j more i row q b below sound h = in-acts n T more i row q (queued s j b) below sound (same-timers n b.wait _ (wait-queued s j b) h)
in-handed s n T false j more i row q b below sound h = record { names = sound; timers = h }

in-acted : (s : Script) (w : CallerId) (n T : ℕ) (rest : Bool) (j : ℕ) (more : List Action) (i : ℕ) (row : Row) (q : Onward) (b : Book) → i < n → AreSound n more → TimersIn n b → InRange n (acted s w T rest j more i row q b)
in-acted s w n T true j more i row q b below sound h = in-handed s n T (home_of s j == w.0) j more i row q b below sound h
in-acted s w n T false j more i row q b below sound h = in-acts n T more i row q b below sound h

in-begun : (s : Script) (T : ℕ) (r : Reply) (killed : Bool) (i : ℕ) (q : Onward) (b : Book) → IsFit s → i < length s.tasks → TimersIn (length s.tasks) b → InRange (length s.tasks) (run_begun s T r killed i q b)
in-begun s T r true i q b fit below h = record { names = tt; timers = h }
in-begun s T r false i q b fit below h = in-acts (length s.tasks) T (row_by s i (takes_in r)).actions i (row_by s i (takes_in r)) q b below (fit.rows i (row_number s i (takes_in r))) h

in-returned : (s : Script) (n : ℕ) (shared : Bool) (i : ℕ) (q : Onward) (b : Book) → TimersIn n b → InRange n (returned s shared i q b)
in-returned s n true i q b h = record { names = tt; timers = h }
in-returned s n false i q b h = record { names = tt; timers = same-timers n b.wait _ (wait-queued s i b) h }

in-live : (s : Script) (n : ℕ) (busy : Bool) (i : ℕ) (q : Onward) (b : Book) → TimersIn n b → InRange n (dropped_live s busy i q b)
in-live s n true i q b h = in-returned s n (home_of s i == s.workers) i q b h
in-live s n false i q b h = record { names = tt; timers = h }

in-dropped : (s : Script) (n : ℕ) (killed busy : Bool) (i : ℕ) (q : Onward) (b : Book) → TimersIn n b → InRange n (dropped_as s killed busy i q b)
in-dropped s n true busy i q b h = record { names = tt; timers = h }
in-dropped s n false busy i q b h = in-live s n busy i q b h

in-injected : (n : ℕ) (rest : Bool) (j : ℕ) (more : List Action) (b : Book) → AreSound n more → TimersIn n b → InRange n (injected rest j more b)
in-injected n true j more b sound h = record { names = sound; timers = h }
in-injected n false j more b sound h = in-events n more b sound h

in-taken : (s : Script) (T : ℕ) (r : Reply) (q : Onward) (o : Option Next) (b : Book) → IsFit s → ((x : Next) → o ≡ Some x → x.task < length s.tasks) → TimersIn (length s.tasks) b → InRange (length s.tasks) (taken s T r q o b)
in-taken s T r q None b fit below h = record { names = tt; timers = h }
in-taken s T r q (Some x) b fit below h = in-begun s T r (is_killed r) x.task (spent_in x.class q) (taken_from x.class b) fit (below x refl) h

same-bit : (i : ℕ) → bit (i == i) ≡ 1
same-bit i = ap bit (eq-eqb i i refl)

pub InRange-heard : (s : Script) (w : CallerId) (T : ℕ) (r : Reply) (l : Left) (b : Book) → IsFit s → ((i : ℕ) → run_by i l ≡ 1 → i < length s.tasks) → ((q : Onward) (x : Next) → l ≡ runs q → next_in q b ≡ Some x → x.task < length s.tasks) → ((i : ℕ) → drawn_by i l ≡ 1 → i < length s.tasks) → InRange (length s.tasks) (stage l b) → InRange (length s.tasks) (heard_in s w T r l b)
InRange-heard s w T r (gets g gs) b fit run next draw h = in-gets s T (length s.tasks) gs (queued_all s (members g r) b) h.names.1 (same-timers (length s.tasks) b.wait _ (wait-queued_all s (members g r) b) h.timers)
InRange-heard s w T r (wakes i is) b fit run next draw h = in-wakes s (length s.tasks) is (waked s (is_rest r) i b) h.names.1 (same-timers (length s.tasks) b.wait _ (wait-waked s (is_rest r) i b) h.timers)
InRange-heard s w T r (runs q) b fit run next draw h = in-taken s T r q (next_in q b) b fit (λ x e. next q x refl e) h.timers
InRange-heard s w T r (acts a more i row q) b fit run next draw h = in-acted s w (length s.tasks) T (is_rest r) (target a) more i row q b (run i (same-bit i)) h.names.1 h.timers
InRange-heard s w T r (posts j more i row q) b fit run next draw h = in-acts (length s.tasks) T more i row q b (run i (same-bit i)) h.names h.timers
InRange-heard s w T r (drops i q) b fit run next draw h = in-dropped s (length s.tasks) (is_killed r) (has_reasons r) i q b h.timers
InRange-heard s w T r (retires held i q) b fit run next draw h = record { names = tt; timers = unlinked-of (λ i. i < length s.tasks) i b.wait h.timers }
InRange-heard s w T r (returns i q) b fit run next draw h = record { names = tt; timers = h.timers }
InRange-heard s w T r (drawn i n) b fit run next draw h = in-begun s T r (is_killed r) i (by_draw n) b fit (draw i (same-bit i)) h.timers
InRange-heard s w T r (injects a more) b fit run next draw h = in-injected (length s.tasks) (is_rest r) (target a) more b h.names.1 h.timers
InRange-heard s w T r (carries j more) b fit run next draw h = in-events (length s.tasks) more b h.names h.timers
InRange-heard s w T r over b fit run next draw h = record { names = tt; timers = h.timers }

pub InRange-draw : (s : Script) (n i : ℕ) (g : Stage) → InRange n g → InRange n (drew s i g)
InRange-draw s n i g h = record { names = tt; timers = h.timers }
