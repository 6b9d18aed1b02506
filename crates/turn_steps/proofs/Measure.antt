-- Each call of a caller's part leaves fewer calls to come.
use Rattle.std.proofs.Common.{◌≡◌, ℕ, ◌+◌, ◌-◌, ◌*◌, ◌<◌, ◌≤◌, ◌==◌, Bool, true, false, List, [], ◌∷◌, length, Option, Some, None, refl, ap, ◌∙◌, arith, inl, inr}
use Rattle.std.specs.List.{filter}
use Rattle.std.proofs.lemmas.Bool.{cases_Bool}
use Rattle.std.proofs.lemmas.List.{length-map}
use Rattle.sched_base.specs.declared.names.CallerId.{CallerId}
use Rattle.queue_model.specs.Classes.{Next}
use Rattle.queue_model.specs.Ticks.{is_expired}
use Rattle.queue_model.specs.WaitList.{WaitItem, WaitList, expiry_of}
use Rattle.queue_model.specs.Sweep.{due, fired, swept}
use Rattle.step_tables.specs.declared.tables.Action.{Action}
use Rattle.step_tables.specs.declared.tables.Kind.{Kind}
use Rattle.step_tables.specs.declared.tables.Kind.TheVariants.{Pinned, Shared, Tasklet}
use Rattle.step_tables.specs.declared.tables.Row.{Row}
use Rattle.step_tables.specs.declared.tables.Script.{Script}
use Rattle.task_machine.specs.declared.calls.Call.{Call}
use Rattle.task_machine.specs.declared.calls.Reply.{Reply}
use Rattle.run_model.specs.Replies.{is_rest, is_killed, has_reasons, takes_in, members}
use Rattle.run_model.specs.Tables.{def_of, home_of, row_number, row_by, target}
use Rattle.run_model.specs.Book.{Book, queued_as, queued, queued_all, filled, taken_from}
use Rattle.run_model.proofs.TurnReadings.{next_spends}
use Rattle.turn_steps.specs.Left.{Onward, by_class, by_draw, next_in, spent_in, draws_in, Left, gets, wakes, runs, acts, posts, drops, retires, returns, drawn, injects, carries, over, Stage, at_runs, at_wakes, at_gets, at_acts, at_events, take_call, asked_in, waked, handed, acted, run_begun, taken, returned, dropped_live, dropped_as, injected, heard_in, draws_if, draws_now_in, went, MayCall}
use Rattle.turn_steps.specs.Counts.{calls_after, calls_left}
use Rattle.turn_steps.specs.Ranges.{IsFit}
use Rattle.turn_steps.proofs.Asked.{by_ask}
use Rattle.turn_steps.proofs.Quotas.{quotas-le}

-- at most n calls come from a stage
pub record Within (d n : ℕ) (g : Stage) : Type 0 where
  pub calls : calls_left d g.left g.book ≤ n

-- ---- queueing leaves the wait list alone

wait-queued_as : (kind : Kind) (s : Script) (i : ℕ) (b : Book) → (queued_as kind s i b).wait ≡ b.wait
wait-queued_as (Pinned home nice) s i b = refl
wait-queued_as (Shared nice) s i b = refl
wait-queued_as (Tasklet home class) s i b = refl

pub wait-queued : (s : Script) (i : ℕ) (b : Book) → (queued s i b).wait ≡ b.wait
wait-queued s i b = wait-queued_as (def_of s i).kind s i b

pub wait-queued_all : (s : Script) (ids : List ℕ) (b : Book) → (queued_all s ids b).wait ≡ b.wait
wait-queued_all s [] b = refl
wait-queued_all s (i ∷ is) b = wait-queued_all s is (queued s i b) ∙ wait-queued s i b

pub wait-waked : (s : Script) (rest : Bool) (i : ℕ) (b : Book) → (waked s rest i b).wait ≡ b.wait
wait-waked s true i b = wait-queued s i b
wait-waked s false i b = refl

filter-le : (p : WaitItem → Bool) (xs : List WaitItem) → length (filter p xs) ≤ length xs
filter-le p [] = omega arith
filter-le p (x ∷ xs) = let e = filter-le p xs in elim (cases_Bool (p x)) [ inl k ↦ rw k (omega arith) | inr k ↦ rw k (omega arith) ]

-- no more timers fire than stand in the list
pub fired-le : (now : ℕ) (l : WaitList) → length (fired now l) ≤ length l.items
fired-le now l =
    let one = filter-le (λ (y : WaitItem). is_expired (expiry_of l y.task) now) (due now l) in
    let two = filter-le (λ (y : WaitItem). is_expired y.key now) l.items in
    rw length-map (omega arith)

-- ---- stages after silent changes

within-runs : (s : Script) (b : Book) → Within s.depth ((s.depth + 3) * 35 + s.depth * 36) (at_runs s b)
within-runs s b = record { calls = let e = quotas-le s.depth (filled s.depth b).lists in omega arith }

within-wakes : (s : Script) (is : List ℕ) (b : Book) → Within s.depth (length is + ((s.depth + 3) * 35 + s.depth * 36)) (at_wakes s is b)
within-wakes s [] b = record { calls = let e = (within-runs s b).calls in omega arith }
within-wakes s (i ∷ is) b = record { calls = omega arith }

pub within-gets : (s : Script) (T : ℕ) (gs : List ℕ) (b : Book) → Within s.depth (length gs + length b.wait.items + ((s.depth + 3) * 35 + s.depth * 36)) (at_gets s T gs b)
within-gets s T [] b = record { calls = let e = (within-wakes s (fired T b.wait) (record b { wait = swept T b.wait })).calls in let f = fired-le T b.wait in omega arith }
within-gets s T (g ∷ gs) b = record { calls = omega arith }

within-acts : (d T : ℕ) (more : List Action) (i : ℕ) (row : Row) (q : Onward) (b : Book) → Within d (2 * length more + 2 + calls_after d q) (at_acts T more i row q b)
within-acts d T [] i row q b = record { calls = omega arith }
within-acts d T (a ∷ more) i row q b = record { calls = omega arith }

pub within-events : (d : ℕ) (more : List Action) (b : Book) → Within d (2 * length more) (at_events more b)
within-events d [] b = record { calls = omega arith }
within-events d (a ∷ more) b = record { calls = omega arith }

-- ---- stages after replies

within-handed : (s : Script) (d T : ℕ) (own : Bool) (j : ℕ) (more : List Action) (i : ℕ) (row : Row) (q : Onward) (b : Book) → Within d (2 * length more + 3 + calls_after d q) (handed s T own j more i row q b)
within-handed s d T true j more i row q b = record { calls = let e = (within-acts d T more i row q (queued s j b)).calls in omega arith }
within-handed s d T false j more i row q b = record { calls = omega arith }

within-acted : (s : Script) (w : CallerId) (d T : ℕ) (rest : Bool) (j : ℕ) (more : List Action) (i : ℕ) (row : Row) (q : Onward) (b : Book) → Within d (2 * length more + 3 + calls_after d q) (acted s w T rest j more i row q b)
within-acted s w d T true j more i row q b = within-handed s d T (home_of s j == w.0) j more i row q b
within-acted s w d T false j more i row q b = record { calls = let e = (within-acts d T more i row q b).calls in omega arith }

-- a run has at most 34 calls after its take
within-begun : (s : Script) (d T : ℕ) (r : Reply) (killed : Bool) (i : ℕ) (q : Onward) (b : Book) → IsFit s → Within d (34 + calls_after d q) (run_begun s T r killed i q b)
within-begun s d T r true i q b fit = record { calls = omega arith }
within-begun s d T r false i q b fit =
    let row : Row = row_by s i (takes_in r) in
    record { calls = let e = (within-acts d T row.actions i row q b).calls in let few = fit.short i (row_number s i (takes_in r)) in omega arith }

within-returned : (s : Script) (d : ℕ) (shared : Bool) (i : ℕ) (q : Onward) (b : Book) → Within d (1 + calls_after d q) (returned s shared i q b)
within-returned s d true i q b = record { calls = omega arith }
within-returned s d false i q b = record { calls = omega arith }

within-live : (s : Script) (d : ℕ) (busy : Bool) (i : ℕ) (q : Onward) (b : Book) → Within d (1 + calls_after d q) (dropped_live s busy i q b)
within-live s d true i q b = within-returned s d (home_of s i == s.workers) i q b
within-live s d false i q b = record { calls = omega arith }

within-dropped : (s : Script) (d : ℕ) (killed busy : Bool) (i : ℕ) (q : Onward) (b : Book) → Within d (1 + calls_after d q) (dropped_as s killed busy i q b)
within-dropped s d true busy i q b = record { calls = omega arith }
within-dropped s d false busy i q b = within-live s d busy i q b

within-injected : (d : ℕ) (rest : Bool) (j : ℕ) (more : List Action) (b : Book) → Within d (2 * length more + 1) (injected rest j more b)
within-injected d true j more b = record { calls = omega arith }
within-injected d false j more b = record { calls = let e = (within-events d more b).calls in omega arith }

-- ---- each call is counted

next-calls : (d : ℕ) (b : Book) (q : Onward) (x : Next) → next_in q b ≡ Some x → calls_after d (spent_in x.class q) + 35 ≡ calls_after d q
next-calls d b (by_class q) x e = let h = next_spends b.lists q x e in omega arith
next-calls d b (by_draw n) x e = cc

less-taken : (s : Script) (T : ℕ) (r : Reply) (q : Onward) (o : Option Next) (b : Book) (c : Call) → IsFit s → next_in q b ≡ o → take_call o ≡ Some c → let g = taken s T r q o b in calls_left s.depth g.left g.book < calls_after s.depth q
less-taken s T r q None b c fit is e = cc
less-taken s T r q (Some x) b c fit is e =
    let spent = next-calls s.depth b q x is in
    let h = (within-begun s s.depth T r (is_killed r) x.task (spent_in x.class q) (taken_from x.class b) fit).calls in
    omega arith

pub calls_left-heard : (s : Script) (w : CallerId) (T : ℕ) (r : Reply) (l : Left) (b : Book) (c : Call) → IsFit s → asked_in s l b ≡ Some c → let g = heard_in s w T r l b in calls_left s.depth g.left g.book < calls_left s.depth l b
calls_left-heard s w T r (gets g gs) b c fit e =
    let h = (within-gets s T gs (queued_all s (members g r) b)).calls in
    let same = ap (λ (l : WaitList). length l.items) (wait-queued_all s (members g r) b) in
    omega arith
calls_left-heard s w T r (wakes i is) b c fit e = let h = (within-wakes s is (waked s (is_rest r) i b)).calls in omega arith
calls_left-heard s w T r (runs q) b c fit e = less-taken s T r q (next_in q b) b c fit refl e
calls_left-heard s w T r (acts a more i row q) b c fit e = let h = (within-acted s w s.depth T (is_rest r) (target a) more i row q b).calls in omega arith
calls_left-heard s w T r (posts j more i row q) b c fit e = let h = (within-acts s.depth T more i row q b).calls in omega arith
calls_left-heard s w T r (drops i q) b c fit e = let h = (within-dropped s s.depth (is_killed r) (has_reasons r) i q b).calls in omega arith
calls_left-heard s w T r (retires held i q) b c fit e = omega arith
calls_left-heard s w T r (returns i q) b c fit e = omega arith
calls_left-heard s w T r (drawn i n) b c fit e = let h = (within-begun s s.depth T r (is_killed r) i (by_draw n) b fit).calls in omega arith
calls_left-heard s w T r (injects a more) b c fit e = let h = (within-injected s.depth (is_rest r) (target a) more b).calls in omega arith
calls_left-heard s w T r (carries j more) b c fit e = let h = (within-events s.depth more b).calls in omega arith
calls_left-heard s w T r over b c fit e = cc

draws-calls : (d : ℕ) (q : Onward) (o : Option Next) → draws_if o (draws_in d q) * 36 ≤ calls_after d q
draws-calls d (by_class q) None = omega arith
draws-calls d (by_class q) (Some x) = omega arith
draws-calls d (by_draw n) None = omega arith
draws-calls d (by_draw n) (Some x) = omega arith

less-draw : (s : Script) (l : Left) (b : Book) (i : ℕ) → 0 < draws_now_in s l b → (draws_now_in s l b - 1) * 36 + 35 < calls_left s.depth l b
less-draw s (runs q) b i some = let e = draws-calls s.depth q (next_in q b) in fewer _ _ some e
  where
    fewer : (n m : ℕ) → 0 < n → n * 36 ≤ m → (n - 1) * 36 + 35 < m
    fewer n m some le = omega arith
less-draw s (gets g gs) b i some = absurd (omega arith)
less-draw s (wakes j js) b i some = absurd (omega arith)
less-draw s (acts a more j row q) b i some = absurd (omega arith)
less-draw s (posts k more j row q) b i some = absurd (omega arith)
less-draw s (drops j q) b i some = absurd (omega arith)
less-draw s (retires held j q) b i some = absurd (omega arith)
less-draw s (returns j q) b i some = absurd (omega arith)
less-draw s (drawn j n) b i some = absurd (omega arith)
less-draw s (injects a more) b i some = absurd (omega arith)
less-draw s (carries j more) b i some = absurd (omega arith)
less-draw s over b i some = absurd (omega arith)

-- fewer calls are left of a stage than of another
abbrev Fewer : ℕ → Stage → Stage → Type 0
Fewer d g h = calls_left d h.left h.book < calls_left d g.left g.book

pub calls_left-went : (s : Script) (w : CallerId) (T : ℕ) (c : Call) (r : Reply) (g : Stage) → IsFit s → MayCall s g c → calls_left s.depth (went s w T c r g).left (went s w T c r g).book < calls_left s.depth g.left g.book
calls_left-went s w T c r g fit m = by_ask s w T g c r (λ d h. Fewer s.depth g h) m (λ e. calls_left-heard s w T r g.left g.book c fit e) (λ i shared some is. less-draw s g.left g.book i some)
