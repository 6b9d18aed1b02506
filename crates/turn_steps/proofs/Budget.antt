-- How many takes each stage may still cost, and that each take is paid for.
use Rattle.std.proofs.Common.{◌≡◌, ℕ, ◌+◌, ◌-◌, ◌*◌, ◌<◌, ◌≤◌, ◌==◌, Bool, true, false, List, [], ◌∷◌, Option, Some, None, refl, sym, arith}
use Rattle.sched_base.specs.ReasonNames.{timer}
use Rattle.sched_base.specs.declared.names.CallerId.{CallerId}
use Rattle.queue_model.specs.Classes.{Next}
use Rattle.queue_model.specs.Sweep.{fired, swept}
use Rattle.step_tables.specs.declared.tables.Action.{Action}
use Rattle.step_tables.specs.declared.tables.Action.TheVariants.{Wake as Wakes, Kill as Kills}
use Rattle.step_tables.specs.declared.tables.Row.{Row}
use Rattle.step_tables.specs.declared.tables.Script.{Script}
use Rattle.task_machine.specs.declared.calls.Call.{Call}
use Rattle.task_machine.specs.declared.calls.Call.TheVariants as calls
use Rattle.task_machine.specs.declared.calls.Reply.{Reply}
use Rattle.task_machine.specs.Since.{is_take}
use Rattle.task_machine.specs.Step.{bit}
use Rattle.run_model.specs.Replies.{is_rest, is_killed, has_reasons, takes_in, members}
use Rattle.run_model.specs.Tables.{home_of, row_by, call_of, target}
use Rattle.run_model.specs.Book.{Book, queued, queued_all, filled, taken_from}
use Rattle.run_model.proofs.Readings.{some_inj}
use Rattle.run_model.proofs.TurnReadings.{next_spends}
use Rattle.turn_steps.specs.Left.{Onward, by_class, by_draw, next_in, spent_in, draws_in, takes_after, Left, gets, wakes, runs, acts, posts, drops, retires, returns, drawn, injects, carries, over, Stage, stage, at_runs, at_wakes, at_gets, at_acts, at_events, take_call, asked_in, waked, handed, acted, run_begun, taken, returned, dropped_live, dropped_as, injected, heard_in, draws_if, draws_now_in, went, MayCall}
use Rattle.turn_steps.specs.Counts.{is_injectors, takes_left}
use Rattle.turn_steps.proofs.Asked.{by_ask}
use Rattle.turn_steps.proofs.Quotas.{quotas-le}

-- the takes of a call
abbrev pub takes_of : Call → ℕ
takes_of (calls.Take j) = 1
takes_of c = 0

-- a stage costs at most so many takes, and is of the injector's part or of a worker's
pub record Costs (d n : ℕ) (injects : Bool) (g : Stage) : Type 0 where
  pub takes : takes_left d g.left ≤ n
  pub part : is_injectors g.left ≡ injects

-- what a call leaves costs less by the takes of the call
pub record Pays (s : Script) (l : Left) (c : Call) (g : Stage) : Type 0 where
  pub takes : takes_left s.depth g.left + takes_of c ≤ takes_left s.depth l
  pub part : is_injectors g.left ≡ is_injectors l

-- ---- stages after silent changes

costs-runs : (s : Script) (b : Book) → Costs s.depth (2 * s.depth + 3) false (at_runs s b)
costs-runs s b = record { takes = let e = quotas-le s.depth (filled s.depth b).lists in omega arith; part = refl }

costs-wakes : (s : Script) (is : List ℕ) (b : Book) → Costs s.depth (2 * s.depth + 3) false (at_wakes s is b)
costs-wakes s [] b = costs-runs s b
costs-wakes s (i ∷ is) b = record { takes = omega arith; part = refl }

pub costs-gets : (s : Script) (T : ℕ) (gs : List ℕ) (b : Book) → Costs s.depth (2 * s.depth + 3) false (at_gets s T gs b)
costs-gets s T [] b = costs-wakes s (fired T b.wait) (record b { wait = swept T b.wait })
costs-gets s T (g ∷ gs) b = record { takes = omega arith; part = refl }

costs-acts : (d T : ℕ) (more : List Action) (i : ℕ) (row : Row) (q : Onward) (b : Book) → Costs d (takes_after d q) false (at_acts T more i row q b)
costs-acts d T [] i row q b = record { takes = omega arith; part = refl }
costs-acts d T (a ∷ more) i row q b = record { takes = omega arith; part = refl }

pub costs-events : (d : ℕ) (more : List Action) (b : Book) → Costs d 0 true (at_events more b)
costs-events d [] b = record { takes = omega arith; part = refl }
costs-events d (a ∷ more) b = record { takes = omega arith; part = refl }

-- ---- stages after replies

costs-handed : (s : Script) (d T : ℕ) (own : Bool) (j : ℕ) (more : List Action) (i : ℕ) (row : Row) (q : Onward) (b : Book) → Costs d (takes_after d q) false (handed s T own j more i row q b)
costs-handed s d T true j more i row q b = costs-acts d T more i row q (queued s j b)
costs-handed s d T false j more i row q b = record { takes = omega arith; part = refl }

costs-acted : (s : Script) (w : CallerId) (d T : ℕ) (rest : Bool) (j : ℕ) (more : List Action) (i : ℕ) (row : Row) (q : Onward) (b : Book) → Costs d (takes_after d q) false (acted s w T rest j more i row q b)
costs-acted s w d T true j more i row q b = costs-handed s d T (home_of s j == w.0) j more i row q b
costs-acted s w d T false j more i row q b = costs-acts d T more i row q b

costs-begun : (s : Script) (d T : ℕ) (r : Reply) (killed : Bool) (i : ℕ) (q : Onward) (b : Book) → Costs d (takes_after d q) false (run_begun s T r killed i q b)
costs-begun s d T r true i q b = record { takes = omega arith; part = refl }
costs-begun s d T r false i q b = costs-acts d T (row_by s i (takes_in r)).actions i (row_by s i (takes_in r)) q b

costs-returned : (s : Script) (d : ℕ) (shared : Bool) (i : ℕ) (q : Onward) (b : Book) → Costs d (takes_after d q) false (returned s shared i q b)
costs-returned s d true i q b = record { takes = omega arith; part = refl }
costs-returned s d false i q b = record { takes = omega arith; part = refl }

costs-live : (s : Script) (d : ℕ) (busy : Bool) (i : ℕ) (q : Onward) (b : Book) → Costs d (takes_after d q) false (dropped_live s busy i q b)
costs-live s d true i q b = costs-returned s d (home_of s i == s.workers) i q b
costs-live s d false i q b = record { takes = omega arith; part = refl }

costs-dropped : (s : Script) (d : ℕ) (killed busy : Bool) (i : ℕ) (q : Onward) (b : Book) → Costs d (takes_after d q) false (dropped_as s killed busy i q b)
costs-dropped s d true busy i q b = record { takes = omega arith; part = refl }
costs-dropped s d false busy i q b = costs-live s d busy i q b

costs-injected : (d : ℕ) (rest : Bool) (j : ℕ) (more : List Action) (b : Book) → Costs d 0 true (injected rest j more b)
costs-injected d true j more b = record { takes = omega arith; part = refl }
costs-injected d false j more b = costs-events d more b

-- ---- each take is paid for

pub next-after : (d : ℕ) (b : Book) (q : Onward) (x : Next) → next_in q b ≡ Some x → takes_after d (spent_in x.class q) + 1 ≡ takes_after d q
next-after d b (by_class q) x e = let h = next_spends b.lists q x e in omega arith
next-after d b (by_draw n) x e = cc

pub is_take-le : (i : ℕ) (c : Call) → bit (is_take i c) ≤ takes_of c
is_take-le i (calls.Wake j f) = omega arith
is_take-le i (calls.Kill j) = omega arith
is_take-le i (calls.Post j b) = omega arith
is_take-le i (calls.Get g) = omega arith
is_take-le i (calls.Draw j) = omega arith
is_take-le i (calls.Take j) = at_most (i == j.0)
  where
    at_most : (b : Bool) → bit b ≤ 1
    at_most true = omega arith
    at_most false = omega arith
is_take-le i (calls.DropRun j) = omega arith
is_take-le i (calls.Retire j) = omega arith

action-takes : (a : Action) → takes_of (call_of a) ≡ 0
action-takes (Wakes i f) = refl
action-takes (Kills i) = refl

pays : (s : Script) (l : Left) (c : Call) (n : ℕ) (part : Bool) (g : Stage) → Costs s.depth n part g → n + takes_of c ≤ takes_left s.depth l → part ≡ is_injectors l → Pays s l c g
pays s l c n part g h le is = record { takes = let t = h.takes in omega arith; part = rw h.part is }

pays-taken : (s : Script) (T : ℕ) (r : Reply) (q : Onward) (o : Option Next) (b : Book) (c : Call) → next_in q b ≡ o → take_call o ≡ Some c → Pays s (runs q) c (taken s T r q o b)
pays-taken s T r q None b c is e = cc
pays-taken s T r q (Some x) b c is e =
    let call : c ≡ calls.Take (record { 0 = x.task }) = sym (some_inj _ _ e) in
    let spent = next-after s.depth b q x is in
    rw call (pays s (runs q) (calls.Take (record { 0 = x.task })) (takes_after s.depth (spent_in x.class q)) false (taken s T r q (Some x) b) (costs-begun s s.depth T r (is_killed r) x.task (spent_in x.class q) (taken_from x.class b)) (omega arith) refl)

pub Pays-heard : (s : Script) (w : CallerId) (T : ℕ) (r : Reply) (l : Left) (b : Book) (c : Call) → asked_in s l b ≡ Some c → Pays s l c (heard_in s w T r l b)
Pays-heard s w T r (gets g gs) b c e =
    let call : c ≡ calls.Get g = sym (some_inj _ _ e) in
    rw call (pays s (gets g gs) (calls.Get g) (2 * s.depth + 3) false _ (costs-gets s T gs (queued_all s (members g r) b)) (omega arith) refl)
Pays-heard s w T r (wakes i is) b c e =
    let call : c ≡ calls.Wake (record { 0 = i }) timer = sym (some_inj _ _ e) in
    rw call (pays s (wakes i is) (calls.Wake (record { 0 = i }) timer) (2 * s.depth + 3) false _ (costs-wakes s is (waked s (is_rest r) i b)) (omega arith) refl)
Pays-heard s w T r (runs q) b c e = pays-taken s T r q (next_in q b) b c refl e
Pays-heard s w T r (acts a more i row q) b c e =
    let call : c ≡ call_of a = sym (some_inj _ _ e) in
    let none = action-takes a in
    rw call (pays s (acts a more i row q) (call_of a) (takes_after s.depth q) false _ (costs-acted s w s.depth T (is_rest r) (target a) more i row q b) (omega arith) refl)
Pays-heard s w T r (posts j more i row q) b c e =
    let call : c ≡ calls.Post (record { 0 = j }) (home_of s j) = sym (some_inj _ _ e) in
    rw call (pays s (posts j more i row q) (calls.Post (record { 0 = j }) (home_of s j)) (takes_after s.depth q) false _ (costs-acts s.depth T more i row q b) (omega arith) refl)
Pays-heard s w T r (drops i q) b c e =
    let call : c ≡ calls.DropRun (record { 0 = i }) = sym (some_inj _ _ e) in
    rw call (pays s (drops i q) (calls.DropRun (record { 0 = i })) (takes_after s.depth q) false _ (costs-dropped s s.depth (is_killed r) (has_reasons r) i q b) (omega arith) refl)
Pays-heard s w T r (retires held i q) b c e =
    let call : c ≡ calls.Retire (record { 0 = i }) = sym (some_inj _ _ e) in
    rw call (record { takes = omega arith; part = refl })
Pays-heard s w T r (returns i q) b c e =
    let call : c ≡ calls.Post (record { 0 = i }) (home_of s i) = sym (some_inj _ _ e) in
    rw call (record { takes = omega arith; part = refl })
Pays-heard s w T r (drawn i n) b c e =
    let call : c ≡ calls.Take (record { 0 = i }) = sym (some_inj _ _ e) in
    rw call (pays s (drawn i n) (calls.Take (record { 0 = i })) n false _ (costs-begun s s.depth T r (is_killed r) i (by_draw n) b) (omega arith) refl)
Pays-heard s w T r (injects a more) b c e =
    let call : c ≡ call_of a = sym (some_inj _ _ e) in
    let none = action-takes a in
    rw call (pays s (injects a more) (call_of a) 0 true _ (costs-injected s.depth (is_rest r) (target a) more b) (omega arith) refl)
Pays-heard s w T r (carries j more) b c e =
    let call : c ≡ calls.Post (record { 0 = j }) (home_of s j) = sym (some_inj _ _ e) in
    rw call (pays s (carries j more) (calls.Post (record { 0 = j }) (home_of s j)) 0 true _ (costs-events s.depth more b) (omega arith) refl)
Pays-heard s w T r over b c e = cc

-- a draw is paid for by the draws that may come
draws-after : (d : ℕ) (q : Onward) (o : Option Next) → draws_if o (draws_in d q) ≤ takes_after d q
draws-after d (by_class q) None = omega arith
draws-after d (by_class q) (Some x) = omega arith
draws-after d (by_draw n) None = omega arith
draws-after d (by_draw n) (Some x) = omega arith

pays-draw : (s : Script) (l : Left) (b : Book) (i : ℕ) → 0 < draws_now_in s l b → Pays s l (calls.Draw (record { 0 = i })) (stage (drawn i (draws_now_in s l b - 1)) b)
pays-draw s (runs q) b i some = record { takes = let e = draws-after s.depth q (next_in q b) in omega arith; part = refl }
pays-draw s (gets g gs) b i some = absurd (omega arith)
pays-draw s (wakes j js) b i some = absurd (omega arith)
pays-draw s (acts a more j row q) b i some = absurd (omega arith)
pays-draw s (posts k more j row q) b i some = absurd (omega arith)
pays-draw s (drops j q) b i some = absurd (omega arith)
pays-draw s (retires held j q) b i some = absurd (omega arith)
pays-draw s (returns j q) b i some = absurd (omega arith)
pays-draw s (drawn j n) b i some = absurd (omega arith)
pays-draw s (injects a more) b i some = absurd (omega arith)
pays-draw s (carries j more) b i some = absurd (omega arith)
pays-draw s over b i some = absurd (omega arith)

pub Pays-went : (s : Script) (w : CallerId) (T : ℕ) (c : Call) (r : Reply) (g : Stage) → MayCall s g c → Pays s g.left c (went s w T c r g)
Pays-went s w T c r g m = by_ask s w T g c r (λ d h. Pays s g.left d h) m (λ e. Pays-heard s w T r g.left g.book c e) (λ i shared some is. pays-draw s g.left g.book i some)
