-- A reply that a machine can give leaves each task once, and no more calls come than are counted.
use Rattle.std.proofs.Common.{◌≡◌, ℕ, ◌+◌, ◌≤◌, ◌==◌, ◌||◌, Bool, true, false, List, [], ◌∷◌, length, Option, Some, None, refl, sym, subst, arith, if◌then◌else◌}
use Rattle.std.specs.List.{range_with_len}
use Rattle.std.proofs.lemmas.List.FromFn.{length-range_with_len}
use Rattle.sched_base.specs.ReasonNames.{timer}
use Rattle.sched_base.specs.declared.names.CallerId.{CallerId}
use Rattle.queue_model.specs.Classes.{Next}
use Rattle.step_tables.specs.declared.tables.Action.{Action}
use Rattle.step_tables.specs.declared.tables.Action.TheVariants.{Wake as Wakes, Kill as Kills}
use Rattle.step_tables.specs.declared.tables.Script.{Script}
use Rattle.task_machine.specs.Step.{bit}
use Rattle.task_machine.specs.declared.calls.Call.{Call}
use Rattle.task_machine.specs.declared.calls.Call.TheVariants as calls
use Rattle.task_machine.specs.declared.calls.Reply.{Reply}
use Rattle.task_machine.specs.declared.calls.Entry.{Entry}
use Rattle.run_model.specs.Replies.{is_rest, is_killed, has_reasons, members}
use Rattle.run_model.specs.Tables.{groups, call_of, target}
use Rattle.run_model.specs.Book.{Book, queued_all, taken_from}
use Rattle.run_model.proofs.Readings.{some_inj}
use Rattle.turn_steps.specs.Left.{Onward, by_draw, next_in, spent_in, Left, gets, wakes, runs, acts, posts, drops, retires, returns, drawn, injects, carries, over, Stage, stage, begun, take_call, asked_in, waked, taken, heard_in, went, MayCall, Rest}
use Rattle.turn_steps.specs.Has.{has, gain, Once, CanGive}
use Rattle.turn_steps.specs.Counts.{calls_left}
use Rattle.turn_steps.specs.Ranges.{IsFit}
use Rattle.turn_steps.specs.Laws.{RepliesKeepOnce, RestsAreShort, TurnsAreShort}
use Rattle.turn_steps.proofs.Asked.{by_ask}
use Rattle.turn_steps.proofs.Books.{listed-queued_all, listed-taken}
use Rattle.turn_steps.proofs.Stages.{Has, has-wakes, has-gets, has-acts, has-events, listed-waked, has-acted, has-run_begun, has-dropped_as, has-injected}
use Rattle.turn_steps.proofs.Measure.{within-gets, calls_left-went}
use Rattle.turn_steps.proofs.Fit.{IsFit-sound}
use Rattle.turn_steps.proofs.Turns.{rest-turn}

-- what a call leaves has no more than was had and gained
pub record Grows (i : ℕ) (l : Left) (b : Book) (c : Call) (r : Reply) (g : Stage) : Type 0 where
  pub most : has i g ≤ gain i c r + has i (stage l b)

grows-by : (i : ℕ) (l : Left) (b : Book) (c : Call) (r : Reply) (g : Stage) (n m : ℕ) → Has i g n m → n + m ≤ gain i c r + has i (stage l b) → Grows i l b c r g
grows-by i l b c r g n m h le = record { most = let a = h.hands in let d = h.runs in let e = h.draws in omega arith }

action-gain : (i : ℕ) (a : Action) (r : Reply) → gain i (call_of a) r ≡ (if is_rest r then bit (i == target a) else 0)
action-gain i (Wakes j f) r = refl
action-gain i (Kills j) r = refl

grows-taken : (s : Script) (T i : ℕ) (r : Reply) (q : Onward) (o : Option Next) (b : Book) (c : Call) → next_in q b ≡ o → take_call o ≡ Some c → Grows i (runs q) b c r (taken s T r q o b)
grows-taken s T i r q None b c is e = cc
grows-taken s T i r q (Some x) b c is e =
    let h = has-run_begun s T r i (is_killed r) x.task (spent_in x.class q) (taken_from x.class b) in
    let t = listed-taken i b q x is in
    grows-by i (runs q) b c r _ _ _ h (omega arith)

-- the tests of a reply in one
either-bit : (i j : ℕ) (killed busy : Bool) → (if busy || killed then bit (i == j) else 0) ≤ bit (i == j)
either-bit i j true true = omega arith
either-bit i j true false = omega arith
either-bit i j false true = omega arith
either-bit i j false false = omega arith

pub grows : (s : Script) (w : CallerId) (T i : ℕ) (l : Left) (b : Book) (c : Call) (r : Reply) → asked_in s l b ≡ Some c → Grows i l b c r (heard_in s w T r l b)
grows s w T i (gets g gs) b c r e =
    let call : c ≡ calls.Get g = sym (some_inj _ _ e) in
    let all = listed-queued_all s i (members g r) b in
    rw call (grows-by i (gets g gs) b (calls.Get g) r _ _ _ (has-gets s T i gs (queued_all s (members g r) b)) (omega arith))
grows s w T i (wakes j js) b c r e =
    let call : c ≡ calls.Wake (record { 0 = j }) timer = sym (some_inj _ _ e) in
    let all = listed-waked s i (is_rest r) j b in
    rw call (grows-by i (wakes j js) b (calls.Wake (record { 0 = j }) timer) r _ _ _ (has-wakes s i js (waked s (is_rest r) j b)) (omega arith))
grows s w T i (runs q) b c r e = grows-taken s T i r q (next_in q b) b c refl e
grows s w T i (acts a more j row q) b c r e =
    let call : c ≡ call_of a = sym (some_inj _ _ e) in
    let all = action-gain i a r in
    rw call (grows-by i (acts a more j row q) b (call_of a) r _ _ _ (has-acted s w T i (is_rest r) (target a) more j row q b) (omega arith))
grows s w T i (posts k more j row q) b c r e = grows-by i (posts k more j row q) b c r _ _ _ (has-acts T i more j row q b) (omega arith)
grows s w T i (drops j q) b c r e =
    let le = either-bit i j (is_killed r) (has_reasons r) in
    grows-by i (drops j q) b c r _ _ _ (has-dropped_as s i (is_killed r) (has_reasons r) j q b) (omega arith)
grows s w T i (retires held j q) b c r e = record { most = omega arith }
grows s w T i (returns j q) b c r e = record { most = omega arith }
grows s w T i (drawn j n) b c r e = grows-by i (drawn j n) b c r _ _ _ (has-run_begun s T r i (is_killed r) j (by_draw n) b) (omega arith)
grows s w T i (injects a more) b c r e =
    let call : c ≡ call_of a = sym (some_inj _ _ e) in
    let all = action-gain i a r in
    rw call (grows-by i (injects a more) b (call_of a) r _ _ _ (has-injected i (is_rest r) (target a) more b) (omega arith))
grows s w T i (carries j more) b c r e = grows-by i (carries j more) b c r _ _ _ (has-events i more b) (omega arith)
grows s w T i over b c r e = cc

pub once-heard : (s : Script) (w : CallerId) (T : ℕ) (g : Stage) (c : Call) (r : Reply) → MayCall s g c → CanGive s g c r → Once (went s w T c r g)
once-heard s w T g c r m can =
    by_ask s w T g c r (λ d h. d ≡ c → Once h) m
    (λ e same i. let most = (grows s w T i g.left g.book c r e).most in let once = can.once i in omega arith)
    (λ j shared some is same i. let once = subst (λ (d : Call). gain i d r + has i g ≤ 1) (sym same) (can.once i) in omega arith)
    refl

pub replies_keep_once : RepliesKeepOnce
replies_keep_once = once-heard

pub rest-short : (s : Script) (w : CallerId) (T : ℕ) (g : Stage) (es : List Entry) (d : Book) → IsFit s → Rest s w T g es d → length es ≤ calls_left s.depth g.left g.book
rest-short s w T g [] d fit h = omega arith
rest-short s w T g (e ∷ es) d fit h =
    let less = calls_left-went s w T e.call e.reply g fit h.1 in
    let more = rest-short s w T (went s w T e.call e.reply g) es d fit h.2 in
    omega arith

pub rests_short : RestsAreShort
rests_short s w T g es d sound h = rest-short s w T g es d (IsFit-sound s sound) h

pub turns_short : TurnsAreShort
turns_short s w T b es d sound h =
    let most = rest-short s w T (begun s T b) es d (IsFit-sound s sound) (rest-turn s w T b es d h) in
    let count = (within-gets s T (range_with_len 0 (groups s)) b).calls in
    let groups_are = length-range_with_len 0 (groups s) in
    omega arith
