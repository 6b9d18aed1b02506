-- What a caller has follows its part: kept by its own calls, and by those of others.
use Rattle.std.proofs.Common.{◌≡◌, ◌≢◌, ℕ, ◌+◌, ◌<◌, ◌≤◌, Bool, true, false, ◌==◌, if◌then◌else◌, List, Option, None, Some, refl, ◌∙◌, arith, subst}
use Rattle.queue_model.specs.Classes.{Next}
use Rattle.step_tables.specs.declared.tables.Action.{Action}
use Rattle.step_tables.specs.declared.tables.Action.TheVariants.{Wake as Wakes, Kill as Kills}
use Rattle.step_tables.specs.declared.tables.Row.{Row}
use Rattle.step_tables.specs.declared.tables.Script.{Script}
use Rattle.task_machine.specs.declared.task.Place.{Place}
use Rattle.task_machine.specs.declared.task.Place.TheVariants as places
use Rattle.task_machine.specs.declared.calls.Call.{Call}
use Rattle.task_machine.specs.declared.calls.Call.TheVariants as calls
use Rattle.task_machine.specs.declared.calls.Reply.{Reply}
use Rattle.task_machine.specs.declared.calls.Entry.{Entry}
use Rattle.task_machine.specs.Task.{in_hands, in_draw, in_run}
use Rattle.task_machine.specs.Step.{State, task_at, subject, bit, Allowed}
use Rattle.task_machine.specs.History.{stepped}
use Rattle.sched_base.specs.ReasonNames.{timer}
use Rattle.sched_base.specs.declared.names.CallerId.{CallerId}
use Rattle.run_model.proofs.Readings.{some_inj}
use Rattle.run_model.specs.Replies.{is_rest, is_killed, has_reasons, members}
use Rattle.run_model.specs.Tables.{home_of, call_of, target}
use Rattle.run_model.specs.Book.{Book, queued_all, taken_from}
use Rattle.turn_steps.specs.Left.{Onward, by_draw, next_in, spent_in, Left, gets, wakes, runs, acts, posts, drops, retires, returns, drawn, injects, carries, over, Stage, stage, asked_in, take_call, taken, heard_in, draws_now, draws_now_in, drew, waked, MayCall, went}
use Rattle.turn_steps.specs.Has.{caller, said, due, run_by, drawn_by}
use Rattle.turn_steps.proofs.Asked.{by_ask}
use Rattle.turn_steps.proofs.Books.{listed-queued_all, listed-taken}
use Rattle.turn_steps.proofs.Stages.{has-gets, has-wakes, has-acts, has-acted, has-run_begun, has-dropped_as, has-events, has-injected, listed-waked}
use Rattle.standing.specs.Places.{held, ran, drawn_to}
use Rattle.standing.specs.Keeps.{Owns}
use Rattle.standing.proofs.Effects.{held-other, ran-other, drawn-other}
use Rattle.standing.proofs.Own.{raises, held-raise, ran-raise, drawn-raise, held-post, ran-post, drawn-post, held-draw, ran-draw, drawn-draw, both-take, ran-take, held-drop, ran-drop, drawn-drop, all-retire}
use Rattle.standing.proofs.Gets.{held-get, ran-get, drawn-get}

bit-le : (b : Bool) → bit b ≤ 1
bit-le true = omega arith
bit-le false = omega arith

one_place : (k : CallerId) (p : Place) → bit (in_hands k p) + bit (in_run k p) + bit (in_draw k p) ≤ 1
one_place k places.Rest = omega arith
one_place k (places.Hands j) = omega (arith, bit-le (k.0 == j.0))
one_place k (places.Boxed b) = omega arith
one_place k (places.Drawn j) = omega (arith, bit-le (k.0 == j.0))
one_place k (places.Runs j) = omega (arith, bit-le (k.0 == j.0))
one_place k places.Gone = omega arith

-- a caller has a task in one way at most
pub exclusive : (k : CallerId) (s : State) (i : ℕ) → held k s i + ran k s i + drawn_to k s i ≤ 1
exclusive k s i = one_place k (task_at s i).place

-- a call of caller k keeps what it owns
abbrev Kept : Script → ℕ → State → Left → Book → Call → Type 0
Kept s T state l b c =
    (k : ℕ) (r : Reply) → Owns k state (stage l b) → Allowed state (said (caller k) c r) → Owns k (stepped state (said (caller k) c r)) (heard_in s (caller k) T r l b)

owns-gets : (s : Script) (T : ℕ) (state : State) (g : ℕ) (gs : List ℕ) (b : Book) → Kept s T state (gets g gs) b (calls.Get g)
owns-gets s T state g gs b k r o a = record {
  hands = λ i. omega (arith, held-get state (caller k) g r i a, o.hands i, (has-gets s T i gs (queued_all s (members g r) b)).hands, listed-queued_all s i (members g r) b);
  runs = λ i. omega (arith, ran-get state (caller k) g r i a, o.runs i, (has-gets s T i gs (queued_all s (members g r) b)).runs);
  draws = λ i. omega (arith, drawn-get state (caller k) g r i a, o.draws i, (has-gets s T i gs (queued_all s (members g r) b)).draws);
}

owns-wakes : (s : Script) (T : ℕ) (state : State) (j : ℕ) (js : List ℕ) (b : Book) → Kept s T state (wakes j js) b (calls.Wake (record { 0 = j }) timer)
owns-wakes s T state j js b k r o a =
    let c = calls.Wake (record { 0 = j }) timer in
    record {
      hands = λ i. omega (arith, held-raise state (caller k) c r i refl a, o.hands i, (has-wakes s i js (waked s (is_rest r) j b)).hands, listed-waked s i (is_rest r) j b);
      runs = λ i. omega (arith, ran-raise state (caller k) c r i refl a, o.runs i, (has-wakes s i js (waked s (is_rest r) j b)).runs);
      draws = λ i. omega (arith, drawn-raise state (caller k) c r i refl a, o.draws i, (has-wakes s i js (waked s (is_rest r) j b)).draws);
    }

-- an action raises its target
raises_action : (a : Action) → raises (call_of a) ≡ true
raises_action (Wakes i f) = refl
raises_action (Kills i) = refl

subject_action : (a : Action) → subject (call_of a) ≡ target a
subject_action (Wakes i f) = refl
subject_action (Kills i) = refl

held-action : (s : State) (k : CallerId) (x : Action) (r : Reply) (i : ℕ) → Allowed s (said k (call_of x) r) → held k (stepped s (said k (call_of x) r)) i ≡ held k s i + (if is_rest r then bit (i == target x) else 0)
held-action s k (Wakes j f) r i a = held-raise s k (calls.Wake j f) r i refl a
held-action s k (Kills j) r i a = held-raise s k (calls.Kill j) r i refl a

owns-acts : (s : Script) (T : ℕ) (state : State) (x : Action) (more : List Action) (j : ℕ) (row : Row) (q : Onward) (b : Book) → Kept s T state (acts x more j row q) b (call_of x)
owns-acts s T state x more j row q b k r o a = record {
  hands = λ i. omega (arith, held-action state (caller k) x r i a, o.hands i, (has-acted s (caller k) T i (is_rest r) (target x) more j row q b).hands);
  runs = λ i. omega (arith, ran-raise state (caller k) (call_of x) r i (raises_action x) a, o.runs i, (has-acted s (caller k) T i (is_rest r) (target x) more j row q b).runs);
  draws = λ i. omega (arith, drawn-raise state (caller k) (call_of x) r i (raises_action x) a, o.draws i, (has-acted s (caller k) T i (is_rest r) (target x) more j row q b).draws);
}

owns-posts : (s : Script) (T : ℕ) (state : State) (x : ℕ) (more : List Action) (j : ℕ) (row : Row) (q : Onward) (b : Book) → Kept s T state (posts x more j row q) b (calls.Post (record { 0 = x }) (home_of s x))
owns-posts s T state x more j row q b k r o a = record {
  hands = λ i. omega (arith, held-post state (caller k) (record { 0 = x }) (home_of s x) r i a, o.hands i, (has-acts T i more j row q b).hands);
  runs = λ i. omega (arith, ran-post state (caller k) (record { 0 = x }) (home_of s x) r i a, o.runs i, (has-acts T i more j row q b).runs);
  draws = λ i. omega (arith, drawn-post state (caller k) (record { 0 = x }) (home_of s x) r i a, o.draws i, (has-acts T i more j row q b).draws);
}

owns-drops : (s : Script) (T : ℕ) (state : State) (j : ℕ) (q : Onward) (b : Book) → Kept s T state (drops j q) b (calls.DropRun (record { 0 = j }))
owns-drops s T state j q b k r o a = record {
  hands = λ i. omega (arith, held-drop state (caller k) (record { 0 = j }) r i a, o.hands i, (has-dropped_as s i (is_killed r) (has_reasons r) j q b).hands);
  runs = λ i. omega (arith, ran-drop state (caller k) (record { 0 = j }) r i a, o.runs i, (has-dropped_as s i (is_killed r) (has_reasons r) j q b).runs);
  draws = λ i. omega (arith, drawn-drop state (caller k) (record { 0 = j }) r i a, o.draws i, (has-dropped_as s i (is_killed r) (has_reasons r) j q b).draws);
}

owns-retires : (s : Script) (T : ℕ) (state : State) (held_so : Bool) (j : ℕ) (q : Onward) (b : Book) → Kept s T state (retires held_so j q) b (calls.Retire (record { 0 = j }))
owns-retires s T state true j q b k r o a = record {
  hands = λ i. (let all = all-retire state (caller k) (record { 0 = j }) r i a in omega (arith, all.0, all.2, all.3, o.hands i, o.runs i, o.draws i));
  runs = λ i. (let all = all-retire state (caller k) (record { 0 = j }) r i a in omega (arith, all.2, o.runs i));
  draws = λ i. (let all = all-retire state (caller k) (record { 0 = j }) r i a in omega (arith, all.3, o.draws i));
}
owns-retires s T state false j q b k r o a = record {
  hands = λ i. (let all = all-retire state (caller k) (record { 0 = j }) r i a in omega (arith, all.0, all.1, all.2, all.3, o.hands i, o.runs i, o.draws i, exclusive (caller k) state i));
  runs = λ i. (let all = all-retire state (caller k) (record { 0 = j }) r i a in omega (arith, all.0, all.1, all.2, all.3, o.hands i, o.runs i, o.draws i, exclusive (caller k) state i, exclusive (caller k) (stepped state (said (caller k) (calls.Retire (record { 0 = j })) r)) i));
  draws = λ i. (let all = all-retire state (caller k) (record { 0 = j }) r i a in omega (arith, all.3, o.draws i));
}

owns-returns : (s : Script) (T : ℕ) (state : State) (j : ℕ) (q : Onward) (b : Book) → Kept s T state (returns j q) b (calls.Post (record { 0 = j }) (home_of s j))
owns-returns s T state j q b k r o a = record {
  hands = λ i. omega (arith, held-post state (caller k) (record { 0 = j }) (home_of s j) r i a, o.hands i);
  runs = λ i. omega (arith, ran-post state (caller k) (record { 0 = j }) (home_of s j) r i a, o.runs i);
  draws = λ i. omega (arith, drawn-post state (caller k) (record { 0 = j }) (home_of s j) r i a, o.draws i);
}

owns-drawn : (s : Script) (T : ℕ) (state : State) (j n : ℕ) (b : Book) → Kept s T state (drawn j n) b (calls.Take (record { 0 = j }))
owns-drawn s T state j n b k r o a = record {
  hands = λ i. (let both = both-take state (caller k) (record { 0 = j }) r i a in omega (arith, both.0, both.1, both.2, o.hands i, o.draws i, exclusive (caller k) state i, (has-run_begun s T r i (is_killed r) j (by_draw n) b).hands));
  runs = λ i. omega (arith, ran-take state (caller k) (record { 0 = j }) r i a, o.runs i, (has-run_begun s T r i (is_killed r) j (by_draw n) b).runs);
  draws = λ i. (let both = both-take state (caller k) (record { 0 = j }) r i a in omega (arith, both.0, both.1, both.2, o.hands i, o.draws i, exclusive (caller k) state i, (has-run_begun s T r i (is_killed r) j (by_draw n) b).draws));
}

owns-injects : (s : Script) (T : ℕ) (state : State) (x : Action) (more : List Action) (b : Book) → Kept s T state (injects x more) b (call_of x)
owns-injects s T state x more b k r o a = record {
  hands = λ i. omega (arith, held-action state (caller k) x r i a, o.hands i, (has-injected i (is_rest r) (target x) more b).hands);
  runs = λ i. omega (arith, ran-raise state (caller k) (call_of x) r i (raises_action x) a, o.runs i, (has-injected i (is_rest r) (target x) more b).runs);
  draws = λ i. omega (arith, drawn-raise state (caller k) (call_of x) r i (raises_action x) a, o.draws i, (has-injected i (is_rest r) (target x) more b).draws);
}

owns-carries : (s : Script) (T : ℕ) (state : State) (j : ℕ) (more : List Action) (b : Book) → Kept s T state (carries j more) b (calls.Post (record { 0 = j }) (home_of s j))
owns-carries s T state j more b k r o a = record {
  hands = λ i. omega (arith, held-post state (caller k) (record { 0 = j }) (home_of s j) r i a, o.hands i, (has-events i more b).hands);
  runs = λ i. omega (arith, ran-post state (caller k) (record { 0 = j }) (home_of s j) r i a, o.runs i, (has-events i more b).runs);
  draws = λ i. omega (arith, drawn-post state (caller k) (record { 0 = j }) (home_of s j) r i a, o.draws i, (has-events i more b).draws);
}

-- a take of the item that comes next
owns-next : (s : Script) (T : ℕ) (state : State) (q : Onward) (b : Book) (x : Next) → next_in q b ≡ Some x → (k : ℕ) (r : Reply) → Owns k state (stage (runs q) b) → Allowed state (said (caller k) (calls.Take (record { 0 = x.task })) r) → Owns k (stepped state (said (caller k) (calls.Take (record { 0 = x.task })) r)) (taken s T r q (Some x) b)
owns-next s T state q b x e k r o a =
    let begins = λ (i : ℕ). has-run_begun s T r i (is_killed r) x.task (spent_in x.class q) (taken_from x.class b) in
    record {
      hands = λ i. (let both = both-take state (caller k) (record { 0 = x.task }) r i a in omega (arith, both.0, both.1, both.2, o.hands i, o.draws i, listed-taken i b q x e, (begins i).hands));
      runs = λ i. omega (arith, ran-take state (caller k) (record { 0 = x.task }) r i a, o.runs i, (begins i).runs);
      draws = λ i. (let both = both-take state (caller k) (record { 0 = x.task }) r i a in omega (arith, both.2, o.draws i, (begins i).draws));
    }

owns-runs : (s : Script) (T : ℕ) (state : State) (q : Onward) (b : Book) (o : Option Next) (c : Call) → next_in q b ≡ o → take_call o ≡ Some c → (k : ℕ) (r : Reply) → Owns k state (stage (runs q) b) → Allowed state (said (caller k) c r) → Owns k (stepped state (said (caller k) c r)) (taken s T r q o b)
owns-runs s T state q b None c e h k r = cc
owns-runs s T state q b (Some x) c e h k r =
    subst (λ (d : Call). Owns k state (stage (runs q) b) → Allowed state (said (caller k) d r) → Owns k (stepped state (said (caller k) d r)) (taken s T r q (Some x) b)) (some_inj (calls.Take (record { 0 = x.task })) c h) (owns-next s T state q b x e k r)

-- a caller's own call, the one that its part asks
pub Owns-own : (s : Script) (T : ℕ) (state : State) (l : Left) (b : Book) (c : Call) → asked_in s l b ≡ Some c → (k : ℕ) (r : Reply) → Owns k state (stage l b) → Allowed state (said (caller k) c r) → Owns k (stepped state (said (caller k) c r)) (heard_in s (caller k) T r l b)
Owns-own s T state (gets g gs) b c e =
    subst (Kept s T state (gets g gs) b) (some_inj (calls.Get g) c e) (owns-gets s T state g gs b)
Owns-own s T state (wakes j js) b c e =
    subst (Kept s T state (wakes j js) b) (some_inj (calls.Wake (record { 0 = j }) timer) c e) (owns-wakes s T state j js b)
Owns-own s T state (runs q) b c e = owns-runs s T state q b (next_in q b) c refl e
Owns-own s T state (acts x more j row q) b c e =
    subst (Kept s T state (acts x more j row q) b) (some_inj (call_of x) c e) (owns-acts s T state x more j row q b)
Owns-own s T state (posts x more j row q) b c e =
    subst (Kept s T state (posts x more j row q) b) (some_inj (calls.Post (record { 0 = x }) (home_of s x)) c e) (owns-posts s T state x more j row q b)
Owns-own s T state (drops j q) b c e =
    subst (Kept s T state (drops j q) b) (some_inj (calls.DropRun (record { 0 = j })) c e) (owns-drops s T state j q b)
Owns-own s T state (retires held_so j q) b c e =
    subst (Kept s T state (retires held_so j q) b) (some_inj (calls.Retire (record { 0 = j })) c e) (owns-retires s T state held_so j q b)
Owns-own s T state (returns j q) b c e =
    subst (Kept s T state (returns j q) b) (some_inj (calls.Post (record { 0 = j }) (home_of s j)) c e) (owns-returns s T state j q b)
Owns-own s T state (drawn j n) b c e =
    subst (Kept s T state (drawn j n) b) (some_inj (calls.Take (record { 0 = j })) c e) (owns-drawn s T state j n b)
Owns-own s T state (injects x more) b c e =
    subst (Kept s T state (injects x more) b) (some_inj (call_of x) c e) (owns-injects s T state x more b)
Owns-own s T state (carries j more) b c e =
    subst (Kept s T state (carries j more) b) (some_inj (calls.Post (record { 0 = j }) (home_of s j)) c e) (owns-carries s T state j more b)
Owns-own s T state over b c e = cc

-- calls of others change nothing of it
pub Owns-other : (state : State) (e : Entry) (k : ℕ) (g : Stage) → k ≢ e.caller.0 → Allowed state e → Owns k state g → Owns k (stepped state e) g
Owns-other state e k g ne a o = record {
  hands = λ i. held-other state e (caller k) i a ne ∙ o.hands i;
  runs = λ i. ran-other state e (caller k) i a ne ∙ o.runs i;
  draws = λ i. drawn-other state e (caller k) i a ne ∙ o.draws i;
}

-- where a caller may draw it has no more than it lists
pub idle : (s : Script) (l : Left) (b : Book) (i : ℕ) → 0 < draws_now_in s l b → (due i l ≡ 0) × (run_by i l ≡ 0) × (drawn_by i l ≡ 0)
idle s (gets g gs) b i h = absurd (omega arith)
idle s (wakes j js) b i h = absurd (omega arith)
idle s (runs q) b i h = (refl, refl, refl)
idle s (acts x more j row q) b i h = absurd (omega arith)
idle s (posts x more j row q) b i h = absurd (omega arith)
idle s (drops j q) b i h = absurd (omega arith)
idle s (retires held_so j q) b i h = absurd (omega arith)
idle s (returns j q) b i h = absurd (omega arith)
idle s (drawn j n) b i h = absurd (omega arith)
idle s (injects x more) b i h = absurd (omega arith)
idle s (carries j more) b i h = absurd (omega arith)
idle s over b i h = absurd (omega arith)

-- a draw
Owns-draw : (s : Script) (state : State) (k j : ℕ) (r : Reply) (g : Stage) → 0 < draws_now s g → Owns k state g → Allowed state (said (caller k) (calls.Draw (record { 0 = j })) r) → Owns k (stepped state (said (caller k) (calls.Draw (record { 0 = j })) r)) (drew s j g)
Owns-draw s state k j r g may o a = record {
  hands = λ i. (let none = idle s g.left g.book i may in omega (arith, held-draw state (caller k) (record { 0 = j }) r i a, o.hands i, none.0));
  runs = λ i. (let none = idle s g.left g.book i may in omega (arith, ran-draw state (caller k) (record { 0 = j }) r i a, o.runs i, none.1));
  draws = λ i. (let none = idle s g.left g.book i may in omega (arith, drawn-draw state (caller k) (record { 0 = j }) r i a, o.draws i, none.2));
}

-- each next call of a caller
pub Owns-went : (s : Script) (T : ℕ) (state : State) (g : Stage) (c : Call) → MayCall s g c → (k : ℕ) (r : Reply) → Owns k state g → Allowed state (said (caller k) c r) → Owns k (stepped state (said (caller k) c r)) (went s (caller k) T c r g)
Owns-went s T state g c may k r o a =
    by_ask s (caller k) T g c r (λ d x. Allowed state (said (caller k) d r) → Owns k (stepped state (said (caller k) d r)) x) may (λ e a. Owns-own s T state g.left g.book c e k r o a) (λ j shared some e a. Owns-draw s state k j r g some o a) a
