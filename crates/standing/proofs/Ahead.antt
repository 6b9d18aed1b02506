-- The draws that a caller made and those that may still come are together as many as it had before it.
use Rattle.std.proofs.Common.{◌≡◌, ◌≢◌, ℕ, ◌+◌, ◌<◌, Bool, true, false, ◌==◌, inl, inr, List, [], ◌∷◌, length, Option, None, Some, refl, sym, ap, ◌∙◌, arith, subst}
use Rattle.std.specs.List.{filter}
use Rattle.std.proofs.lemmas.Bool.{cases_eq}
use Rattle.sched_base.specs.declared.names.CallerId.{CallerId}
use Rattle.sched_base.specs.declared.names.Class.{Class}
use Rattle.queue_model.specs.Classes.{Next}
use Rattle.step_tables.specs.declared.tables.Action.{Action}
use Rattle.step_tables.specs.declared.tables.Row.{Row}
use Rattle.step_tables.specs.declared.tables.Script.{Script}
use Rattle.task_machine.specs.declared.calls.Call.{Call}
use Rattle.task_machine.specs.declared.calls.Reply.{Reply}
use Rattle.task_machine.specs.declared.calls.Entry.{Entry}
use Rattle.task_machine.specs.Step.{bit}
use Rattle.task_machine.specs.History.{calls_of}
use Rattle.run_model.specs.Replies.{is_rest, is_killed, has_reasons, takes_in}
use Rattle.run_model.specs.Tables.{home_of, row_by, target}
use Rattle.run_model.specs.Book.{Book, queued, taken_from}
use Rattle.run_model.specs.Standing.{is_draw, draws_of}
use Rattle.turn_steps.specs.Left.{Onward, by_class, by_draw, next_in, spent_in, draws_in, Left, gets, wakes, runs, acts, posts, drops, retires, returns, drawn, injects, carries, over, Stage, at_gets, at_wakes, at_acts, at_events, handed, acted, run_begun, taken, returned, dropped_live, dropped_as, injected, take_call, asked_in, heard_in, draws_if, draws_now_in, MayCall, went}
use Rattle.turn_steps.specs.Counts.{is_injectors, draws_ahead}
use Rattle.turn_steps.proofs.Asked.{by_ask, asked-draw}
use Rattle.standing.specs.Keeps.{Callers}
use Rattle.standing.specs.Going.{called, Going, gone_on}
use Rattle.standing.proofs.Merge.{set_same, set_other, own_calls, other_calls}

-- so many draws may still come
abbrev pub Ahead : ℕ → ℕ → Stage → Type 0
Ahead d n g = draws_ahead d g.left ≡ n

pub ahead-wakes : (s : Script) (is : List ℕ) (b : Book) → Ahead s.depth s.depth (at_wakes s is b)
ahead-wakes s [] b = refl
ahead-wakes s (i ∷ is) b = refl

pub ahead-gets : (s : Script) (T : ℕ) (gs : List ℕ) (b : Book) → Ahead s.depth s.depth (at_gets s T gs b)
ahead-gets s T [] b = ahead-wakes s _ _
ahead-gets s T (g ∷ gs) b = refl

ahead-acts : (d T : ℕ) (more : List Action) (i : ℕ) (row : Row) (q : Onward) (b : Book) → Ahead d (draws_in d q) (at_acts T more i row q b)
ahead-acts d T [] i row q b = refl
ahead-acts d T (a ∷ more) i row q b = refl

ahead-events : (d : ℕ) (more : List Action) (b : Book) → Ahead d 0 (at_events more b)
ahead-events d [] b = refl
ahead-events d (a ∷ more) b = refl

ahead-handed : (s : Script) (d T : ℕ) (own : Bool) (x : ℕ) (more : List Action) (i : ℕ) (row : Row) (q : Onward) (b : Book) → Ahead d (draws_in d q) (handed s T own x more i row q b)
ahead-handed s d T true x more i row q b = ahead-acts d T more i row q (queued s x b)
ahead-handed s d T false x more i row q b = refl

ahead-acted : (s : Script) (w : CallerId) (d T : ℕ) (rest : Bool) (x : ℕ) (more : List Action) (i : ℕ) (row : Row) (q : Onward) (b : Book) → Ahead d (draws_in d q) (acted s w T rest x more i row q b)
ahead-acted s w d T true x more i row q b = ahead-handed s d T (home_of s x == w.0) x more i row q b
ahead-acted s w d T false x more i row q b = ahead-acts d T more i row q b

ahead-run : (s : Script) (d T : ℕ) (r : Reply) (killed : Bool) (i : ℕ) (q : Onward) (b : Book) → Ahead d (draws_in d q) (run_begun s T r killed i q b)
ahead-run s d T r true i q b = refl
ahead-run s d T r false i q b = ahead-acts d T (row_by s i (takes_in r)).actions i (row_by s i (takes_in r)) q b

spent_draws : (d : ℕ) (k : Class) (q : Onward) → draws_in d (spent_in k q) ≡ draws_in d q
spent_draws d k (by_class q) = refl
spent_draws d k (by_draw n) = refl

ahead-taken : (s : Script) (d T : ℕ) (r : Reply) (q : Onward) (o : Option Next) (b : Book) → Ahead d (draws_in d q) (taken s T r q o b)
ahead-taken s d T r q None b = refl
ahead-taken s d T r q (Some x) b =
    ahead-run s d T r (is_killed r) x.task (spent_in x.class q) (taken_from x.class b) ∙ spent_draws d x.class q

ahead-returned : (s : Script) (d : ℕ) (shared : Bool) (i : ℕ) (q : Onward) (b : Book) → Ahead d (draws_in d q) (returned s shared i q b)
ahead-returned s d true i q b = refl
ahead-returned s d false i q b = refl

ahead-live : (s : Script) (d : ℕ) (busy : Bool) (i : ℕ) (q : Onward) (b : Book) → Ahead d (draws_in d q) (dropped_live s busy i q b)
ahead-live s d true i q b = ahead-returned s d (home_of s i == s.workers) i q b
ahead-live s d false i q b = refl

ahead-dropped : (s : Script) (d : ℕ) (killed busy : Bool) (i : ℕ) (q : Onward) (b : Book) → Ahead d (draws_in d q) (dropped_as s killed busy i q b)
ahead-dropped s d true busy i q b = refl
ahead-dropped s d false busy i q b = ahead-live s d busy i q b

ahead-injected : (d : ℕ) (rest : Bool) (x : ℕ) (more : List Action) (b : Book) → Ahead d 0 (injected rest x more b)
ahead-injected d true x more b = refl
ahead-injected d false x more b = ahead-events d more b

-- what is heard leaves them
ahead-heard : (s : Script) (w : CallerId) (T : ℕ) (r : Reply) (l : Left) (b : Book) → Ahead s.depth (draws_ahead s.depth l) (heard_in s w T r l b)
ahead-heard s w T r (gets g gs) b = ahead-gets s T gs _
ahead-heard s w T r (wakes i is) b = ahead-wakes s is _
ahead-heard s w T r (runs q) b = ahead-taken s s.depth T r q (next_in q b) b
ahead-heard s w T r (acts a more i row q) b = ahead-acted s w s.depth T (is_rest r) (target a) more i row q b
ahead-heard s w T r (posts j more i row q) b = ahead-acts s.depth T more i row q b
ahead-heard s w T r (drops i q) b = ahead-dropped s s.depth (is_killed r) (has_reasons r) i q b
ahead-heard s w T r (retires held i q) b = refl
ahead-heard s w T r (returns i q) b = refl
ahead-heard s w T r (drawn i n) b = ahead-run s s.depth T r (is_killed r) i (by_draw n) b
ahead-heard s w T r (injects a more) b = ahead-injected s.depth (is_rest r) (target a) more b
ahead-heard s w T r (carries j more) b = ahead-events s.depth more b
ahead-heard s w T r over b = refl

if_draws : (o : Option Next) (n : ℕ) → 0 < draws_if o n → draws_if o n ≡ n
if_draws None n h = refl
if_draws (Some x) n h = absurd (omega arith)

-- where a caller may draw, as many draws may come as may still come
may_draws : (s : Script) (l : Left) (b : Book) → 0 < draws_now_in s l b → draws_now_in s l b ≡ draws_ahead s.depth l
may_draws s (gets g gs) b h = absurd (omega arith)
may_draws s (wakes j js) b h = absurd (omega arith)
may_draws s (runs q) b h = if_draws (next_in q b) (draws_in s.depth q) h
may_draws s (acts x more j row q) b h = absurd (omega arith)
may_draws s (posts x more j row q) b h = absurd (omega arith)
may_draws s (drops j q) b h = absurd (omega arith)
may_draws s (retires held j q) b h = absurd (omega arith)
may_draws s (returns j q) b h = absurd (omega arith)
may_draws s (drawn j n) b h = absurd (omega arith)
may_draws s (injects x more) b h = absurd (omega arith)
may_draws s (carries j more) b h = absurd (omega arith)
may_draws s over b h = absurd (omega arith)

-- a draw takes one of them
pub ahead-went : (s : Script) (w : CallerId) (T : ℕ) (c : Call) (r : Reply) (g : Stage) → MayCall s g c → draws_ahead s.depth (went s w T c r g).left + bit (is_draw c) ≡ draws_ahead s.depth g.left
ahead-went s w T c r g may =
    by_ask s w T g c r (λ d x. draws_ahead s.depth x.left + bit (is_draw d) ≡ draws_ahead s.depth g.left) may (λ e. rw (asked-draw s g.left g.book c e) (omega (arith, ahead-heard s w T r g.left g.book))) (λ i shared some e. omega (arith, may_draws s g.left g.book some))

drawn_one : (e : Entry) (ys : List Entry) (d : Bool) → is_draw e.call ≡ d → length (filter (λ x. is_draw x.call) (e ∷ ys)) ≡ bit d + length (filter (λ x. is_draw x.call) ys)
drawn_one e ys true h = rw h (omega arith)
drawn_one e ys false h = rw h (omega arith)

own_draws : (e : Entry) (es : List Entry) → draws_of e.caller.0 (e ∷ es) ≡ bit (is_draw e.call) + draws_of e.caller.0 es
own_draws e es =
    ap (λ ys. length (filter (λ x. is_draw x.call) ys)) (own_calls e es) ∙ drawn_one e (calls_of e.caller.0 es) (is_draw e.call) refl

other_draws : (k : ℕ) (e : Entry) (es : List Entry) → k ≢ e.caller.0 → draws_of k (e ∷ es) ≡ draws_of k es
other_draws k e es ne = ap (λ ys. length (filter (λ x. is_draw x.call) ys)) (other_calls k e es ne)

pub draws-going : (s : Script) (T : ℕ) (c : Callers) (es : List Entry) → Going s T c es → (k : ℕ) → draws_of k es + draws_ahead s.depth ((gone_on s T c es).at k).left ≡ draws_ahead s.depth (c.at k).left
draws-going s T c [] h k = omega arith
draws-going s T c (e ∷ es) h k =
    let later = draws-going s T (called s T c e) es h.1 k in
    let x = went s e.caller T e.call e.reply (c.at e.caller.0) in
    elim (cases_eq k e.caller.0) [
      | inl same ↦
          (let here : draws_ahead s.depth ((called s T c e).at k).left ≡ draws_ahead s.depth x.left = rw same (ap (λ (y : Stage). draws_ahead s.depth y.left) (set_same e.caller.0 x c.at)) in
          let count : draws_of k (e ∷ es) ≡ bit (is_draw e.call) + draws_of k es = subst (λ (v : ℕ). draws_of v (e ∷ es) ≡ bit (is_draw e.call) + draws_of v es) (sym same) (own_draws e es) in
          let mine : draws_ahead s.depth (c.at k).left ≡ draws_ahead s.depth (c.at e.caller.0).left = ap (λ v. draws_ahead s.depth (c.at v).left) same in
          omega (arith, later, here, count, mine, ahead-went s e.caller T e.call e.reply (c.at e.caller.0) h.0.asks))
      | inr ne ↦
          (let here : draws_ahead s.depth ((called s T c e).at k).left ≡ draws_ahead s.depth (c.at k).left = ap (λ (y : Stage). draws_ahead s.depth y.left) (set_other e.caller.0 k x c.at ne) in
          omega (arith, later, here, other_draws k e es ne))
    ]

idle_runs : (o : Option Next) (n : ℕ) → take_call o ≡ None → draws_if o n ≡ n
idle_runs None n e = refl
idle_runs (Some x) n e = cc

-- a worker that asks nothing may make all draws that are left
pub idle-draws : (s : Script) (l : Left) (b : Book) → asked_in s l b ≡ None → is_injectors l ≡ false → draws_now_in s l b ≡ draws_ahead s.depth l
idle-draws s (gets g gs) b e w = cc
idle-draws s (wakes i is) b e w = cc
idle-draws s (runs q) b e w = idle_runs (next_in q b) (draws_in s.depth q) e
idle-draws s (acts a more i row q) b e w = cc
idle-draws s (posts j more i row q) b e w = cc
idle-draws s (drops i q) b e w = cc
idle-draws s (retires held i q) b e w = cc
idle-draws s (returns i q) b e w = cc
idle-draws s (drawn i n) b e w = cc
idle-draws s (injects a more) b e w = cc
idle-draws s (carries j more) b e w = cc
idle-draws s over b e w = cc
