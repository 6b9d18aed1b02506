-- What a worker of a closed script asks names tasks of its own home.
use Rattle.std.proofs.Common.{◌≡◌, ℕ, Bool, true, false, ◌==◌, inl, inr, List, [], ◌∷◌, Option, None, Some, refl, ap, ◌∙◌, arith, eq-eqb, subst}
use Rattle.std.specs.List.{AllByRecursion}
use Rattle.queue_model.specs.Classes.{Next}
use Rattle.queue_model.specs.Sweep.{fired, swept}
use Rattle.step_tables.specs.declared.tables.Action.{Action}
use Rattle.step_tables.specs.declared.tables.Action.TheVariants.{Wake as Wakes, Kill as Kills}
use Rattle.step_tables.specs.declared.tables.Row.{Row}
use Rattle.step_tables.specs.declared.tables.Script.{Script}
use Rattle.task_machine.specs.declared.calls.Call.{Call}
use Rattle.task_machine.specs.declared.calls.Call.TheVariants as calls
use Rattle.task_machine.specs.declared.calls.Reply.{Reply}
use Rattle.task_machine.specs.Step.{bit}
use Rattle.run_model.proofs.Readings.{some_inj}
use Rattle.run_model.specs.Replies.{is_rest, is_killed, has_reasons, takes_in, members}
use Rattle.run_model.specs.Tables.{home_of, row_number, row_by, call_of, target}
use Rattle.run_model.specs.Book.{Book, queued, queued_all, taken_from}
use Rattle.turn_steps.specs.Left.{Onward, by_draw, next_in, spent_in, Left, gets, wakes, runs, acts, posts, drops, retires, returns, drawn, injects, carries, over, Stage, stage, take_call, asked, asked_in, at_wakes, at_gets, at_acts, waked, handed, acted, run_begun, taken, returned, dropped_live, dropped_as, heard_in, drew, MayCall, went}
use Rattle.turn_steps.specs.Has.{run_by}
use Rattle.turn_steps.proofs.Asked.{by_ask}
use Rattle.turn_steps.proofs.Books.{listed-taken}
use Rattle.standing.specs.Homes.{IsOf, MayRun, Homed}
use Rattle.closed_runs.proofs.Scripts.{Closed}

-- the actions name tasks of caller k
abbrev pub ActsOf : Script → ℕ → List Action → Type 0
ActsOf s k = AllByRecursion (λ (a : Action). IsOf s k (target a))

-- what is left of a part names tasks of caller k, beside those of which its home tells; the injector has nothing left
abbrev pub Inward : Script → ℕ → Left → Type 0
Inward s k (acts a more i row q) = ActsOf s k (a ∷ more)
Inward s k (posts j more i row q) = IsOf s k j × ActsOf s k more
Inward s k (retires held i q) = IsOf s k i
Inward s k (injects a more) = ⊥
Inward s k (carries j more) = ⊥
Inward s k l = Unit {0}

never_shared : (s : Script) (P : Type 0) → Closed s → (i : ℕ) → home_of s i ≡ s.workers → P
never_shared s P closed i shared = let lt = closed.homes i in absurd (omega arith)

-- what a worker may run is its own
own_run : (s : Script) (k i : ℕ) → Closed s → MayRun s k i → IsOf s k i
own_run s k i closed may = elim may [ inl own ↦ own | inr shared ↦ never_shared s (IsOf s k i) closed i shared ]

acts_moved : (s : Script) (k i : ℕ) (as_ : List Action) → IsOf s k i → AllByRecursion (λ (a : Action). home_of s (target a) ≡ home_of s i) as_ → ActsOf s k as_
acts_moved s k i [] own h = tt
acts_moved s k i (a ∷ as_) own h = (h.0 ∙ own, acts_moved s k i as_ own h.1)

-- ---- the stages

inward-wakes : (s : Script) (k : ℕ) (is : List ℕ) (b : Book) → Inward s k (at_wakes s is b).left
inward-wakes s k [] b = tt
inward-wakes s k (i ∷ is) b = tt

pub inward-gets : (s : Script) (k T : ℕ) (gs : List ℕ) (b : Book) → Inward s k (at_gets s T gs b).left
inward-gets s k T [] b = inward-wakes s k (fired T b.wait) (record b { wait = swept T b.wait })
inward-gets s k T (g ∷ gs) b = tt

inward-acts : (s : Script) (k T : ℕ) (more : List Action) (i : ℕ) (row : Row) (q : Onward) (b : Book) → ActsOf s k more → Inward s k (at_acts T more i row q b).left
inward-acts s k T [] i row q b h = tt
inward-acts s k T (a ∷ more) i row q b h = h

inward-handed : (s : Script) (k T : ℕ) (own : Bool) (j : ℕ) (more : List Action) (i : ℕ) (row : Row) (q : Onward) (b : Book) → IsOf s k j → ActsOf s k more → Inward s k (handed s T own j more i row q b).left
inward-handed s k T true j more i row q b here h = inward-acts s k T more i row q (queued s j b) h
inward-handed s k T false j more i row q b here h = (here, h)

inward-acted : (s : Script) (k T : ℕ) (rest : Bool) (j : ℕ) (more : List Action) (i : ℕ) (row : Row) (q : Onward) (b : Book) → IsOf s k j → ActsOf s k more → Inward s k (acted s (record { 0 = k }) T rest j more i row q b).left
inward-acted s k T true j more i row q b here h = inward-handed s k T (home_of s j == k) j more i row q b here h
inward-acted s k T false j more i row q b here h = inward-acts s k T more i row q b h

inward-run : (s : Script) (k T : ℕ) (r : Reply) (killed : Bool) (i : ℕ) (q : Onward) (b : Book) → Closed s → IsOf s k i → Inward s k (run_begun s T r killed i q b).left
inward-run s k T r true i q b closed own = own
inward-run s k T r false i q b closed own =
    let row = row_by s i (takes_in r) in
    inward-acts s k T row.actions i row q b (acts_moved s k i row.actions own (closed.rows i (row_number s i (takes_in r))))

-- what comes next is the worker's own
own_next : (s : Script) (k : ℕ) (q : Onward) (b : Book) (x : Next) → Homed s k (stage (runs q) b) → next_in q b ≡ Some x → IsOf s k x.task
own_next s k q b x h e =
    let one : bit (x.task == x.task) ≡ 1 = ap bit (eq-eqb x.task x.task refl) in
    h.lists x.task (omega (arith, listed-taken x.task b q x e))

inward-taken : (s : Script) (k T : ℕ) (r : Reply) (q : Onward) (o : Option Next) (b : Book) → next_in q b ≡ o → Closed s → Homed s k (stage (runs q) b) → Inward s k (taken s T r q o b).left
inward-taken s k T r q None b e closed h = tt
inward-taken s k T r q (Some x) b e closed h =
    inward-run s k T r (is_killed r) x.task (spent_in x.class q) (taken_from x.class b) closed (own_next s k q b x h e)

inward-returned : (s : Script) (k : ℕ) (shared : Bool) (i : ℕ) (q : Onward) (b : Book) → Inward s k (returned s shared i q b).left
inward-returned s k true i q b = tt
inward-returned s k false i q b = tt

inward-live : (s : Script) (k : ℕ) (busy : Bool) (i : ℕ) (q : Onward) (b : Book) → Inward s k (dropped_live s busy i q b).left
inward-live s k true i q b = inward-returned s k (home_of s i == s.workers) i q b
inward-live s k false i q b = tt

inward-dropped : (s : Script) (k : ℕ) (killed busy : Bool) (i : ℕ) (q : Onward) (b : Book) → IsOf s k i → Inward s k (dropped_as s killed busy i q b).left
inward-dropped s k true busy i q b own = own
inward-dropped s k false busy i q b own = inward-live s k busy i q b

-- the task that a stage runs is the worker's own
own_one : (s : Script) (k i : ℕ) (l : Left) (b : Book) → Closed s → run_by i l ≡ bit (i == i) → Homed s k (stage l b) → IsOf s k i
own_one s k i l b closed e h =
    let one : bit (i == i) ≡ 1 = ap bit (eq-eqb i i refl) in
    own_run s k i closed (h.runs i (omega arith))

-- whatever a worker hears
inward-heard : (s : Script) (k T : ℕ) (r : Reply) (l : Left) (b : Book) → Closed s → Homed s k (stage l b) → Inward s k l → Inward s k (heard_in s (record { 0 = k }) T r l b).left
inward-heard s k T r (gets g gs) b closed h in_ = inward-gets s k T gs (queued_all s (members g r) b)
inward-heard s k T r (wakes i is) b closed h in_ = inward-wakes s k is (waked s (is_rest r) i b)
inward-heard s k T r (runs q) b closed h in_ = inward-taken s k T r q (next_in q b) b refl closed h
inward-heard s k T r (acts a more i row q) b closed h in_ = inward-acted s k T (is_rest r) (target a) more i row q b in_.0 in_.1
inward-heard s k T r (posts j more i row q) b closed h in_ = inward-acts s k T more i row q b in_.1
inward-heard s k T r (drops i q) b closed h in_ =
    inward-dropped s k (is_killed r) (has_reasons r) i q b (own_one s k i (drops i q) b closed refl h)
inward-heard s k T r (retires held i q) b closed h in_ = tt
inward-heard s k T r (returns i q) b closed h in_ = tt
inward-heard s k T r (drawn i n) b closed h in_ = never_shared s (Inward s k (run_begun s T r (is_killed r) i (by_draw n) b).left) closed i h.left
inward-heard s k T r (injects a more) b closed h in_ = absurd in_
inward-heard s k T r (carries j more) b closed h in_ = absurd in_
inward-heard s k T r over b closed h in_ = tt

pub inward-went : (s : Script) (k T : ℕ) (g : Stage) (c : Call) (r : Reply) → Closed s → MayCall s g c → Homed s k g → Inward s k g.left → Inward s k (went s (record { 0 = k }) T c r g).left
inward-went s k T g c r closed may h in_ =
    by_ask s (record { 0 = k }) T g c r (λ d (x : Stage). Inward s k x.left) may (λ e. inward-heard s k T r g.left g.book closed h in_) (λ i shared some e. never_shared s (Inward s k (drew s i g).left) closed i shared)

-- ---- what is asked

-- a call names a task of caller k, or gets what is in its box
abbrev pub NamesOwn : Script → ℕ → Call → Type 0
NamesOwn s k (calls.Wake i f) = IsOf s k i.0
NamesOwn s k (calls.Kill i) = IsOf s k i.0
NamesOwn s k (calls.Post i b) = IsOf s k i.0
NamesOwn s k (calls.Get g) = Unit {0}
NamesOwn s k (calls.Draw i) = IsOf s k i.0
NamesOwn s k (calls.Take i) = IsOf s k i.0
NamesOwn s k (calls.DropRun i) = IsOf s k i.0
NamesOwn s k (calls.Retire i) = IsOf s k i.0

of_call : (s : Script) (k : ℕ) (d c : Call) → Some d ≡ Some c → NamesOwn s k d → NamesOwn s k c
of_call s k d c e h = subst (NamesOwn s k) (some_inj d c e) h

of_action : (s : Script) (k : ℕ) (a : Action) → IsOf s k (target a) → NamesOwn s k (call_of a)
of_action s k (Wakes i f) h = h
of_action s k (Kills i) h = h

of_next : (s : Script) (k : ℕ) (q : Onward) (b : Book) (o : Option Next) (c : Call) → Homed s k (stage (runs q) b) → next_in q b ≡ o → take_call o ≡ Some c → NamesOwn s k c
of_next s k q b None c h e asks = cc
of_next s k q b (Some x) c h e asks = of_call s k (calls.Take (record { 0 = x.task })) c asks (own_next s k q b x h e)

asked-own : (s : Script) (k : ℕ) (l : Left) (b : Book) (c : Call) → Closed s → Homed s k (stage l b) → Inward s k l → asked_in s l b ≡ Some c → NamesOwn s k c
asked-own s k (gets g gs) b c closed h in_ e = of_call s k _ c e tt
asked-own s k (wakes j js) b c closed h in_ e = of_call s k _ c e h.left.0
asked-own s k (runs q) b c closed h in_ e = of_next s k q b (next_in q b) c h refl e
asked-own s k (acts a more i row q) b c closed h in_ e = of_call s k (call_of a) c e (of_action s k a in_.0)
asked-own s k (posts j more i row q) b c closed h in_ e = of_call s k _ c e in_.0
asked-own s k (drops i q) b c closed h in_ e = of_call s k _ c e (own_one s k i (drops i q) b closed refl h)
asked-own s k (retires held i q) b c closed h in_ e = of_call s k _ c e in_
asked-own s k (returns i q) b c closed h in_ e = never_shared s (NamesOwn s k c) closed i h.left
asked-own s k (drawn i n) b c closed h in_ e = never_shared s (NamesOwn s k c) closed i h.left
asked-own s k (injects a more) b c closed h in_ e = absurd in_
asked-own s k (carries j more) b c closed h in_ e = absurd in_
asked-own s k over b c closed h in_ e = cc

-- nobody draws, so a next call is the one that is asked
pub asks : (s : Script) (g : Stage) (c : Call) → Closed s → MayCall s g c → asked s g ≡ Some c
asks s g c closed may = elim may [ inl e ↦ e | inr d ↦ never_shared s (asked s g ≡ Some c) closed d.task d.shared ]

pub names-own : (s : Script) (k : ℕ) (g : Stage) (c : Call) → Closed s → Homed s k g → Inward s k g.left → MayCall s g c → NamesOwn s k c
names-own s k g c closed h in_ may = asked-own s k g.left g.book c closed h in_ (asks s g c closed may)
