-- A worker within its turn, and what an entry makes of it.
use Rattle.std.proofs.Common.{◌≡◌, ◌≢◌, ℕ, ◌+◌, ◌*◌, ◌^◌, ◌-◌, ◌<◌, ◌⊎◌, inl, inr, Bool, true, false, ◌||◌, ◌==◌, List, [], ◌∷◌, ◌++◌, length, get_or, Option, Some, None, refl, sym, ap, ◌∙◌, arith, subst, eq-eqb, eqb-true}
use Rattle.std.proofs.lemmas.Bool.{cases_Bool}
use Rattle.sched_base.specs.declared.names.CallerId.{CallerId}
use Rattle.sched_base.specs.declared.names.TaskId.{TaskId}
use Rattle.queue_model.specs.Classes.{Next}
use Rattle.step_tables.specs.declared.tables.Action.{Action}
use Rattle.step_tables.specs.declared.tables.Action.TheVariants.{Wake as Wakes, Kill as Kills}
use Rattle.step_tables.specs.declared.tables.Script.{Script}
use Rattle.task_machine.specs.declared.task.Place.{Place}
use Rattle.task_machine.specs.declared.task.Place.TheVariants as places
use Rattle.task_machine.specs.declared.task.TaskState.{TaskState}
use Rattle.task_machine.specs.declared.calls.Call.{Call}
use Rattle.task_machine.specs.declared.calls.Call.TheVariants as calls
use Rattle.task_machine.specs.declared.calls.Reply.{Reply}
use Rattle.task_machine.specs.declared.calls.Reply.TheVariants as replies
use Rattle.task_machine.specs.declared.calls.Entry.{Entry}
use Rattle.task_machine.specs.Since.{is_take}
use Rattle.task_machine.specs.Task.{is_gone, is_boxed, in_hands, in_draw, seen_at}
use Rattle.task_machine.specs.Step.{State, task_at, subject, fits, bit, HasRoom, Allowed}
use Rattle.task_machine.specs.History.{stepped, calls_of}
use Rattle.run_model.proofs.Readings.{some_inj}
use Rattle.run_model.specs.Standing.{is_draw}
use Rattle.run_model.specs.Replies.{takes_in}
use Rattle.run_model.specs.Tables.{home_of, row_number, call_of}
use Rattle.run_model.specs.Book.{Book}
use Rattle.turn_steps.specs.Left.{Onward, next_in, Left, gets, wakes, runs, acts, posts, drops, retires, returns, drawn, injects, carries, over, Stage, take_call, asked, asked_in, heard, draws_now, drew, MayCall}
use Rattle.turn_steps.specs.Times.{listed}
use Rattle.turn_steps.specs.Has.{caller, drawn_by, CanGive}
use Rattle.turn_steps.proofs.Asked.{asked-draw, went-asked}
use Rattle.turn_steps.proofs.Books.{listed-taken}
use Rattle.standing.specs.Going.{IsNext}
use Rattle.standing.specs.Between.{round_takes}
use Rattle.standing.specs.Homes.{Homed}
use Rattle.standing.specs.Laws.{takes_by}
use Rattle.standing.proofs.Effects.{by_step}
use Rattle.standing.proofs.Hears.{can_give-allowed}
use Rattle.standing.proofs.Merge.{own_calls, other_calls}
use Rattle.standing.proofs.Steps.{bit_set, boxed-in}
use Rattle.standing.proofs.TakesTold.{step-takes}
use Rattle.thread_loop.specs.Workers.{number_of, tick_of, turns_of, takes_of, stage_of, book_at_tick, Fits, takes_after, TellsTakes}
use Rattle.thread_loop.specs.declared.worker.Worker.{Worker}
use Rattle.thread_loop.proofs.Turning.{takes-of_after, undrawn-heard}
use Rattle.run_replay.specs.Floors.{after_all, Making, Made, Turning, Works}
use Rattle.thread_loop.specs.Idle.{Opened}
use Rattle.run_replay.specs.declared.floor.Floor.{Floor}
use Rattle.run_replay.proofs.Making.{keeps-making, homes-making, room-making, tasks-making, allowed-making, making-next, stage-next, others-next, own-takes}

-- ---- what is asked, and what is drawn

action_take : (i : ℕ) (a : Action) → is_take i (call_of a) ≡ false
action_take i (Wakes j f) = refl
action_take i (Kills j) = refl

-- a task is taken that is listed or was drawn
abbrev TakenFrom : ℕ → Left → Book → Call → Type 0
TakenFrom i l b c = is_take i c ≡ true → (0 < listed i b) ⊎ (0 < drawn_by i l)

none_taken : (i : ℕ) (l : Left) (b : Book) (d c : Call) → is_take i d ≡ false → Some d ≡ Some c → TakenFrom i l b c
none_taken i l b d c none e = λ h. absurd (let same : is_take i d ≡ is_take i c = ap (is_take i) (some_inj d c e) in cc)

next_taken : (i : ℕ) (q : Onward) (b : Book) (o : Option Next) (c : Call) → next_in q b ≡ o → take_call o ≡ Some c → TakenFrom i (runs q) b c
next_taken i q b None c e asks = cc
next_taken i q b (Some x) c e asks = λ take.
    let call : calls.Take (record { 0 = x.task }) ≡ c = some_inj (calls.Take (record { 0 = x.task })) c asks in
    let is : (i == x.task) ≡ true = ap (is_take i) call ∙ take in
    let one : bit (i == x.task) ≡ 1 = ap bit is in
    inl (omega (arith, listed-taken i b q x e))

asked-taken : (s : Script) (i : ℕ) (l : Left) (b : Book) (c : Call) → asked_in s l b ≡ Some c → TakenFrom i l b c
asked-taken s i (gets g gs) b c e = none_taken i (gets g gs) b _ c refl e
asked-taken s i (wakes j js) b c e = none_taken i (wakes j js) b _ c refl e
asked-taken s i (runs q) b c e = next_taken i q b (next_in q b) c refl e
asked-taken s i (acts a more j row q) b c e = none_taken i (acts a more j row q) b (call_of a) c (action_take i a) e
asked-taken s i (posts x more j row q) b c e = none_taken i (posts x more j row q) b _ c refl e
asked-taken s i (drops j q) b c e = none_taken i (drops j q) b _ c refl e
asked-taken s i (retires held j q) b c e = none_taken i (retires held j q) b _ c refl e
asked-taken s i (returns j q) b c e = none_taken i (returns j q) b _ c refl e
asked-taken s i (drawn j n) b c e = λ take.
    let call : calls.Take (record { 0 = j }) ≡ c = some_inj (calls.Take (record { 0 = j })) c e in
    let is : (i == j) ≡ true = ap (is_take i) call ∙ take in
    let one : bit (i == j) ≡ 1 = ap bit is in
    inr (omega arith)
asked-taken s i (injects a more) b c e = none_taken i (injects a more) b (call_of a) c (action_take i a) e
asked-taken s i (carries j more) b c e = none_taken i (carries j more) b _ c refl e
asked-taken s i over b c e = cc

-- ---- takes

live_taken : (k : CallerId) (p : Place) → (in_hands k p || in_draw k p) ≡ true → is_gone p ≡ false
live_taken k places.Rest h = refl
live_taken k (places.Hands j) h = refl
live_taken k (places.Boxed b) h = refl
live_taken k (places.Drawn j) h = refl
live_taken k (places.Runs j) h = refl
live_taken k places.Gone h = cc

pub seen-takes : (p : Place) (t : TaskState) → is_gone p ≡ false → takes_in (replies.Task (seen_at p t)) ≡ t.takes
seen-takes places.Rest t h = refl
seen-takes (places.Hands j) t h = refl
seen-takes (places.Boxed b) t h = refl
seen-takes (places.Drawn j) t h = refl
seen-takes (places.Runs j) t h = refl
seen-takes places.Gone t h = cc

take_one : (i : ℕ) (e : Entry) (b : Bool) → is_take i e.call ≡ b → takes_by i (e ∷ []) ≡ bit b
take_one i e true h = rw h refl
take_one i e false h = rw h refl

-- ---- an entry of another caller

take_fit : (st : State) (k : CallerId) (c : Call) (i : ℕ) → is_take i c ≡ true → fits st k c ≡ true → (in_hands k (task_at st i).place || in_draw k (task_at st i).place) ≡ true
take_fit st k (calls.Wake j f) i h fit = cc
take_fit st k (calls.Kill j) i h fit = cc
take_fit st k (calls.Post j b) i h fit = cc
take_fit st k (calls.Get n) i h fit = cc
take_fit st k (calls.Draw j) i h fit = cc
take_fit st k (calls.Take j) i h fit =
    let is : j.0 ≡ i = sym (eqb-true i j.0 h) in
    subst (λ (x : ℕ). (in_hands k (task_at st x).place || in_draw k (task_at st x).place) ≡ true) is fit
take_fit st k (calls.DropRun j) i h fit = cc
take_fit st k (calls.Retire j) i h fit = cc

one_draws : (k j : CallerId) (p : Place) → in_draw k p ≡ true → (in_hands j p || in_draw j p) ≡ true → k.0 ≡ j.0
one_draws k j places.Rest h g = cc
one_draws k j (places.Hands d) h g = cc
one_draws k j (places.Boxed b) h g = cc
one_draws k j (places.Drawn d) h g = eqb-true k.0 d.0 h ∙ sym (eqb-true j.0 d.0 g)
one_draws k j (places.Runs d) h g = cc
one_draws k j places.Gone h g = cc

-- a worker is still within its turn after an entry of another caller
pub turning-other : (s : Script) (g : Opened) (es : List Entry) (e : Entry) (old new : Floor) (w : Worker) → Making s g es old → IsNext s (after_all s g es) e → Made s e old new → number_of w ≢ e.caller.0 → Turning s g es old.machine w → Turning s g (es ++ e ∷ []) new.machine w
turning-other s g es e old new w h next n ne t = record {
  fits = t.fits;
  among = t.among;
  tick = t.tick;
  turns = t.turns;
  stage = t.stage ∙ sym (others-next s g es e (number_of w) ne);
  book = t.book;
  takes = λ i mine live. elim mine [
    | inl home ↦
        (let among = t.among in
        let o = own-takes s g es e old new i h next n (omega arith) live in
        let none : takes_by i (calls_of (home_of s i) (e ∷ [])) ≡ 0 = ap (takes_by i) (other_calls (home_of s i) e [] (λ same. ne (sym home ∙ same))) in
        t.takes i (inl home) o.0 ∙ (let more = o.1 in omega arith))
    | inr is_drawn ↦
        (let k = number_of w in
        let among = t.among in
        let a = allowed-making s g es old e h next in
        let owns = (keeps-making s g es old h).owns k (omega arith) in
        let here : bit (in_draw (caller k) (task_at old.machine i).place) ≡ drawn_by i (stage_of s w).left = ap (λ (st : State). bit (in_draw (caller k) (task_at st i).place)) h.state ∙ owns.draws i ∙ ap (λ (x : Stage). drawn_by i x.left) (sym t.stage) in
        let has_it : in_draw (caller k) (task_at old.machine i).place ≡ true = bit_set (in_draw (caller k) (task_at old.machine i).place) (omega arith) in
        let step = step-takes old.machine e i a (ap (λ (st : State). is_gone (task_at st i).place) (sym n.state) ∙ live) in
        elim (cases_Bool (is_take i e.call)) [
          | inl holds ↦ absurd (ne (one_draws (caller k) e.caller (task_at old.machine i).place has_it (take_fit old.machine e.caller e.call i holds a.fit)))
          | inr fails ↦
              (let none : bit (is_take i e.call) ≡ 0 = ap bit fails in
              let same : (task_at new.machine i).takes ≡ (task_at (stepped old.machine e) i).takes = ap (λ (st : State). (task_at st i).takes) n.state in
              let more = step.1 in
              t.takes i (inr is_drawn) step.0 ∙ omega arith)
        ])
  ];
}

-- ---- an entry of the worker itself

-- the takes of its own tasks
mine-takes : (s : Script) (g : Opened) (es : List Entry) (e : Entry) (old new : Floor) (i : ℕ) → Making s g es old → IsNext s (after_all s g es) e → Made s e old new → e.caller.0 < s.workers → home_of s i ≡ e.caller.0 → is_gone (task_at new.machine i).place ≡ false → (is_gone (task_at old.machine i).place ≡ false) × ((task_at new.machine i).takes ≡ (task_at old.machine i).takes + bit (is_take i e.call))
mine-takes s g es e old new i h next n lt home live =
    let t = own-takes s g es e old new i h next n (omega arith) live in
    let own : takes_by i (calls_of (home_of s i) (e ∷ [])) ≡ bit (is_take i e.call) = ap (λ m. takes_by i (calls_of m (e ∷ []))) home ∙ ap (takes_by i) (own_calls e []) ∙ take_one i e (is_take i e.call) refl in
    (t.0, omega (arith, t.1, own))

-- a call that is no draw was asked
pub asked-next : (s : Script) (x : Stage) (c : Call) → is_draw c ≡ false → MayCall s x c → asked s x ≡ Some c
asked-next s x c none (inl asks) = asks
asked-next s x c none (inr draw) = absurd (let holds : is_draw c ≡ true = ap is_draw draw.call in cc)

-- and a draw may be made
pub draw-next : (s : Script) (x : Stage) (j : TaskId) → MayCall s x (calls.Draw j) → (home_of s j.0 ≡ s.workers) × (0 < draws_now s x)
draw-next s x j (inl asks) = absurd (let fails : is_draw (calls.Draw j) ≡ false = asked-draw s x.left x.book (calls.Draw j) asks in cc)
draw-next s x j (inr draw) =
    let same : j.0 ≡ draw.task = draw_inj j (record { 0 = draw.task }) draw.call in
    (ap (home_of s) same ∙ draw.shared, draw.some)
  where
    draw_inj : (i j : TaskId) → calls.Draw i ≡ calls.Draw j → i.0 ≡ j.0
    draw_inj i j h = ap subject h

-- a worker is asked for the entry's call
pub stage-asked : (s : Script) (g : Opened) (es : List Entry) (old : Floor) (w : Worker) (e : Entry) → Works s g es old w → IsNext s (after_all s g es) e → number_of w ≡ e.caller.0 → is_draw e.call ≡ false → asked s (stage_of s w) ≡ Some e.call
stage-asked s g es old w e h next same none =
    let here : stage_of s w ≡ (after_all s g es).at e.caller.0 = h.turning.stage ∙ ap (after_all s g es).at same in
    ap (asked s) here ∙ asked-next s ((after_all s g es).at e.caller.0) e.call none next.asks

pub hears-next : (s : Script) (g : Opened) (es : List Entry) (old : Floor) (w : Worker) (e : Entry) → Works s g es old w → IsNext s (after_all s g es) e → number_of w ≡ e.caller.0 → CanGive s (stage_of s w) e.call e.reply
hears-next s g es old w e h next same =
    let here : stage_of s w ≡ (after_all s g es).at e.caller.0 = h.turning.stage ∙ ap (after_all s g es).at same in
    subst (λ (x : Stage). CanGive s x e.call e.reply) (sym here) (can_give-allowed s (g.round * round_takes s + round_takes s) (after_all s g es) e (keeps-making s g es old h.making) next)

tells_take : (s : Script) (g : Opened) (es : List Entry) (old : Floor) (w : Worker) (k : CallerId) (j : TaskId) (r : Reply) → Works s g es old w → Allowed old.machine (record { caller = k; call = calls.Take j; reply = r }) → number_of w ≡ k.0 → asked s (stage_of s w) ≡ Some (calls.Take j) → TellsTakes w (calls.Take j) r
tells_take s g es old w k j r h a same asks =
    let t = task_at old.machine j.0 in
    let live = live_taken k t.place a.fit in
    let seen : takes_in r ≡ t.takes = ap takes_in a.reply ∙ seen-takes t.place t live in
    let lt = h.turning.among in
    let homed : Homed s (number_of w) (stage_of s w) = subst (λ (x : Stage). Homed s (number_of w) x) (sym h.turning.stage) ((homes-making s g es old h.making).homed (number_of w) (omega arith)) in
    let from = asked-taken s j.0 (stage_of s w).left (stage_of s w).book (calls.Take j) asks (eq-eqb j.0 j.0 refl) in
    let knows : takes_of w j.0 ≡ t.takes = h.turning.takes j.0 (elim from [ inl in_list ↦ inl (homed.lists j.0 in_list) | inr is_drawn ↦ inr is_drawn ]) live in
    let room : HasRoom t = room-making s g es old h.making j.0 in
    (seen ∙ sym knows, omega arith)

tells_by : (s : Script) (g : Opened) (es : List Entry) (old : Floor) (w : Worker) (k : CallerId) (c : Call) (r : Reply) → Works s g es old w → Allowed old.machine (record { caller = k; call = c; reply = r }) → number_of w ≡ k.0 → asked s (stage_of s w) ≡ Some c → TellsTakes w c r
tells_by s g es old w k (calls.Wake j f) r h a same asks = tt
tells_by s g es old w k (calls.Kill j) r h a same asks = tt
tells_by s g es old w k (calls.Post j b) r h a same asks = tt
tells_by s g es old w k (calls.Get n) r h a same asks = tt
tells_by s g es old w k (calls.Draw j) r h a same asks = tt
tells_by s g es old w k (calls.Take j) r h a same asks = tells_take s g es old w k j r h a same asks
tells_by s g es old w k (calls.DropRun j) r h a same asks = tt
tells_by s g es old w k (calls.Retire j) r h a same asks = tt

pub tells-next : (s : Script) (g : Opened) (es : List Entry) (old : Floor) (w : Worker) (e : Entry) → Works s g es old w → IsNext s (after_all s g es) e → number_of w ≡ e.caller.0 → is_draw e.call ≡ false → TellsTakes w e.call e.reply
tells-next s g es old w e h next same none =
    tells_by s g es old w e.caller e.call e.reply h (allowed-making s g es old e h.making next) same (stage-asked s g es old w e h next same none)

-- what a worker made of a reply to its next call
pub record Heard (s : Script) (e : Entry) (old new : Worker) : Type 0 where
  pub stage : stage_of s new ≡ heard s (caller (number_of old)) (tick_of old) e.reply (stage_of s old)
  pub fits : Fits s new
  pub number : number_of new ≡ number_of old
  pub tick : tick_of new ≡ tick_of old
  pub turns : turns_of new ≡ turns_of old
  pub takes : (i : ℕ) → takes_of new i ≡ takes_after e.call i (takes_of old i)
  pub book : asked s (stage_of s new) ≡ None → book_at_tick (tick_of new) new ≡ (stage_of s new).book

pub turning-heard : (s : Script) (g : Opened) (es : List Entry) (e : Entry) (old new : Floor) (w v : Worker) → Works s g es old w → IsNext s (after_all s g es) e → Made s e old new → number_of w ≡ e.caller.0 → is_draw e.call ≡ false → Heard s e w v → Turning s g (es ++ e ∷ []) new.machine v
turning-heard s g es e old new w v h next n same none heard_it =
    let t = h.turning in
    let asks = stage-asked s g es old w e h next same none in
    let number : number_of v ≡ e.caller.0 = heard_it.number ∙ same in
    let here : stage_of s w ≡ (after_all s g es).at e.caller.0 = t.stage ∙ ap (after_all s g es).at same in
    record {
      fits = heard_it.fits;
      among = subst (λ (m : ℕ). m < s.workers) (sym heard_it.number) t.among;
      tick = heard_it.tick ∙ t.tick;
      turns = heard_it.turns ∙ t.turns;
      stage = heard_it.stage
          ∙ ap (λ k. heard s (caller k) (tick_of w) e.reply (stage_of s w)) same
          ∙ ap (λ T. heard s e.caller T e.reply (stage_of s w)) t.tick
          ∙ ap (heard s e.caller g.tick e.reply) here
          ∙ sym (went-asked s e.caller g.tick e.call e.reply ((after_all s g es).at e.caller.0) (ap (asked s) (sym here) ∙ asks))
          ∙ sym (stage-next s g es e)
          ∙ ap (after_all s g (es ++ e ∷ [])).at (sym number);
      book = heard_it.book;
      takes = λ i mine live. elim mine [
        | inl home ↦
            (let m = mine-takes s g es e old new i h.making next n (subst (λ (m : ℕ). m < s.workers) same t.among) (home ∙ number) live in
            let before = t.takes i (inl (home ∙ heard_it.number)) m.0 in
            heard_it.takes i ∙ takes-of_after e.call i (takes_of w i) ∙ ap (λ x. x + bit (is_take i e.call)) before ∙ sym m.1)
        | inr is_drawn ↦
            (let none_drawn : drawn_by i (stage_of s v).left ≡ 0 = ap (λ (x : Stage). drawn_by i x.left) heard_it.stage ∙ undrawn-heard s (caller (number_of w)) (tick_of w) e.reply i (stage_of s w).left (stage_of s w).book in
            absurd (omega arith))
      ];
    }

-- ---- a draw

-- what a draw needs
pub record CanDraw (s : Script) (i : ℕ) (old : Floor) (w : Worker) : Type 0 where
  pub may_draw : 0 < draws_now s (stage_of s w)
  pub shared : home_of s i ≡ s.workers
  pub exists : i < length s.tasks
  pub boxed : is_boxed s.workers (task_at old.machine i).place ≡ true

abbrev pub drawing : CallerId → TaskId → Reply → Entry
drawing k i r = record { caller = k; call = calls.Draw i; reply = r }

pub can-draw : (s : Script) (g : Opened) (es : List Entry) (old : Floor) (w : Worker) (k : CallerId) (i : TaskId) (r : Reply) → Works s g es old w → IsNext s (after_all s g es) (drawing k i r) → number_of w ≡ k.0 → CanDraw s i.0 old w
can-draw s g es old w k i r h next same =
    let here : stage_of s w ≡ (after_all s g es).at k.0 = h.turning.stage ∙ ap (after_all s g es).at same in
    let a = allowed-making s g es old (drawing k i r) h.making next in
    let d = draw-next s ((after_all s g es).at k.0) i next.asks in
    let workers = ap (λ (st : State). st.workers) h.making.state ∙ (keeps-making s g es old h.making).workers in
    let boxed : is_boxed s.workers (task_at old.machine i.0).place ≡ true = subst (λ (b : ℕ). is_boxed b (task_at old.machine i.0).place ≡ true) workers a.fit in
    record {
      may_draw = subst (λ (x : Stage). 0 < draws_now s x) (sym here) d.1;
      shared = d.0;
      exists = subst (λ (m : ℕ). i.0 < m) (tasks-making s g es old h.making) (boxed-in old.machine s.workers i.0 boxed);
      boxed = boxed;
    }

-- its task is live with the same takes and row
pub record Drawn (s : Script) (i : ℕ) (old new : Floor) : Type 0 where
  pub live : is_gone (task_at new.machine i).place ≡ false
  pub takes : (task_at new.machine i).takes ≡ (task_at old.machine i).takes
  pub few : (task_at new.machine i).takes < 2 ^ 48 - 1

-- what a worker made of a draw
pub record Drew (s : Script) (i taken : ℕ) (old new : Worker) : Type 0 where
  pub stage : stage_of s new ≡ drew s i (stage_of s old)
  pub fits : Fits s new
  pub number : number_of new ≡ number_of old
  pub tick : tick_of new ≡ tick_of old
  pub turns : turns_of new ≡ turns_of old
  pub told : takes_of new i ≡ taken
  pub takes : (j : ℕ) → home_of s j ≡ number_of old → takes_of new j ≡ takes_of old j

pub turning-drew : (s : Script) (g : Opened) (es : List Entry) (k : CallerId) (i : TaskId) (r : Reply) (old new : Floor) (w v : Worker) (n : ℕ) → Works s g es old w → IsNext s (after_all s g es) (drawing k i r) → Made s (drawing k i r) old new → number_of w ≡ k.0 → n ≡ (task_at new.machine i.0).takes → Drew s i.0 n w v → Turning s g (es ++ drawing k i r ∷ []) new.machine v
turning-drew s g es k i r old new w v n h next made same is d =
    let e = drawing k i r in
    let t = h.turning in
    let number : number_of v ≡ k.0 = d.number ∙ same in
    let here : stage_of s w ≡ (after_all s g es).at k.0 = t.stage ∙ ap (after_all s g es).at same in
    record {
      fits = d.fits;
      among = subst (λ (m : ℕ). m < s.workers) (sym d.number) t.among;
      tick = d.tick ∙ t.tick;
      turns = d.turns ∙ t.turns;
      stage = d.stage ∙ ap (drew s i.0) here ∙ sym (stage-next s g es e) ∙ ap (after_all s g (es ++ e ∷ [])).at (sym number);
      book = λ none. absurd (let fails : asked s (drew s i.0 (stage_of s w)) ≡ None = ap (asked s) (sym d.stage) ∙ none in cc);
      takes = λ j mine live. elim mine [
        | inl home ↦
            (let m = mine-takes s g es e old new j h.making next made (subst (λ (m : ℕ). m < s.workers) same t.among) (home ∙ number) live in
            let before = t.takes j (inl (home ∙ d.number)) m.0 in
            d.takes j (home ∙ d.number) ∙ before ∙ (let now = m.1 in omega arith))
        | inr is_drawn ↦
            (let this : drawn_by j (stage_of s v).left ≡ bit (j == i.0) = ap (λ (x : Stage). drawn_by j x.left) d.stage in
            let it : j ≡ i.0 = eqb-true j i.0 (bit_set (j == i.0) (omega arith)) in
            ap (takes_of v) it ∙ d.told ∙ is ∙ ap (λ x. (task_at new.machine x).takes) (sym it))
      ];
    }

-- ---- the same of any entry

-- a call that is no draw
pub undrawn-call : (x : Call) → ((j : TaskId) → x ≡ calls.Draw j → ⊥) → is_draw x ≡ false
undrawn-call (calls.Wake j f) other = refl
undrawn-call (calls.Kill j) other = refl
undrawn-call (calls.Post j b) other = refl
undrawn-call (calls.Get n) other = refl
undrawn-call (calls.Draw j) other = absurd (other j refl)
undrawn-call (calls.Take j) other = refl
undrawn-call (calls.DropRun j) other = refl
undrawn-call (calls.Retire j) other = refl

-- what a worker needs to go on with a draw that was made
pub record Drawable (s : Script) (i : ℕ) (new : Floor) (w : Worker) : Type 0 where
  pub may_draw : 0 < draws_now s (stage_of s w)
  pub shared : home_of s i ≡ s.workers
  pub exists : i < length s.tasks
  pub there : i < length new.machine.tasks
  pub live : is_gone (task_at new.machine i).place ≡ false
  pub few : (task_at new.machine i).takes < 2 ^ 48 - 1
  pub row : get_or new.rows.items i 0 ≡ row_number s i (task_at new.machine i).takes

drawable : (s : Script) (g : Opened) (es : List Entry) (k : CallerId) (i : TaskId) (r : Reply) (old new : Floor) (w : Worker) → Works s g es old w → IsNext s (after_all s g es) (drawing k i r) → Made s (drawing k i r) old new → number_of w ≡ k.0 → Drawable s i.0 new w
drawable s g es k i r old new w h next made same =
    let can = can-draw s g es old w k i r h next same in
    let making = making-next s g es (drawing k i r) old new h.making next made in
    let a = allowed-making s g es old (drawing k i r) h.making next in
    let live : is_gone (task_at new.machine i.0).place ≡ false = ap (λ (st : State). is_gone (task_at st i.0).place) made.state ∙ by_step old.machine (drawing k i r) i.0 (λ t. is_gone t.place ≡ false) a (λ about. refl) (λ apart. absurd (let one : (i.0 == i.0) ≡ true = eq-eqb i.0 i.0 refl in cc)) in
    record {
      may_draw = can.may_draw;
      shared = can.shared;
      exists = can.exists;
      there = (let size = tasks-making s g (es ++ drawing k i r ∷ []) new making in let lt = can.exists in omega arith);
      live = live;
      few = room-making s g (es ++ drawing k i r ∷ []) new making i.0;
      row = making.rows.known i.0 live;
    }

pub drawable-next : (s : Script) (g : Opened) (es : List Entry) (e : Entry) (i : TaskId) (old new : Floor) (w : Worker) → e.call ≡ calls.Draw i → Works s g es old w → IsNext s (after_all s g es) e → Made s e old new → number_of w ≡ e.caller.0 → Drawable s i.0 new w
drawable-next s g es e i old new w is h next made same =
    let P : Call → Type 0 = λ x. IsNext s (after_all s g es) (record e { call = x }) → Made s (record e { call = x }) old new → Drawable s i.0 new w in
    subst P (sym is) (λ n m. drawable s g es e.caller i e.reply old new w h n m same) next made

pub turned-draw : (s : Script) (g : Opened) (es : List Entry) (e : Entry) (i : TaskId) (old new : Floor) (w v : Worker) (n : ℕ) → e.call ≡ calls.Draw i → Works s g es old w → IsNext s (after_all s g es) e → Made s e old new → number_of w ≡ e.caller.0 → n ≡ (task_at new.machine i.0).takes → Drew s i.0 n w v → Turning s g (es ++ e ∷ []) new.machine v
turned-draw s g es e i old new w v n is h next made same taken_is d =
    let P : Call → Type 0 = λ x. IsNext s (after_all s g es) (record e { call = x }) → Made s (record e { call = x }) old new → Turning s g (es ++ record e { call = x } ∷ []) new.machine v in
    subst P (sym is) (λ a m. turning-drew s g es e.caller i e.reply old new w v n h a m same taken_is d) next made
