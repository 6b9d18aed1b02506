-- A worker within its turn on a board: what one call more makes of it, and what all of them come to.
use Rattle.std.proofs.Common.{◌≡◌, ◌≢◌, ℕ, ◌+◌, ◌-◌, ◌^◌, ◌<◌, ◌≤◌, inl, inr, Bool, true, false, IsTrue, List, [], ◌∷◌, ◌++◌, length, Some, None, refl, sym, ap, ◌∙◌, arith, subst, length-append}
use Rattle.std.proofs.lemmas.List.{append_assoc, append-nil}
use Rattle.std.proofs.lemmas.Bool.{cases_Bool}
use Rattle.sched_base.specs.declared.names.CallerId.{CallerId}
use Rattle.sched_base.specs.declared.names.TaskId.{TaskId}
use Rattle.step_tables.specs.declared.tables.Script.{Script}
use Rattle.step_tables.specs.Sound.{is_sound}
use Rattle.task_machine.specs.declared.task.Place.{Place}
use Rattle.task_machine.specs.declared.task.Place.TheVariants as places
use Rattle.task_machine.specs.declared.calls.Call.{Call}
use Rattle.task_machine.specs.declared.calls.Call.TheVariants as calls
use Rattle.task_machine.specs.declared.calls.Reply.{Reply}
use Rattle.task_machine.specs.declared.calls.Reply.TheVariants as replies
use Rattle.task_machine.specs.declared.calls.Entry.{Entry}
use Rattle.task_machine.specs.Task.{is_gone}
use Rattle.task_machine.specs.Step.{task_at, bit}
use Rattle.task_machine.specs.Since.{is_take}
use Rattle.task_machine.specs.Own.{away, own_at}
use Rattle.run_model.specs.Replies.{takes_in}
use Rattle.run_model.specs.Tables.{home_of}
use Rattle.turn_steps.specs.Left.{Stage, asked, heard, MayCall, went}
use Rattle.turn_steps.specs.Counts.{calls_left}
use Rattle.run_model.proofs.Readings.{some_inj}
use Rattle.wake_board.specs.Start.{Start}
use Rattle.turn_steps.specs.Told.{Told, told}
use Rattle.turn_steps.specs.Has.{caller, said, drawn_by, CanGive}
use Rattle.turn_steps.proofs.Asked.{went-asked}
use Rattle.turn_steps.proofs.Fit.{IsFit-sound}
use Rattle.turn_steps.proofs.Measure.{calls_left-went}
use Rattle.task_machine.specs.declared.task.Seen.{Seen}
use Rattle.wake_board.specs.Seen.{Held, Laid, Calls, entry_by, takes_seen}
use Rattle.wake_board.specs.Own.{known_takes}
use Rattle.wake_board.specs.Ends.{own_by}
use Rattle.wake_board.proofs.Grown.{takes-called}
use Rattle.wake_board.proofs.Known.{gone-led}
use Rattle.thread_loop.specs.Turns.{NamesTasks}
use Rattle.thread_loop.specs.Workers.{number_of, tick_of, turns_of, takes_of, book_at_tick, stage_of, Fits, TellsTakes, takes_after}
use Rattle.thread_loop.specs.Workers.{calls_in, Heard}
use Rattle.thread_loop.specs.Boards.{log_of, IsSame, HasGrown, IsMissed}
use Rattle.thread_loop.specs.BoardTurns.{AtStage, OnBoard, HasCalled}
use Rattle.thread_loop.specs.Calls.{MayMake, Brings, IsMade}
use Rattle.thread_loop.specs.declared.worker.Worker.{Worker}
use Rattle.thread_loop.proofs.Boards.{before, own-now, at-next, can_give-stage, may-make, seen_takes}
use Rattle.thread_loop.proofs.Turning.{takes-of_after, undrawn-heard}

-- ---- what a worker of the script is

pub sound-fits : (s : Script) (w : Worker) → Fits s w → IsTrue (is_sound s)
unfolding Fits
sound-fits s w h = h.sound

pub names-fits : (s : Script) (w : Worker) → Fits s w → NamesTasks s (stage_of s w)
unfolding Fits stage_of
names-fits s w h = h.tasks

pub number-fits : (s : Script) (w : Worker) → Fits s w → number_of w < s.workers
unfolding Fits number_of
number-fits s w h = h.number

-- ---- one call

-- a worker noted a call with its reply, and went on with it
pub record Took (s : Script) (c : Call) (r : Reply) (w u : Worker) : Type 0 where
  pub stage : stage_of s u ≡ went s (caller (number_of w)) (tick_of w) c r (stage_of s w)
  pub fits : Fits s u
  pub number : number_of u ≡ number_of w
  pub tick : tick_of u ≡ tick_of w
  pub turns : turns_of u ≡ turns_of w
  pub takes : (i : ℕ) → home_of s i ≡ number_of w → takes_of u i ≡ takes_of w i + bit (is_take i c)
  pub book : asked s (stage_of s u) ≡ None → book_at_tick (tick_of u) u ≡ (stage_of s u).book
  pub logged : (log_of u).entries ≡ (log_of w).entries ++ said (caller (number_of w)) c r ∷ []
  pub room : (log_of u).room ≡ (log_of w).room

-- what was noted, and then heard
pub took-heard : (s : Script) (c : Call) (r : Reply) (w v u : Worker) → asked s (stage_of s w) ≡ Some c → IsSame w v → (log_of v).entries ≡ (log_of w).entries ++ said (caller (number_of w)) c r ∷ [] → (log_of v).room ≡ (log_of w).room → Heard s c r v u → log_of u ≡ log_of v → Took s c r w u
took-heard s c r w v u e same logged room h kept = record {
  stage = h.stage ∙ ap (λ n. heard s (caller n) (tick_of v) r (stage_of s v)) same.number ∙ ap (λ T. heard s (caller (number_of w)) T r (stage_of s v)) same.tick ∙ ap (heard s (caller (number_of w)) (tick_of w) r) (same.stage s) ∙ sym (went-asked s (caller (number_of w)) (tick_of w) c r (stage_of s w) e);
  fits = h.fits;
  number = h.number ∙ same.number;
  tick = h.tick ∙ same.tick;
  turns = h.turns ∙ same.turns;
  takes = λ i home. h.takes i ∙ takes-of_after c i (takes_of v i) ∙ ap (λ n. n + bit (is_take i c)) (same.takes i);
  book = h.book;
  logged = ap (λ l. l.entries) kept ∙ logged;
  room = ap (λ l. l.room) kept ∙ room;
}

-- fewer calls are left
pub fewer-took : (s : Script) (c : Call) (r : Reply) (w u : Worker) → IsTrue (is_sound s) → MayCall s (stage_of s w) c → Took s c r w u → calls_in s u < calls_in s w
fewer-took s c r w u sound may t =
    subst (λ (g : Stage). calls_left s.depth g.left g.book < calls_in s w) (sym t.stage) (calls_left-went s (caller (number_of w)) (tick_of w) c r (stage_of s w) (IsFit-sound s sound) may)

-- some call is left where one is made
pub some-left : (s : Script) (c : Call) (w : Worker) → IsTrue (is_sound s) → MayCall s (stage_of s w) c → 0 < calls_in s w
some-left s c w sound may =
    let less = calls_left-went s (caller 0) 0 c replies.Done (stage_of s w) (IsFit-sound s sound) may in
    omega arith

bit_le : (b : Bool) → bit b ≤ 1
bit_le true = omega arith
bit_le false = omega arith

length_push : (es fs : List Entry) (e : Entry) → fs ≡ es ++ e ∷ [] → length fs ≡ length es + 1
length_push es fs e same = ap (λ (xs : List Entry). length xs) same ∙ simp length-append (omega arith)

grown-made : (p q : Held) (c : Call) (r : Reply) (k : ℕ) → p.who ≡ k → Calls p c r q → HasGrown p (said (caller k) c r ∷ []) q
grown-made p q c r k same t = record {
  board = ap (λ (x : Held). x.board) t.entry;
  who = ap (λ (x : Held). x.who) t.entry;
  start = ap (λ (x : Held). x.start) t.entry;
  entries = ap (λ (x : Held). x.entries) t.entry ∙ ap (λ n. p.entries ++ said (caller n) c r ∷ []) same;
  misses = λ i h. subst (λ (x : Held). IsMissed x i) (sym t.entry) h;
  outs = ap (λ (x : Held). x.outs) t.entry;
}

gone_place : (p : Place) → is_gone p ≡ true → p ≡ places.Gone
gone_place places.Rest h = cc
gone_place (places.Hands j) h = cc
gone_place (places.Boxed b) h = cc
gone_place (places.Drawn j) h = cc
gone_place (places.Runs j) h = cc
gone_place places.Gone h = refl

-- a task that the pass has was not gone as the board was opened
live-held : (p q : Held) (c : Call) (r : Reply) (i : ℕ) → Calls p c r q → own_by p i ≢ away → is_gone (task_at p.start.state i).place ≡ false
live-held p q c r i t has' =
    let x = before p q c r t in
    elim (cases_Bool (is_gone (task_at p.start.state i).place)) [
      | inl gone' ↦
          (let stays = gone-led p.start.state x.history i x.legal (gone_place (task_at p.start.state i).place gone') in
          let none : own_by p i ≡ away = sym (own-now p x.history i x.legal x.own) ∙ ap (own_at p.who) stays in
          absurd (has' none))
      | inr live ↦ live
    ]

-- the takes that the pass knew are those that the worker keeps, where it is the worker that the call is asked of
tells-call : (s : Script) (b : Laid) (w : Worker) (p q : Held) (c : Call) (r : Reply) → OnBoard s b w p → MayMake b.start p c → IsMade b.start p c r q → TellsTakes w c r
tells-call s b w p q (calls.Wake i f) r on may made = tt
tells-call s b w p q (calls.Kill i) r on may made = tt
tells-call s b w p q (calls.Post i x) r on may made = tt
tells-call s b w p q (calls.Get g) r on may made = tt
tells-call s b w p q (calls.Draw i) r on may made = tt
tells-call s b w p q (calls.Take i) r on may made =
    let lt : i.0 < length s.tasks = (let same = on.stage.board.tasks in let l = may.0 in omega arith) in
    let home : home_of s i.0 ≡ number_of w = sym (on.stage.board.homes i.0 lt) ∙ may.2 ∙ on.stage.number in
    let live = live-held p q (calls.Take i) r i.0 made.calls (λ none. (let hold = may.1 in cc)) in
    let kept = on.takes i.0 lt home live in
    let there : known_takes b.start p.entries i.0 ≡ known_takes p.start p.entries i.0 = ap (λ (o : Start). known_takes o p.entries i.0) (sym on.stage.pass.start) in
    let told : takes_in r ≡ known_takes b.start p.entries i.0 = made.tells in
    let few = may.4 in
    (told ∙ there ∙ sym kept, omega arith)
tells-call s b w p q (calls.DropRun i) r on may made = tt
tells-call s b w p q (calls.Retire i) r on may made = tt

-- what the next call asks for is there
pub may-call : (s : Script) (b : Laid) (w : Worker) (p : Held) (c : Call) → OnBoard s b w p → ((i : ℕ) → drawn_by i (stage_of s w).left ≡ 0) → asked s (stage_of s w) ≡ Some c → MayMake b.start p c
may-call s b w p c on undrawn e =
    may-make s b (number_of w) (stage_of s w) p c on.stage (names-fits s w on.fits)
    (λ lt i less home. let few = on.few i less home in let same : known_takes b.start p.entries i ≡ known_takes p.start p.entries i = ap (λ (o : Start). known_takes o p.entries i) (sym on.stage.pass.start) in omega arith)
    undrawn e

-- what the worker is to hear it can hear
pub hears-call : (s : Script) (b : Laid) (w v : Worker) (p q : Held) (c : Call) (r : Reply) → OnBoard s b w p → IsSame w v → asked s (stage_of s w) ≡ Some c → IsMade b.start p c r q → (call : Call) × (asked s (stage_of s v) ≡ Some call) × CanGive s (stage_of s v) call r
hears-call s b w v p q c r on same e made =
    let can = can_give-stage s b (number_of w) (stage_of s w) p q c r on.stage made.calls in
    (c, ap (asked s) (same.stage s) ∙ e, subst (λ (g : Stage). CanGive s g c r) (sym (same.stage s)) can)

tells_same : (w v : Worker) (c : Call) (r : Reply) → IsSame w v → TellsTakes w c r → TellsTakes v c r
tells_same w v (calls.Wake i f) r same h = tt
tells_same w v (calls.Kill i) r same h = tt
tells_same w v (calls.Post i x) r same h = tt
tells_same w v (calls.Get g) r same h = tt
tells_same w v (calls.Draw i) r same h = tt
tells_same w v (calls.Take i) r same h = (h.0 ∙ sym (same.takes i.0), h.1)
tells_same w v (calls.DropRun i) r same h = tt
tells_same w v (calls.Retire i) r same h = tt

pub tells-heard : (s : Script) (b : Laid) (w v : Worker) (p q : Held) (c : Call) (r : Reply) → OnBoard s b w p → IsSame w v → asked s (stage_of s w) ≡ Some c → MayMake b.start p c → IsMade b.start p c r q → (call : Call) → asked s (stage_of s v) ≡ Some call → TellsTakes v call r
tells-heard s b w v p q c r on same e may made call asks =
    let is : c ≡ call = some_inj c call (sym e ∙ ap (asked s) (sym (same.stage s)) ∙ asks) in
    subst (λ (d : Call). TellsTakes v d r) is (tells_same w v c r same (tells-call s b w p q c r on may made))

-- the worker is still within its turn after a call
pub on-took : (s : Script) (b : Laid) (w u : Worker) (p q : Held) (c : Call) (r : Reply) → OnBoard s b w p → MayCall s (stage_of s w) c → Calls p c r q → Brings b.start p c r → Took s c r w u → OnBoard s b u q
on-took s b w u p q c r on may made brings t =
    let next = at-next s b (number_of w) (tick_of w) (stage_of s w) p q c r on.stage (names-fits s w on.fits) may made brings in
    let less = fewer-took s c r w u on.stage.sound may t in
    let grown : length q.entries ≡ length p.entries + 1 = length_push p.entries q.entries (entry_by p.who c r) (ap (λ (x : Held). x.entries) made.entry) in
    let longer = length_push (log_of w).entries (log_of u).entries (said (caller (number_of w)) c r) t.logged in
    let start = ap (λ (x : Held). x.start) made.entry in
    record {
      fits = t.fits;
      stage = subst (λ (k : ℕ). AtStage s b k (stage_of s u) q) (sym t.number) (subst (λ (g : Stage). AtStage s b (number_of w) g q) (sym t.stage) next);
      takes = λ i lt home live.
          let mine : home_of s i ≡ number_of w = home ∙ t.number in
          let before' = on.takes i lt mine (ap (λ (o : Start). is_gone (task_at o.state i).place) (sym start) ∙ live) in
          t.takes i mine ∙ ap (λ n. n + bit (is_take i c)) before' ∙ sym (takes-called p q c r i made);
      book = t.book;
      spare = (let most = on.spare in let room = t.room in omega arith);
      entries = (let most = on.entries in omega arith);
      few = λ i lt home.
          let most = on.few i lt (home ∙ t.number) in
          let one = bit_le (is_take i c) in
          let known = takes-called p q c r i made in
          omega arith;
    }

-- ---- calls one after another

pub told-append : (s : Script) (w : CallerId) (T : ℕ) (g : Stage) (xs ys : List Entry) → told s w T g (xs ++ ys) ≡ told s w T (told s w T g xs) ys
told-append s w T g [] ys = refl
told-append s w T g (x ∷ xs) ys = told-append s w T (went s w T x.call x.reply g) xs ys

pub Told-append : (s : Script) (w : CallerId) (T : ℕ) (g : Stage) (xs ys : List Entry) → Told s w T g xs → Told s w T (told s w T g xs) ys → Told s w T g (xs ++ ys)
Told-append s w T g [] ys h k = k
Told-append s w T g (x ∷ xs) ys h k = (h.0, h.1, Told-append s w T (went s w T x.call x.reply g) xs ys h.2 k)

pub grown-none : (p : Held) → HasGrown p [] p
grown-none p = record { board = refl; who = refl; start = refl; entries = sym (append-nil p.entries); misses = λ i h. h; outs = refl }

pub grown-trans : (p q r : Held) (xs ys : List Entry) → HasGrown p xs q → HasGrown q ys r → HasGrown p (xs ++ ys) r
grown-trans p q r xs ys a b = record {
  board = b.board ∙ a.board;
  who = b.who ∙ a.who;
  start = b.start ∙ a.start;
  entries = b.entries ∙ ap (λ zs. zs ++ ys) a.entries ∙ append_assoc p.entries xs ys;
  misses = λ i h. b.misses i (a.misses i h);
  outs = b.outs ∙ a.outs;
}

pub called-none : (s : Script) (w : Worker) (p : Held) → HasCalled s w p w p
called-none s w p = record {
  more = [];
  logged = sym (append-nil (log_of w).entries);
  room = refl;
  grown = grown-none p;
  followed = tt;
  stage = refl;
  number = refl;
  tick = refl;
  turns = refl;
}

pub called-took : (s : Script) (b : Laid) (w u : Worker) (p q : Held) (c : Call) (r : Reply) → OnBoard s b w p → MayCall s (stage_of s w) c → Calls p c r q → Took s c r w u → HasCalled s w p u q
called-took s b w u p q c r on may made t = record {
  more = said (caller (number_of w)) c r ∷ [];
  logged = t.logged;
  room = t.room;
  grown = grown-made p q c r (number_of w) on.stage.number made;
  followed = (refl, may, tt);
  stage = t.stage;
  number = t.number;
  tick = t.tick;
  turns = t.turns;
}

pub called-trans : (s : Script) (u v w : Worker) (p q r : Held) → HasCalled s u p v q → HasCalled s v q w r → HasCalled s u p w r
called-trans s u v w p q r a b =
    let who : caller (number_of v) ≡ caller (number_of u) = ap caller a.number in
    let more : Told s (caller (number_of u)) (tick_of u) (told s (caller (number_of u)) (tick_of u) (stage_of s u) a.more) b.more = subst (λ (g : Stage). Told s (caller (number_of u)) (tick_of u) g b.more) a.stage (subst (λ (T : ℕ). Told s (caller (number_of u)) T (stage_of s v) b.more) a.tick (subst (λ (k : CallerId). Told s k (tick_of v) (stage_of s v) b.more) who b.followed)) in
    record {
      more = a.more ++ b.more;
      logged = b.logged ∙ ap (λ zs. zs ++ b.more) a.logged ∙ append_assoc (log_of u).entries a.more b.more;
      room = b.room ∙ a.room;
      grown = grown-trans p q r a.more b.more a.grown b.grown;
      followed = Told-append s (caller (number_of u)) (tick_of u) (stage_of s u) a.more b.more a.followed more;
      stage = b.stage ∙ ap (λ k. told s k (tick_of v) (stage_of s v) b.more) who ∙ ap (λ T. told s (caller (number_of u)) T (stage_of s v) b.more) a.tick ∙ ap (λ (g : Stage). told s (caller (number_of u)) (tick_of u) g b.more) a.stage ∙ sym (told-append s (caller (number_of u)) (tick_of u) (stage_of s u) a.more b.more);
      number = b.number ∙ a.number;
      tick = b.tick ∙ a.tick;
      turns = b.turns ∙ a.turns;
    }

-- after a call nothing is drawn
pub undrawn-took : (s : Script) (c : Call) (r : Reply) (w u : Worker) (i : ℕ) → asked s (stage_of s w) ≡ Some c → Took s c r w u → drawn_by i (stage_of s u).left ≡ 0
undrawn-took s c r w u i e t =
    ap (λ (g : Stage). drawn_by i g.left) (t.stage ∙ went-asked s (caller (number_of w)) (tick_of w) c r (stage_of s w) e) ∙ undrawn-heard s (caller (number_of w)) (tick_of w) r i (stage_of s w).left (stage_of s w).book

-- what a worker made of a call that it noted
pub took-call : (s : Script) (c : Call) (r : Reply) (w v u : Worker) → asked s (stage_of s w) ≡ Some c → IsSame w v → (log_of v).entries ≡ (log_of w).entries ++ said (caller (number_of w)) c r ∷ [] → (log_of v).room ≡ (log_of w).room → log_of u ≡ log_of v → stage_of s u ≡ heard s (caller (number_of v)) (tick_of v) r (stage_of s v) → Fits s u → number_of u ≡ number_of v → tick_of u ≡ tick_of v → turns_of u ≡ turns_of v → ((call : Call) → asked s (stage_of s v) ≡ Some call → (i : ℕ) → takes_of u i ≡ takes_after call i (takes_of v i)) → (asked s (stage_of s u) ≡ None → book_at_tick (tick_of u) u ≡ (stage_of s u).book) → Took s c r w u
took-call s c r w v u e same logged room kept stage fits number tick turns takes book =
    let asks = ap (asked s) (same.stage s) ∙ e in
    took-heard s c r w v u e same logged room (record { stage = stage; fits = fits; number = number; tick = tick; turns = turns; takes = takes c asks; book = book }) kept

-- the same of a task that was drawn, of which the body told the takes
pub hears-drawn : (s : Script) (b : Laid) (w v : Worker) (p q : Held) (c : Call) (r : Reply) → OnBoard s b w p → IsSame w v → asked s (stage_of s w) ≡ Some c → Calls p c r q → (call : Call) × (asked s (stage_of s v) ≡ Some call) × CanGive s (stage_of s v) call r
hears-drawn s b w v p q c r on same e made =
    let can = can_give-stage s b (number_of w) (stage_of s w) p q c r on.stage made in
    (c, ap (asked s) (same.stage s) ∙ e, subst (λ (g : Stage). CanGive s g c r) (sym (same.stage s)) can)

pub tells-drawn : (s : Script) (w v : Worker) (i : TaskId) (x : Seen) → IsSame w v → asked s (stage_of s w) ≡ Some (calls.Take i) → takes_seen x ≡ takes_of w i.0 → takes_of w i.0 < 2 ^ 48 - 1 → (call : Call) → asked s (stage_of s v) ≡ Some call → TellsTakes v call (replies.Task x)
tells-drawn s w v i x same e told few call asks =
    let is : calls.Take i ≡ call = some_inj (calls.Take i) call (sym e ∙ ap (asked s) (sym (same.stage s)) ∙ asks) in
    let seen = seen_takes x ∙ told in
    let there : TellsTakes v (calls.Take i) (replies.Task x) = (seen ∙ sym (same.takes i.0), omega arith) in
    subst (λ (d : Call). TellsTakes v d (replies.Task x)) is there
