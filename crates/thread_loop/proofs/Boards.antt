-- A caller's stage goes with what its pass has, and a call keeps it so.
use Rattle.std.proofs.Common.{◌≡◌, ◌≢◌, ℕ, suc, ◌+◌, ◌-◌, ◌*◌, ◌/◌, ◌%◌, ◌^◌, ◌<◌, ◌≤◌, ◌⊎◌, inl, inr, Bool, true, false, ◌==◌, if◌then◌else◌, IsTrue, List, [], ◌∷◌, ◌++◌, length, Option, Some, None, refl, sym, ap, ◌∙◌, arith, subst, eq-eqb, eqb-true, ne_eqb}
use Rattle.std.proofs.lemmas.Bool.{cases_eq, and_parts, ltb-true}
use Rattle.std.proofs.lemmas.List.{same_from_push}
use Rattle.std.specs.Int.{bit_at}
use Rattle.sched_base.specs.declared.names.CallerId.{CallerId}
use Rattle.sched_base.specs.declared.names.TaskId.{TaskId}
use Rattle.sched_base.specs.ReasonNames.{timer}
use Rattle.queue_model.specs.Classes.{Next}
use Rattle.step_tables.specs.declared.tables.Action.{Action}
use Rattle.step_tables.specs.declared.tables.Action.TheVariants.{Wake as Wakes, Kill as Kills}
use Rattle.step_tables.specs.declared.tables.Script.{Script}
use Rattle.step_tables.specs.Sound.{is_sound_action, within}
use Rattle.task_machine.specs.declared.task.Place.{Place}
use Rattle.task_machine.specs.declared.task.Place.TheVariants as places
use Rattle.task_machine.specs.declared.calls.Call.{Call}
use Rattle.task_machine.specs.declared.calls.Call.TheVariants as calls
use Rattle.task_machine.specs.declared.calls.Reply.{Reply}
use Rattle.task_machine.specs.declared.calls.Reply.TheVariants as replies
use Rattle.task_machine.specs.declared.calls.Entry.{Entry}
use Rattle.task_machine.specs.Task.{in_hands, in_draw, in_run}
use Rattle.task_machine.specs.Step.{State, task_at, bit, Allowed}
use Rattle.task_machine.specs.History.{stepped, Legal, led, calls_of}
use Rattle.task_machine.specs.Own.{Own, away, holding, drawing, running, own_at, own_of}
use Rattle.task_machine.proofs.Histories.{Legal-front, Legal-rest}
use Rattle.task_machine.proofs.Own.{own-led}
use Rattle.run_model.proofs.Readings.{some_inj}
use Rattle.run_model.specs.Book.{Book}
use Rattle.run_model.specs.Replies.{members}
use Rattle.run_model.specs.Tables.{home_of, call_of}
use Rattle.turn_steps.specs.Left.{Onward, next_in, Left, gets, wakes, runs, acts, posts, drops, retires, returns, drawn, injects, carries, over, Stage, stage, take_call, asked, asked_in, MayCall, went}
use Rattle.turn_steps.specs.Times.{times}
use Rattle.turn_steps.specs.Has.{caller, said, due, drawn_by, has, CanGive}
use Rattle.turn_steps.specs.Ranges.{InRange, IsFit}
use Rattle.turn_steps.specs.Counts.{is_injectors}
use Rattle.turn_steps.proofs.Asked.{by_ask}
use Rattle.turn_steps.proofs.Budget.{Pays-went}
use Rattle.turn_steps.proofs.Fit.{IsFit-sound, within-parts}
use Rattle.turn_steps.proofs.Ranges.{InRange-heard, InRange-draw}
use Rattle.standing.specs.Keeps.{Owns}
use Rattle.standing.specs.Homes.{IsOf, Homed}
use Rattle.standing.proofs.Gets.{times_inside, members_apart}
use Rattle.standing.proofs.Hears.{can_give-owns}
use Rattle.standing.proofs.Homes.{homed-heard, homed-drew}
use Rattle.standing.proofs.HomesKept.{TimersHaveHomes-sound}
use Rattle.standing.proofs.OwnsKept.{Owns-went}
use Rattle.standing.proofs.Steps.{bit_set}
use Rattle.wake_board.specs.Start as start
use Rattle.task_machine.specs.declared.task.Seen.{Seen}
use Rattle.task_machine.specs.declared.task.Seen.TheVariants as views
use Rattle.run_model.specs.Replies.{takes_in}
use Rattle.wake_board.specs.Bodies.{MayTakeOwn}
use Rattle.wake_board.specs.Seen.{Held, Laid, IsPassOf, Calls, entry_by, takes_seen}
use Rattle.wake_board.specs.Own.{known_takes}
use Rattle.wake_board.specs.Ends.{own_by}
use Rattle.wake_board.proofs.Moves.{calls_of-own}
use Rattle.wake_board.proofs.Wakes.{length-led}
use Rattle.thread_loop.specs.Turns.{NamesTasks}
use Rattle.thread_loop.specs.Boards.{in_hand, IsBoardOf}
use Rattle.thread_loop.specs.BoardTurns as by
use Rattle.thread_loop.specs.BoardTurns.{AtStage}
use Rattle.thread_loop.specs.Calls.{MayMake, Brings, IsMade}
use Rattle.thread_loop.proofs.Turns.{next-listed}

-- ---- what a caller has by a place, counted

eq_sym : (a b : ℕ) → (a == b) ≡ (b == a)
eq_sym a b =
    elim (cases_eq a b) [
      | inl same ↦ eq-eqb a b same ∙ sym (eq-eqb b a (sym same))
      | inr ne ↦ ne_eqb a b ne ∙ sym (ne_eqb b a (λ e. ne (sym e)))
    ]

hand_if : (b c : Bool) → b ≡ c → in_hand (if b then holding else away) ≡ bit c
hand_if true c e = ap bit e
hand_if false c e = ap bit e

hand_else : (b : Bool) (o : Own) → in_hand o ≡ 0 → in_hand (if b then o else away) ≡ 0
hand_else true o e = e
hand_else false o e = refl

run_if : (b c : Bool) → b ≡ c → by.in_run (if b then running else away) ≡ bit c
run_if true c e = ap bit e
run_if false c e = ap bit e

run_else : (b : Bool) (o : Own) → by.in_run o ≡ 0 → by.in_run (if b then o else away) ≡ 0
run_else true o e = e
run_else false o e = refl

draw_if : (b c : Bool) → b ≡ c → by.in_draw (if b then drawing else away) ≡ bit c
draw_if true c e = ap bit e
draw_if false c e = ap bit e

draw_else : (b : Bool) (o : Own) → by.in_draw o ≡ 0 → by.in_draw (if b then o else away) ≡ 0
draw_else true o e = e
draw_else false o e = refl

pub hand-at : (k : ℕ) (p : Place) → in_hand (own_at k p) ≡ bit (in_hands (caller k) p)
hand-at k places.Rest = refl
hand-at k (places.Hands j) = hand_if (j.0 == k) (k == j.0) (eq_sym j.0 k)
hand-at k (places.Boxed b) = refl
hand-at k (places.Drawn j) = hand_else (j.0 == k) drawing refl
hand-at k (places.Runs j) = hand_else (j.0 == k) running refl
hand-at k places.Gone = refl

pub run-at : (k : ℕ) (p : Place) → by.in_run (own_at k p) ≡ bit (in_run (caller k) p)
run-at k places.Rest = refl
run-at k (places.Hands j) = run_else (j.0 == k) holding refl
run-at k (places.Boxed b) = refl
run-at k (places.Drawn j) = run_else (j.0 == k) drawing refl
run-at k (places.Runs j) = run_if (j.0 == k) (k == j.0) (eq_sym j.0 k)
run-at k places.Gone = refl

pub draw-at : (k : ℕ) (p : Place) → by.in_draw (own_at k p) ≡ bit (in_draw (caller k) p)
draw-at k places.Rest = refl
draw-at k (places.Hands j) = draw_else (j.0 == k) holding refl
draw-at k (places.Boxed b) = refl
draw-at k (places.Drawn j) = draw_if (j.0 == k) (k == j.0) (eq_sym j.0 k)
draw-at k (places.Runs j) = draw_else (j.0 == k) running refl
draw-at k places.Gone = refl

holds_so : (o : Own) → 0 < in_hand o → o ≡ holding
holds_so away h = absurd (omega arith)
holds_so holding h = refl
holds_so drawing h = absurd (omega arith)
holds_so running h = absurd (omega arith)

runs_so : (o : Own) → 0 < by.in_run o → o ≡ running
runs_so away h = absurd (omega arith)
runs_so holding h = absurd (omega arith)
runs_so drawing h = absurd (omega arith)
runs_so running h = refl

-- ---- the history that a call attests

-- a legal history in which the pass's own calls are its entries, and after which the call is allowed
pub record Before (p : Held) (c : Call) (r : Reply) : Type 0 where
  pub history : List Entry
  pub legal : Legal p.start.state history
  pub own : calls_of p.who history ≡ p.entries
  pub allowed : Allowed (led p.start.state history) (said (caller p.who) c r)

pub before : (p q : Held) (c : Call) (r : Reply) → Calls p c r q → Before p c r
before p q c r t =
    let e : Entry = entry_by p.who c r in
    let h = t.attested.0 in
    let grown : p.entries ++ e ∷ [] ≡ q.entries = sym (ap (λ (x : Held). x.entries) t.entry) in
    let both : calls_of p.who h ++ e ∷ [] ≡ p.entries ++ e ∷ [] = sym (calls_of-own h e) ∙ t.attested.2 ∙ sym grown in
    record {
      history = h;
      legal = Legal-front p.start.state h (e ∷ []) t.attested.1;
      own = (same_from_push (calls_of p.who h) p.entries e e both).0;
      allowed = (Legal-rest p.start.state h (e ∷ []) t.attested.1).0;
    }

-- after such a history the caller has what its pass has
pub own-now : (p : Held) (h : List Entry) (i : ℕ) → Legal p.start.state h → calls_of p.who h ≡ p.entries → own_at p.who (task_at (led p.start.state h) i).place ≡ own_by p i
own-now p h i l same =
    own-led p.start.state h p.who i l ∙ ap (λ (es : List Entry). own_of i (own_at p.who (task_at p.start.state i).place) es) same

-- and after one more call of its own
own-then : (p q : Held) (c : Call) (r : Reply) (i : ℕ) → Calls p c r q → (b : Before p c r) → own_at p.who (task_at (stepped (led p.start.state b.history) (said (caller p.who) c r)) i).place ≡ own_by q i
own-then p q c r i t b =
    let e : Entry = said (caller p.who) c r in
    let m : State = led p.start.state b.history in
    let one = own-led m (e ∷ []) p.who i (b.allowed, tt) in
    let mine : calls_of p.who (e ∷ []) ≡ e ∷ [] = ap (λ (x : Bool). if x then e ∷ [] else []) (eq-eqb p.who p.who refl) in
    let now = own-now p b.history i b.legal b.own in
    one
    ∙ ap (λ (es : List Entry). own_of i (own_at p.who (task_at m i).place) es) mine
    ∙ ap (λ (o : Own). own_of i o (e ∷ [])) now
    ∙ sym (own_push i (own_at p.who (task_at p.start.state i).place) p.entries e)
    ∙ sym (ap (λ (x : Held). own_by x i) t.entry)
  where
    own_push : (i : ℕ) (o : Own) (es : List Entry) (e : Entry) → own_of i o (es ++ e ∷ []) ≡ own_of i (own_of i o es) (e ∷ [])
    own_push i o [] e = refl
    own_push i o (x ∷ es) e = own_push i (Rattle.task_machine.specs.Own.own_next o (Rattle.task_machine.specs.Event.event_at i x)) es e

-- ---- one call

-- the machine after the history is as the stage says
pub owns-before : (s : Script) (b : Laid) (k : ℕ) (g : Stage) (p : Held) (c : Call) (r : Reply) → AtStage s b k g p → (x : Before p c r) → Owns k (led p.start.state x.history) g
owns-before s b k g p c r at x =
    let now = λ (i : ℕ). subst (λ (j : ℕ). own_at j (task_at (led p.start.state x.history) i).place ≡ own_by p i) at.number (own-now p x.history i x.legal x.own) in
    record {
      hands = λ i. sym (hand-at k (task_at (led p.start.state x.history) i).place) ∙ ap in_hand (now i) ∙ at.hands i;
      runs = λ i. sym (run-at k (task_at (led p.start.state x.history) i).place) ∙ ap by.in_run (now i) ∙ at.runs i;
      draws = λ i. sym (draw-at k (task_at (led p.start.state x.history) i).place) ∙ ap by.in_draw (now i) ∙ at.draws i;
    }

tasks-before : (s : Script) (b : Laid) (p : Held) (h : List Entry) → IsBoardOf s b → IsPassOf b p → length (led p.start.state h).tasks ≡ length s.tasks
tasks-before s b p h board pass =
    length-led p.start.state h ∙ ap (λ (o : start.Start). length o.state.tasks) pass.start ∙ board.tasks

allowed-as : (p : Held) (k : ℕ) (c : Call) (r : Reply) (x : Before p c r) → p.who ≡ k → Allowed (led p.start.state x.history) (said (caller k) c r)
allowed-as p k c r x same = subst (λ (j : ℕ). Allowed (led p.start.state x.history) (said (caller j) c r)) same x.allowed

-- the reply is one that the caller can hear
pub can_give-stage : (s : Script) (b : Laid) (k : ℕ) (g : Stage) (p q : Held) (c : Call) (r : Reply) → AtStage s b k g p → Calls p c r q → CanGive s g c r
can_give-stage s b k g p q c r at t =
    let x = before p q c r t in
    can_give-owns s (led p.start.state x.history) k g c r (tasks-before s b p x.history at.board at.pass) (owns-before s b k g p c r at x) (allowed-as p k c r x at.number)

-- what a get brings is of the caller
got_of : (s : Script) (b : Laid) (k n i x : ℕ) (p : Held) → IsBoardOf s b → p.who ≡ k → i < length s.tasks → ((j : ℕ) → j < 64 → bit_at x j ≡ 1 → start.home_of b.start (64 * n + j) ≡ p.who) → 0 < times i (members n (replies.Group x)) → IsOf s k i
got_of s b k n i x p board number lt told some =
    elim (cases_eq (i / 64) n) [
      | inl same ↦
          (let j : ℕ = i % 64 in
          let here : i ≡ 64 * n + (0 + j) = omega arith in
          let low : j < 64 = omega arith in
          let set' : (bit_at x (0 + j) == 1) ≡ true = bit_set (bit_at x (0 + j) == 1) (omega (arith, times_inside i n (λ y. bit_at x y == 1) 0 64 j here low)) in
          let zero_more : 0 + j ≡ j = omega arith in
          let one : bit_at x j ≡ 1 = ap (bit_at x) (sym zero_more) ∙ eqb-true (bit_at x (0 + j)) 1 set' in
          let at : i ≡ 64 * n + j = omega arith in
          sym (board.homes i lt) ∙ ap (start.home_of b.start) at ∙ told j low one ∙ number)
      | inr ne ↦ absurd (omega (arith, members_apart n i x (replies.Group x) refl ne))
    ]

got_home : (s : Script) (b : Laid) (k : ℕ) (g : Stage) (p : Held) (c : Call) (r : Reply) → AtStage s b k g p → Brings b.start p c r → CanGive s g c r → asked s g ≡ Some c → (n i : ℕ) (ns : List ℕ) → g.left ≡ gets n ns → 0 < times i (members n r) → IsOf s k i
got_home s b k g p c r at tells can e n i ns same some =
    let asks : asked_in s (gets n ns) g.book ≡ Some c = ap (λ x. asked_in s x g.book) (sym same) ∙ e in
    let call : calls.Get n ≡ c = some_inj (calls.Get n) c asks in
    let told : Brings b.start p (calls.Get n) r = subst (λ (d : Call). Brings b.start p d r) (sym call) tells in
    let can_get : CanGive s g (calls.Get n) r = subst (λ (d : Call). CanGive s g d r) (sym call) can in
    let group = can_get.kind in
    let told_group : Brings b.start p (calls.Get n) (replies.Group group.0) = subst (λ (q : Reply). Brings b.start p (calls.Get n) q) group.1 told in
    let some_group : 0 < times i (members n (replies.Group group.0)) = subst (λ (q : Reply). 0 < times i (members n q)) group.1 some in
    got_of s b k n i group.0 p at.board at.number (can_get.tasks i some) told_group some_group

-- what is named in what a reply leaves is there
range-went : (s : Script) (w : CallerId) (T : ℕ) (g : Stage) (c : Call) (r : Reply) → IsFit s → NamesTasks s g → MayCall s g c → InRange (length s.tasks) g → InRange (length s.tasks) (went s w T c r g)
range-went s w T g c r fit names may h =
    by_ask s w T g c r (λ d x. InRange (length s.tasks) x) may
    (λ e. InRange-heard s w T r g.left g.book fit
    (λ i one. names i (omega arith))
    (λ q x same next. names x.task (let some = next-listed q g.book x next in omega arith))
    (λ i one. names i (omega arith))
    h)
    (λ i shared some e. InRange-draw s (length s.tasks) i g h)

homed-went : (s : Script) (b : Laid) (k T : ℕ) (g : Stage) (p : Held) (c : Call) (r : Reply) → AtStage s b k g p → Brings b.start p c r → CanGive s g c r → MayCall s g c → Homed s k (went s (caller k) T c r g)
homed-went s b k T g p c r at tells can may =
    by_ask s (caller k) T g c r (λ d x. Homed s k x) may
    (λ e. homed-heard s k T r g.left g.book (TimersHaveHomes-sound s at.sound) (got_home s b k g p c r at tells can e) at.homed)
    (λ i shared some e. homed-drew s k i g shared at.homed)

-- a call that comes next leads to the stage after it
pub at-next : (s : Script) (b : Laid) (k T : ℕ) (g : Stage) (p q : Held) (c : Call) (r : Reply) → AtStage s b k g p → NamesTasks s g → MayCall s g c → Calls p c r q → Brings b.start p c r → AtStage s b k (went s (caller k) T c r g) q
at-next s b k T g p q c r at names may made brings =
    let x = before p q c r made in
    let m : State = led p.start.state x.history in
    let allowed = allowed-as p k c r x at.number in
    let after = Owns-went s T m g c may k r (owns-before s b k g p c r at x) allowed in
    let can = can_give-stage s b k g p q c r at made in
    let same = made.entry in
    let now = λ (i : ℕ). subst (λ (j : ℕ). own_at j (task_at (stepped m (said (caller j) c r)) i).place ≡ own_by q i) at.number (own-then p q c r i made x) in
    let m' : State = stepped m (said (caller k) c r) in
    record {
      sound = at.sound;
      board = at.board;
      pass = record { board = ap (λ (y : Held). y.board) same ∙ at.pass.board; start = ap (λ (y : Held). y.start) same ∙ at.pass.start };
      number = ap (λ (y : Held). y.who) same ∙ at.number;
      among = at.among;
      part = (Pays-went s (caller k) T c r g may).part ∙ at.part;
      hands = λ i. ap in_hand (sym (now i)) ∙ hand-at k (task_at m' i).place ∙ after.hands i;
      runs = λ i. ap by.in_run (sym (now i)) ∙ run-at k (task_at m' i).place ∙ after.runs i;
      draws = λ i. ap by.in_draw (sym (now i)) ∙ draw-at k (task_at m' i).place ∙ after.draws i;
      range = range-went s (caller k) T g c r (IsFit-sound s at.sound) names may at.range;
      homed = homed-went s b k T g p c r at brings can may;
    }

-- ---- what the next call asks of the pass

one_more : (i : ℕ) → bit (i == i) ≡ 1
one_more i = ap bit (eq-eqb i i refl)

-- what is known where a call comes next
record Here (s : Script) (b : Laid) (k : ℕ) (l : Left) (book : Book) (p : Held) : Type 0 where
  at : AtStage s b k (stage l book) p
  names : NamesTasks s (stage l book)
  few : k < s.workers → (i : ℕ) → i < length s.tasks → home_of s i ≡ k → known_takes b.start p.entries i < 2 ^ 48 - 1
  undrawn : (i : ℕ) → drawn_by i l ≡ 0

is_worker : (s : Script) (b : Laid) (k : ℕ) (l : Left) (book : Book) (p : Held) → Here s b k l book p → is_injectors l ≡ false → k < s.workers
is_worker s b k l book p h part =
    let among = h.at.among in
    let ne : k ≢ s.workers = λ same. (let yes : (k == s.workers) ≡ true = eq-eqb k s.workers same in let no = h.at.part in cc) in
    omega arith

exists_on : (s : Script) (b : Laid) (k : ℕ) (l : Left) (book : Book) (p : Held) (i : ℕ) → Here s b k l book p → 0 < has i (stage l book) → i < length b.start.state.tasks
exists_on s b k l book p i h some = let lt = h.names i some in let same = h.at.board.tasks in omega arith

make-post : (s : Script) (b : Laid) (k : ℕ) (l : Left) (book : Book) (p : Held) (i : ℕ) → Here s b k l book p → 0 < due i l → MayMake b.start p (calls.Post (record { 0 = i }) (home_of s i))
make-post s b k l book p i h some =
    let hold = holds_so (own_by p i) (let e = h.at.hands i in omega arith) in
    let lt = h.names i (omega arith) in
    let box = (IsFit-sound s h.at.sound).homes i in
    let workers = h.at.board.workers in
    (exists_on s b k l book p i h (omega arith), hold, omega arith, h.at.board.homes i lt)

make-runs : (s : Script) (b : Laid) (k : ℕ) (q : Onward) (book : Book) (p : Held) (o : Option Next) (c : Call) → next_in q book ≡ o → Here s b k (runs q) book p → take_call o ≡ Some c → MayMake b.start p c
make-runs s b k q book p None c e h a = cc
make-runs s b k q book p (Some x) c e h a =
    let i = x.task in
    let some = next-listed q book x e in
    let hold = holds_so (own_by p i) (let same = h.at.hands i in omega arith) in
    let worker = is_worker s b k (runs q) book p h refl in
    let lt = h.names i (omega arith) in
    let home : home_of s i ≡ k = h.at.homed.lists i some in
    let here : start.home_of b.start i ≡ p.who = h.at.board.homes i lt ∙ home ∙ sym h.at.number in
    let number = h.at.number in
    let workers = h.at.board.workers in
    let room = h.few worker i lt home in
    subst (MayMake b.start p) (some_inj (calls.Take (record { 0 = i })) c a) (exists_on s b k (runs q) book p i h (omega arith), hold, here, omega arith, room)

make-action : (n k : ℕ) (o : start.Start) (p : Held) (a : Action) → n ≡ length o.state.tasks → IsTrue (is_sound_action n a) → MayMake o p (call_of a)
make-action n k o p (Wakes i f) e h =
    let parts = and_parts (Rattle.std.proofs.Common.nat_lt i.0 n) (within 1 127 f) h in
    let lt = ltb-true i.0 n parts.0 in
    let some = (within-parts 1 127 f parts.1).0 in
    (omega arith, λ none. absurd (omega arith))
make-action n k o p (Kills i) e h = let lt = ltb-true i.0 n h in omega arith

make-retires : (s : Script) (b : Laid) (k : ℕ) (in_hands : Bool) (i : ℕ) (q : Onward) (book : Book) (p : Held) → Here s b k (retires in_hands i q) book p → MayMake b.start p (calls.Retire (record { 0 = i }))
make-retires s b k true i q book p h =
    let one = one_more i in
    let hold = holds_so (own_by p i) (let same = h.at.hands i in omega arith) in
    (exists_on s b k (retires true i q) book p i h (omega arith), λ gone'. cc)
make-retires s b k false i q book p h =
    let one = one_more i in
    let run = runs_so (own_by p i) (let same = h.at.runs i in omega arith) in
    (exists_on s b k (retires false i q) book p i h (omega arith), λ gone'. cc)

make-asked : (s : Script) (b : Laid) (k : ℕ) (l : Left) (book : Book) (p : Held) (c : Call) → Here s b k l book p → asked_in s l book ≡ Some c → MayMake b.start p c
make-asked s b k (gets g gs) book p c h e =
    let worker = is_worker s b k (gets g gs) book p h refl in
    let below = h.at.range.names.0 in
    let tasks = h.at.board.tasks in
    let workers = h.at.board.workers in
    let number = h.at.number in
    subst (MayMake b.start p) (some_inj (calls.Get g) c e) (omega arith, omega arith)
make-asked s b k (wakes i is) book p c h e =
    let below = h.at.range.names.0 in
    let tasks = h.at.board.tasks in
    subst (MayMake b.start p) (some_inj (calls.Wake (record { 0 = i }) timer) c e) (omega arith, λ none. absurd (omega arith))
make-asked s b k (runs q) book p c h e = make-runs s b k q book p (next_in q book) c refl h e
make-asked s b k (acts a more i row q) book p c h e =
    subst (MayMake b.start p) (some_inj (call_of a) c e) (make-action (length s.tasks) k b.start p a (sym h.at.board.tasks) h.at.range.names.0)
make-asked s b k (posts j more i row q) book p c h e =
    let one = one_more j in
    subst (MayMake b.start p) (some_inj (calls.Post (record { 0 = j }) (home_of s j)) c e) (make-post s b k (posts j more i row q) book p j h (omega arith))
make-asked s b k (drops i q) book p c h e =
    let one = one_more i in
    let run = runs_so (own_by p i) (let same = h.at.runs i in omega arith) in
    subst (MayMake b.start p) (some_inj (calls.DropRun (record { 0 = i })) c e) (exists_on s b k (drops i q) book p i h (omega arith), run)
make-asked s b k (retires in_hands i q) book p c h e =
    subst (MayMake b.start p) (some_inj (calls.Retire (record { 0 = i })) c e) (make-retires s b k in_hands i q book p h)
make-asked s b k (returns i q) book p c h e =
    let one = one_more i in
    subst (MayMake b.start p) (some_inj (calls.Post (record { 0 = i }) (home_of s i)) c e) (make-post s b k (returns i q) book p i h (omega arith))
make-asked s b k (drawn i n) book p c h e = let one = one_more i in let none = h.undrawn i in absurd (omega arith)
make-asked s b k (injects a more) book p c h e =
    subst (MayMake b.start p) (some_inj (call_of a) c e) (make-action (length s.tasks) k b.start p a (sym h.at.board.tasks) h.at.range.names.0)
make-asked s b k (carries j more) book p c h e =
    let one = one_more j in
    subst (MayMake b.start p) (some_inj (calls.Post (record { 0 = j }) (home_of s j)) c e) (make-post s b k (carries j more) book p j h (omega arith))
make-asked s b k over book p c h e = cc

-- the pass has what the next call asks for
pub may-make : (s : Script) (b : Laid) (k : ℕ) (g : Stage) (p : Held) (c : Call) → AtStage s b k g p → NamesTasks s g → (k < s.workers → (i : ℕ) → i < length s.tasks → home_of s i ≡ k → known_takes b.start p.entries i < 2 ^ 48 - 1) → ((i : ℕ) → drawn_by i g.left ≡ 0) → asked s g ≡ Some c → MayMake b.start p c
may-make s b k g p c at names few undrawn e =
    make-asked s b k g.left g.book p c (record { at = at; names = names; few = few; undrawn = undrawn }) e

-- ---- a take of the caller's own task

pub may-take : (b : Laid) (p : Held) (i : TaskId) → IsPassOf b p → MayMake b.start p (calls.Take i) → MayTakeOwn p i.0 (known_takes p.start p.entries i.0)
may-take b p i pass may = record {
  held = may.1;
  home = ap (λ (o : start.Start). start.home_of o i.0) pass.start ∙ may.2;
  worker = (let worker = may.3 in let same = ap (λ (o : start.Start). o.state.workers) pass.start in omega arith);
  known = refl;
}

pub few-take : (b : Laid) (p : Held) (i : TaskId) → IsPassOf b p → MayMake b.start p (calls.Take i) → known_takes p.start p.entries i.0 < 2 ^ 48 - 1
few-take b p i pass may =
    let few = may.4 in
    let same = ap (λ (o : start.Start). known_takes o p.entries i.0) pass.start in
    omega arith

pub seen_takes : (x : Seen) → takes_in (replies.Task x) ≡ takes_seen x
seen_takes views.Gone = refl
seen_takes (views.Live st n b m) = refl

pub made-take : (b : Laid) (p q : Held) (c : Call) (i : TaskId) (x : Seen) → c ≡ calls.Take i → IsPassOf b p → Calls p (calls.Take i) (replies.Task x) q → takes_seen x ≡ known_takes p.start p.entries i.0 → IsMade b.start p c (replies.Task x) q
made-take b p q c i x is pass made told =
    let there : IsMade b.start p (calls.Take i) (replies.Task x) q = record {
      calls = made;
      brings = tt;
      tells = seen_takes x ∙ told ∙ ap (λ (o : start.Start). known_takes o p.entries i.0) pass.start;
    } in
    subst (λ (d : Call). IsMade b.start p d (replies.Task x) q) (sym is) there
