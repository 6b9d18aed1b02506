-- The injector's actions on a board, one after another.
use Rattle.std.proofs.Common.{◌≡◌, ℕ, ◌<◌, inl, Bool, true, false, ◌==◌, IsTrue, List, [], ◌∷◌, ◌++◌, length, Some, None, refl, sym, ap, ◌∙◌, arith, subst, eq-eqb}
use Rattle.std.proofs.lemmas.List.{append_assoc, append-nil}
use Rattle.sched_base.specs.declared.names.TaskId.{TaskId}
use Rattle.step_tables.specs.declared.tables.Action.{Action}
use Rattle.step_tables.specs.declared.tables.Script.{Script}
use Rattle.step_tables.specs.Sound.{is_sound}
use Rattle.task_machine.specs.declared.calls.Call.{Call}
use Rattle.task_machine.specs.declared.calls.Call.TheVariants as calls
use Rattle.task_machine.specs.declared.calls.Reply.{Reply}
use Rattle.task_machine.specs.declared.calls.Entry.{Entry}
use Rattle.task_machine.specs.Logged.{Logged}
use Rattle.task_machine.specs.Step.{bit}
use Rattle.task_machine.specs.Own.{Own, away, holding, drawing, running}
use Rattle.run_model.specs.Lawful.{Injects}
use Rattle.run_model.specs.Replies.{is_rest}
use Rattle.run_model.specs.Standing.{blank_book}
use Rattle.run_model.specs.Tables.{home_of, call_of, target, actions_in}
use Rattle.turn_steps.specs.Left.{carries, Stage, stage, asked, at_events, injected, went, Rest}
use Rattle.turn_steps.specs.Told.{Told, told}
use Rattle.turn_steps.specs.Has.{caller, said}
use Rattle.turn_steps.specs.Ranges.{AreSound}
use Rattle.turn_steps.proofs.Asked.{went-asked}
use Rattle.turn_steps.proofs.Budget.{costs-events}
use Rattle.turn_steps.proofs.Ranges.{in-events}
use Rattle.turn_steps.proofs.Stages.{has-events}
use Rattle.turn_steps.proofs.Told.{told-rest}
use Rattle.turn_steps.proofs.Turns.{injects-rest}
use Rattle.standing.proofs.Homes.{homed-events}
use Rattle.wake_board.specs.Seen.{Held, Laid, IsPassOf, Calls, entry_by}
use Rattle.wake_board.specs.Ends.{own_by}
use Rattle.thread_loop.specs.Turns.{NamesTasks}
use Rattle.thread_loop.specs.Boards.{in_hand, IsBoardOf}
use Rattle.thread_loop.specs.BoardTurns as by
use Rattle.thread_loop.specs.BoardTurns.{AtStage, AtActions, HasInjected, HasActed}
use Rattle.thread_loop.specs.Calls.{MayMake, IsMade}
use Rattle.thread_loop.proofs.Boards.{at-next, can_give-stage, may-make}
use Rattle.thread_loop.proofs.BoardTurns.{told-append, Told-append}
use Rattle.thread_loop.proofs.Workers.{heard_names}

-- ---- the stages of the injector

names-actions : (s : Script) (actions : List Action) → NamesTasks s (at_events actions (blank_book 0))
names-actions s actions i some =
    let h = has-events i actions (blank_book 0) in
    let hands = h.hands in
    let runs = h.runs in
    let draws = h.draws in
    absurd (omega arith)

same_number : (n : ℕ) → true ≡ (n == n)
same_number n = sym (eq-eqb n n refl)

pub at-begun : (s : Script) (b : Laid) (actions : List Action) (p : Held) → IsTrue (is_sound s) → IsBoardOf s b → IsPassOf b p → p.who ≡ s.workers → p.outs ≡ [] → ((i : ℕ) → own_by p i ≡ away) → AreSound (length s.tasks) actions → AtActions s b actions p
at-begun s b actions p sound board pass number outs free are = record {
  stage = record {
    sound = sound;
    board = board;
    pass = pass;
    number = number;
    among = omega arith;
    part = (costs-events s.depth actions (blank_book 0)).part ∙ same_number s.workers;
    hands = λ i. (let h = (has-events i actions (blank_book 0)).hands in let none = ap in_hand (free i) in omega arith);
    runs = λ i. (let h = (has-events i actions (blank_book 0)).runs in let none = ap by.in_run (free i) in omega arith);
    draws = λ i. (let h = (has-events i actions (blank_book 0)).draws in let none = ap by.in_draw (free i) in omega arith);
    range = in-events (length s.tasks) actions (blank_book 0) are tt;
    homed = homed-events s s.workers actions (blank_book 0) ((λ i some. absurd (omega arith)), tt);
  };
  outs = outs;
}

-- what the call of an action leaves
went_act : (s : Script) (a : Action) (more : List Action) (r : Reply) (seen : Bool) → is_rest r ≡ seen → went s (caller s.workers) 0 (call_of a) r (at_events (a ∷ more) (blank_book 0)) ≡ injected seen (target a) more (blank_book 0)
went_act s a more r seen saw =
    went-asked s (caller s.workers) 0 (call_of a) r (at_events (a ∷ more) (blank_book 0)) refl ∙ ap (λ x. injected x (target a) more (blank_book 0)) saw

pub may-act : (s : Script) (b : Laid) (a : Action) (more : List Action) (p : Held) → AtActions s b (a ∷ more) p → MayMake b.start p (call_of a)
may-act s b a more p at =
    may-make s b s.workers (at_events (a ∷ more) (blank_book 0)) p (call_of a) at.stage (names-actions s (a ∷ more)) (λ lt. absurd (omega arith)) (λ i. refl) refl

-- the stage after such a call
at_acted : (s : Script) (b : Laid) (a : Action) (more : List Action) (p q : Held) (r : Reply) (seen : Bool) → is_rest r ≡ seen → AtActions s b (a ∷ more) p → IsMade b.start p (call_of a) r q → AtStage s b s.workers (injected seen (target a) more (blank_book 0)) q
at_acted s b a more p q r seen saw at made =
    subst (λ (g : Stage). AtStage s b s.workers g q) (went_act s a more r seen saw) (at-next s b s.workers 0 (at_events (a ∷ more) (blank_book 0)) p q (call_of a) r at.stage (names-actions s (a ∷ more)) (inl refl) made.calls made.brings)

outs-made : (p q : Held) (c : Call) (r : Reply) → Calls p c r q → p.outs ≡ [] → q.outs ≡ []
outs-made p q c r t none = ap (λ (x : Held). x.outs) t.entry ∙ none

pub at-busy : (s : Script) (b : Laid) (a : Action) (p q : Held) (r : Reply) → is_rest r ≡ false → IsMade b.start p (call_of a) r q → (more : List Action) → AtActions s b (a ∷ more) p → AtActions s b more q
at-busy s b a p q r saw made more at = record {
  stage = at_acted s b a more p q r false saw at made;
  outs = outs-made p q (call_of a) r made.calls at.outs;
}

-- a task that was seen at rest is to be posted
names_rest : (s : Script) (b : Laid) (a : Action) (more : List Action) (p q : Held) (r : Reply) → is_rest r ≡ true → AtActions s b (a ∷ more) p → IsMade b.start p (call_of a) r q → NamesTasks s (stage (carries (target a) more) (blank_book 0))
names_rest s b a more p q r saw at made =
    let g = at_events (a ∷ more) (blank_book 0) in
    let can = can_give-stage s b s.workers g p q (call_of a) r at.stage made.calls in
    let names = heard_names s (caller s.workers) 0 g r (call_of a, refl, can) (names-actions s (a ∷ more)) in
    subst (NamesTasks s) (ap (λ x. injected x (target a) more (blank_book 0)) saw) names

one_more : (i : ℕ) → bit (i == i) ≡ 1
one_more i = ap bit (eq-eqb i i refl)

pub target-in : (s : Script) (b : Laid) (a : Action) (more : List Action) (p q : Held) (r : Reply) → is_rest r ≡ true → AtActions s b (a ∷ more) p → IsMade b.start p (call_of a) r q → target a < length s.tasks
target-in s b a more p q r saw at made =
    let one = one_more (target a) in
    names_rest s b a more p q r saw at made (target a) (omega arith)

post_as : (s : Script) (a : Action) (i : TaskId) (to : ℕ) (P : Call → Type 0) → i.0 ≡ target a → to ≡ home_of s i.0 → P (calls.Post (record { 0 = target a }) (home_of s (target a))) → P (calls.Post i to)
post_as s a i to P id home h =
    let Q : ℕ → Type 0 = λ x. P (calls.Post (record { 0 = x }) (home_of s x)) in
    let there : P (calls.Post i (home_of s i.0)) = subst Q (sym id) h in
    subst (λ (x : ℕ). P (calls.Post i x)) (sym home) there

pub may-post : (s : Script) (b : Laid) (a : Action) (more : List Action) (p q : Held) (r : Reply) (i : TaskId) (to : ℕ) → is_rest r ≡ true → AtActions s b (a ∷ more) p → IsMade b.start p (call_of a) r q → i.0 ≡ target a → to ≡ home_of s i.0 → MayMake b.start q (calls.Post i to)
may-post s b a more p q r i to saw at made id home =
    let g = stage (carries (target a) more) (blank_book 0) in
    let next = at_acted s b a more p q r true saw at made in
    post_as s a i to (MayMake b.start q) id home (may-make s b s.workers g q (calls.Post (record { 0 = target a }) (home_of s (target a))) next (names_rest s b a more p q r saw at made) (λ lt. absurd (omega arith)) (λ j. refl) refl)

pub at-rest : (s : Script) (b : Laid) (a : Action) (p q u : Held) (r x : Reply) (i : TaskId) (to : ℕ) → is_rest r ≡ true → IsMade b.start p (call_of a) r q → i.0 ≡ target a → to ≡ home_of s i.0 → IsMade b.start q (calls.Post i to) x u → (more : List Action) → AtActions s b (a ∷ more) p → AtActions s b more u
at-rest s b a p q u r x i to saw made id home posted more at =
    let g = stage (carries (target a) more) (blank_book 0) in
    let next = at_acted s b a more p q r true saw at made in
    let asks = post_as s a i to (λ c. asked s g ≡ Some c) id home refl in
    let then = at-next s b s.workers 0 g q u (calls.Post i to) x next (names_rest s b a more p q r saw at made) (inl asks) posted.calls posted.brings in
    record {
      stage = subst (λ (y : Stage). AtStage s b s.workers y u) (went-asked s (caller s.workers) 0 (calls.Post i to) x g asks) then;
      outs = outs-made q u (calls.Post i to) x posted.calls (outs-made p q (call_of a) r made.calls at.outs);
    }

-- ---- the calls of the injector

entry_as : (p : Held) (k : ℕ) (c : Call) (r : Reply) → p.who ≡ k → entry_by p.who c r ≡ said (caller k) c r
entry_as p k c r same = ap (λ n. entry_by n c r) same

grown_one : (p q : Held) (k : ℕ) (c : Call) (r : Reply) → p.who ≡ k → Calls p c r q → q ≡ record p { entries = p.entries ++ said (caller k) c r ∷ [] }
grown_one p q k c r same t = t.entry ∙ ap (λ e. record p { entries = p.entries ++ e ∷ [] }) (entry_as p k c r same)

pub acted-busy : (s : Script) (a : Action) (log next : Logged) (p q : Held) (r : Reply) → p.who ≡ s.workers → is_rest r ≡ false → Calls p (call_of a) r q → next.entries ≡ log.entries ++ said (caller s.workers) (call_of a) r ∷ [] → next.room ≡ log.room → HasActed s a log p next q
acted-busy s a log next p q r number saw made logged room = record {
  entries = said (caller s.workers) (call_of a) r ∷ [];
  few = omega arith;
  logged = logged;
  room = room;
  injected = λ more. record {
    grown = grown_one p q s.workers (call_of a) r number made;
    followed = (refl, inl refl, tt);
    stage = went_act s a more r false saw;
  };
}

pub acted-rest : (s : Script) (a : Action) (log mid next : Logged) (p q u : Held) (r x : Reply) (i : TaskId) (to : ℕ) → p.who ≡ s.workers → is_rest r ≡ true → Calls p (call_of a) r q → i.0 ≡ target a → to ≡ home_of s i.0 → Calls q (calls.Post i to) x u → mid.entries ≡ log.entries ++ said (caller s.workers) (call_of a) r ∷ [] → mid.room ≡ log.room → next.entries ≡ mid.entries ++ said (caller s.workers) (calls.Post i to) x ∷ [] → next.room ≡ mid.room → HasActed s a log p next u
acted-rest s a log mid next p q u r x i to number saw made id home posted logged room then_logged then_room =
    let w = caller s.workers in
    let e : Entry = said w (call_of a) r in
    let f : Entry = said w (calls.Post i to) x in
    let one = grown_one p q s.workers (call_of a) r number made in
    let who : q.who ≡ s.workers = ap (λ (y : Held). y.who) one ∙ number in
    let two = grown_one q u s.workers (calls.Post i to) x who posted in
    record {
      entries = e ∷ f ∷ [];
      few = omega arith;
      logged = then_logged ∙ ap (λ es. es ++ f ∷ []) logged ∙ append_assoc log.entries (e ∷ []) (f ∷ []);
      room = then_room ∙ room;
      injected = λ more.
          let g = stage (carries (target a) more) (blank_book 0) in
          let asks = post_as s a i to (λ c. asked s g ≡ Some c) id home refl in
          let mid_stage = went_act s a more r true saw in
          record {
            grown = two ∙ ap (λ (y : Held). record y { entries = y.entries ++ f ∷ [] }) one ∙ ap (λ es. record p { entries = es }) (append_assoc p.entries (e ∷ []) (f ∷ []));
            followed = (refl, inl refl, (refl, inl (subst (λ (y : Stage). asked s y ≡ Some (calls.Post i to)) (sym mid_stage) asks), tt));
            stage = ap (λ (y : Stage). went s w 0 (calls.Post i to) x y) mid_stage ∙ went-asked s w 0 (calls.Post i to) x g asks;
          };
    }

pub injected-none : (s : Script) (actions : List Action) (p : Held) → HasInjected s actions actions p [] p
injected-none s actions p = record {
  grown = ap (λ es. record p { entries = es }) (sym (append-nil p.entries));
  followed = tt;
  stage = refl;
}

pub injected-trans : (s : Script) (first mid last : List Action) (p q u : Held) (xs ys : List Entry) → HasInjected s first mid p xs q → HasInjected s mid last q ys u → HasInjected s first last p (xs ++ ys) u
injected-trans s first mid last p q u xs ys f g = record {
  grown = g.grown ∙ ap (λ (y : Held). record y { entries = y.entries ++ ys }) f.grown ∙ ap (λ es. record p { entries = es }) (append_assoc p.entries xs ys);
  followed = Told-append s (caller s.workers) 0 (at_events first (blank_book 0)) xs ys f.followed (subst (λ (y : Stage). Told s (caller s.workers) 0 y ys) (sym f.stage) g.followed);
  stage = told-append s (caller s.workers) 0 (at_events first (blank_book 0)) xs ys ∙ ap (λ (y : Stage). told s (caller s.workers) 0 y ys) f.stage ∙ g.stage;
}

-- all actions of a round are a lawful round of the injector
pub injects-all : (s : Script) (r : ℕ) (actions : List Action) (p q : Held) (es : List Entry) → actions ≡ actions_in s r → HasInjected s actions [] p es q → Injects s r es
injects-all s r actions p q es same h =
    let g = at_events actions (blank_book 0) in
    let over : asked s (told s (caller s.workers) 0 g es) ≡ None = ap (asked s) h.stage in
    let rest = told-rest s (caller s.workers) 0 g es h.followed over in
    let there = subst (λ (xs : List Action). Rest s (caller s.workers) 0 (at_events xs (blank_book 0)) es (told s (caller s.workers) 0 (at_events xs (blank_book 0)) es).book) same rest in
    injects-rest s r 0 (blank_book 0) es (told s (caller s.workers) 0 (at_events (actions_in s r) (blank_book 0)) es).book there

away_so : (o : Own) → in_hand o ≡ 0 → by.in_run o ≡ 0 → by.in_draw o ≡ 0 → o ≡ away
away_so away h r d = refl
away_so holding h r d = absurd (omega arith)
away_so drawing h r d = absurd (omega arith)
away_so running h r d = absurd (omega arith)

pub free-over : (s : Script) (b : Laid) (p : Held) → AtActions s b [] p → (i : ℕ) → own_by p i ≡ away
free-over s b p at i = away_so (own_by p i) (at.stage.hands i) (at.stage.runs i) (at.stage.draws i)
