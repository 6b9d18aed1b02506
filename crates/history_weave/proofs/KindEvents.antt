-- What an entry of a kind is for each task.
use Rattle.std.proofs.Common.{◌≡◌, ◌≢◌, ℕ, ◌/◌, ◌%◌, inl, inr, Bool, true, false, ◌==◌, if◌then◌else◌, refl, sym, ap, subst, ◌∙◌, eq-eqb, ne_eqb, List}
use Rattle.std.proofs.lemmas.Bool.{cases_eq}
use Rattle.std.specs.Int.{bit_at}
use Rattle.task_machine.specs.declared.task.Seen.{Seen}
use Rattle.task_machine.specs.declared.task.Seen.TheVariants as views
use Rattle.task_machine.specs.declared.calls.Call.{Call}
use Rattle.task_machine.specs.declared.calls.Call.TheVariants as calls
use Rattle.task_machine.specs.declared.calls.Reply.{Reply}
use Rattle.task_machine.specs.declared.calls.Reply.TheVariants as replies
use Rattle.task_machine.specs.declared.calls.Entry.{Entry}
use Rattle.task_machine.specs.Step.{State, task_at, is_about, Allowed}
use Rattle.task_machine.specs.Event.{Change, wakes, kills, takes, drops, retires, Event, apart, sees, posts, gets, misses, draws, looks, gathers, event_of, event_at, Allows}
use Rattle.task_machine.proofs.Events.{Allowed-split}
use Rattle.history_weave.specs.declared.kinds.Kind.{Kind}
use Rattle.history_weave.specs.declared.kinds.Kind.TheVariants as kinds
use Rattle.history_weave.specs.Rule.{is_quiet, draw_of, ReadyAt, Ready}
use Rattle.history_weave.specs.Kinds.{kind, look, get, is_look, looks_at, is_get, gathers_at, KindSeen, KindGoes}
use Rattle.history_weave.proofs.Chains.{Passes_one, Passes_none}

-- what an entry of a kind, with this reply, is for task i is v i
abbrev pub Events : Kind → Reply → (ℕ → Event) → Type 0
Events (kinds.Look t x q) r v =
    (c : Change) × (q ≡ is_quiet x c) × (v t ≡ sees x c) × ((i : ℕ) → i ≢ t → v i ≡ apart)
Events (kinds.Post t b) r v = (v t ≡ posts b) × ((i : ℕ) → i ≢ t → v i ≡ apart)
Events (kinds.Get g) r v =
    (n : ℕ) × (r ≡ replies.Group n) × ((i : ℕ) → i / 64 ≡ g → v i ≡ gathers i (replies.Group n)) × ((i : ℕ) → i / 64 ≢ g → v i ≡ apart)
Events (kinds.Draw t) r v = (v t ≡ draws) × ((i : ℕ) → i ≢ t → v i ≡ apart)
Events kinds.Apart r v = (i : ℕ) → v i ≡ apart

quiet_drops : (x : Seen) → is_quiet x takes ≡ is_quiet x drops
quiet_drops views.Gone = refl
quiet_drops (views.Live st p b m) = refl

quiet_retires : (x : Seen) → is_quiet x takes ≡ is_quiet x retires
quiet_retires views.Gone = refl
quiet_retires (views.Live st p b m) = refl

abbrev by_call : Call → Reply → ℕ → Event
by_call c r i = if is_about i c then event_of i c r else apart

abbrev if_about : ℕ → ℕ → Event → Event
if_about i t v = if i == t then v else apart

about : (t : ℕ) (v : Event) → if_about t t v ≡ v
about t v = rw (eq-eqb t t refl)

away : (t i : ℕ) (v : Event) → i ≢ t → if_about i t v ≡ apart
away t i v ne = rw (ne_eqb i t ne)

never : (b : Bool) → (if b then apart else apart) ≡ apart
never true = refl
never false = refl

-- a look whose aim is c, and which is as quiet as d
look-events : (t : ℕ) (c d : Change) (r : Reply) → ((x : Seen) → is_quiet x d ≡ is_quiet x c) → Events (look t d r) r (λ i. if_about i t (looks c r))
look-events t c d (replies.Task x) same = (c, same x, about t (sees x c), λ i ne. away t i (sees x c) ne)
look-events t c d (replies.Group n) same = λ i. never (i == t)
look-events t c d replies.Done same = λ i. never (i == t)

get-events : (g : ℕ) (r : Reply) → Events (get g r) r (λ i. if i / 64 == g then gathers i r else apart)
get-events g (replies.Group n) = (
  n,
  refl,
  λ i e. (let hit = eq-eqb (i / 64) g e in rw hit),
  λ i ne. (let miss = ne_eqb (i / 64) g ne in rw miss),
)
get-events g (replies.Task x) = λ i. never (i / 64 == g)
get-events g replies.Done = λ i. never (i / 64 == g)

kind-events : (c : Call) (r : Reply) → Events (kind c r) r (by_call c r)
kind-events (calls.Wake j f) r = look-events j.0 (wakes f) (wakes f) r (λ x. refl)
kind-events (calls.Kill j) r = look-events j.0 kills kills r (λ x. refl)
kind-events (calls.Post j b) r = (about j.0 (posts b), λ i ne. away j.0 i (posts b) ne)
kind-events (calls.Get g) r = get-events g r
kind-events (calls.Draw j) r = (about j.0 draws, λ i ne. away j.0 i draws ne)
kind-events (calls.Take j) r = look-events j.0 takes takes r (λ x. refl)
kind-events (calls.DropRun j) r = look-events j.0 drops takes r quiet_drops
kind-events (calls.Retire j) r = look-events j.0 retires takes r quiet_retires

pub Events-kind : (κ : Kind) (e : Entry) → kind e.call e.reply ≡ κ → Events κ e.reply (λ i. event_at i e)
Events-kind κ e h =
    subst (λ (q : Kind). Events q e.reply (λ i. event_at i e)) h (kind-events e.call e.reply)

-- which tests pass an entry of a kind
pub look-passes : (t : ℕ) (x : Seen) (q : Bool) (e : Entry) → kind e.call e.reply ≡ kinds.Look t x q → Passes_one looks_at t e
look-passes t x q e h =
    let v = Events-kind (kinds.Look t x q) e h in (ap is_look v.2, λ i ne. ap is_look (v.3 i ne))

pub gathers-look : (i n : ℕ) → is_look (gathers i (replies.Group n)) ≡ false
gathers-look i n = either (bit_at n (i % 64) == 1)
  where
    either : (b : Bool) → is_look (if b then gets else misses) ≡ false
    either true = refl
    either false = refl

gathers-draw : (i n : ℕ) → draw_of (gathers i (replies.Group n)) ≡ 0
gathers-draw i n = either (bit_at n (i % 64) == 1)
  where
    either : (b : Bool) → draw_of (if b then gets else misses) ≡ 0
    either true = refl
    either false = refl

-- the kinds that are no look
abbrev pub NoLook : Kind → Type 0
NoLook (kinds.Look t x q) = ⊥
NoLook κ = Unit {0}

by_eq : (F : Event → Type 0) (v u : Event) → v ≡ u → F u → F v
by_eq F v u e h = subst F (sym e) h

at_each : (F : Event → Type 0) (v : ℕ → Event) (t : ℕ) (u : Event) → v t ≡ u → ((i : ℕ) → i ≢ t → v i ≡ apart) → F u → F apart → (i : ℕ) → F (v i)
at_each F v t u here others h g i =
    elim (cases_eq i t) [
      | inl same ↦ (let e : v i ≡ u = ap v same ∙ here in by_eq F (v i) u e h)
      | inr ne ↦ by_eq F (v i) apart (others i ne) g
    ]

at_group : (F : Event → Type 0) (v : ℕ → Event) (g n : ℕ) → ((i : ℕ) → i / 64 ≡ g → v i ≡ gathers i (replies.Group n)) → ((i : ℕ) → i / 64 ≢ g → v i ≡ apart) → ((i : ℕ) → F (gathers i (replies.Group n))) → F apart → (i : ℕ) → F (v i)
at_group F v g n here others h a i =
    elim (cases_eq (i / 64) g) [
      | inl same ↦ by_eq F (v i) (gathers i (replies.Group n)) (here i same) (h i)
      | inr ne ↦ by_eq F (v i) apart (others i ne) a
    ]

none-look : (κ : Kind) (r : Reply) (v : ℕ → Event) → NoLook κ → Events κ r v → (i : ℕ) → is_look (v i) ≡ false
none-look (kinds.Look t x q) r v no_look h i = absurd no_look
none-look (kinds.Post t b) r v no_look h i = at_each (λ u. is_look u ≡ false) v t (posts b) h.0 h.1 refl refl i
none-look (kinds.Get g) r v no_look h i =
    at_group (λ u. is_look u ≡ false) v g h.0 h.2 h.3 (λ j. gathers-look j h.0) refl i
none-look (kinds.Draw t) r v no_look h i = at_each (λ u. is_look u ≡ false) v t draws h.0 h.1 refl refl i
none-look kinds.Apart r v no_look h i = by_eq (λ u. is_look u ≡ false) (v i) apart (h i) refl

pub no_look-passes : (κ : Kind) (e : Entry) → kind e.call e.reply ≡ κ → NoLook κ → Passes_none looks_at e
no_look-passes κ e h no_look i = none-look κ e.reply (λ j. event_at j e) no_look (Events-kind κ e h) i

pub get-passes : (g : ℕ) (e : Entry) → kind e.call e.reply ≡ kinds.Get g → Passes_one gathers_at g e
get-passes g e h = (ap (is_get g) h ∙ eq-eqb g g refl, λ s ne. ap (is_get s) h ∙ ne_eqb s g ne)

-- the kinds that are no get
abbrev pub NoGather : Kind → Type 0
NoGather (kinds.Get g) = ⊥
NoGather κ = Unit {0}

none-get : (κ : Kind) (g : ℕ) → NoGather κ → is_get g κ ≡ false
none-get (kinds.Get h) g no_get = absurd no_get
none-get (kinds.Look t x q) g no_get = refl
none-get (kinds.Post t b) g no_get = refl
none-get (kinds.Draw t) g no_get = refl
none-get kinds.Apart g no_get = refl

pub no_get-passes : (κ : Kind) (e : Entry) → kind e.call e.reply ≡ κ → NoGather κ → Passes_none gathers_at e
no_get-passes κ e h no_get g = ap (is_get g) h ∙ none-get κ g no_get

-- how many draws an entry of a kind is
pub draw-here : (t : ℕ) (e : Entry) → kind e.call e.reply ≡ kinds.Draw t → draw_of (event_at t e) ≡ 1
draw-here t e h = let v = Events-kind (kinds.Draw t) e h in ap draw_of v.0

pub draw-others : (t : ℕ) (e : Entry) → kind e.call e.reply ≡ kinds.Draw t → (i : ℕ) → i ≢ t → draw_of (event_at i e) ≡ 0
draw-others t e h i ne = let v = Events-kind (kinds.Draw t) e h in ap draw_of (v.1 i ne)

abbrev pub NoDraw : Kind → Type 0
NoDraw (kinds.Draw t) = ⊥
NoDraw κ = Unit {0}

none-draw : (κ : Kind) (r : Reply) (v : ℕ → Event) → NoDraw κ → Events κ r v → (i : ℕ) → draw_of (v i) ≡ 0
none-draw (kinds.Draw t) r v no_draw h i = absurd no_draw
none-draw (kinds.Look t x q) r v no_draw h i =
    at_each (λ u. draw_of u ≡ 0) v t (sees x h.0) h.2 h.3 refl refl i
none-draw (kinds.Post t b) r v no_draw h i = at_each (λ u. draw_of u ≡ 0) v t (posts b) h.0 h.1 refl refl i
none-draw (kinds.Get g) r v no_draw h i =
    at_group (λ u. draw_of u ≡ 0) v g h.0 h.2 h.3 (λ j. gathers-draw j h.0) refl i
none-draw kinds.Apart r v no_draw h i = by_eq (λ u. draw_of u ≡ 0) (v i) apart (h i) refl

pub no_draw : (κ : Kind) (e : Entry) → kind e.call e.reply ≡ κ → NoDraw κ → (i : ℕ) → draw_of (event_at i e) ≡ 0
no_draw κ e h none i = none-draw κ e.reply (λ j. event_at j e) none (Events-kind κ e h) i

-- an entry may go where its kind does
gathers-ready : (logs : ℕ → List Entry) (s : State) (k i n : ℕ) → ReadyAt logs k i (gathers i (replies.Group n)) (task_at s i)
gathers-ready logs s k i n = either (bit_at n (i % 64) == 1)
  where
    either : (b : Bool) → ReadyAt logs k i (if b then gets else misses) (task_at s i)
    either true = tt
    either false = tt

goes-ready : (logs : ℕ → List Entry) (s : State) (k : ℕ) (κ : Kind) (r : Reply) (v : ℕ → Event) → Events κ r v → KindGoes logs s k κ → (i : ℕ) → ReadyAt logs k i (v i) (task_at s i)
goes-ready logs s k (kinds.Look t x q) r v h goes i =
    elim (cases_eq i t) [
      | inl same ↦
          let here : ReadyAt logs k t (sees x h.0) (task_at s t) =
          elim goes [ inl quiet ↦ inl (sym h.1 ∙ quiet) | inr lets ↦ inr lets ] in
          rw same (by_eq (λ u. ReadyAt logs k t u (task_at s t)) (v t) (sees x h.0) h.2 here)
      | inr ne ↦ by_eq (λ u. ReadyAt logs k i u (task_at s i)) (v i) apart (h.3 i ne) tt
    ]
goes-ready logs s k (kinds.Post t b) r v h goes i =
    elim (cases_eq i t) [
      | inl same ↦ rw same (by_eq (λ u. ReadyAt logs k t u (task_at s t)) (v t) (posts b) h.0 goes)
      | inr ne ↦ by_eq (λ u. ReadyAt logs k i u (task_at s i)) (v i) apart (h.1 i ne) tt
    ]
goes-ready logs s k (kinds.Get g) r v h goes i =
    elim (cases_eq (i / 64) g) [
      | inl same ↦ by_eq (λ u. ReadyAt logs k i u (task_at s i)) (v i) (gathers i (replies.Group h.0)) (h.2 i same) (gathers-ready logs s k i h.0)
      | inr ne ↦ by_eq (λ u. ReadyAt logs k i u (task_at s i)) (v i) apart (h.3 i ne) tt
    ]
goes-ready logs s k (kinds.Draw t) r v h goes i =
    elim (cases_eq i t) [
      | inl same ↦ rw same (by_eq (λ u. ReadyAt logs k t u (task_at s t)) (v t) draws h.0 goes)
      | inr ne ↦ by_eq (λ u. ReadyAt logs k i u (task_at s i)) (v i) apart (h.1 i ne) tt
    ]
goes-ready logs s k kinds.Apart r v h goes i =
    by_eq (λ u. ReadyAt logs k i u (task_at s i)) (v i) apart (h i) tt

pub Ready-goes : (logs : ℕ → List Entry) (s : State) (e : Entry) (κ : Kind) → kind e.call e.reply ≡ κ → KindGoes logs s e.caller.0 κ → Ready logs s e
Ready-goes logs s e κ h goes =
    goes-ready logs s e.caller.0 κ e.reply (λ i. event_at i e) (Events-kind κ e h) goes

ready-goes : (logs : ℕ → List Entry) (s : State) (k : ℕ) (κ : Kind) (r : Reply) (v : ℕ → Event) → Events κ r v → ((i : ℕ) → ReadyAt logs k i (v i) (task_at s i)) → KindGoes logs s k κ
ready-goes logs s k (kinds.Look t x q) r v h ready =
    let here : ReadyAt logs k t (sees x h.0) (task_at s t) = rw h.2 at (ready t) in
    elim here [ inl quiet ↦ inl (h.1 ∙ quiet) | inr lets ↦ inr lets ]
ready-goes logs s k (kinds.Post t b) r v h ready = rw h.0 at (ready t)
ready-goes logs s k (kinds.Get g) r v h ready = tt
ready-goes logs s k (kinds.Draw t) r v h ready = rw h.0 at (ready t)
ready-goes logs s k kinds.Apart r v h ready = tt

pub goes-Ready : (logs : ℕ → List Entry) (s : State) (e : Entry) (κ : Kind) → kind e.call e.reply ≡ κ → Ready logs s e → KindGoes logs s e.caller.0 κ
goes-Ready logs s e κ h ready =
    ready-goes logs s e.caller.0 κ e.reply (λ i. event_at i e) (Events-kind κ e h) ready

seen-allowed : (s : State) (e : Entry) (κ : Kind) (r : Reply) (v : ℕ → Event) → Events κ r v → ((i : ℕ) → Allows s.workers e.caller (v i) (task_at s i)) → KindSeen s κ
seen-allowed s e (kinds.Look t x q) r v h a =
    let here : Allows s.workers e.caller (sees x h.0) (task_at s t) = rw h.2 at (a t) in here.0
seen-allowed s e (kinds.Draw t) r v h a = rw h.0 at (a t)
seen-allowed s e κ r v h a = tt

-- the machine is as an allowed entry finds it
pub Allowed-seen : (s : State) (e : Entry) (κ : Kind) → kind e.call e.reply ≡ κ → Allowed s e → KindSeen s κ
Allowed-seen s e κ h a =
    seen-allowed s e κ e.reply (λ i. event_at i e) (Events-kind κ e h) (Allowed-split s e a).1
