-- Any next call of any caller is allowed, and what stands together goes on.
use Rattle.std.proofs.Common.{◌≡◌, ◌≢◌, ℕ, zero, suc, ◌+◌, ◌-◌, ◌^◌, ◌<◌, ◌≤◌, Bool, true, false, ◌&&◌, ◌==◌, ◌⊎◌, inl, inr, List, [], ◌∷◌, length, Option, None, Some, IsTrue, refl, sym, ap, ◌∙◌, arith, eq-eqb, eqb-true, ne_eqb, subst}
use Rattle.std.proofs.lemmas.Bool.{cases_eq, cases_lt, lt-ltb}
use Rattle.std.proofs.lemmas.Bool.Decides.{nat_tests}
use Rattle.std.proofs.lemmas.List.{get_or_past}
use Rattle.std.proofs.Math.Bool.{or-true}
use Rattle.sched_base.specs.declared.names.CallerId.{CallerId}
use Rattle.sched_base.specs.declared.names.TaskId.{TaskId}
use Rattle.sched_base.specs.ReasonNames.{timer}
use Rattle.queue_model.specs.Classes.{Next}
use Rattle.step_tables.specs.declared.tables.Action.{Action}
use Rattle.step_tables.specs.declared.tables.Action.TheVariants.{Wake as Wakes, Kill as Kills}
use Rattle.step_tables.specs.declared.tables.Script.{Script}
use Rattle.step_tables.specs.Sound.{is_sound_action}
use Rattle.task_machine.specs.declared.task.Place.{Place}
use Rattle.task_machine.specs.declared.task.Place.TheVariants as places
use Rattle.task_machine.specs.declared.calls.Call.{Call}
use Rattle.task_machine.specs.declared.calls.Call.TheVariants as calls
use Rattle.task_machine.specs.declared.calls.Reply.{Reply}
use Rattle.task_machine.specs.declared.calls.Reply.TheVariants.{Done}
use Rattle.task_machine.specs.declared.calls.Entry.{Entry}
use Rattle.task_machine.specs.Task.{resting, in_hands, in_draw, in_run, is_boxed}
use Rattle.task_machine.specs.Step.{State, task_at, subject, is_about, is_named, names, is_box, is_task, fits, Roomy, bit, Allowed, reply_of}
use Rattle.task_machine.specs.History.{stepped}
use Rattle.task_machine.proofs.After.{length-after}
use Rattle.task_machine.proofs.Replies.{Allowed-reply_of}
use Rattle.task_machine.proofs.Takes.{takes-step}
use Rattle.run_model.proofs.Readings.{some_inj}
use Rattle.run_model.specs.Tables.{home_of, call_of}
use Rattle.run_model.specs.Book.{Book}
use Rattle.turn_steps.specs.Left.{Onward, next_in, Left, gets, wakes, runs, acts, posts, drops, retires, returns, drawn, injects, carries, over, Stage, stage, take_call, asked, asked_in, draws_now, MayCall, went}
use Rattle.turn_steps.specs.Has.{caller, said}
use Rattle.turn_steps.specs.Ranges.{InRange, IsFit}
use Rattle.turn_steps.specs.Counts.{is_injectors, takes_left}
use Rattle.turn_steps.proofs.Asked.{by_ask}
use Rattle.turn_steps.proofs.Books.{listed-taken}
use Rattle.turn_steps.proofs.Budget.{next-after, is_take-le, Pays-went}
use Rattle.turn_steps.proofs.Ranges.{InRange-heard, InRange-draw}
use Rattle.standing.specs.Places.{held, ran, drawn_to}
use Rattle.standing.specs.Keeps.{Owns, Callers, set_at, sum_below, Keeps}
use Rattle.standing.specs.Going.{called, IsNext, Going, gone_on}
use Rattle.standing.proofs.Boxes.{PostsTo, comes-step}
use Rattle.standing.proofs.Effects.{of_held, of_run}
use Rattle.standing.proofs.OwnsKept.{Owns-other, Owns-went}

-- a task that somebody has, or that is in a box, is one of the machine's
in-from_place : (state : State) (i : ℕ) (f : Place → Bool) → f places.Rest ≡ false → f (task_at state i).place ≡ true → i < length state.tasks
in-from_place state i f rests h =
    elim (cases_lt i (length state.tasks)) [
      | inl lt ↦ lt
      | inr le ↦ (let past : f (task_at state i).place ≡ false = ap (λ t. f t.place) (get_or_past state.tasks i resting le) ∙ rests in cc)
    ]

pub bit_set : (b : Bool) → 0 < bit b → b ≡ true
bit_set true h = refl
bit_set false h = absurd (omega arith)

pub held-in : (state : State) (k : CallerId) (i : ℕ) → 0 < held k state i → i < length state.tasks
held-in state k i h = in-from_place state i (in_hands k) refl (bit_set (in_hands k (task_at state i).place) h)

pub ran-in : (state : State) (k : CallerId) (i : ℕ) → 0 < ran k state i → i < length state.tasks
ran-in state k i h = in-from_place state i (in_run k) refl (bit_set (in_run k (task_at state i).place) h)

pub drawn-in : (state : State) (k : CallerId) (i : ℕ) → 0 < drawn_to k state i → i < length state.tasks
drawn-in state k i h = in-from_place state i (in_draw k) refl (bit_set (in_draw k (task_at state i).place) h)

pub boxed-in : (state : State) (b i : ℕ) → is_boxed b (task_at state i).place ≡ true → i < length state.tasks
boxed-in state b i h = in-from_place state i (is_boxed b) refl h

-- what makes a call of caller k allowed with the machine's reply
pub record Ready (state : State) (k : ℕ) (c : Call) : Type 0 where
  pub named : is_named state (caller k) c ≡ true
  pub fit : fits state (caller k) c ≡ true
  pub room : Roomy c (task_at state (subject c))

all_named : (a b c : Bool) → a ≡ true → b ≡ true → c ≡ true → (a && (b && c)) ≡ true
all_named a b c p q r = rw (p, q) r

named-call : (state : State) (k : ℕ) (c : Call) → k < state.workers + 1 → subject c < length state.tasks → names state (caller k) c ≡ true → is_named state (caller k) c ≡ true
named-call state k c box task rest =
    all_named (is_box state k) (is_task state (subject c)) (names state (caller k) c) (lt-ltb k (state.workers + 1) box) (lt-ltb (subject c) (length state.tasks) task) rest

-- a task that is listed, due, run or drawn is where it has to be
one_more : (i : ℕ) → bit (i == i) ≡ 1
one_more i = ap bit (eq-eqb i i refl)

held_so : (k : ℕ) (state : State) (i : ℕ) → 0 < held (caller k) state i → in_hands (caller k) (task_at state i).place ≡ true
held_so k state i h = bit_set (in_hands (caller k) (task_at state i).place) h

ran_so : (k : ℕ) (state : State) (i : ℕ) → 0 < ran (caller k) state i → in_run (caller k) (task_at state i).place ≡ true
ran_so k state i h = bit_set (in_run (caller k) (task_at state i).place) h

drawn_so : (k : ℕ) (state : State) (i : ℕ) → 0 < drawn_to (caller k) state i → in_draw (caller k) (task_at state i).place ≡ true
drawn_so k state i h = bit_set (in_draw (caller k) (task_at state i).place) h

-- a post of a task in hand
ready-post : (s : Script) (state : State) (k i : ℕ) → IsFit s → state.workers ≡ s.workers → k ≤ s.workers → 0 < held (caller k) state i → Ready state k (calls.Post (record { 0 = i }) (home_of s i))
ready-post s state k i fit w le h = record {
  named = named-call state k (calls.Post (record { 0 = i }) (home_of s i)) (omega arith) (held-in state (caller k) i h) (lt-ltb (home_of s i) (state.workers + 1) (omega (arith, fit.homes i)));
  fit = held_so k state i h;
  room = tt;
}

-- a take of a task in hand, or of one that was drawn
ready-take : (state : State) (k i : ℕ) → k < state.workers + 1 → (task_at state i).takes < 2 ^ 48 - 1 → (0 < held (caller k) state i) ⊎ (0 < drawn_to (caller k) state i) → Ready state k (calls.Take (record { 0 = i }))
ready-take state k i box room h = record {
  named = named-call state k (calls.Take (record { 0 = i })) box (elim h [ inl x ↦ held-in state (caller k) i x | inr x ↦ drawn-in state (caller k) i x ]) refl;
  fit = elim h [ inl x ↦ rw (held_so k state i x) refl | inr x ↦ rw (drawn_so k state i x) (or-true (in_hands (caller k) (task_at state i).place)) ];
  room = room;
}

-- an action of a script
ready-action : (state : State) (n k : ℕ) (a : Action) → n ≡ length state.tasks → k < state.workers + 1 → IsTrue (is_sound_action n a) → Ready state k (call_of a)
ready-action state n k (Wakes i f) e box h = record {
  named = named-call state k (calls.Wake i f) box (grind (arith, nat_tests)) (grind (arith, nat_tests));
  fit = refl;
  room = tt;
}
ready-action state n k (Kills i) e box h = record {
  named = named-call state k (calls.Kill i) box (grind (arith, nat_tests)) refl;
  fit = refl;
  room = tt;
}

-- what is known where a call comes next
record Known (s : Script) (state : State) (k limit : ℕ) (l : Left) (b : Book) : Type 0 where
  fit : IsFit s
  workers : state.workers ≡ s.workers
  tasks : length state.tasks ≡ length s.tasks
  among : k ≤ s.workers
  part : is_injectors l ≡ (k == s.workers)
  below : limit < 2 ^ 48
  owns : Owns k state (stage l b)
  range : InRange (length s.tasks) (stage l b)
  takes : (i : ℕ) → (task_at state i).takes + takes_left s.depth l ≤ limit

not_same : (k n : ℕ) → false ≡ (k == n) → k ≢ n
not_same k n h same = let yes : (k == n) ≡ true = eq-eqb k n same in cc

ready-runs : (s : Script) (state : State) (k limit : ℕ) (q : Onward) (b : Book) (o : Option Next) (c : Call) → next_in q b ≡ o → Known s state k limit (runs q) b → take_call o ≡ Some c → Ready state k c
ready-runs s state k limit q b None c e h a = cc
ready-runs s state k limit q b (Some x) c e h a =
    let i = x.task in
    let has : 0 < held (caller k) state i = omega (arith, h.owns.hands i, listed-taken i b q x e, one_more i) in
    let room : (task_at state i).takes < 2 ^ 48 - 1 = omega (arith, h.takes i, next-after s.depth b q x e, h.below) in
    subst (Ready state k) (some_inj (calls.Take (record { 0 = i })) c a) (ready-take state k i (omega (arith, h.among, h.workers)) room (inl has))

ready-retires : (s : Script) (state : State) (k limit : ℕ) (in_hand : Bool) (i : ℕ) (q : Onward) (b : Book) → Known s state k limit (retires in_hand i q) b → Ready state k (calls.Retire (record { 0 = i }))
ready-retires s state k limit true i q b h =
    let has : 0 < held (caller k) state i = omega (arith, h.owns.hands i, one_more i) in
    record {
      named = named-call state k (calls.Retire (record { 0 = i })) (omega (arith, h.among, h.workers)) (held-in state (caller k) i has) refl;
      fit = of_held (caller k) (task_at state i).place (held_so k state i has);
      room = tt;
    }
ready-retires s state k limit false i q b h =
    let has : 0 < ran (caller k) state i = omega (arith, h.owns.runs i, one_more i) in
    record {
      named = named-call state k (calls.Retire (record { 0 = i })) (omega (arith, h.among, h.workers)) (ran-in state (caller k) i has) refl;
      fit = of_run (caller k) (task_at state i).place (ran_so k state i has);
      room = tt;
    }

ready-drops : (s : Script) (state : State) (k limit i : ℕ) (q : Onward) (b : Book) → Known s state k limit (drops i q) b → Ready state k (calls.DropRun (record { 0 = i }))
ready-drops s state k limit i q b h =
    let has : 0 < ran (caller k) state i = omega (arith, h.owns.runs i, one_more i) in
    record {
      named = named-call state k (calls.DropRun (record { 0 = i })) (omega (arith, h.among, h.workers)) (ran-in state (caller k) i has) refl;
      fit = ran_so k state i has;
      room = tt;
    }

ready-gets : (s : Script) (state : State) (k limit g : ℕ) (gs : List ℕ) (b : Book) → Known s state k limit (gets g gs) b → Ready state k (calls.Get g)
ready-gets s state k limit g gs b h =
    let ne = not_same k s.workers h.part in
    record {
      named = named-call state k (calls.Get g) (omega (arith, h.among, h.workers)) (omega (arith, h.tasks, h.range.names.0)) (lt-ltb k state.workers (omega (arith, h.among, h.workers)));
      fit = refl;
      room = tt;
    }

ready-wakes : (s : Script) (state : State) (k limit i : ℕ) (is : List ℕ) (b : Book) → Known s state k limit (wakes i is) b → Ready state k (calls.Wake (record { 0 = i }) timer)
ready-wakes s state k limit i is b h = record {
  named = named-call state k (calls.Wake (record { 0 = i }) timer) (omega (arith, h.among, h.workers)) (omega (arith, h.tasks, h.range.names.0)) refl;
  fit = refl;
  room = tt;
}

ready-asked : (s : Script) (state : State) (k limit : ℕ) (l : Left) (b : Book) (c : Call) → Known s state k limit l b → asked_in s l b ≡ Some c → Ready state k c
ready-asked s state k limit (gets g gs) b c h e =
    subst (Ready state k) (some_inj (calls.Get g) c e) (ready-gets s state k limit g gs b h)
ready-asked s state k limit (wakes i is) b c h e =
    subst (Ready state k) (some_inj (calls.Wake (record { 0 = i }) timer) c e) (ready-wakes s state k limit i is b h)
ready-asked s state k limit (runs q) b c h e = ready-runs s state k limit q b (next_in q b) c refl h e
ready-asked s state k limit (acts a more i row q) b c h e =
    subst (Ready state k) (some_inj (call_of a) c e) (ready-action state (length s.tasks) k a (sym h.tasks) (omega (arith, h.among, h.workers)) h.range.names.0)
ready-asked s state k limit (posts j more i row q) b c h e =
    let has : 0 < held (caller k) state j = omega (arith, h.owns.hands j, one_more j) in
    subst (Ready state k) (some_inj (calls.Post (record { 0 = j }) (home_of s j)) c e) (ready-post s state k j h.fit h.workers h.among has)
ready-asked s state k limit (drops i q) b c h e =
    subst (Ready state k) (some_inj (calls.DropRun (record { 0 = i })) c e) (ready-drops s state k limit i q b h)
ready-asked s state k limit (retires in_hand i q) b c h e =
    subst (Ready state k) (some_inj (calls.Retire (record { 0 = i })) c e) (ready-retires s state k limit in_hand i q b h)
ready-asked s state k limit (returns i q) b c h e =
    let has : 0 < held (caller k) state i = omega (arith, h.owns.hands i, one_more i) in
    subst (Ready state k) (some_inj (calls.Post (record { 0 = i }) (home_of s i)) c e) (ready-post s state k i h.fit h.workers h.among has)
ready-asked s state k limit (drawn i n) b c h e =
    let has : 0 < drawn_to (caller k) state i = omega (arith, h.owns.draws i, one_more i) in
    let room : (task_at state i).takes < 2 ^ 48 - 1 = omega (arith, h.takes i, h.below) in
    subst (Ready state k) (some_inj (calls.Take (record { 0 = i })) c e) (ready-take state k i (omega (arith, h.among, h.workers)) room (inr has))
ready-asked s state k limit (injects a more) b c h e =
    subst (Ready state k) (some_inj (call_of a) c e) (ready-action state (length s.tasks) k a (sym h.tasks) (omega (arith, h.among, h.workers)) h.range.names.0)
ready-asked s state k limit (carries j more) b c h e =
    let has : 0 < held (caller k) state j = omega (arith, h.owns.hands j, one_more j) in
    subst (Ready state k) (some_inj (calls.Post (record { 0 = j }) (home_of s j)) c e) (ready-post s state k j h.fit h.workers h.among has)
ready-asked s state k limit over b c h e = cc

-- one summand is no more than the sum
sum-member : (n j : ℕ) (f : ℕ → ℕ) → j < n → f j ≤ sum_below n f
sum-member zero j f h = absurd (omega arith)
sum-member (suc n) j f h =
    elim (cases_eq j n) [
      | inl same ↦ rw same (omega arith)
      | inr ne ↦ omega (arith, sum-member n j f (omega arith))
    ]

-- the next call of a caller is allowed
pub Next-allowed : (s : Script) (limit : ℕ) (c : Callers) (k : ℕ) (call : Call) → IsFit s → limit < 2 ^ 48 → Keeps s limit c → k ≤ s.workers → asked s (c.at k) ≡ Some call → Allowed c.state (said (caller k) call (reply_of c.state (caller k) call))
Next-allowed s limit c k call fit below keeps le e =
    let known : Known s c.state k limit (c.at k).left (c.at k).book = record {
      fit = fit;
      workers = keeps.workers;
      tasks = keeps.tasks;
      among = le;
      part = keeps.part k le;
      below = below;
      owns = keeps.owns k le;
      range = keeps.range k le;
      takes = λ i. omega (arith, keeps.takes i, sum-member (s.workers + 1) k (λ j. takes_left s.depth (c.at j).left) (omega arith));
    } in
    let ready = ready-asked s c.state k limit (c.at k).left (c.at k).book call known e in
    Allowed-reply_of c.state (caller k) call ready.named ready.fit ready.room

-- a draw of a task that is in the shared box is allowed
pub Draw-allowed : (s : Script) (limit : ℕ) (c : Callers) (k i : ℕ) → Keeps s limit c → k ≤ s.workers → 0 < draws_now s (c.at k) → is_boxed s.workers (task_at c.state i).place ≡ true → IsNext s c (said (caller k) (calls.Draw (record { 0 = i })) Done)
Draw-allowed s limit c k i keeps le may boxed = record {
  caller = le;
  asks = inr (record { task = i; call = refl; shared = keeps.shared i boxed; some = may });
  allowed = record {
    named = named-call c.state k (calls.Draw (record { 0 = i })) (omega (arith, keeps.workers)) (boxed-in c.state s.workers i boxed) refl;
    fit = subst (λ (w : ℕ). is_boxed w (task_at c.state i).place ≡ true) (sym keeps.workers) boxed;
    room = tt;
    reply = refl;
  };
}

-- a fact of each caller, where one stage is changed
pub at_each : (P : ℕ → Stage → Type 0) (j k : ℕ) (g : Stage) (at : ℕ → Stage) → (k ≡ j → P k g) → (k ≢ j → P k (at k)) → P k (set_at j g at k)
at_each P j k g at here other =
    elim (cases_eq k j) [
      | inl same ↦ rw (eq-eqb k j same) (here same)
      | inr ne ↦ rw (ne_eqb k j ne) (other ne)
    ]

sum_apart : (n j : ℕ) (f : Stage → ℕ) (g : Stage) (at : ℕ → Stage) → n ≤ j → sum_below n (λ k. f (set_at j g at k)) ≡ sum_below n (λ k. f (at k))
sum_apart zero j f g at h = refl
sum_apart (suc n) j f g at h =
    let ne : n ≢ j = omega arith in
    rw (ne_eqb n j ne) (ap (λ m. f (at n) + m) (sum_apart n j f g at (omega arith)))

-- the sum where one stage is changed
pub sum-set : (n j : ℕ) (f : Stage → ℕ) (g : Stage) (at : ℕ → Stage) → j < n → sum_below n (λ k. f (set_at j g at k)) + f (at j) ≡ sum_below n (λ k. f (at k)) + f g
sum-set zero j f g at h = absurd (omega arith)
sum-set (suc n) j f g at h =
    elim (cases_eq n j) [
      | inl same ↦ rw (eq-eqb n j same) (let later = sum_apart n j f g at (omega arith) in let here : f (at n) ≡ f (at j) = ap (λ k. f (at k)) same in omega arith)
      | inr ne ↦ rw (ne_eqb n j ne) (omega (arith, sum-set n j f g at (omega arith)))
    ]

no_take : (o : Option Next) (i : TaskId) (to : ℕ) → take_call o ≡ Some (calls.Post i to) → ⊥
no_take None i to e = cc
no_take (Some x) i to e = cc

no_action : (a : Action) (i : TaskId) (to : ℕ) → Some (call_of a) ≡ Some (calls.Post i to) → ⊥
no_action (Wakes j f) i to e = cc
no_action (Kills j) i to e = cc

home_same : (s : Script) (j : ℕ) (i : TaskId) (to : ℕ) → calls.Post (record { 0 = j }) (home_of s j) ≡ calls.Post i to → home_of s i.0 ≡ to
home_same s j i to e =
    let task : record { 0 = j } ≡ i = cc in
    let box : home_of s j ≡ to = cc in
    sym (ap (λ t. home_of s t.0) task) ∙ box

-- posts go home
post_home : (s : Script) (l : Left) (b : Book) (i : TaskId) (to : ℕ) → asked_in s l b ≡ Some (calls.Post i to) → home_of s i.0 ≡ to
post_home s (gets g gs) b i to e = cc
post_home s (wakes j js) b i to e = cc
post_home s (runs q) b i to e = absurd (no_take (next_in q b) i to e)
post_home s (acts a more j row q) b i to e = absurd (no_action a i to e)
post_home s (posts j more x row q) b i to e = let same : calls.Post (record { 0 = j }) (home_of s j) ≡ calls.Post i to = some_inj (calls.Post (record { 0 = j }) (home_of s j)) (calls.Post i to) e in home_same s j i to same
post_home s (drops j q) b i to e = cc
post_home s (retires in_hand j q) b i to e = cc
post_home s (returns j q) b i to e = let same : calls.Post (record { 0 = j }) (home_of s j) ≡ calls.Post i to = some_inj (calls.Post (record { 0 = j }) (home_of s j)) (calls.Post i to) e in home_same s j i to same
post_home s (drawn j n) b i to e = cc
post_home s (injects a more) b i to e = absurd (no_action a i to e)
post_home s (carries j more) b i to e = let same : calls.Post (record { 0 = j }) (home_of s j) ≡ calls.Post i to = some_inj (calls.Post (record { 0 = j }) (home_of s j)) (calls.Post i to) e in home_same s j i to same
post_home s over b i to e = cc

-- a next call that posts a task posts it to its home
abbrev PostsHome : Script → Call → Type 0
PostsHome s c = (b i : ℕ) → PostsTo b c → is_about i c ≡ true → home_of s i ≡ b

home-asked : (s : Script) (l : Left) (b : Book) (c : Call) → asked_in s l b ≡ Some c → PostsHome s c
home-asked s l b (calls.Wake j f) e box i p a = absurd p
home-asked s l b (calls.Kill j) e box i p a = absurd p
home-asked s l b (calls.Post j to) e box i p a = ap (home_of s) (eqb-true i j.0 a) ∙ post_home s l b j to e ∙ p
home-asked s l b (calls.Get g) e box i p a = absurd p
home-asked s l b (calls.Draw j) e box i p a = absurd p
home-asked s l b (calls.Take j) e box i p a = absurd p
home-asked s l b (calls.DropRun j) e box i p a = absurd p
home-asked s l b (calls.Retire j) e box i p a = absurd p

pub posts_home : (s : Script) (g : Stage) (c : Call) → MayCall s g c → PostsHome s c
posts_home s g c may =
    elim may [ inl e ↦ home-asked s g.left g.book c e | inr d ↦ rw d.call (λ b i p a. absurd p) ]

range-went : (s : Script) (T : ℕ) (state : State) (k : ℕ) (g : Stage) (c : Call) (r : Reply) → IsFit s → length state.tasks ≡ length s.tasks → Owns k state g → InRange (length s.tasks) g → MayCall s g c → InRange (length s.tasks) (went s (caller k) T c r g)
range-went s T state k g c r fit n o range may =
    by_ask s (caller k) T g c r (λ d x. InRange (length s.tasks) x) may (λ e. InRange-heard s (caller k) T r g.left g.book fit (λ i h. let has : 0 < ran (caller k) state i = omega (arith, o.runs i) in omega (arith, ran-in state (caller k) i has)) (λ q x l e. let has : 0 < held (caller k) state x.task = omega (arith, o.hands x.task, listed-taken x.task g.book q x e, one_more x.task) in omega (arith, held-in state (caller k) x.task has)) (λ i h. let has : 0 < drawn_to (caller k) state i = omega (arith, o.draws i) in omega (arith, drawn-in state (caller k) i has)) range) (λ i shared some e. InRange-draw s (length s.tasks) i g range)

pub Keeps-next : (s : Script) (T limit : ℕ) (c : Callers) (e : Entry) → IsFit s → Keeps s limit c → IsNext s c e → Keeps s limit (called s T c e)
Keeps-next s T limit c e fit keeps next =
    let j = e.caller.0 in
    let g = went s e.caller T e.call e.reply (c.at j) in
    let pays = Pays-went s e.caller T e.call e.reply (c.at j) next.asks in
    record {
      workers = keeps.workers;
      tasks = length-after c.state e.caller e.call ∙ keeps.tasks;
      owns = λ k le. at_each (λ k x. Owns k (stepped c.state e) x) j k g c.at (λ same. rw same (Owns-went s T c.state (c.at j) e.call next.asks j e.reply (keeps.owns j next.caller) next.allowed)) (λ ne. Owns-other c.state e k (c.at k) ne next.allowed (keeps.owns k le));
      range = λ k le. at_each (λ k x. InRange (length s.tasks) x) j k g c.at (λ same. range-went s T c.state j (c.at j) e.call e.reply fit keeps.tasks (keeps.owns j next.caller) (keeps.range j next.caller) next.asks) (λ ne. keeps.range k le);
      part = λ k le. at_each (λ k x. is_injectors x.left ≡ (k == s.workers)) j k g c.at (λ same. rw same (pays.part ∙ keeps.part j next.caller)) (λ ne. keeps.part k le);
      shared = λ i h. elim (comes-step c.state e s.workers i next.allowed h) [ inl was ↦ keeps.shared i was | inr came ↦ posts_home s (c.at j) e.call next.asks s.workers i came.0 came.1 ];
      takes = λ i. omega (arith, keeps.takes i, takes-step c.state e i next.allowed, is_take-le i e.call, pays.takes, sum-set (s.workers + 1) j (λ x. takes_left s.depth x.left) g c.at (omega (arith, next.caller)));
    }

pub Keeps-going : (s : Script) (T limit : ℕ) (c : Callers) (es : List Entry) → IsFit s → Keeps s limit c → Going s T c es → Keeps s limit (gone_on s T c es)
Keeps-going s T limit c [] fit keeps h = keeps
Keeps-going s T limit c (e ∷ es) fit keeps h =
    Keeps-going s T limit (called s T c e) es fit (Keeps-next s T limit c e fit keeps h.0) h.1
