-- The weave, step by step.
use Rattle.std.proofs.Common.{◌≡◌, ◌≢◌, ℕ, zero, suc, ◌+◌, ◌-◌, ◌*◌, ◌%◌, ◌<◌, ◌≤◌, inl, inr, Bool, true, false, ◌==◌, if◌then◌else◌, List, [], ◌∷◌, ◌++◌, length, get_or, set, drop, refl, sym, ap, subst, ◌∙◌, arith}
use Rattle.std.proofs.lemmas.Bool.{cases_eq, cases_lt}
use Rattle.std.proofs.lemmas.Bool.Decides.{nat_tests}
use Rattle.std.proofs.lemmas.List.{append-nil, append_assoc, get_or-set_same, get_or-set_other, length_push, drop_all}
use Rattle.std.specs.Int.{bit_at}
use Rattle.sched_base.specs.declared.names.CallerId.{CallerId}
use Rattle.sched_base.specs.declared.names.TaskId.{TaskId}
use Rattle.task_machine.specs.declared.task.TaskState.{TaskState}
use Rattle.task_machine.specs.declared.task.Place.{Place}
use Rattle.task_machine.specs.declared.task.Place.TheVariants as places
use Rattle.task_machine.specs.declared.task.Seen.{Seen}
use Rattle.task_machine.specs.declared.calls.Call.{Call}
use Rattle.task_machine.specs.declared.calls.Call.TheVariants as calls
use Rattle.task_machine.specs.declared.calls.Reply.{Reply}
use Rattle.task_machine.specs.declared.calls.Reply.TheVariants as replies
use Rattle.task_machine.specs.declared.calls.Entry.{Entry}
use Rattle.task_machine.specs.Logged.{Logged}
use Rattle.task_machine.specs.Task.{woken, flagged}
use Rattle.task_machine.specs.Step.{State, task_at, is_about, is_named, Allowed, AllRoom}
use Rattle.task_machine.specs.History.{stepped, Legal, led, calls_of, IsMerge}
use Rattle.task_machine.specs.Event.{Change, wakes, kills, takes, drops, retires, Event, apart, sees, posts, gets, misses, draws, looks, gathers, event_of, event_at, next, IsFormed, AllFormed}
use Rattle.task_machine.proofs.After.{subject-lt}
use Rattle.task_machine.proofs.Histories.{Legal-append, led-append, calls_of-append}
use Rattle.task_machine.proofs.Events.{task_at-stepped, Legal-split}
use Rattle.history_weave.specs.Rule.{Ready}
use Rattle.history_weave.specs.Kinds.{look, get, kind, KindNamed}
use Rattle.history_weave.specs.Places.{log_at, entry_at, left_of, entry_count, sum_over}
use Rattle.history_weave.specs.Indexed.{AreNamed, AreOwn}
use Rattle.history_weave.specs.Weaving.{take_of, takes_in, take_count, HasTakesLeft, HasMerge, CanMerge}
use Rattle.history_weave.proofs.Futures.{all_but, whose}
use Rattle.history_weave.proofs.Moves.{left}
use Rattle.history_weave.proofs.Merges.{Ready-first, Ready-same, Legal-move, calls_of-mine, calls_of-others}
use Rattle.history_weave.proofs.NextPlaces.{drop_next}
use Rattle.history_weave.proofs.Sums.{sum_over-raise, sum_over-zero, sum_over-logs, left_of-past}

-- an entry of a merge that may go, and behind which the rest of its log is es
pub record Goes (s : State) (logs : ℕ → List Entry) (k : ℕ) (e : Entry) (es : List Entry) : Type 0 where
  pub head : logs k ≡ e ∷ es
  pub own : e.caller.0 ≡ k
  pub ready : Ready logs s e
  pub allowed : Allowed s e

first-goes : (s : State) (logs : ℕ → List Entry) (e : Entry) (h : List Entry) → IsMerge s logs (e ∷ h) → Goes s logs e.caller.0 e (calls_of e.caller.0 h)
first-goes s logs e h m =
    record {
      head = (elim (whose e.caller.0 e h) [
        | inl mine ↦ sym (m.1 e.caller.0) ∙ mine.1
        | inr others ↦ absurd (others.0 refl)
      ]);
      own = refl;
      ready = Ready-same s e (left (e ∷ h)) logs (λ j. sym (m.1 j)) (Ready-first s e h m.0);
      allowed = m.0.0;
    }

-- some caller's next entry may go
pub record SomeGoes (s : State) (logs : ℕ → List Entry) : Type 0 where
  pub entry : Entry
  pub rest : List Entry
  pub goes : Goes s logs entry.caller.0 entry rest

some-of : (s : State) (logs : ℕ → List Entry) (n : ℕ) (h : List Entry) → IsMerge s logs h → length h ≡ suc n → SomeGoes s logs
some-of s logs n [] m l = absurd (omega arith)
some-of s logs n (e ∷ h) m l = record { entry = e; rest = calls_of e.caller.0 h; goes = first-goes s logs e h m }

pub some_goes : (s : State) (logs : ℕ → List Entry) (n : ℕ) → CanMerge s logs (suc n) → SomeGoes s logs
some_goes s logs n m = some-of s logs n m.merge m.legal m.count

-- how many takes an event is
abbrev taken_by : Event → ℕ
taken_by (sees x takes) = 1
taken_by v = 0

woken-takes : (k : CallerId) (f : ℕ) (p : Place) (n : ℕ) (b : Bool) (m : ℕ) → (woken k f (record { place = p; pending = n; killed = b; takes = m })).takes ≡ m
woken-takes k f places.Gone n b m = refl
woken-takes k f places.Rest n b m = refl
woken-takes k f p n b m = refl

flagged-takes : (k : CallerId) (p : Place) (n : ℕ) (b : Bool) (m : ℕ) → (flagged k (record { place = p; pending = n; killed = b; takes = m })).takes ≡ m
flagged-takes k places.Gone n b m = refl
flagged-takes k places.Rest n b m = refl
flagged-takes k p n b m = refl

next-takes : (k : CallerId) (v : Event) (t : TaskState) → (next k v t).takes ≤ t.takes + taken_by v
next-takes k apart t = omega arith
next-takes k (sees x (wakes f)) t =
    let e = woken-takes k f t.place t.pending t.killed t.takes in omega arith
next-takes k (sees x kills) t = let e = flagged-takes k t.place t.pending t.killed t.takes in omega arith
next-takes k (sees x takes) t = omega arith
next-takes k (sees x drops) t = omega arith
next-takes k (sees x retires) t = omega arith
next-takes k (posts b) t = omega arith
next-takes k gets t = omega arith
next-takes k misses t = omega arith
next-takes k draws t = omega arith

taken-gather : (b : Bool) → taken_by (if b then gets else misses) ≤ 0
taken-gather true = omega arith
taken-gather false = omega arith

taken-looks : (c : Change) (r : Reply) (m : ℕ) → ((x : Seen) → taken_by (sees x c) ≤ m) → taken_by (looks c r) ≤ m
taken-looks c (replies.Task x) m h = h x
taken-looks c (replies.Group n) m h = omega arith
taken-looks c replies.Done m h = omega arith

taken-get : (i : ℕ) (r : Reply) → taken_by (gathers i r) ≤ 0
taken-get i (replies.Group n) = taken-gather (bit_at n (i % 64) == 1)
taken-get i (replies.Task x) = omega arith
taken-get i replies.Done = omega arith

taken-of : (i : ℕ) (c : Call) (r : Reply) → taken_by (event_of i c r) ≤ take_of c
taken-of i (calls.Wake j f) r = taken-looks (wakes f) r 0 (λ x. omega arith)
taken-of i (calls.Kill j) r = taken-looks kills r 0 (λ x. omega arith)
taken-of i (calls.Post j b) r = omega arith
taken-of i (calls.Get g) r = taken-get i r
taken-of i (calls.Draw j) r = omega arith
taken-of i (calls.Take j) r = taken-looks takes r 1 (λ x. omega arith)
taken-of i (calls.DropRun j) r = taken-looks drops r 0 (λ x. omega arith)
taken-of i (calls.Retire j) r = taken-looks retires r 0 (λ x. omega arith)

taken-if : (i : ℕ) (c : Call) (r : Reply) (b : Bool) → taken_by (if b then event_of i c r else apart) ≤ take_of c
taken-if i c r true = taken-of i c r
taken-if i c r false = omega arith

-- an entry adds to a task's takes no more than it is takes
pub stepped-takes : (s : State) (e : Entry) (i : ℕ) → Allowed s e → (task_at (stepped s e) i).takes ≤ (task_at s i).takes + take_of e.call
stepped-takes s e i a =
    let now : (task_at (stepped s e) i).takes ≡ (next e.caller (event_at i e) (task_at s i)).takes = ap (λ t. t.takes) (task_at-stepped s e a i) in
    let by = next-takes e.caller (event_at i e) (task_at s i) in
    let one : taken_by (event_at i e) ≤ take_of e.call = taken-if i e.call e.reply (is_about i e.call) in
    omega arith

-- the rest of a merge is shorter, and takes less
length-all_but : (k : ℕ) (e : Entry) (es h : List Entry) → calls_of k h ≡ e ∷ es → suc (length (all_but k h)) ≡ length h
length-all_but k e es [] first = cc
length-all_but k e es (d ∷ h) first =
    elim (whose k d h) [
      | inl mine ↦ ap (λ l. suc (length l)) mine.2
      | inr others ↦ ap (λ l. suc (length l)) others.2 ∙ ap suc (length-all_but k e es h (sym others.1 ∙ first))
    ]

takes_in-all_but : (k : ℕ) (e : Entry) (es h : List Entry) → calls_of k h ≡ e ∷ es → take_of e.call + takes_in (all_but k h) ≡ takes_in h
takes_in-all_but k e es [] first = cc
takes_in-all_but k e es (d ∷ h) first =
    elim (whose k d h) [
      | inl mine ↦
          let heads : d ∷ calls_of k h ≡ e ∷ es = sym mine.1 ∙ first in
          let same : d ≡ e = cc in
          ap (λ l. take_of e.call + takes_in l) mine.2 ∙ ap (λ (f : Entry). take_of f.call + takes_in h) (sym same)
      | inr others ↦
          let later = takes_in-all_but k e es h (sym others.1 ∙ first) in
          let here : takes_in (all_but k (d ∷ h)) ≡ take_of d.call + takes_in (all_but k h) = ap takes_in others.2 in
          omega arith
    ]

-- behind an entry that goes the rest has a merge
pub next_merge : (s : State) (logs ls : ℕ → List Entry) (n k : ℕ) (e : Entry) (es : List Entry) → CanMerge s logs (suc n) → Goes s logs k e es → ls k ≡ es → ((j : ℕ) → j ≢ k → ls j ≡ logs j) → CanMerge (stepped s e) ls n
next_merge s logs ls n k e es m g here others =
    let h = m.merge in
    let same : (j : ℕ) → calls_of j h ≡ logs j = m.legal.1 in
    let ready : Ready (left h) s e = Ready-same s e logs (left h) same g.ready in
    let first : calls_of e.caller.0 h ≡ e ∷ es = same e.caller.0 ∙ ap logs g.own ∙ g.head in
    let moved = Legal-move s e es h ready g.allowed first m.legal.0 in
    let shorter = length-all_but e.caller.0 e es h first in
    let fewer = takes_in-all_but e.caller.0 e es h first in
    let count = m.count in
    record {
      merge = all_but e.caller.0 h;
      legal = (
        moved.legal,
        λ j. elim (cases_eq j e.caller.0) [
          | inl mine ↦ rw mine (calls_of-mine e.caller.0 e es h first) ∙ sym here ∙ ap ls (sym g.own ∙ sym mine)
          | inr ne ↦ calls_of-others e.caller.0 j h ne ∙ same j ∙ sym (others j (λ q. ne (q ∙ sym g.own)))
        ],
      );
      count = omega arith;
      room = λ i. (let room = m.room i in let more = stepped-takes s e i g.allowed in omega arith);
    }

-- each task can be taken once more
pub CanMerge-room : (s : State) (logs : ℕ → List Entry) (n : ℕ) → CanMerge s logs n → AllRoom s
CanMerge-room s logs n m i = let room = m.room i in omega arith

no_merge : (h : List Entry) (k : ℕ) → length h ≡ 0 → calls_of k h ≡ []
no_merge [] k l = refl
no_merge (e ∷ h) k l = absurd (omega arith)

-- nothing is left where the merge is empty
pub CanMerge-end : (s : State) (logs : ℕ → List Entry) (k : ℕ) → CanMerge s logs 0 → logs k ≡ []
CanMerge-end s logs k m = sym (m.legal.1 k) ∙ no_merge m.merge k m.count

-- what is added up over a history is added up over the callers
pub weigh : (Entry → ℕ) → List Entry → ℕ
weigh w [] = 0
weigh w (e ∷ es) = w e + weigh w es

pub by_callers : (w : Entry → ℕ) (n : ℕ) (h : List Entry) → ((p : ℕ) (d : Entry) → p < length h → (get_or h p d).caller.0 < n) → weigh w h ≡ sum_over (λ k. weigh w (calls_of k h)) 0 n
unfolding weigh
by_callers w n [] few = sym (sum_over-zero (λ k. weigh w (calls_of k [])) 0 n (λ j. refl))
by_callers w n (e ∷ h) few =
    let rest = by_callers w n h (λ p d lt. few (suc p) d (omega arith)) in
    let k = e.caller.0 in
    let within : k < n = few 0 e (omega arith) in
    let here : weigh w (calls_of k (e ∷ h)) ≡ w e + weigh w (calls_of k h) =
    elim (whose k e h) [ inl mine ↦ ap (weigh w) mine.1 | inr others ↦ absurd (others.0 refl) ] in
    let away : (j : ℕ) → j ≢ k → weigh w (calls_of j (e ∷ h)) ≡ weigh w (calls_of j h) =
    λ j ne. elim (whose j e h) [ inl mine ↦ absurd (ne (sym mine.0)) | inr others ↦ ap (weigh w) others.1 ] in
    let all = sum_over-raise (λ j. weigh w (calls_of j h)) (λ j. weigh w (calls_of j (e ∷ h))) 0 n k (w e) (omega arith) (omega arith) here away in
    omega arith

weigh-ones : (h : List Entry) → weigh (λ e. 1) h ≡ length h
unfolding weigh
weigh-ones [] = refl
weigh-ones (e ∷ h) = let rest = weigh-ones h in omega arith

weigh-takes : (h : List Entry) → weigh (λ e. take_of e.call) h ≡ takes_in h
unfolding weigh
weigh-takes [] = refl
weigh-takes (e ∷ h) = let rest = weigh-takes h in omega arith

sum_over-equal : (f g : ℕ → ℕ) (n m : ℕ) → ((j : ℕ) → f j ≡ g j) → sum_over f n m ≡ sum_over g n m
sum_over-equal f g n zero h = refl
sum_over-equal f g n (suc m) h = let a = h n in let b = sum_over-equal f g (suc n) m h in omega arith

-- who calls in a legal history is a caller
caller-lt : (s : State) (k : CallerId) (c : Call) → is_named s k c ≡ true → k.0 < s.workers + 1
caller-lt s k c h = grind (arith, nat_tests)

formed-at : (s : State) (h : List Entry) (p : ℕ) (d : Entry) → AllFormed s h → p < length h → IsFormed s (get_or h p d)
formed-at s [] p d f lt = absurd (omega arith)
formed-at s (e ∷ h) zero d f lt = f.0
formed-at s (e ∷ h) (suc p) d f lt = formed-at s h p d f.1 (omega arith)

AllFormed-calls : (s : State) (k : ℕ) (h : List Entry) → AllFormed s h → AllFormed s (calls_of k h)
AllFormed-calls s k [] f = tt
AllFormed-calls s k (e ∷ h) f =
    elim (whose k e h) [
      | inl mine ↦ rw mine.1 (f.0, AllFormed-calls s k h f.1)
      | inr others ↦ rw others.1 (AllFormed-calls s k h f.1)
    ]

-- each entry of a log that has a merge is formed
logs-formed : (s : State) (logs : List Logged) (k p : ℕ) (d : Entry) → HasMerge s logs → p < length (log_at logs k) → IsFormed s (entry_at logs k p d)
logs-formed s logs k p d m lt =
    let parts = Legal-split s m.0 m.1.0 in
    let log : calls_of k m.0 ≡ log_at logs k = m.1.1 k in
    let formed : AllFormed s (log_at logs k) = subst (λ (es : List Entry). AllFormed s es) log (AllFormed-calls s k m.0 parts.0) in
    formed-at s (log_at logs k) p d formed lt

named-look : (n boxes t : ℕ) (c : Change) (r : Reply) → t < n → KindNamed n boxes (look t c r)
named-look n boxes t c (replies.Task x) lt = lt
named-look n boxes t c (replies.Group m) lt = tt
named-look n boxes t c replies.Done lt = tt

named-get : (n boxes g : ℕ) (r : Reply) → 64 * g < n → KindNamed n boxes (get g r)
named-get n boxes g (replies.Group m) lt = lt
named-get n boxes g (replies.Task x) lt = tt
named-get n boxes g replies.Done lt = tt

post-box : (s : State) (k : CallerId) (i : TaskId) (b : ℕ) → is_named s k (calls.Post i b) ≡ true → b < s.workers + 1
post-box s k i b h = grind (arith, nat_tests)

kind-named : (s : State) (k : CallerId) (c : Call) (r : Reply) → is_named s k c ≡ true → KindNamed (length s.tasks) (s.workers + 1) (kind c r)
kind-named s k (calls.Wake i f) r h = named-look (length s.tasks) (s.workers + 1) i.0 (wakes f) r (subject-lt s k (calls.Wake i f) h)
kind-named s k (calls.Kill i) r h = named-look (length s.tasks) (s.workers + 1) i.0 kills r (subject-lt s k (calls.Kill i) h)
kind-named s k (calls.Post i b) r h = (subject-lt s k (calls.Post i b) h, post-box s k i b h)
kind-named s k (calls.Get g) r h = named-get (length s.tasks) (s.workers + 1) g r (subject-lt s k (calls.Get g) h)
kind-named s k (calls.Draw i) r h = subject-lt s k (calls.Draw i) h
kind-named s k (calls.Take i) r h = named-look (length s.tasks) (s.workers + 1) i.0 takes r (subject-lt s k (calls.Take i) h)
kind-named s k (calls.DropRun i) r h = named-look (length s.tasks) (s.workers + 1) i.0 takes r (subject-lt s k (calls.DropRun i) h)
kind-named s k (calls.Retire i) r h = named-look (length s.tasks) (s.workers + 1) i.0 takes r (subject-lt s k (calls.Retire i) h)

pub HasMerge-named : (s : State) (logs : List Logged) → HasMerge s logs → length logs ≡ s.workers + 1 → AreNamed logs (length s.tasks)
HasMerge-named s logs m callers k p d lk lp =
    let formed = logs-formed s logs k p d m lp in
    let e = entry_at logs k p d in
    rw callers (kind-named s e.caller e.call e.reply formed.0)

-- the entries of log k are caller k's
own-mine : (k p : ℕ) (e : Entry) (es : List Entry) (d : Entry) → e.caller.0 ≡ k → ((q : ℕ) → q < length es → (get_or es q d).caller.0 ≡ k) → p < length (e ∷ es) → (get_or (e ∷ es) p d).caller.0 ≡ k
own-mine k zero e es d own later lt = own
own-mine k (suc p) e es d own later lt = later p (omega arith)

own-calls : (k p : ℕ) (h : List Entry) (d : Entry) → p < length (calls_of k h) → (get_or (calls_of k h) p d).caller.0 ≡ k
own-calls k p [] d lt = absurd (omega arith)
own-calls k p (e ∷ h) d lt =
    elim (whose k e h) [
      | inl mine ↦
          let here : p < length (e ∷ calls_of k h) = rw mine.1 at lt in
          ap (λ es. (get_or es p d).caller.0) mine.1 ∙ own-mine k p e (calls_of k h) d mine.0 (λ q l. own-calls k q h d l) here
      | inr others ↦
          let less : p < length (calls_of k h) = rw others.1 at lt in
          ap (λ es. (get_or es p d).caller.0) others.1 ∙ own-calls k p h d less
    ]

pub HasMerge-own : (s : State) (logs : List Logged) → HasMerge s logs → AreOwn logs
HasMerge-own s logs m k p d lk lp =
    let log : calls_of k m.0 ≡ log_at logs k = m.1.1 k in
    let there : p < length (calls_of k m.0) = rw log lp in
    ap (λ es. (get_or es p d).caller.0) (sym log) ∙ own-calls k p m.0 d there

-- a merge has as many entries and takes as the logs together
pub merge-counts : (s : State) (logs : List Logged) (m : HasMerge s logs) → length logs ≡ s.workers + 1 → (length m.0 ≡ entry_count logs) × (takes_in m.0 ≡ take_count logs)
merge-counts s logs m callers =
    let h = m.0 in
    let parts = Legal-split s h m.1.0 in
    let few : (p : ℕ) (d : Entry) → p < length h → (get_or h p d).caller.0 < length logs =
    λ p d lt. (let f = formed-at s h p d parts.0 lt in rw callers (caller-lt s (get_or h p d).caller (get_or h p d).call f.0)) in
    let whole : (w : Entry → ℕ) → weigh w h ≡ sum_over (λ k. weigh w (log_at logs k)) 0 (length logs) =
    λ w. by_callers w (length logs) h few ∙ sum_over-equal (λ k. weigh w (calls_of k h)) (λ k. weigh w (log_at logs k)) 0 (length logs) (λ j. ap (weigh w) (m.1.1 j)) in
    let count : length h ≡ entry_count logs =
    sym (weigh-ones h) ∙ whole (λ e. 1) ∙ sum_over-equal (λ k. weigh (λ e. 1) (log_at logs k)) (λ k. length (log_at logs k)) 0 (length logs) (λ j. weigh-ones (log_at logs j)) ∙ sym (sum_over-logs length logs) in
    let taken : takes_in h ≡ take_count logs =
    sym (weigh-takes h) ∙ whole (λ e. take_of e.call) ∙ sum_over-equal (λ k. weigh (λ e. take_of e.call) (log_at logs k)) (λ k. takes_in (log_at logs k)) 0 (length logs) (λ j. weigh-takes (log_at logs j)) ∙ sym (sum_over-logs takes_in logs) in
    (count, taken)

pub takes_in-le : (h : List Entry) → takes_in h ≤ length h
takes_in-le [] = omega arith
takes_in-le (e ∷ h) = let one = take_of-le e.call in let rest = takes_in-le h in omega arith
  where
    take_of-le : (c : Call) → take_of c ≤ 1
    take_of-le (calls.Take i) = omega arith
    take_of-le c = omega arith

-- who is no caller has no calls in a legal history
pub legal-callers : (s : State) (h : List Entry) (k : ℕ) → Legal s h → s.workers + 1 ≤ k → calls_of k h ≡ []
legal-callers s h k l past = no-calls s h k (Legal-split s h l).0 past
  where
    no-calls : (s : State) (h : List Entry) (k : ℕ) → AllFormed s h → s.workers + 1 ≤ k → calls_of k h ≡ []
    no-calls s [] k f past = refl
    no-calls s (e ∷ h) k f past =
        let lt = caller-lt s e.caller e.call f.0.0 in
        elim (whose k e h) [
          | inl mine ↦ absurd (let own = mine.0 in omega arith)
          | inr others ↦ others.1 ∙ no-calls s h k f.1 past
        ]

-- at the start all entries are left
pub CanMerge-start : (s : State) (logs : List Logged) (next : List ℕ) → HasMerge s logs → HasTakesLeft s logs → length logs ≡ s.workers + 1 → ((k : ℕ) → get_or next k 0 ≡ 0) → CanMerge s (left_of logs next) (entry_count logs)
CanMerge-start s logs next m room callers zeros =
    let counts = merge-counts s logs m callers in
    let taken = counts.1 in
    record {
      merge = m.0;
      legal = (m.1.0, λ k. m.1.1 k ∙ sym (ap (λ q. drop q (log_at logs k)) (zeros k)));
      count = counts.0;
      room = λ i. (let few_takes = room i in omega arith);
    }

-- the weave under way: what is done is legal and leads to state s, and with what is left it makes up
-- the logs; what is left has a merge
pub record Underway (start : State) (logs : List Logged) (total : ℕ) (done : List Entry) (next : List ℕ) (s : State) : Type 0 where
  pub legal : Legal start done
  pub state : s ≡ led start done
  pub split : (k : ℕ) → calls_of k done ++ left_of logs next k ≡ log_at logs k
  pub more : ℕ
  pub merge : CanMerge s (left_of logs next) more
  pub count : length done + more ≡ total

pub underway-start : (s : State) (logs : List Logged) (next : List ℕ) → HasMerge s logs → HasTakesLeft s logs → length logs ≡ s.workers + 1 → ((k : ℕ) → get_or next k 0 ≡ 0) → Underway s logs (entry_count logs) [] next s
underway-start s logs next m room callers zeros =
    record {
      legal = tt;
      state = refl;
      split = λ k. ap (λ q. drop q (log_at logs k)) (zeros k);
      more = entry_count logs;
      merge = CanMerge-start s logs next m room callers zeros;
      count = omega arith;
    }

-- what is left of a log whose next entry went
left-here : (logs : List Logged) (next : List ℕ) (k : ℕ) (e : Entry) (es : List Entry) → k < length next → left_of logs next k ≡ e ∷ es → left_of logs (set next k (get_or next k 0 + 1)) k ≡ es
left-here logs next k e es within head =
    let p = get_or next k 0 in
    let now : get_or (set next k (p + 1)) k 0 ≡ p + 1 = get_or-set_same next k (p + 1) 0 within in
    let on : p + 1 ≡ suc p = omega arith in
    elim (cases_lt p (length (log_at logs k))) [
      | inl lt ↦
          let two : get_or (log_at logs k) p e ∷ drop (suc p) (log_at logs k) ≡ e ∷ es = sym (drop_next (log_at logs k) p e lt) ∙ head in
          let rest : drop (suc p) (log_at logs k) ≡ es = cc in
          ap (λ q. drop q (log_at logs k)) (now ∙ on) ∙ rest
      | inr past ↦ (let empty : [] ≡ e ∷ es = sym (drop_all p (log_at logs k) past) ∙ head in cc)
    ]

left-others : (logs : List Logged) (next : List ℕ) (k j : ℕ) → j ≢ k → left_of logs (set next k (get_or next k 0 + 1)) j ≡ left_of logs next j
left-others logs next k j ne =
    ap (λ q. drop q (log_at logs j)) (get_or-set_other next k j (get_or next k 0 + 1) 0 ne)

merge-on : (s : State) (logs : ℕ → List Entry) (n m : ℕ) → n ≡ m → CanMerge s logs n → CanMerge s logs m
merge-on s logs n m e h = rw e at h

-- one step of the weave
pub underway-step : (start : State) (logs : List Logged) (total : ℕ) (done after : List Entry) (next new : List ℕ) (s t : State) (k : ℕ) (e : Entry) (es : List Entry) → Underway start logs total done next s → length done < total → k < length next → Goes s (left_of logs next) k e es → t ≡ stepped s e → after ≡ done ++ e ∷ [] → new ≡ set next k (get_or next k 0 + 1) → Underway start logs total after new t
underway-step start logs total done after next new s t k e es u lt within g state pushed moved =
    let count = u.count in
    let n = u.more - 1 in
    let some : u.more ≡ suc n = omega arith in
    let m = merge-on s (left_of logs next) u.more (suc n) some u.merge in
    let here : left_of logs new k ≡ es = ap (λ q. left_of logs q k) moved ∙ left-here logs next k e es within g.head in
    let others : (j : ℕ) → j ≢ k → left_of logs new j ≡ left_of logs next j =
    λ j ne. ap (λ q. left_of logs q j) moved ∙ left-others logs next k j ne in
    let on = next_merge s (left_of logs next) (left_of logs new) n k e es m g here others in
    let allowed : Allowed (led start done) e = rw u.state at g.allowed in
    let longer : length after ≡ length done + 1 = ap length pushed ∙ length_push done e in
    record {
      legal = rw pushed (Legal-append start done (e ∷ []) u.legal (allowed, tt));
      state = state ∙ ap (λ (q : State). stepped q e) u.state ∙ sym (ap (led start) pushed ∙ led-append start done (e ∷ []));
      split = λ j. ap (λ l. calls_of j l ++ left_of logs new j) pushed ∙ ap (λ l. l ++ left_of logs new j) (calls_of-append j done (e ∷ [])) ∙ elim (cases_eq j k) [
        | inl same ↦
            let mine : calls_of k (e ∷ []) ≡ e ∷ [] = one-call k e g.own in
            rw (same, mine, here, append_assoc (calls_of k done) (e ∷ []) es, ← g.head) (u.split k)
        | inr ne ↦
            let none : calls_of j (e ∷ []) ≡ [] = no-call j e (λ q. ne (sym q ∙ g.own)) in
            rw (none, append-nil (calls_of j done), others j ne) (u.split j)
      ];
      more = n;
      merge = rw state on;
      count = omega arith;
    }
  where
    one-call : (k : ℕ) (e : Entry) → e.caller.0 ≡ k → calls_of k (e ∷ []) ≡ e ∷ []
    one-call k e own = elim (whose k e []) [ inl mine ↦ mine.1 | inr others ↦ absurd (others.0 own) ]

    no-call : (j : ℕ) (e : Entry) → (e.caller.0 ≡ j → ⊥) → calls_of j (e ∷ []) ≡ []
    no-call j e ne = elim (whose j e []) [ inl mine ↦ absurd (ne mine.0) | inr others ↦ others.1 ]

-- at the end nothing is left, and the merge is whole
pub underway-empty : (start : State) (logs : List Logged) (total : ℕ) (done : List Entry) (next : List ℕ) (s : State) → Underway start logs total done next s → total ≤ length done → (k : ℕ) → left_of logs next k ≡ []
underway-empty start logs total done next s u le k =
    let count = u.count in
    let none : u.more ≡ 0 = omega arith in
    CanMerge-end s (left_of logs next) k (merge-on s (left_of logs next) u.more 0 none u.merge)

pub underway-end : (start : State) (logs : List Logged) (total : ℕ) (done : List Entry) (next : List ℕ) (s : State) → Underway start logs total done next s → total ≤ length done → IsMerge start (log_at logs) done
underway-end start logs total done next s u le = (
  u.legal,
  λ k. (let empty = underway-empty start logs total done next s u le k in sym (append-nil (calls_of k done)) ∙ ap (λ l. calls_of k done ++ l) (sym empty) ∙ u.split k),
)

-- while some entries are left, they have a merge
pub underway-goes_on : (start : State) (logs : List Logged) (total : ℕ) (done : List Entry) (next : List ℕ) (s : State) → Underway start logs total done next s → length done < total → (n : ℕ) × CanMerge s (left_of logs next) (n + 1)
underway-goes_on start logs total done next s u lt =
    let count = u.count in
    let n = u.more - 1 in
    let some : u.more ≡ n + 1 = omega arith in (n, merge-on s (left_of logs next) u.more (n + 1) some u.merge)

-- a caller whose entry may go is not stuck
pub never_stuck : (s : State) (logs : List Logged) (next : List ℕ) (n : ℕ) → CanMerge s (left_of logs next) (n + 1) → ((k : ℕ) → k < length logs → (e : Entry) (es : List Entry) → left_of logs next k ≡ e ∷ es → Ready (left_of logs next) s e → Allowed s e → ⊥) → ⊥
never_stuck s logs next n m stuck =
    let on : n + 1 ≡ suc n = omega arith in
    let g = some_goes s (left_of logs next) n (merge-on s (left_of logs next) (n + 1) (suc n) on m) in
    let k = g.entry.caller.0 in
    elim (cases_lt k (length logs)) [
      | inl lt ↦ stuck k lt g.entry g.rest g.goes.head g.goes.ready g.goes.allowed
      | inr past ↦ (let empty : [] ≡ g.entry ∷ g.rest = sym (left_of-past logs next k past) ∙ g.goes.head in cc)
    ]
