-- Each step keeps the tasks' states valid.
use Rattle.std.proofs.Common.{◌≡◌, ◌≢◌, ℕ, Bool, true, false, not, ◌||◌, ◌==◌, if◌then◌else◌, refl, arith, ne_eqb, eqb-true, List, [], ◌∷◌, bit_or, inl, inr, subst, length}
use Rattle.std.proofs.lemmas.Bool.{cases_eq, cases_lt}
use Rattle.std.proofs.lemmas.Bool.Decides.{nat_tests}
use Rattle.std.proofs.lemmas.List.{get_or-set_same, get_or-set_other, set_past}
use Rattle.std.proofs.lemmas.Nat.{le_or_r}
use Rattle.std.proofs.Math.Bool.{or-true}
use Rattle.sched_base.specs.declared.names.CallerId.{CallerId}
use Rattle.task_machine.specs.declared.task.Place.{Place}
use Rattle.task_machine.specs.declared.task.Place.TheVariants as places
use Rattle.task_machine.specs.declared.task.TaskState.{TaskState}
use Rattle.task_machine.specs.declared.calls.Call.{Call}
use Rattle.task_machine.specs.declared.calls.Call.TheVariants as calls
use Rattle.task_machine.specs.declared.calls.Entry.{Entry}
use Rattle.task_machine.specs.Task.{resting, is_busy, put, seated, in_hands, is_boxed, woken, flagged, got, ValidAt, IsValidTask}
use Rattle.task_machine.specs.Step.{State, task_at, is_about, is_named, needs, fits, changed, after, put_task, Step, Allowed, IsValid}
use Rattle.task_machine.specs.History.{stepped, Legal, led}
use Rattle.task_machine.specs.Since.{OpensAs, IsOpening}
use Rattle.task_machine.proofs.After.{task_at-after, subject-lt}

-- a task with these parts
abbrev at : Place → ℕ → Bool → ℕ → TaskState
at p n b m = record { place = p; pending = n; killed = b; takes = m }

-- a wake has a reason
abbrev HasReason : Call → Type 0
HasReason (calls.Wake i f) = f ≢ 0
HasReason c = Unit {0}

HasReason-named : (s : State) (k : CallerId) (c : Call) → is_named s k c ≡ true → HasReason c
HasReason-named s k (calls.Wake i f) h = grind (arith, nat_tests)
HasReason-named s k (calls.Kill i) h = tt
HasReason-named s k (calls.Post i b) h = tt
HasReason-named s k (calls.Get g) h = tt
HasReason-named s k (calls.Draw i) h = tt
HasReason-named s k (calls.Take i) h = tt
HasReason-named s k (calls.DropRun i) h = tt
HasReason-named s k (calls.Retire i) h = tt

-- reasons make a task busy
busy_woken : (n f : ℕ) (b : Bool) → f ≢ 0 → (not (bit_or n f == 0) || b) ≡ true
busy_woken n f b h = let ne : bit_or n f ≢ 0 = omega (arith, le_or_r n f) in rw (ne_eqb (bit_or n f) 0 ne)

woken-valid : (k : CallerId) (f : ℕ) (p : Place) (n : ℕ) (b : Bool) (m : ℕ) → f ≢ 0 → IsValidTask (at p n b m) → IsValidTask (woken k f (at p n b m))
woken-valid k f places.Rest n b m h v = busy_woken n f b h
woken-valid k f (places.Hands j) n b m h v = busy_woken n f b h
woken-valid k f (places.Boxed c) n b m h v = busy_woken n f b h
woken-valid k f (places.Drawn j) n b m h v = busy_woken n f b h
woken-valid k f (places.Runs j) n b m h v = tt
woken-valid k f places.Gone n b m h v = v

flagged-valid : (k : CallerId) (p : Place) (n : ℕ) (b : Bool) (m : ℕ) → IsValidTask (at p n b m) → IsValidTask (flagged k (at p n b m))
flagged-valid k places.Rest n b m v = or-true (not (n == 0))
flagged-valid k (places.Hands j) n b m v = or-true (not (n == 0))
flagged-valid k (places.Boxed c) n b m v = or-true (not (n == 0))
flagged-valid k (places.Drawn j) n b m v = or-true (not (n == 0))
flagged-valid k (places.Runs j) n b m v = tt
flagged-valid k places.Gone n b m v = v

-- a task in hands may be in a box
posted-valid : (k : CallerId) (c : ℕ) (p : Place) (n : ℕ) (b : Bool) (m : ℕ) → in_hands k p ≡ true → IsValidTask (at p n b m) → IsValidTask (put (places.Boxed c) (at p n b m))
posted-valid k c places.Rest n b m h v = cc
posted-valid k c (places.Hands j) n b m h v = v
posted-valid k c (places.Boxed d) n b m h v = cc
posted-valid k c (places.Drawn j) n b m h v = cc
posted-valid k c (places.Runs j) n b m h v = cc
posted-valid k c places.Gone n b m h v = cc

-- a task in a box may be drawn
drawn-valid : (c : ℕ) (k : CallerId) (p : Place) (n : ℕ) (b : Bool) (m : ℕ) → is_boxed c p ≡ true → IsValidTask (at p n b m) → IsValidTask (put (places.Drawn k) (at p n b m))
drawn-valid c k places.Rest n b m h v = cc
drawn-valid c k (places.Hands j) n b m h v = cc
drawn-valid c k (places.Boxed d) n b m h v = v
drawn-valid c k (places.Drawn j) n b m h v = cc
drawn-valid c k (places.Runs j) n b m h v = cc
drawn-valid c k places.Gone n b m h v = cc

got-boxed : (k : CallerId) (c : ℕ) (here : Bool) (n : ℕ) (b : Bool) (m : ℕ) → IsValidTask (at (places.Boxed c) n b m) → IsValidTask (if here then at (places.Hands k) n b m else at (places.Boxed c) n b m)
got-boxed k c true n b m v = v
got-boxed k c false n b m v = v

got-valid : (k : CallerId) (p : Place) (n : ℕ) (b : Bool) (m : ℕ) → IsValidTask (at p n b m) → IsValidTask (got k (at p n b m))
got-valid k places.Rest n b m v = v
got-valid k (places.Hands j) n b m v = v
got-valid k (places.Boxed c) n b m v = got-boxed k c (k.0 == c) n b m v
got-valid k (places.Drawn j) n b m v = v
got-valid k (places.Runs j) n b m v = v
got-valid k places.Gone n b m v = v

dropped-at : (k : CallerId) (t : TaskState) (busy : Bool) → is_busy t ≡ busy → IsValidTask (put (if busy then places.Hands k else places.Rest) t)
dropped-at k t true e = e
dropped-at k t false e = e

changed-valid : (w : ℕ) (k : CallerId) (c : Call) (t : TaskState) → HasReason c → needs w k c t.place ≡ true → IsValidTask t → IsValidTask (changed k c t)
changed-valid w k (calls.Wake i f) t h fit v = woken-valid k f t.place t.pending t.killed t.takes h v
changed-valid w k (calls.Kill i) t h fit v = flagged-valid k t.place t.pending t.killed t.takes v
changed-valid w k (calls.Post i b) t h fit v = posted-valid k b t.place t.pending t.killed t.takes fit v
changed-valid w k (calls.Get g) t h fit v = got-valid k t.place t.pending t.killed t.takes v
changed-valid w k (calls.Draw i) t h fit v = drawn-valid w k t.place t.pending t.killed t.takes fit v
changed-valid w k (calls.Take i) t h fit v = tt
changed-valid w k (calls.DropRun i) t h fit v = dropped-at k t (is_busy t) refl
changed-valid w k (calls.Retire i) t h fit v = refl

-- what a call needs of its subject it needs of each task that it is about
pub needs-about : (s : State) (k : CallerId) (c : Call) (i : ℕ) → fits s k c ≡ true → is_about i c ≡ true → needs s.workers k c (task_at s i).place ≡ true
needs-about s k (calls.Wake j f) i h e = refl
needs-about s k (calls.Kill j) i h e = refl
needs-about s k (calls.Post j b) i h e = rw (eqb-true i j.0 e) h
needs-about s k (calls.Get g) i h e = refl
needs-about s k (calls.Draw j) i h e = rw (eqb-true i j.0 e) h
needs-about s k (calls.Take j) i h e = rw (eqb-true i j.0 e) h
needs-about s k (calls.DropRun j) i h e = rw (eqb-true i j.0 e) h
needs-about s k (calls.Retire j) i h e = rw (eqb-true i j.0 e) h

moved-valid : (s : State) (k : CallerId) (c : Call) (i : ℕ) (about : Bool) → is_about i c ≡ about → is_named s k c ≡ true → fits s k c ≡ true → IsValidTask (task_at s i) → IsValidTask (if about then changed k c (task_at s i) else task_at s i)
moved-valid s k c i true e named fit v =
    changed-valid s.workers k c (task_at s i) (HasReason-named s k c named) (needs-about s k c i fit e) v
moved-valid s k c i false e named fit v = v

pub after-valid : (s : State) (e : Entry) → Allowed s e → IsValid s → IsValid (after s e.caller e.call)
after-valid s e a v i =
    rw (task_at-after s e.caller e.call i (subject-lt s e.caller e.call a.named)) (moved-valid s e.caller e.call i (is_about i e.call) refl a.named a.fit (v i))

pub Step-valid : (old : State) (e : Entry) (new : State) → Step old e new → IsValid old → IsValid new
Step-valid old e new step v = rw step.state (after-valid old e step.allowed v)

pub Legal-valid : (s : State) (es : List Entry) → Legal s es → IsValid s → IsValid (led s es)
Legal-valid s [] h v = v
Legal-valid s (e ∷ es) h v = Legal-valid (stepped s e) es h.1 (after-valid s e h.0 v)

opens-valid : (init : Bool) (t : TaskState) → OpensAs init t → IsValidTask t
opens-valid true t h = rw h.1 refl
opens-valid false t h = rw h refl

pub opening-valid : (is_init : ℕ → Bool) (s : State) → IsOpening is_init s → IsValid s
opening-valid is_init s h i = opens-valid (is_init i) (task_at s i) (h i)

-- another valid state of one task leaves all tasks valid
put_task-valid : (s : State) (i : ℕ) (t : TaskState) → IsValidTask t → IsValid s → IsValid (put_task s i t)
put_task-valid s i t h v j =
    elim (cases_eq j i) [
      | inl same ↦
          rw same (elim (cases_lt i (length s.tasks)) [
            | inl lt ↦ rw (get_or-set_same s.tasks i t resting lt) h
            | inr le ↦ rw (set_past s.tasks i t le) (v i)
          ])
      | inr ne ↦ rw (get_or-set_other s.tasks i j t resting ne) (v j)
    ]

-- seating makes its task busy
pub seating-valid : (s : State) (i b : ℕ) → IsValid s → IsValid (put_task s i (seated b (task_at s i)))
seating-valid s i b v = put_task-valid s i (seated b (task_at s i)) refl v

boxed-valid : (c d : ℕ) (t : TaskState) → t.place ≡ places.Boxed c → IsValidTask t → IsValidTask (put (places.Boxed d) t)
boxed-valid c d t e v = subst (λ (p : Place). ValidAt p t) e v

-- a task in a box may be put into another one
pub dealt-valid : (s : State) (i c d : ℕ) → (task_at s i).place ≡ places.Boxed c → IsValid s → IsValid (put_task s i (put (places.Boxed d) (task_at s i)))
dealt-valid s i c d e v =
    put_task-valid s i (put (places.Boxed d) (task_at s i)) (boxed-valid c d (task_at s i) e (v i)) v
