-- The list of tasks after a call.
use Rattle.std.proofs.Common.{◌≡◌, ◌≢◌, ℕ, zero, suc, ◌+◌, ◌*◌, ◌/◌, ◌<◌, ◌≤◌, inl, inr, List, [], ◌∷◌, length, get_or, set, refl, sym, ap, subst, ◌∙◌, arith, ne_eqb, min}
use Rattle.std.proofs.lemmas.Bool.{cases_eq, cases_lt}
use Rattle.std.proofs.lemmas.List.{same_lists, get_or_default, get_or-set_same, get_or-set_other}
use Rattle.std.proofs.Math.ListN.{length-set}
use Rattle.sched_base.specs.declared.names.CallerId.{CallerId}
use Rattle.sched_base.specs.declared.names.TaskId.{TaskId}
use Rattle.task_machine.specs.declared.task.Place.TheVariants as places
use Rattle.task_machine.specs.declared.task.TaskState.{TaskState}
use Rattle.task_machine.specs.declared.calls.Call.{Call}
use Rattle.task_machine.specs.declared.calls.Call.TheVariants as calls
use Rattle.task_machine.specs.Task.{resting, put}
use Rattle.task_machine.specs.Step.{State, task_at, put_task, after, each, moved, changed, subject}
use Rattle.task_machine.proofs.About.{NoGet, is_about-subject, is_about-other}

pub length-each : (f : ℕ → TaskState → TaskState) (n : ℕ) (ts : List TaskState) → length (each f n ts) ≡ length ts
length-each f n [] = refl
length-each f n (t ∷ ts) = ap suc (length-each f (suc n) ts)

pub get_or-each : (f : ℕ → TaskState → TaskState) (n : ℕ) (ts : List TaskState) (i : ℕ) (d : TaskState) → i < length ts → get_or (each f n ts) i d ≡ f (n + i) (get_or ts i d)
get_or-each f n [] i d h = absurd (omega arith)
get_or-each f n (t ∷ ts) zero d h = let e : n ≡ n + 0 = omega arith in ap (λ m. f m t) e
get_or-each f n (t ∷ ts) (suc i) d h =
    let e : suc n + i ≡ n + suc i = omega arith in
    get_or-each f (suc n) ts i d (omega arith) ∙ ap (λ m. f m (get_or ts i d)) e

-- a list whose items are the changed ones is the changed list
pub each-from_items : (f : ℕ → TaskState → TaskState) (ts us : List TaskState) → length us ≡ length ts → ((i : ℕ) (d : TaskState) → i < length ts → get_or us i d ≡ f i (get_or ts i d)) → us ≡ each f 0 ts
each-from_items f ts us l h =
    same_lists us (each f 0 ts) (l ∙ sym (length-each f 0 ts)) (λ i d lt. let here : i < length ts = omega (arith, l) in let e : 0 + i ≡ i = omega arith in h i d here ∙ sym (get_or-each f 0 ts i d here ∙ ap (λ m. f m (get_or ts i d)) e))

-- a change of one item alone
pub each-from_set : (f : ℕ → TaskState → TaskState) (ts : List TaskState) (i : ℕ) (t : TaskState) → i < length ts → ((d : TaskState) → t ≡ f i (get_or ts i d)) → ((j : ℕ) (u : TaskState) → j ≢ i → f j u ≡ u) → set ts i t ≡ each f 0 ts
each-from_set f ts i t within here others =
    each-from_items f ts (set ts i t) (length-set ts i t) (λ j d lt.
    elim (cases_eq j i) [
      | inl same ↦ rw same (get_or-set_same ts i t d within ∙ here d)
      | inr ne ↦ get_or-set_other ts i j t d ne ∙ sym (others j (get_or ts j d) ne)
    ])

-- a call that names one task changes that one alone
pub each-from_call : (k : CallerId) (c : Call) (ts : List TaskState) (t : TaskState) → NoGet c → subject c < length ts → ((d : TaskState) → t ≡ changed k c (get_or ts (subject c) d)) → set ts (subject c) t ≡ each (moved k c) 0 ts
each-from_call k c ts t h within e =
    each-from_set (moved k c) ts (subject c) t within (λ d. rw (is_about-subject c h) (e d)) (λ j u ne. rw (is_about-other j c h ne))

get_outside : (k : CallerId) (g j : ℕ) (u : TaskState) → 64 * g + 64 ≤ j → moved k (calls.Get g) j u ≡ u
get_outside k g j u h = let ne : j / 64 ≢ g = omega arith in rw (ne_eqb (j / 64) g ne)

-- a get that went over its group changes the tasks as the table says
pub each-from_get : (k : CallerId) (g : ℕ) (ts us : List TaskState) (i : ℕ) → length us ≡ length ts → ((j : ℕ) → j < i → get_or us j resting ≡ moved k (calls.Get g) j (get_or ts j resting)) → ((j : ℕ) → i ≤ j → get_or us j resting ≡ get_or ts j resting) → min (length ts) (64 * g + 64) ≤ i → us ≡ each (moved k (calls.Get g)) 0 ts
each-from_get k g ts us i l done left end =
    each-from_items (moved k (calls.Get g)) ts us l (λ j d lt.
    rw (get_or_default us j d resting (omega (arith, l)), get_or_default ts j d resting lt) (elim (cases_lt j i) [
      | inl before ↦ done j before
      | inr le ↦ left j le ∙ sym (get_outside k g j (get_or ts j resting) (omega arith))
    ]))

-- a post puts its task into the box
pub after_post : (s : State) (k : CallerId) (i : TaskId) (b : ℕ) → i.0 < length s.tasks → put_task s i.0 (put (places.Boxed b) (task_at s i.0)) ≡ after s k (calls.Post i b)
after_post s k i b within =
    ap (λ us. record { workers = s.workers; tasks = us }) (each-from_call k (calls.Post i b) s.tasks (put (places.Boxed b) (task_at s i.0)) (λ g e. no_post g e) within (λ d. ap (put (places.Boxed b)) (get_or_default s.tasks i.0 resting d within)))
  where
    no_post : (g : ℕ) → calls.Post i b ≢ calls.Get g
    no_post g e = subst IsPost e (record {})
      where
        IsPost : Call → Type 0
        IsPost (calls.Post j x) = Unit {0}
        IsPost c = ⊥
