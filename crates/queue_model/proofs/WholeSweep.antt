-- SweepsBy of a sweep until none fires come to the sweep.
use Rattle.std.proofs.Common.{◌≡◌, ℕ, Bool, true, false, not, ◌&&◌, eqb, List, [], ◌∷◌, ◌++◌, Some, None, map, drop, set, get_or, refl, sym, ap, ap₂, subst, ◌∙◌, inl, inr, append-nil}
use Rattle.std.specs.Prelude.{fold, filter, int_le}
use Rattle.std.specs.List.{AllByRecursion}
use Rattle.std.proofs.lemmas.Bool.{cases_Bool, eqb-false, not-true, not_from_true, not_from_false}
use Rattle.std.proofs.lemmas.List.{get_or-set_other, map-append}
use Rattle.std.proofs.lemmas.List.Elements.{filter-append}
use Rattle.sched_base.proofs.Inserted.{Answers, inserted-append_right, filter-all, filter-none, filter-passes, all-weaker, all-inserted, all-filter}
use Rattle.queue_model.specs.Ticks.{distance, is_set, is_expired}
use Rattle.queue_model.specs.WaitList.{WaitItem, WaitList, with_expiry, placed}
use Rattle.queue_model.specs.Sweep.{due, fired, swept}
use Rattle.queue_model.specs.Laws.{SweepsGoOn}
use Rattle.queue_model.specs.SweepStep.{is_due, not_due, TasksApart, before, onward, first_task, first_fired, swept_once, SweepsBy, unset_first}
use Rattle.queue_model.proofs.SweepSteps.{due_before}

abbrev pub fires_by : ℕ → List ℕ → WaitItem → Bool
fires_by now es z = is_expired (get_or es z.task 0) now

abbrev pub set_by : List ℕ → WaitItem → Bool
set_by es z = is_set (get_or es z.task 0)

abbrev pub back_by : ℕ → List ℕ → WaitItem → Bool
back_by now es z = is_set (get_or es z.task 0) && not (is_expired (get_or es z.task 0) now)

abbrev pub place_by : ℕ → List ℕ → List WaitItem → ℕ → List WaitItem
place_by now es zs i = placed now i (get_or es i 0) zs

abbrev pub list_of : List WaitItem → List ℕ → WaitList
list_of items es = record { items = items; expiries = es }

abbrev pub tasks : List WaitItem → List ℕ
tasks zs = map (λ (z : WaitItem). z.task) zs

abbrev pub unset_all : List ℕ → List ℕ → List ℕ
unset_all es is = fold (λ (m : List ℕ) (i : ℕ). set m i 0) es is

pub apart_behind : (xs : List WaitItem) (y : WaitItem) (ys : List WaitItem) → TasksApart (xs ++ y ∷ ys) → TasksApart (y ∷ ys)
apart_behind [] y ys h = h
apart_behind (x ∷ xs) y ys h = apart_behind xs y ys h.1

pub apart-filter : (p : WaitItem → Bool) (xs : List WaitItem) → TasksApart xs → TasksApart (filter p xs)
apart-filter p [] h = tt
apart-filter p (x ∷ xs) h =
    elim (cases_Bool (p x)) [ inl k ↦ rw k (all-filter (λ (z : WaitItem). eqb x.task z.task ≡ false) p xs h.0, apart-filter p xs h.1) | inr k ↦ rw k (apart-filter p xs h.1) ]

pub before-onward : (p : WaitItem → Bool) (xs : List WaitItem) → before p xs ++ onward p xs ≡ xs
before-onward p [] = refl
before-onward p (x ∷ xs) =
    elim (cases_Bool (p x)) [ inl k ↦ rw k refl | inr k ↦ rw k (ap (λ (zs : List WaitItem). x ∷ zs) (before-onward p xs)) ]

pub before_quiet : (p : WaitItem → Bool) (xs : List WaitItem) → Answers false p (before p xs)
before_quiet p [] = tt
before_quiet p (x ∷ xs) = elim (cases_Bool (p x)) [ inl k ↦ rw k tt | inr k ↦ rw k (k, before_quiet p xs) ]

pub onward_none : (xs : List WaitItem) → first_task xs ≡ None → xs ≡ []
onward_none [] h = refl
onward_none (x ∷ xs) h = cc

pub onward_some : (xs : List WaitItem) (i : ℕ) → first_task xs ≡ Some i → (y : WaitItem) × (ys : List WaitItem) × (xs ≡ y ∷ ys) × (y.task ≡ i)
onward_some [] i h = cc
onward_some (x ∷ xs) i h = (x, xs, refl, let e : x.task ≡ i = cc in e)

pub onward_picks : (p : WaitItem → Bool) (xs : List WaitItem) (y : WaitItem) (ys : List WaitItem) → onward p xs ≡ y ∷ ys → p y ≡ true
onward_picks p [] y ys h = cc
onward_picks p (x ∷ xs) y ys h =
    elim (cases_Bool (p x)) [
      | inl k ↦ let e : x ∷ xs ≡ y ∷ ys = rw k at h in let same : x ≡ y = cc in ap p (sym same) ∙ k
      | inr k ↦ onward_picks p xs y ys (rw k at h)
    ]

-- among items that do not fire, those that go back are those whose expiry is set
pub back_is_set : (now : ℕ) (es : List ℕ) (xs : List WaitItem) → Answers false (fires_by now es) xs → filter (back_by now es) xs ≡ filter (set_by es) xs
back_is_set now es [] h = refl
back_is_set now es (x ∷ xs) h =
    elim (cases_Bool (set_by es x)) [
      | inl k ↦ rw (k, h.0) (ap (λ (zs : List WaitItem). x ∷ zs) (back_is_set now es xs h.1))
      | inr k ↦ rw k (back_is_set now es xs h.1)
    ]

-- tasks whose expiries are set and still ahead
abbrev pub AreAhead : ℕ → List ℕ → List ℕ → Type 0
AreAhead now es is = AllByRecursion (λ (i : ℕ). (is_set (get_or es i 0) ≡ true) × (is_expired (get_or es i 0) now ≡ false)) is

pub quiet_ahead : (now : ℕ) (es : List ℕ) (xs : List WaitItem) → Answers false (fires_by now es) xs → AreAhead now es (tasks (filter (set_by es) xs))
quiet_ahead now es [] h = tt
quiet_ahead now es (x ∷ xs) h =
    elim (cases_Bool (set_by es x)) [ inl k ↦ rw k ((k, h.0), quiet_ahead now es xs h.1) | inr k ↦ rw k (quiet_ahead now es xs h.1) ]

-- they go in behind what is due
pub fold_behind : (now : ℕ) (es is : List ℕ) (d a : List WaitItem) → AreAhead now es is → Answers true (is_due now) d → fold (place_by now es) (d ++ a) is ≡ d ++ fold (place_by now es) a is
fold_behind now es [] d a h due_d = refl
fold_behind now es (i ∷ is) d a h due_d =
    let t : ℕ = get_or es i 0 in
    let one : placed now i t (d ++ a) ≡ d ++ placed now i t a = inserted-append_right (λ (z : WaitItem). int_le (distance z.key now) (distance t now)) _ d a (due_before now t d h.0.0 h.0.1 due_d) in
    ap (λ (zs : List WaitItem). fold (place_by now es) zs is) one ∙ fold_behind now es is d (placed now i t a) h.1 due_d

-- and none of them is due
pub fold_ahead : (now : ℕ) (es is : List ℕ) (a : List WaitItem) → AreAhead now es is → Answers false (is_due now) a → Answers false (is_due now) (fold (place_by now es) a is)
fold_ahead now es [] a h ahead_a = ahead_a
fold_ahead now es (i ∷ is) a h ahead_a = fold_ahead now es is _ h.1 (all-inserted (λ (z : WaitItem). is_due now z ≡ false) _ _ a h.0.1 ahead_a)

-- ---- other tasks' expiries

pub other_expiry : (es : List ℕ) (j i : ℕ) → eqb j i ≡ false → get_or (set es j 0) i 0 ≡ get_or es i 0
other_expiry es j i ne = get_or-set_other es j i 0 0 (λ e. eqb-false j i ne (sym e))

pub filter_other : (t : ℕ → Bool) (es : List ℕ) (j : ℕ) (xs : List WaitItem) → AllByRecursion (λ (z : WaitItem). eqb j z.task ≡ false) xs → filter (λ (z : WaitItem). t (get_or (set es j 0) z.task 0)) xs ≡ filter (λ (z : WaitItem). t (get_or es z.task 0)) xs
filter_other t es j [] h = refl
filter_other t es j (x ∷ xs) h =
    let e : get_or (set es j 0) x.task 0 ≡ get_or es x.task 0 = other_expiry es j x.task h.0 in
    elim (cases_Bool (t (get_or es x.task 0))) [
      | inl k ↦ rw (e, k) (ap (λ (zs : List WaitItem). x ∷ zs) (filter_other t es j xs h.1))
      | inr k ↦ rw (e, k) (filter_other t es j xs h.1)
    ]

pub fold_other : (now : ℕ) (es : List ℕ) (j : ℕ) (is : List ℕ) (a : List WaitItem) → AllByRecursion (λ (i : ℕ). eqb j i ≡ false) is → fold (place_by now (set es j 0)) a is ≡ fold (place_by now es) a is
fold_other now es j [] a h = refl
fold_other now es j (i ∷ is) a h =
    ap (λ t. fold (place_by now (set es j 0)) (placed now i t a) is) (other_expiry es j i h.0) ∙ fold_other now es j is (placed now i (get_or es i 0) a) h.1

pub tasks_other : (j : ℕ) (p : WaitItem → Bool) (xs : List WaitItem) → AllByRecursion (λ (z : WaitItem). eqb j z.task ≡ false) xs → AllByRecursion (λ (i : ℕ). eqb j i ≡ false) (tasks (filter p xs))
tasks_other j p [] h = tt
tasks_other j p (x ∷ xs) h =
    elim (cases_Bool (p x)) [ inl k ↦ rw k (h.0, tasks_other j p xs h.1) | inr k ↦ rw k (tasks_other j p xs h.1) ]

pub fold-append : {A B : Type 0} (g : A → B → A) (a : A) (xs ys : List B) → fold g a (xs ++ ys) ≡ fold g (fold g a xs) ys
fold-append g a [] ys = refl
fold-append g a (x ∷ xs) ys = fold-append g (g a x) xs ys

-- ---- the sweep

-- what a sweep leaves of due items and others, by the expiries
abbrev pub swept_of : ℕ → List ℕ → List WaitItem → List WaitItem → WaitList
swept_of now es d a = list_of (fold (place_by now es) a (tasks (filter (back_by now es) d))) (unset_all es (tasks (filter (fires_by now es) d)))

pub due_is : (now : ℕ) (d a : List WaitItem) → Answers true (is_due now) d → Answers false (is_due now) a → filter (is_due now) (d ++ a) ≡ d
due_is now d a due_d ahead_a = filter-append (is_due now) d a ∙ rw (filter-all (is_due now) d due_d, filter-none (is_due now) a ahead_a) (append-nil d)

pub ahead_is : (now : ℕ) (d a : List WaitItem) → Answers true (is_due now) d → Answers false (is_due now) a → not_due now (d ++ a) ≡ a
ahead_is now d a due_d ahead_a =
    let nd : WaitItem → Bool = λ z. not (is_due now z) in
    filter-append nd d a ∙ rw (filter-none nd d (all-weaker (λ (z : WaitItem). is_due now z ≡ true) (λ (z : WaitItem). nd z ≡ false) d (λ z h. not_from_true _ h) due_d), filter-all nd a (all-weaker (λ (z : WaitItem). is_due now z ≡ false) (λ (z : WaitItem). nd z ≡ true) a (λ z h. not_from_false _ h) ahead_a)) refl

-- a step in these words
pub swept_once_is : (now : ℕ) (es : List ℕ) (d a o : List WaitItem) → Answers true (is_due now) d → Answers false (is_due now) a → onward (fires_by now es) d ≡ o → swept_once now (list_of (d ++ a) es) ≡ list_of (fold (place_by now es) (drop 1 o ++ a) (tasks (filter (set_by es) (before (fires_by now es) d)))) (unset_first o es)
swept_once_is now es d a o due_d ahead_a e =
    rw (due_is now d a due_d ahead_a, ahead_is now d a due_d ahead_a) (rw e refl)

pub rest_due : (now : ℕ) (xs : List WaitItem) (y : WaitItem) (ys : List WaitItem) → Answers true (is_due now) (xs ++ y ∷ ys) → Answers true (is_due now) ys
rest_due now [] y ys h = h.1
rest_due now (x ∷ xs) y ys h = rest_due now xs y ys h.1

pub no_back : (now : ℕ) (es : List ℕ) (y : WaitItem) → fires_by now es y ≡ true → back_by now es y ≡ false
no_back now es y h = elim (cases_Bool (set_by es y)) [ inl k ↦ rw (k, h) refl | inr k ↦ rw k refl ]

-- a step that fires a task, in these words: due items and others as they stand after it, from which the sweep goes on
pub record OneFired (now : ℕ) (es : List ℕ) (d a : List WaitItem) (i : ℕ) : Type 0 where
  pub due : List WaitItem
  pub others : List WaitItem
  pub expiries : List ℕ
  pub due_ones : Answers true (is_due now) due
  pub not_due_ones : Answers false (is_due now) others
  pub apart : TasksApart due
  pub step : swept_once now (list_of (d ++ a) es) ≡ list_of (due ++ others) expiries
  pub fires : tasks (filter (fires_by now es) d) ≡ i ∷ tasks (filter (fires_by now expiries) due)
  pub rest : swept_of now expiries due others ≡ swept_of now es d a

pub one_fired : (now : ℕ) (es : List ℕ) (d a : List WaitItem) (i : ℕ) → Answers true (is_due now) d → Answers false (is_due now) a → TasksApart d → first_fired now (list_of (d ++ a) es) ≡ Some i → OneFired now es d a i
one_fired now es d a i due_d ahead_a apart h =
    let some : first_task (onward (fires_by now es) d) ≡ Some i = rw (due_is now d a due_d ahead_a) at h in
    let w = onward_some (onward (fires_by now es) d) i some in
    let y : WaitItem = w.0 in
    let ys : List WaitItem = w.1 in
    let e : onward (fires_by now es) d ≡ y ∷ ys = w.2 in
    let own : y.task ≡ i = w.3 in
    let f : WaitItem → Bool = fires_by now es in
    let p : List WaitItem = before f d in
    let goes : f y ≡ true = onward_picks f d y ys e in
    let whole : p ++ y ∷ ys ≡ d = ap (λ (zs : List WaitItem). p ++ zs) (sym e) ∙ before-onward f d in
    let quiet : Answers false f p = before_quiet f d in
    let ps : List ℕ = tasks (filter (set_by es) p) in
    let ready : AreAhead now es ps = quiet_ahead now es p quiet in
    let es' : List ℕ = set es y.task 0 in
    let behind = apart_behind p y ys (subst (λ (zs : List WaitItem). TasksApart zs) (sym whole) apart) in
    let due_all : Answers true (is_due now) (p ++ y ∷ ys) = subst (λ (zs : List WaitItem). Answers true (is_due now) zs) (sym whole) due_d in
    let due_ys : Answers true (is_due now) ys = rest_due now p y ys due_all in
    let a' : List WaitItem = fold (place_by now es) a ps in
    let step : swept_once now (list_of (d ++ a) es) ≡ list_of (ys ++ a') es' = swept_once_is now es d a (y ∷ ys) due_d ahead_a e ∙ ap (λ (zs : List WaitItem). list_of zs es') (fold_behind now es ps ys a ready due_ys) in
    let same_fires : filter (fires_by now es') ys ≡ filter f ys = filter_other (λ t. is_expired t now) es y.task ys behind.0 in
    let same_back : filter (back_by now es') ys ≡ filter (back_by now es) ys = filter_other (λ t. is_set t && not (is_expired t now)) es y.task ys behind.0 in
    let fires_all : filter f d ≡ y ∷ filter f ys = ap (filter f) (sym whole) ∙ filter-append f p (y ∷ ys) ∙ rw (filter-none f p quiet) (rw goes refl) in
    let stays_out : back_by now es y ≡ false = no_back now es y goes in
    let back_all : filter (back_by now es) d ≡ filter (set_by es) p ++ filter (back_by now es) ys = ap (filter (back_by now es)) (sym whole) ∙ filter-append (back_by now es) p (y ∷ ys) ∙ rw (back_is_set now es p quiet, stays_out) refl in
    let back_tasks : tasks (filter (back_by now es) d) ≡ ps ++ tasks (filter (back_by now es) ys) = ap tasks back_all ∙ map-append (λ (z : WaitItem). z.task) _ _ in
    let items : fold (place_by now es') a' (tasks (filter (back_by now es') ys)) ≡ fold (place_by now es) a (tasks (filter (back_by now es) d)) =
    ap (λ (zs : List WaitItem). fold (place_by now es') a' (tasks zs)) same_back
    ∙ fold_other now es y.task (tasks (filter (back_by now es) ys)) a' (tasks_other y.task (back_by now es) ys behind.0)
    ∙ sym (ap (fold (place_by now es) a) back_tasks ∙ fold-append (place_by now es) a ps (tasks (filter (back_by now es) ys))) in
    let expiries : unset_all es' (tasks (filter (fires_by now es') ys)) ≡ unset_all es (tasks (filter f d)) = rw (same_fires, fires_all) refl in
    record {
      due = ys;
      others = a';
      expiries = es';
      due_ones = due_ys;
      not_due_ones = fold_ahead now es ps a ready ahead_a;
      apart = behind.1;
      step = step;
      fires = ap tasks fires_all ∙ ap₂ (λ (j : ℕ) (js : List ℕ). j ∷ js) own (ap tasks (sym same_fires));
      rest = rw (items, expiries) refl;
    }

-- a step that fires none is the sweep
pub none_fired : (now : ℕ) (es : List ℕ) (d a : List WaitItem) → Answers true (is_due now) d → Answers false (is_due now) a → first_fired now (list_of (d ++ a) es) ≡ None → (tasks (filter (fires_by now es) d) ≡ []) × (swept_once now (list_of (d ++ a) es) ≡ swept_of now es d a)
none_fired now es d a due_d ahead_a h =
    let f : WaitItem → Bool = fires_by now es in
    let none : first_task (onward f d) ≡ None = rw (due_is now d a due_d ahead_a) at h in
    let o : onward f d ≡ [] = onward_none (onward f d) none in
    let all : before f d ≡ d = sym (append-nil (before f d)) ∙ ap (λ (zs : List WaitItem). before f d ++ zs) (sym o) ∙ before-onward f d in
    let quiet : Answers false f d = subst (λ (zs : List WaitItem). Answers false f zs) all (before_quiet f d) in
    let fires_none : filter f d ≡ [] = filter-none f d quiet in
    let end : swept_once now (list_of (d ++ a) es) ≡ list_of (fold (place_by now es) a (tasks (filter (set_by es) d))) es = swept_once_is now es d a [] due_d ahead_a o ∙ ap (λ (zs : List WaitItem). list_of (fold (place_by now es) a (tasks (filter (set_by es) zs))) es) all in
    (rw fires_none refl, end ∙ rw (back_is_set now es d quiet, fires_none) refl)

pub steps_sweep : (now : ℕ) (es : List ℕ) (d a : List WaitItem) (is : List ℕ) (new : WaitList) → Answers true (is_due now) d → Answers false (is_due now) a → TasksApart d → SweepsBy now (list_of (d ++ a) es) is new → (is ≡ tasks (filter (fires_by now es) d)) × (new ≡ swept_of now es d a)
steps_sweep now es d a [] new due_d ahead_a apart h =
    let o = none_fired now es d a due_d ahead_a h.0 in
    (sym o.0, h.1 ∙ o.1)
steps_sweep now es d a (i ∷ is) new due_d ahead_a apart h =
    let o = one_fired now es d a i due_d ahead_a apart h.0 in
    let after : SweepsBy now (list_of (o.due ++ o.others) o.expiries) is new = subst (λ (l : WaitList). SweepsBy now l is new) o.step h.1 in
    let ih = steps_sweep now o.expiries o.due o.others is new o.due_ones o.not_due_ones o.apart after in
    (ap (λ (js : List ℕ). i ∷ js) ih.0 ∙ sym o.fires, ih.1 ∙ o.rest)

pub unset-fold : (l : WaitList) (is : List ℕ) → (fold (λ (m : WaitList) (i : ℕ). with_expiry i 0 m) l is).expiries ≡ unset_all l.expiries is
unset-fold l [] = refl
unset-fold l (i ∷ is) = unset-fold (with_expiry i 0 l) is

pub swept_is : (now : ℕ) (l : WaitList) → swept now l ≡ swept_of now l.expiries (due now l) (not_due now l.items)
swept_is now l = rw (unset-fold l (fired now l)) refl

-- the sweep of due items and others
pub swept_list : (now : ℕ) (es : List ℕ) (d a : List WaitItem) → Answers true (is_due now) d → Answers false (is_due now) a → (fired now (list_of (d ++ a) es) ≡ tasks (filter (fires_by now es) d)) × (swept now (list_of (d ++ a) es) ≡ swept_of now es d a)
swept_list now es d a due_d ahead_a =
    let e = due_is now d a due_d ahead_a in
    (rw e refl, swept_is now (list_of (d ++ a) es) ∙ ap₂ (λ (x y : List WaitItem). swept_of now es x y) e (ahead_is now d a due_d ahead_a))

-- a step fires the first of those that the sweep fires, and the sweep of what it leaves is the rest of the sweep
pub sweeps_on : SweepsGoOn
sweeps_on now l first apart =
    let es : List ℕ = l.expiries in
    let d : List WaitItem = due now l in
    let a : List WaitItem = not_due now l.items in
    let due_d : Answers true (is_due now) d = filter-passes (is_due now) l.items in
    let ahead_a : Answers false (is_due now) a = all-weaker (λ (z : WaitItem). not (is_due now z) ≡ true) (λ (z : WaitItem). is_due now z ≡ false) a (λ z h. not-true (is_due now z) h) (filter-passes (λ (z : WaitItem). not (is_due now z)) l.items) in
    let is : list_of (d ++ a) es ≡ l = ap (λ (zs : List WaitItem). list_of zs es) first in
    let old = swept_list now es d a due_d ahead_a in
    record {
      none = λ h.
          let o = none_fired now es d a due_d ahead_a (ap (first_fired now) is ∙ h) in
          (ap (fired now) (sym is) ∙ old.0 ∙ o.0, ap (swept now) (sym is) ∙ old.1 ∙ sym o.1 ∙ ap (swept_once now) is);
      some = λ i h.
          let o = one_fired now es d a i due_d ahead_a apart (ap (first_fired now) is ∙ h) in
          let new = swept_list now o.expiries o.due o.others o.due_ones o.not_due_ones in
          let step : swept_once now l ≡ list_of (o.due ++ o.others) o.expiries = ap (swept_once now) (sym is) ∙ o.step in (
            ap (fired now) (sym is) ∙ old.0 ∙ o.fires ∙ ap (λ (js : List ℕ). i ∷ js) (sym new.0 ∙ ap (fired now) (sym step)),
            ap (swept now) (sym is) ∙ old.1 ∙ sym o.rest ∙ sym new.1 ∙ ap (swept now) (sym step),
          );
    }
