-- The marks of the boxes: a box without a mark is empty.
use Rattle.std.proofs.Common.{◌≡◌, ◌≢◌, ℕ, ◌+◌, ◌*◌, ◌/◌, ◌<◌, ◌≤◌, ◌==◌, Bool, true, false, if◌then◌else◌, inl, inr, List, length, get_or, set, refl, sym, ap, subst, ◌∙◌, arith, eqb-true, eq-eqb, ne_eqb, ◌⊎◌}
use Rattle.std.proofs.lemmas.Bool.{cases_eq, cases_Bool, false≢true}
use Rattle.std.proofs.lemmas.List.{get_or_default, get_or-set_same, get_or-set_other}
use Rattle.std.proofs.Math.ListN.{length-set}
use Rattle.std.proofs.Math.Nat.{mul_comm}
use Rattle.std.proofs.lemmas.Nat.{same_from_place, mul-add-lt}
use Rattle.sched_base.specs.declared.names.CallerId.{CallerId}
use Rattle.task_machine.specs.declared.task.Place.{Place}
use Rattle.task_machine.specs.declared.task.Place.TheVariants as places
use Rattle.task_machine.specs.declared.task.TaskState.{TaskState}
use Rattle.task_machine.specs.declared.calls.Call.{Call}
use Rattle.task_machine.specs.declared.calls.Call.TheVariants as calls
use Rattle.task_machine.specs.Task.{resting, put, is_boxed, is_busy, woken, flagged, dropped, got}
use Rattle.task_machine.specs.Marks.{groups, mark_at, AreMarked, FillsNoBox}
use Rattle.task_machine.specs.Step.{moved, each, changed, subject}
use Rattle.task_machine.proofs.About.{NoGet}
use Rattle.task_machine.proofs.Lists.{each-from_items, length-each, get_or-each}

pub mark_within : (w n b g : ℕ) → b ≤ w → 64 * g < n → mark_at n b g < (w + 1) * groups n
mark_within w n b g lb lg =
    let less : b * groups n + g < groups n * (w + 1) = mul-add-lt b (groups n) g (w + 1) (omega arith) (omega arith) in
    let turn : groups n * (w + 1) ≡ (w + 1) * groups n = mul_comm (groups n) (w + 1) in
    omega arith

-- two marks stand in one place only for one group of one box
same_mark : (n b g x y : ℕ) → 64 * g < n → 64 * y < n → mark_at n b g ≡ mark_at n x y → (b ≡ x) × (g ≡ y)
same_mark n b g x y lg ly e = same_from_place b g x y (groups n) (omega arith) (omega arith) e

-- a mark stays set when another is set
kept_mark : (marks : List Bool) (at p : ℕ) → at < length marks → get_or marks p false ≡ true → get_or (set marks at true) p false ≡ true
kept_mark marks at p room h =
    elim (cases_eq p at) [
      | inl same ↦ ap (λ q. get_or (set marks at true) q false) same ∙ get_or-set_same marks at true false room
      | inr ne ↦ get_or-set_other marks at p true false ne ∙ h
    ]

-- the marks of as many tasks
AreMarked-of : (w n : ℕ) (ts : List TaskState) (marks : List Bool) → length ts ≡ n → length marks ≡ (w + 1) * groups n → ((b i : ℕ) → b ≤ w → i < n → is_boxed b (get_or ts i resting).place ≡ true → get_or marks (mark_at n b (i / 64)) false ≡ true) → AreMarked w ts marks
AreMarked-of w n ts marks count wide set =
    record {
      wide = wide ∙ ap (λ k. (w + 1) * groups k) (sym count);
      set = λ b i le lt boxed. ap (λ k. get_or marks (mark_at k b (i / 64)) false) count ∙ set b i le (omega (arith, count)) boxed;
    }

pub AreMarked-put : (w : ℕ) (ts : List TaskState) (marks : List Bool) (i b : ℕ) (t : TaskState) → AreMarked w ts marks → i < length ts → b ≤ w → t.place ≡ places.Boxed b → AreMarked w (set ts i t) (set marks (mark_at (length ts) b (i / 64)) true)
AreMarked-put w ts marks i b t h within box place =
    AreMarked-of w (length ts) (set ts i t) (set marks at true) (length-set ts i t) (length-set marks at true ∙ h.wide) marked
  where
    at : ℕ
    at = mark_at (length ts) b (i / 64)

    room : at < length marks
    room = rw h.wide (mark_within w (length ts) b (i / 64) box (omega arith))

    marked : (c j : ℕ) → c ≤ w → j < length ts → is_boxed c (get_or (set ts i t) j resting).place ≡ true → get_or (set marks at true) (mark_at (length ts) c (j / 64)) false ≡ true
    marked c j le lt boxed =
        elim (cases_eq j i) [
          | inl same ↦ here same
          | inr ne ↦ kept_mark marks at (mark_at (length ts) c (j / 64)) room (h.set c j le lt (sym (ap (λ u. is_boxed c u.place) (get_or-set_other ts i j t resting ne)) ∙ boxed))
        ]
      where
        here : j ≡ i → get_or (set marks at true) (mark_at (length ts) c (j / 64)) false ≡ true
        here same =
            let stored : get_or (set ts i t) j resting ≡ t = ap (λ k. get_or (set ts i t) k resting) same ∙ get_or-set_same ts i t resting within in
            let tested : is_boxed c (places.Boxed b) ≡ true = sym (ap (λ u. is_boxed c u.place) stored ∙ ap (is_boxed c) place) ∙ boxed in
            let number : c ≡ b = eqb-true c b tested in
            let spot : mark_at (length ts) c (j / 64) ≡ at = ap (λ k. mark_at (length ts) k (j / 64)) number ∙ ap (λ k. mark_at (length ts) b (k / 64)) same in
            ap (λ q. get_or (set marks at true) q false) spot ∙ get_or-set_same marks at true false room

-- where each task that is in a box was there before, the marks still stand
pub AreMarked-kept : (w : ℕ) (ts us : List TaskState) (marks : List Bool) → AreMarked w ts marks → length us ≡ length ts → ((b i : ℕ) → i < length ts → is_boxed b (get_or us i resting).place ≡ true → is_boxed b (get_or ts i resting).place ≡ true) → AreMarked w us marks
AreMarked-kept w ts us marks h count stay =
    AreMarked-of w (length ts) us marks count h.wide (λ b i le lt boxed. h.set b i le lt (stay b i lt boxed))

-- a task with these parts
abbrev parts : Place → ℕ → Bool → ℕ → TaskState
parts p n x m = record { place = p; pending = n; killed = x; takes = m }

woken_stays : (k : CallerId) (f b : ℕ) (p : Place) (n : ℕ) (x : Bool) (m : ℕ) → is_boxed b (woken k f (parts p n x m)).place ≡ true → is_boxed b p ≡ true
woken_stays k f b places.Rest n x m e = e
woken_stays k f b (places.Hands j) n x m e = e
woken_stays k f b (places.Boxed c) n x m e = e
woken_stays k f b (places.Drawn j) n x m e = e
woken_stays k f b (places.Runs j) n x m e = e
woken_stays k f b places.Gone n x m e = e

killed_stays : (k : CallerId) (b : ℕ) (p : Place) (n : ℕ) (x : Bool) (m : ℕ) → is_boxed b (flagged k (parts p n x m)).place ≡ true → is_boxed b p ≡ true
killed_stays k b places.Rest n x m e = e
killed_stays k b (places.Hands j) n x m e = e
killed_stays k b (places.Boxed c) n x m e = e
killed_stays k b (places.Drawn j) n x m e = e
killed_stays k b (places.Runs j) n x m e = e
killed_stays k b places.Gone n x m e = e

dropped_boxed : (k : CallerId) (b : ℕ) (t : TaskState) → is_boxed b (dropped k t).place ≡ false
dropped_boxed k b t = by_cases (is_busy t)
  where
    by_cases : (x : Bool) → is_boxed b (if x then places.Hands k else places.Rest) ≡ false
    by_cases true = refl
    by_cases false = refl

-- the task that such a call names was in a box if it is in it afterwards
pub stays_boxed : (k : CallerId) (c : Call) (t : TaskState) (b : ℕ) → FillsNoBox c → is_boxed b (changed k c t).place ≡ true → is_boxed b t.place ≡ true
stays_boxed k (calls.Wake i f) t b h e = woken_stays k f b t.place t.pending t.killed t.takes e
stays_boxed k (calls.Kill i) t b h e = killed_stays k b t.place t.pending t.killed t.takes e
stays_boxed k (calls.Post i x) t b h e = absurd h
stays_boxed k (calls.Get g) t b h e = absurd h
stays_boxed k (calls.Draw i) t b h e = absurd (false≢true e)
stays_boxed k (calls.Take i) t b h e = absurd (false≢true e)
stays_boxed k (calls.DropRun i) t b h e = absurd (false≢true (sym (dropped_boxed k b t) ∙ e))
stays_boxed k (calls.Retire i) t b h e = absurd (false≢true e)

-- such a call is no get
pub no_get : (c : Call) → FillsNoBox c → NoGet c
no_get c h g e = subst FillsNoBox e h

pub AreMarked-change : (w : ℕ) (ts : List TaskState) (marks : List Bool) (k : CallerId) (c : Call) (i : ℕ) (t : TaskState) → AreMarked w ts marks → FillsNoBox c → i < length ts → t ≡ changed k c (get_or ts i resting) → AreMarked w (set ts i t) marks
AreMarked-change w ts marks k c i t h fills within e =
    AreMarked-kept w ts (set ts i t) marks h (length-set ts i t) (λ b j lt boxed.
    elim (cases_eq j i) [
      | inl same ↦ here b j same boxed
      | inr ne ↦ sym (ap (λ u. is_boxed b u.place) (get_or-set_other ts i j t resting ne)) ∙ boxed
    ])
  where
    here : (b j : ℕ) → j ≡ i → is_boxed b (get_or (set ts i t) j resting).place ≡ true → is_boxed b (get_or ts j resting).place ≡ true
    here b j same boxed =
        let stored : get_or (set ts i t) j resting ≡ t = ap (λ k. get_or (set ts i t) k resting) same ∙ get_or-set_same ts i t resting within in
        ap (λ k. is_boxed b (get_or ts k resting).place) same ∙ stays_boxed k c (get_or ts i resting) b fills (sym (ap (λ u. is_boxed b u.place) (stored ∙ e)) ∙ boxed)

-- a group of a box without a mark has no task
pub none_boxed : (w : ℕ) (ts : List TaskState) (marks : List Bool) (b j : ℕ) → AreMarked w ts marks → b ≤ w → j < length ts → get_or marks (mark_at (length ts) b (j / 64)) false ≡ false → is_boxed b (get_or ts j resting).place ≡ false
none_boxed w ts marks b j h le lt clear =
    elim (cases_Bool (is_boxed b (get_or ts j resting).place)) [
      | inl set ↦ absurd (false≢true (sym clear ∙ h.set b j le lt set))
      | inr none ↦ none
    ]

-- a get of such a group changes nothing
pub empty_get : (w : ℕ) (ts : List TaskState) (marks : List Bool) (k : CallerId) (g : ℕ) → AreMarked w ts marks → k.0 ≤ w → get_or marks (mark_at (length ts) k.0 g) false ≡ false → ts ≡ each (moved k (calls.Get g)) 0 ts
empty_get w ts marks k g h le clear =
    each-from_items (moved k (calls.Get g)) ts ts refl (λ i d lt.
    elim (cases_eq (i / 64) g) [
      | inl same ↦ rw (eq-eqb (i / 64) g same, got_none (get_or ts i d) (ap (λ t. is_boxed k.0 t.place) (get_or_default ts i d resting lt) ∙ none_boxed w ts marks k.0 i h le lt (ap (λ x. get_or marks (mark_at (length ts) k.0 x) false) same ∙ clear))) refl
      | inr ne ↦ rw (ne_eqb (i / 64) g ne) refl
    ])
  where
    got_none : (t : TaskState) → is_boxed k.0 t.place ≡ false → got k t ≡ t
    got_none t e = rw e refl

got_stays : (k : CallerId) (b : ℕ) (t : TaskState) → is_boxed b (got k t).place ≡ true → (is_boxed b t.place ≡ true) × (b ≢ k.0)
got_stays k b t e = by_cases (is_boxed k.0 t.place) refl
  where
    apart : is_boxed k.0 t.place ≡ false → is_boxed b t.place ≡ true → b ≢ k.0
    apart none boxed same = false≢true (sym none ∙ ap (λ x. is_boxed x t.place) (sym same) ∙ boxed)

    by_cases : (x : Bool) → is_boxed k.0 t.place ≡ x → (is_boxed b t.place ≡ true) × (b ≢ k.0)
    by_cases true here = absurd (false≢true (sym (ap (λ y. is_boxed b (if y then put (places.Hands k) t else t).place) here) ∙ e))
    by_cases false none = (let boxed : is_boxed b t.place ≡ true = sym (ap (λ y. is_boxed b (if y then put (places.Hands k) t else t).place) none) ∙ e in (boxed, apart none boxed))

pub AreMarked-get : (w : ℕ) (ts : List TaskState) (marks : List Bool) (k : CallerId) (g : ℕ) → AreMarked w ts marks → k.0 ≤ w → 64 * g < length ts → AreMarked w (each (moved k (calls.Get g)) 0 ts) (set marks (mark_at (length ts) k.0 g) false)
AreMarked-get w ts marks k g h le exists =
    AreMarked-of w (length ts) (each (moved k (calls.Get g)) 0 ts) (set marks at false) (length-each (moved k (calls.Get g)) 0 ts) (length-set marks at false ∙ h.wide) marked
  where
    at : ℕ
    at = mark_at (length ts) k.0 g

    marked : (b i : ℕ) → b ≤ w → i < length ts → is_boxed b (get_or (each (moved k (calls.Get g)) 0 ts) i resting).place ≡ true → get_or (set marks at false) (mark_at (length ts) b (i / 64)) false ≡ true
    marked b i le lt boxed =
        let zero_add : 0 + i ≡ i = omega arith in
        let moved' : is_boxed b (moved k (calls.Get g) i (get_or ts i resting)).place ≡ true = sym (ap (λ t. is_boxed b t.place) (get_or-each (moved k (calls.Get g)) 0 ts i resting lt ∙ ap (λ n. moved k (calls.Get g) n (get_or ts i resting)) zero_add)) ∙ boxed in
        let was : (is_boxed b (get_or ts i resting).place ≡ true) × (mark_at (length ts) b (i / 64) ≢ at) = stayed moved' in
        get_or-set_other marks at (mark_at (length ts) b (i / 64)) false false was.1 ∙ h.set b i le lt was.0
      where
        spot : (b ≢ k.0) ⊎ (i / 64 ≢ g) → mark_at (length ts) b (i / 64) ≢ at
        spot differ e =
            let both = same_mark (length ts) b (i / 64) k.0 g (omega arith) exists e in
            elim differ [ inl ne ↦ ne both.0 | inr ne ↦ ne both.1 ]

        stayed : is_boxed b (moved k (calls.Get g) i (get_or ts i resting)).place ≡ true → (is_boxed b (get_or ts i resting).place ≡ true) × (mark_at (length ts) b (i / 64) ≢ at)
        stayed e =
            elim (cases_eq (i / 64) g) [
              | inl same ↦ (let got' = got_stays k b (get_or ts i resting) (rw (eq-eqb (i / 64) g same) at e) in (got'.0, spot (inl got'.1)))
              | inr ne ↦ (rw (ne_eqb (i / 64) g ne) at e, spot (inr ne))
            ]
