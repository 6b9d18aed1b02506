-- A fact of the task of each item of a wait list is kept by all that happens to the list.
use Rattle.std.proofs.Common.{ℕ, zero, suc, Bool, true, false, if◌then◌else◌, eqb, inl, inr, List, [], ◌∷◌, fold, length, get_or, Option, None, Some, find}
use Rattle.std.specs.List.{AllByRecursion}
use Rattle.std.proofs.lemmas.Bool.{cases_Bool}
use Rattle.sched_base.proofs.Inserted.{all-inserted, all-filter, all-map}
use Rattle.queue_model.specs.Ticks.{is_expired, is_set}
use Rattle.queue_model.specs.WaitList.{WaitItem, WaitList, expiry_of, placed, armed_at, armed, is_of, without, unlinked}
use Rattle.queue_model.specs.Sweep.{due, fired, put_back, swept}
use Rattle.queue_model.specs.Settle.{first_moved, settled_by, settled}

-- a fact of the task of each item
abbrev pub TimersOf : (ℕ → Type 0) → WaitList → Type 0
TimersOf Q l = AllByRecursion (λ y. Q y.task) l.items

-- ---- sweeps, and timers that are set

-- what is due is among the items
due-of : (Q : ℕ → Type 0) (now : ℕ) (l : WaitList) → TimersOf Q l → AllByRecursion (λ (y : WaitItem). Q y.task) (due now l)
due-of Q now l h = all-filter (λ (y : WaitItem). Q y.task) (λ y. is_expired y.key now) l.items h

pub fired-of : (Q : ℕ → Type 0) (now : ℕ) (l : WaitList) → TimersOf Q l → AllByRecursion Q (fired now l)
fired-of Q now l h = all-map (λ y. y.task) Q _ (all-filter (λ (y : WaitItem). Q y.task) _ (due now l) (due-of Q now l h))

put_back-of : (Q : ℕ → Type 0) (now : ℕ) (l : WaitList) → TimersOf Q l → AllByRecursion Q (put_back now l)
put_back-of Q now l h = all-map (λ y. y.task) Q _ (all-filter (λ (y : WaitItem). Q y.task) _ (due now l) (due-of Q now l h))

-- tasks put in one after another
placed_all : (Q : ℕ → Type 0) (now : ℕ) (l : WaitList) (is : List ℕ) (ys : List WaitItem) → AllByRecursion Q is → AllByRecursion (λ (y : WaitItem). Q y.task) ys → AllByRecursion (λ (y : WaitItem). Q y.task) (fold (λ ys i. placed now i (expiry_of l i) ys) ys is)
placed_all Q now l [] ys h g = g
placed_all Q now l (i ∷ is) ys h g =
    placed_all Q now l is (placed now i (expiry_of l i) ys) h.1 (all-inserted (λ (y : WaitItem). Q y.task) _ _ ys h.0 g)

pub swept-of : (Q : ℕ → Type 0) (now : ℕ) (l : WaitList) → TimersOf Q l → TimersOf Q (swept now l)
swept-of Q now l h = placed_all Q now l (put_back now l) _ (put_back-of Q now l h) (all-filter (λ (y : WaitItem). Q y.task) _ l.items h)

pub unlinked-of : (Q : ℕ → Type 0) (i : ℕ) (l : WaitList) → TimersOf Q l → TimersOf Q (unlinked i l)
unlinked-of Q i l h = all-filter (λ (y : WaitItem). Q y.task) _ l.items h

armed_if : (Q : ℕ → Type 0) (now i t : ℕ) (b : Bool) (items : List WaitItem) → Q i → AllByRecursion (λ (y : WaitItem). Q y.task) items → AllByRecursion (λ (y : WaitItem). Q y.task) (if b then placed now i t (without i items) else items)
armed_if Q now i t true items here h = all-inserted (λ (y : WaitItem). Q y.task) _ _ (without i items) here (all-filter (λ (y : WaitItem). Q y.task) _ items h)
armed_if Q now i t false items here h = h

armed_at-of : (Q : ℕ → Type 0) (now i t : ℕ) (o : Option WaitItem) (items : List WaitItem) → Q i → AllByRecursion (λ (y : WaitItem). Q y.task) items → AllByRecursion (λ (y : WaitItem). Q y.task) (armed_at now i t o items)
armed_at-of Q now i t None items here h = all-inserted (λ (y : WaitItem). Q y.task) _ _ items here h
armed_at-of Q now i t (Some y) items here h = armed_if Q now i t _ items here h

armed_set : (Q : ℕ → Type 0) (now i : ℕ) (set : Bool) (l : WaitList) → Q i → TimersOf Q l → TimersOf Q (if set then record l { items = armed_at now i (expiry_of l i) (find (is_of i) l.items) l.items } else l)
armed_set Q now i true l here h = armed_at-of Q now i (expiry_of l i) (find (is_of i) l.items) l.items here h
armed_set Q now i false l here h = h

pub armed-of : (Q : ℕ → Type 0) (now i : ℕ) (l : WaitList) → Q i → TimersOf Q l → TimersOf Q (armed now i l)
armed-of Q now i l here h = armed_set Q now i (is_set (expiry_of l i)) l here h

-- ---- settling

abbrev list_of : List WaitItem → List ℕ → WaitList
list_of items es = record { items = items; expiries = es }

moved-of : (Q : ℕ → Type 0) (now : ℕ) (es : List ℕ) (items : List WaitItem) (y : WaitItem) (ys : List WaitItem) → Q y.task → AllByRecursion (λ z. Q z.task) ys → AllByRecursion (λ z. Q z.task) (first_moved now (list_of items es) y ys)
moved-of Q now es items y ys here h =
    elim (cases_Bool (is_set (get_or es y.task 0))) [
      | inl k ↦ rw k (all-inserted (λ (z : WaitItem). Q z.task) _ _ ys here h)
      | inr k ↦ rw k h
    ]

settled_by-of : (Q : ℕ → Type 0) (now n : ℕ) (items : List WaitItem) (es : List ℕ) → AllByRecursion (λ y. Q y.task) items → AllByRecursion (λ y. Q y.task) (settled_by now n (list_of items es)).items
settled_by-of Q now zero items es h = h
settled_by-of Q now (suc n) [] es h = h
settled_by-of Q now (suc n) (y ∷ ys) es h =
    elim (cases_Bool (eqb (get_or es y.task 0) y.key)) [
      | inl k ↦ rw k h
      | inr k ↦ rw k (settled_by-of Q now n (first_moved now (list_of (y ∷ ys) es) y ys) es (moved-of Q now es (y ∷ ys) y ys h.0 h.1))
    ]

pub settled-of : (Q : ℕ → Type 0) (now : ℕ) (l : WaitList) → TimersOf Q l → TimersOf Q (settled now l)
settled-of Q now l h = settled_by-of Q now (length l.items) l.items l.expiries h
