-- One step of a sweep: it ends at the first timer that fires (docs/TIMERS.md, "Sweeps in steps").
use Rattle.std.specs.Prelude.{◌≡◌, ℕ, ◌==◌, Bool, false, not, List, [], ◌∷◌, ◌++◌, Option, None, Some, map, filter, fold, drop, slice_set, if◌then◌else◌}
use Rattle.std.specs.List.{AllByRecursion}
use Rattle.queue_model.specs.Ticks.{is_set, is_expired}
use Rattle.queue_model.specs.WaitList.{WaitItem, WaitList, expiry_of, placed}
use Rattle.queue_model.specs.Sweep.{due}

-- whether an item's key is expired
abbrev pub is_due : ℕ → WaitItem → Bool
is_due now y = is_expired y.key now

-- the items that are not due
abbrev pub not_due : ℕ → List WaitItem → List WaitItem
not_due now items = filter (λ y. not (is_due now y)) items

-- the due items stand before the others
abbrev pub DueFirst : ℕ → List WaitItem → Type 0
DueFirst now items = filter (is_due now) items ++ not_due now items ≡ items

-- no task has two of these items
abbrev pub TasksApart : List WaitItem → Type 0
TasksApart [] = Unit {0}
TasksApart (y ∷ ys) = AllByRecursion (λ z. (y.task == z.task) ≡ false) ys × TasksApart ys

-- the items before the first one that a test picks
abbrev pub before : {X : Type 0} → (X → Bool) → List X → List X
before picks [] = []
before picks (x ∷ xs) = if picks x then [] else x ∷ before picks xs

-- the items from the first one that a test picks on
abbrev pub onward : {X : Type 0} → (X → Bool) → List X → List X
onward picks [] = []
onward picks (x ∷ xs) = if picks x then x ∷ xs else onward picks xs

-- whether the timer of an item's task fires
abbrev pub fires : ℕ → WaitList → WaitItem → Bool
fires now l y = is_expired (expiry_of l y.task) now

-- the due items that a step passes: those before the first that fires, or all where none does
abbrev pub passed : ℕ → WaitList → List WaitItem
passed now l = before (fires now l) (due now l)

-- the due items from the first that fires on
abbrev pub halted : ℕ → WaitList → List WaitItem
halted now l = onward (fires now l) (due now l)

-- the task of the first item
abbrev pub first_task : List WaitItem → Option ℕ
first_task [] = None
first_task (y ∷ ys) = Some y.task

-- the task whose timer a step fires, if it fires one
abbrev pub first_fired : ℕ → WaitList → Option ℕ
first_fired now l = first_task (halted now l)

-- the expiries, that of the first item's task unset
abbrev pub unset_first : List WaitItem → List ℕ → List ℕ
unset_first [] expiries = expiries
unset_first (y ∷ ys) expiries = slice_set expiries y.task 0

-- the items once the due ones are passed up to the first that fires, and that one is out
abbrev pub left : ℕ → WaitList → List WaitItem
left now l = drop 1 (halted now l) ++ not_due now l.items

-- the tasks that a step puts back: those passed whose expiry is set
abbrev pub put_again : ℕ → WaitList → List ℕ
put_again now l = map (λ y. y.task) (filter (λ y. is_set (expiry_of l y.task)) (passed now l))

-- the list after a step
abbrev pub swept_once : ℕ → WaitList → WaitList
swept_once now l = record {
  items = fold (λ ys i. placed now i (expiry_of l i) ys) (left now l) (put_again now l);
  expiries = unset_first (halted now l) l.expiries;
}

-- steps from one list to another that fire these tasks in order, the last of which fires none
abbrev pub SweepsBy : ℕ → WaitList → List ℕ → WaitList → Type 0
SweepsBy now old [] new = (first_fired now old ≡ None) × (new ≡ swept_once now old)
SweepsBy now old (i ∷ is) new = (first_fired now old ≡ Some i) × SweepsBy now (swept_once now old) is new
