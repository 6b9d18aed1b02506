-- Settled wait lists, whose first item stands at its own expiry (docs/MODEL.md, "Settled lists").
use Rattle.std.specs.Prelude.{◌≡◌, ℕ, zero, suc, ◌==◌, List, [], ◌∷◌, length, Option, None, Some, if◌then◌else◌}
use Rattle.std.specs.Option.{option_map_or}
use Rattle.queue_model.specs.Ticks.{is_set}
use Rattle.queue_model.specs.WaitList.{WaitItem, WaitList, expiry_of, placed}

-- the items once the first one has left and is placed at its task's expiry, if that is set
abbrev pub first_moved : ℕ → WaitList → WaitItem → List WaitItem → List WaitItem
first_moved now l y ys = if is_set (expiry_of l y.task) then placed now y.task (expiry_of l y.task) ys else ys

-- the same, where there is a first item and it does not stand at its expiry
abbrev pub moved_on : ℕ → WaitList → List WaitItem → Option (List WaitItem)
moved_on now l [] = None
moved_on now l (y ∷ ys) = if expiry_of l y.task == y.key then None else Some (first_moved now l y ys)

-- a list in which at most n items do not stand at their expiries, settled
abbrev pub settled_by : ℕ → ℕ → WaitList → WaitList
settled_by now zero l = l
settled_by now (suc n) l = option_map_or (λ items. settled_by now n (record l { items = items })) (moved_on now l l.items) l

-- a list settled: first items move until the first one stands at its expiry
abbrev pub settled : ℕ → WaitList → WaitList
settled now l = settled_by now (length l.items) l

-- the first of these items stands at its expiry, if there is one
abbrev pub StandsAtExpiry : WaitList → List WaitItem → Type 0
StandsAtExpiry l [] = Unit {0}
StandsAtExpiry l (y ∷ ys) = expiry_of l y.task ≡ y.key

-- a settled list
abbrev pub IsSettled : WaitList → Type 0
IsSettled l = StandsAtExpiry l l.items
