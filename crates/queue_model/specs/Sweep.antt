-- The sweep of a wait list: which timers fire at a tick, and what is left (docs/MODEL.md, "Sweeps").
use Rattle.std.specs.Prelude.{ℕ, ◌&&◌, not, List, map, filter, fold}
use Rattle.queue_model.specs.Ticks.{is_set, is_expired}
use Rattle.queue_model.specs.WaitList.{WaitItem, WaitList, expiry_of, with_expiry, placed}

-- the items whose key now has reached, in order: all of them leave the list
abbrev pub due : ℕ → WaitList → List WaitItem
due now l = filter (λ y. is_expired y.key now) l.items

-- the tasks among them whose expiry now has reached: their timers fire
abbrev pub fired : ℕ → WaitList → List ℕ
fired now l = map (λ y. y.task) (filter (λ y. is_expired (expiry_of l y.task) now) (due now l))

-- the tasks among them whose expiry is set and still ahead: they go back in
abbrev pub put_back : ℕ → WaitList → List ℕ
put_back now l = map (λ y. y.task) (filter (λ y. is_set (expiry_of l y.task) && not (is_expired (expiry_of l y.task) now)) (due now l))

-- the tasks among them whose expiry is unset: they are forgotten
abbrev pub forgotten : ℕ → WaitList → List ℕ
forgotten now l = map (λ y. y.task) (filter (λ y. not (is_set (expiry_of l y.task))) (due now l))

-- the list after the sweep: the items still ahead, those that go back in at their expiries, and no expiry for the fired
abbrev pub swept : ℕ → WaitList → WaitList
swept now l = record {
  items = fold (λ ys i. placed now i (expiry_of l i) ys) (filter (λ y. not (is_expired y.key now)) l.items) (put_back now l);
  expiries = (fold (λ m i. with_expiry i 0 m) l (fired now l)).expiries;
}
