-- What one look at the first item of a wait list comes to, in a sweep and as the list settles (docs/TIMERS.md, "Sweeps in
-- steps" and "Settling").
use Rattle.std.specs.Prelude.{◌≡◌, ℕ, ◌<◌, [], None, Some, length}
use Rattle.queue_model.specs.WaitList.{WaitList}
use Rattle.queue_model.specs.Sweep.{due}
use Rattle.queue_model.specs.Settle.{moved_on}
use Rattle.queue_model.specs.SweepStep.{first_fired, swept_once}
use Rattle.wait_queue.specs.declared.wait_queue.Look.{Look}
use Rattle.wait_queue.specs.declared.wait_queue.Look.TheVariants.{Settled, Passed, Fired}

-- nothing is due, and the list is as it was
pub record Settles (now : ℕ) (old new : WaitList) : Type 0 where
  pub same : new ≡ old
  pub none : due now old ≡ []

-- one item less is due, and the step goes on from here
pub record Passes (now : ℕ) (old new : WaitList) : Type 0 where
  pub fired : first_fired now new ≡ first_fired now old
  pub list : swept_once now new ≡ swept_once now old
  pub fewer : length (due now new) < length (due now old)

-- the step ends with this task
pub record Fires (task now : ℕ) (old new : WaitList) : Type 0 where
  pub some : 0 < length (due now old)
  pub fired : first_fired now old ≡ Some task
  pub list : new ≡ swept_once now old

-- what a look says of the list before it and after it
abbrev pub Saw : Look → ℕ → WaitList → WaitList → Type 0
Saw Settled now old new = Settles now old new
Saw Passed now old new = Passes now old new
Saw (Fired id) now old new = Fires id.0 now old new

-- what holds where a look found nothing due
abbrev pub IfSettled : Look → Type 0 → Type 0
IfSettled Settled P = P
IfSettled Passed P = Unit {0}
IfSettled (Fired id) P = Unit {0}

-- the first item did not stand at its expiry, and moved
pub record Moved (now : ℕ) (old new : WaitList) : Type 0 where
  pub items : moved_on now old old.items ≡ Some new.items
  pub expiries : new.expiries ≡ old.expiries

-- there is no first item, or it stands at its expiry
abbrev pub IsLeft : ℕ → WaitList → Type 0
IsLeft now l = moved_on now l l.items ≡ None
