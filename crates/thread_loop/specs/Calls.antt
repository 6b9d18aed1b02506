-- What a call asks of the pass by which it is made on a board, and what it tells (docs/MODEL.md, "A turn on a board").
use Rattle.std.specs.Prelude.{◌≡◌, ◌≢◌, ℕ, ◌+◌, ◌-◌, ◌*◌, ◌^◌, ◌<◌, ◌≤◌, length}
use Rattle.std.specs.Int.{bit_at}
use Rattle.task_machine.specs.declared.calls.Call.{Call}
use Rattle.task_machine.specs.declared.calls.Call.TheVariants.{Wake, Kill, Post, Get, Draw, Take, DropRun, Retire}
use Rattle.task_machine.specs.declared.calls.Reply.{Reply}
use Rattle.task_machine.specs.declared.calls.Reply.TheVariants.{Group}
use Rattle.task_machine.specs.Own.{away, holding, running}
use Rattle.run_model.specs.Replies.{takes_in}
use Rattle.wake_board.specs.Start.{Start, home_of}
use Rattle.wake_board.specs.Seen.{Held, Calls}
use Rattle.wake_board.specs.Own.{known_takes}
use Rattle.wake_board.specs.Ends.{own_by}

-- the board has what the call names, and the pass has what the call asks for; a draw is not made so
abbrev pub MayMake : Start → Held → Call → Type 0
MayMake o p (Wake i f) = (i.0 < length o.state.tasks) × (f ≢ 0)
MayMake o p (Kill i) = i.0 < length o.state.tasks
MayMake o p (Post i b) =
    (i.0 < length o.state.tasks) × (own_by p i.0 ≡ holding) × (b ≤ o.state.workers) × (home_of o i.0 ≡ b)
MayMake o p (Get g) = (64 * g < length o.state.tasks) × (p.who < o.state.workers)
MayMake o p (Take i) =
    (i.0 < length o.state.tasks) × (own_by p i.0 ≡ holding) × (home_of o i.0 ≡ p.who) × (p.who < o.state.workers) × (known_takes o p.entries i.0 < 2 ^ 48 - 1)
MayMake o p (DropRun i) = (i.0 < length o.state.tasks) × (own_by p i.0 ≡ running)
MayMake o p (Retire i) = (i.0 < length o.state.tasks) × (own_by p i.0 ≢ away)
MayMake o p (Draw i) = ⊥

-- each task that a get brings has the caller's box as its home
abbrev pub Brings : Start → Held → Call → Reply → Type 0
Brings o p (Get g) (Group n) = (j : ℕ) → j < 64 → bit_at n j ≡ 1 → home_of o (64 * g + j) ≡ p.who
Brings o p c r = Unit {0}

-- a take tells the takes that the pass knew
abbrev pub Tells : Start → Held → Call → Reply → Type 0
Tells o p (Take i) r = takes_in r ≡ known_takes o p.entries i.0
Tells o p c r = Unit {0}

-- the call was made
pub record IsMade (o : Start) (old : Held) (c : Call) (r : Reply) (new : Held) : Type 0 where
  pub calls : Calls old c r new
  pub brings : Brings o old c r
  pub tells : Tells o old c r
