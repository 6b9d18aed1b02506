-- What a caller that is driven by a table or a loop knows of its pass.
use Rattle.std.specs.Prelude.{◌≡◌, ℕ, suc, ◌<◌, ◌≤◌, List, [], length, replicate, slice_index, slice_index_or, slice_get, Option, Some, None}
use Rattle.task_machine.specs.declared.calls.Call.{Call}
use Rattle.task_machine.specs.declared.calls.Call.TheVariants as calls
use Rattle.task_machine.specs.Task.{resting}
use Rattle.task_machine.specs.Own.{Own, away, holding, running}
use Rattle.wake_board.specs.Seen.{Held, Laid}
use Rattle.wake_board.specs.Start.{home_of}
use Rattle.wake_board.specs.Own.{known_takes}
use Rattle.wake_board.specs.Ends.{own_by, fresh}
use Rattle.board_bench.specs.declared.driven.Driven.{Driven}
use Rattle.board_bench.specs.declared.has.Has.{Has}
use Rattle.board_bench.specs.declared.has.Has.TheVariants as has

-- what a pass has of a task, by the word for it
abbrev pub own_in : Has → Own
own_in has.Nothing = away
own_in has.Hands = holding
own_in has.Run = running

-- a pass of the board that has no body out
pub record IsUsed (b : Laid) (p : Held) : Type 0 where
  pub board : p.board ≡ b.board
  pub start : p.start ≡ b.start
  pub outs : p.outs ≡ []

-- what a pass has of each task is in the list, and it took none of them more than n times
pub record IsListed (b : Laid) (p : Held) (list : List Has) (n : ℕ) : Type 0 where
  pub used : IsUsed b p
  pub count : length list ≡ length b.start.state.tasks
  pub own : (i : ℕ) → i < length list → own_by p i ≡ own_in (slice_index_or list i has.Nothing)
  pub takes : (i : ℕ) → known_takes p.start p.entries i ≤ n

-- a board of n tasks at rest and w workers, with these homes, and a fresh pass for each caller
pub record IsLaid (n w : ℕ) (homes : List ℕ) (b : Laid) (passes : List (Option Held)) : Type 0 where
  pub state : b.start.state ≡ record { workers = w; tasks = replicate n resting }
  pub homes_are : b.start.homes ≡ homes
  pub count : length passes ≡ suc w
  pub each : (k : ℕ) → k ≤ w → slice_index_or passes k None ≡ Some (fresh b k)

-- the call looks at a task
abbrev pub IsLook : Call → Type 0
IsLook (calls.Post i b) = ⊥
IsLook (calls.Get g) = ⊥
IsLook (calls.Draw i) = ⊥
IsLook c = Unit {0}

-- the homes of the board's tasks, which are boxes of workers
pub record AreHomes (b : Laid) (homes : List ℕ) : Type 0 where
  pub homes_are : b.start.homes ≡ homes
  pub own : (i : ℕ) → i < length homes → slice_index homes i < b.start.state.workers

-- the board was opened with n tasks that all rest
pub record IsAtRest (b : Laid) (n : ℕ) : Type 0 where
  pub tasks : b.start.state.tasks ≡ replicate n resting

-- two callers, of numbers 0 and 1, drive a board of tasks with these homes and w workers; the other passes are fresh
pub record IsDriven (d : Driven) (hs : List ℕ) (w : ℕ) : Type 0 where
  pub workers : d.board.start.state.workers ≡ w
  pub rest : IsAtRest d.board (length hs)
  pub homes : AreHomes d.board hs
  pub first : IsListed d.board d.first.pass d.first.has.items d.first.takes
  pub second : IsListed d.board d.second.pass d.second.has.items d.second.takes
  pub who_first : d.first.pass.who ≡ 0
  pub who_second : d.second.pass.who ≡ 1
  pub count : length d.passes ≡ suc w
  pub out_first : slice_get d.passes 0 ≡ Some None
  pub out_second : slice_get d.passes 1 ≡ Some None
  pub others : (k : ℕ) → 1 < k → k ≤ w → slice_index_or d.passes k None ≡ Some (fresh d.board k)

-- a worker's pass has so much of task i, which is its own, and took it n times at most
pub record IsAt (b : Laid) (p : Held) (i : ℕ) (has : Own) (n : ℕ) : Type 0 where
  pub used : IsUsed b p
  pub own : own_by p i ≡ has
  pub home : home_of b.start i ≡ p.who
  pub worker : p.who < b.start.state.workers
  pub takes : known_takes p.start p.entries i ≤ n

-- neither caller made a call
pub record IsNew (d : Driven) : Type 0 where
  pub first : d.first.pass ≡ fresh d.board 0
  pub second : d.second.pass ≡ fresh d.board 1

-- a board of one shared task and two workers, with fresh passes
pub record HasShared (b : Laid) (passes : List (Option Held)) : Type 0 where
  pub tasks : length b.start.state.tasks ≡ 1
  pub workers : b.start.state.workers ≡ 2
  pub home : home_of b.start 0 ≡ 2
  pub count : length passes ≡ 3
  pub each : (k : ℕ) → k ≤ 2 → slice_index_or passes k None ≡ Some (fresh b k)
  pub away_all : (k i : ℕ) → own_by (fresh b k) i ≡ away
