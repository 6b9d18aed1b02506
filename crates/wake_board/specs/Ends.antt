-- How a board is made, and what is left when it is finished (docs/BOARD.md, "Rounds").
use Rattle.std.specs.Prelude.{◌≡◌, ◌≢◌, ℕ, suc, ◌<◌, ◌≤◌, List, [], length, slice_index, slice_index_or, Option, Some, None}
use mathlib.Core.Option as table
use lib.ListN.{get_elem?}
use Rattle.task_machine.specs.declared.task.Place.TheVariants as places
use Rattle.task_machine.specs.declared.calls.Entry.{Entry}
use Rattle.task_machine.specs.Step.{task_at}
use Rattle.task_machine.specs.History.{led, IsMerge}
use Rattle.task_machine.specs.Own.{Own, away, holding, drawing, running, own_at, own_of}
use Rattle.wake_board.specs.Rows.{WordRow}
use Rattle.wake_board.specs.Between.{StandBetween}
use Rattle.wake_board.specs.Start.{no_holder}
use Rattle.wake_board.specs.Rule.{HasDraw}
use Rattle.wake_board.specs.Seen.{Held, Laid}

-- the pass of caller k of a board that was just made
abbrev pub fresh : Laid → ℕ → Held
fresh b k = record { board = b.board; who = k; start = b.start; entries = []; misses = []; outs = [] }

-- a board was made of words that stand for its opening state, with one fresh pass for each caller
pub record Opens (ws : WordRow) (homes holders : List ℕ) (nexts : List (List ℕ)) (b : Laid) (passes : List (Option Held)) : Type 0 where
  pub homes_are : b.start.homes ≡ homes
  pub nexts_are : b.start.nexts ≡ nexts
  pub stands : StandBetween ws homes holders nexts b.start.state
  pub count : length passes ≡ suc ws.workers
  pub each : (k : ℕ) → k ≤ ws.workers → slice_index_or passes k None ≡ Some (fresh b k)

-- what a pass has of task i, by its own entries
abbrev pub own_by : Held → ℕ → Own
own_by p i = own_of i (own_at p.who (task_at p.start.state i).place) p.entries

-- the pass is that of caller k of the board, and has no body out and no task drawn or running
pub record IsIdle (b : Laid) (k : ℕ) (p : Held) : Type 0 where
  pub board : p.board ≡ b.board
  pub start : p.start ≡ b.start
  pub who : p.who ≡ k
  pub outs : p.outs ≡ []
  pub undrawn : (i : ℕ) → i < length b.start.state.tasks → own_by p i ≢ drawing
  pub ended : (i : ℕ) → i < length b.start.state.tasks → own_by p i ≢ running

-- all passes of the board are back, and idle
pub record AllBack (b : Laid) (passes : List (Option Held)) : Type 0 where
  pub count : length passes ≡ suc b.start.state.workers
  pub back : (k : ℕ) → k ≤ b.start.state.workers → (p : Held) × (slice_index_or passes k None ≡ Some p) × IsIdle b k p

-- the own entries of the pass at a place
abbrev pub entries_in : Option Held → List Entry
entries_in None = []
entries_in (Some p) = p.entries

abbrev pub entries_of : List (Option Held) → ℕ → List Entry
entries_of passes k = entries_in (slice_index_or passes k None)

-- what the pass at a place has of task i
abbrev pub own_in : Option Held → ℕ → Own
own_in None i = away
own_in (Some p) i = own_by p i

-- the holders of n tasks are the hands of the passes: the caller in whose hands the task is, or none
pub record AreHolders (n : ℕ) (passes : List (Option Held)) (holders : List ℕ) : Type 0 where
  pub held : (i k : ℕ) → i < n → own_in (slice_index_or passes k None) i ≡ holding → slice_index holders i ≡ k
  pub free : (i : ℕ) → i < n → ((k : ℕ) → own_in (slice_index_or passes k None) i ≢ holding) → slice_index holders i ≡ no_holder

-- a legal merge of all passes' entries leads to a state for which the words stand, with the passes' hands as holders; and
-- each miss of a pass that was in the shared box at the opening has a draw in some pass's entries
pub record Finishes (b : Laid) (passes : List (Option Held)) (ws : WordRow) : Type 0 where
  pub history : List Entry
  pub merge : IsMerge b.start.state (entries_of passes) history
  pub stands : (holders : List ℕ) → AreHolders (length b.start.state.tasks) passes holders → StandBetween ws b.start.homes holders b.start.nexts (led b.start.state history)
  pub drawn : (k i j : ℕ) (p : Held) → slice_index_or passes k None ≡ Some p → get_elem? p.misses j ≡ table.some i → (task_at b.start.state i).place ≡ places.Boxed b.start.state.workers → (q : ℕ) × HasDraw i (entries_of passes q)
