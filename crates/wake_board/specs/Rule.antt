-- Words and passes stand for a state of the machine: the rule of the table (docs/BOARD.md, "The rule").
use Rattle.std.specs.Prelude.{◌≡◌, ◌≢◌, ◌⊎◌, ℕ, zero, suc, ◌+◌, ◌*◌, ◌^◌, ◌<◌, ◌≤◌, List, [], ◌∷◌, ◌++◌, length, replicate, slice_index}
use Rattle.std.specs.Prelude as std
use mathlib.Core.Option.{Option, some, none}
use lib.ListN.{get_elem?}
use Rattle.atomic_table.specs.Table as table
use Rattle.sched_base.specs.declared.names.CallerId.{CallerId}
use Rattle.task_machine.specs.declared.task.Place.{Place}
use Rattle.task_machine.specs.declared.task.Place.TheVariants as places
use Rattle.task_machine.specs.declared.calls.Call.{Call}
use Rattle.task_machine.specs.declared.calls.Call.TheVariants as calls
use Rattle.task_machine.specs.declared.calls.Entry.{Entry}
use Rattle.task_machine.specs.Task.{seen_of}
use Rattle.task_machine.specs.Step.{State, task_at, IsBox}
use Rattle.task_machine.specs.History.{Legal, led, calls_of}
use Rattle.task_word.specs.Word.{StandsFor}
use Rattle.wake_board.specs.declared.body.Body.{Body}
use Rattle.wake_board.specs.declared.views.Opening.{Opening}
use Rattle.wake_board.specs.declared.views.Out.{Out}
use Rattle.wake_board.specs.declared.views.View.{View}
use Rattle.wake_board.specs.Rows.{box_at, width}
use Rattle.wake_board.specs.Between.{BodyFits, StandBetween, FewTakes}
use Rattle.wake_board.specs.Start.{Start, start_of, home_of, IsShared}

-- the state to which the history leads from the opening
abbrev pub now_of : Start → List Entry → State
now_of o h = led o.state h

-- a box that has task i is its home, and only a shared task is drawn
abbrev pub IsHomed : Start → ℕ → Place → Type 0
IsHomed o i (places.Boxed b) = home_of o i ≡ b
IsHomed o i (places.Drawn k) = IsShared o i
IsHomed o i p = Unit {0}

-- each word stands for what is seen of its task, the set bits of each box word are the tasks in that box, and the boxes
-- are homes
pub record Worded (o : Start) (words : List ℕ) (m : State) : Type 0 where
  pub wide : length words ≡ width o.state.workers (length o.state.tasks)
  pub tasks : (i : ℕ) → i < length o.state.tasks → StandsFor (slice_index words (suc i)) (seen_of (task_at m i))
  pub boxes : (b g : ℕ) → b ≤ o.state.workers → 64 * g < length o.state.tasks → IsBox m b g (slice_index words (box_at (length o.state.tasks) b g))
  pub homed : (i : ℕ) → IsHomed o i (task_at m i).place

-- an entry that takes a task that is not shared is its home's
abbrev pub TakesAtHome : Start → CallerId → Call → Type 0
TakesAtHome o k (calls.Take i) = (home_of o i.0 ≡ k.0) ⊎ IsShared o i.0
TakesAtHome o k c = Unit {0}

-- a take of a shared task has fewer than 2^40 entries before it, of which there were n
abbrev pub IsPaced : Start → ℕ → Call → Type 0
IsPaced o n (calls.Take i) = IsShared o i.0 → n < 2 ^ 40
IsPaced o n c = Unit {0}

abbrev pub Paced : Start → ℕ → List Entry → Type 0
Paced o n [] = Unit {0}
Paced o n (e ∷ es) = IsPaced o n e.call × Paced o (suc n) es

-- the log with j-th place in a view is that of caller `first + j`, whose pass has the seat p: the calls of this caller in
-- the history are the log
pub record IsLogged (o : Opening) (owner : ℕ → ℕ) (h : List Entry) (p : ℕ) (v : View) (j : ℕ) (es : List Entry) : Type 0 where
  pub start : v.start ≡ std.Some o
  pub owned : owner (v.first + j) ≡ p
  pub caller : v.first + j ≤ (start_of o).state.workers
  pub calls : calls_of (v.first + j) h ≡ es

-- the caller with seat p has drawn the task or runs it
abbrev pub Leads : (ℕ → ℕ) → ℕ → Place → Type 0
Leads owner p (places.Drawn k) = owner k.0 ≡ p
Leads owner p (places.Runs k) = owner k.0 ≡ p
Leads owner p places.Rest = ⊥
Leads owner p (places.Hands k) = ⊥
Leads owner p (places.Boxed b) = ⊥
Leads owner p places.Gone = ⊥

-- by how much the takes of a task grew since it was drawn
abbrev pub gain : Place → ℕ
gain (places.Runs k) = 1
gain p = 0

-- the body x is out with the seat p, which leads its task
pub record IsOut (o : Start) (owner : ℕ → ℕ) (m : State) (homes : List (Option Body)) (p : ℕ) (x : Out) : Type 0 where
  pub exists : x.task < length o.state.tasks
  pub shared : IsShared o x.task
  pub leads : Leads owner p (task_at m x.task).place
  pub takes : (task_at m x.task).takes ≡ x.takes + gain (task_at m x.task).place
  pub away : get_elem? homes x.task ≡ some none

-- the body of task i is at home
abbrev pub IsHome : Start → State → List (Option Body) → ℕ → Type 0
IsHome o m homes i =
    (body : Body) × (get_elem? homes i ≡ some (some body)) × BodyFits o.nexts i body (task_at m i).takes

-- the body of task i is out with some seat
abbrev pub IsAway : List View → ℕ → Type 0
IsAway views i =
    (p : ℕ) × (v : View) × (j : ℕ) × (x : Out) × (get_elem? views p ≡ some v) × (get_elem? v.outs j ≡ some x) × (x.task ≡ i)

-- the body of each shared task that is not gone is at home, with the task's takes and the row that these give, or out
-- with the seat that leads the task; no seat has a body out twice
pub record Housed (o : Start) (owner : ℕ → ℕ) (m : State) (homes : List (Option Body)) (views : List View) : Type 0 where
  pub outs : (p : ℕ) (v : View) (j : ℕ) (x : Out) → get_elem? views p ≡ some v → get_elem? v.outs j ≡ some x → IsOut o owner m homes p x
  pub apart : (p : ℕ) (v : View) (i j : ℕ) (x y : Out) → get_elem? views p ≡ some v → get_elem? v.outs i ≡ some x → get_elem? v.outs j ≡ some y → x.task ≡ y.task → i ≡ j
  pub bodies : (i : ℕ) → i < length o.state.tasks → IsShared o i → (task_at m i).place ≢ places.Gone → IsHome o m homes i ⊎ IsAway views i

-- some seat has the log of caller k
pub record IsSeated (views : List View) (k : ℕ) : Type 0 where
  pub seat : ℕ
  pub view : View
  pub place : ℕ
  pub log : List Entry
  pub at : get_elem? views seat ≡ some view
  pub found : get_elem? view.logs place ≡ some log
  pub caller : view.first + place ≡ k

-- some entry draws task i
abbrev pub IsDraw : ℕ → Call → Type 0
IsDraw i (calls.Draw j) = i ≡ j.0
IsDraw i c = ⊥

abbrev pub HasDraw : ℕ → List Entry → Type 0
HasDraw i h = (j : ℕ) × (e : Entry) × (get_elem? h j ≡ some e) × IsDraw i e.call

-- the rule: there is a legal history from the opening to a state for which the words stand; each log that a seat has is
-- the calls of its caller in it, and some seat has each caller's log; each miss that was in the shared box at the opening
-- was drawn in it; bodies are at home or out
pub record IsKept (o : Opening) (s : table.State Body View) : Type 0 where
  pub history : List Entry
  pub owner : ℕ → ℕ
  pub legal : Legal (start_of o).state history
  pub opened : StandBetween o.words.value o.homes.items o.holders.items o.nexts.value (start_of o).state
  pub few : FewTakes o.homes.items (start_of o).state
  pub words : Worded (start_of o) s.words (now_of (start_of o) history)
  pub takes : (j : ℕ) (e : Entry) → get_elem? history j ≡ some e → TakesAtHome (start_of o) e.caller e.call
  pub paced : (k : ℕ) → Paced (start_of o) 0 (calls_of k history)
  pub logs : (p : ℕ) (v : View) (j : ℕ) (es : List Entry) → get_elem? s.views p ≡ some v → get_elem? v.logs j ≡ some es → IsLogged o owner history p v j es
  pub seated : (k : ℕ) → k ≤ (start_of o).state.workers → IsSeated s.views k
  pub missed : (p : ℕ) (v : View) (j i : ℕ) → get_elem? s.views p ≡ some v → get_elem? v.misses j ≡ some i → (task_at (start_of o).state i).place ≡ places.Boxed (start_of o).state.workers → HasDraw i history
  pub housed : Housed (start_of o) owner (now_of (start_of o) history) s.homes s.views

-- the view of the first seat: it has the logs of all callers, which are empty
abbrev pub first_view : Opening → View
first_view o =
    record { start = std.Some o; first = 0; logs = replicate (suc (start_of o).state.workers) []; misses = []; outs = [] }
