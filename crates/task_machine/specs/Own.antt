-- What a caller has of a task, by its own entries alone (docs/MODEL.md, "What a caller has by its own entries").
use Rattle.std.specs.Prelude.{ℕ, Bool, true, false, not, ◌||◌, ◌==◌, if◌then◌else◌, List, [], ◌∷◌}
use Rattle.task_machine.specs.declared.task.Place.{Place}
use Rattle.task_machine.specs.declared.task.Place.TheVariants as places
use Rattle.task_machine.specs.declared.task.Stand.TheVariants as stands
use Rattle.task_machine.specs.declared.task.Seen.{Seen}
use Rattle.task_machine.specs.declared.task.Seen.TheVariants as views
use Rattle.task_machine.specs.declared.calls.Entry.{Entry}
use Rattle.task_machine.specs.Event.{Event, apart, sees, posts, gets, misses, draws, wakes, kills, takes, drops, retires, event_at}

-- a caller has a task not at all, in its hands, drawn, or in a run
pub data Own : Type 0 where
  away : Own
  holding : Own
  drawing : Own
  running : Own

-- what caller k has of a task at this place
abbrev pub own_at : ℕ → Place → Own
own_at k (places.Hands j) = if j.0 == k then holding else away
own_at k (places.Drawn j) = if j.0 == k then drawing else away
own_at k (places.Runs j) = if j.0 == k then running else away
own_at k p = away

-- whether the task was seen at rest
abbrev pub saw_rest : Seen → Bool
saw_rest (views.Live stands.Rest n b m) = true
saw_rest x = false

-- whether the task was seen with something to run for
abbrev pub saw_busy : Seen → Bool
saw_busy (views.Live st n b m) = not (n == 0) || b
saw_busy views.Gone = false

-- what a caller has of a task after an entry of its own
abbrev pub own_next : Own → Event → Own
own_next o (sees x (wakes f)) = if saw_rest x then holding else o
own_next o (sees x kills) = if saw_rest x then holding else o
own_next o (sees x takes) = running
own_next o (sees x drops) = if saw_busy x then holding else away
own_next o (sees x retires) = away
own_next o (posts b) = away
own_next o gets = holding
own_next o draws = drawing
own_next o v = o

-- and after several
abbrev pub own_of : ℕ → Own → List Entry → Own
own_of i o [] = o
own_of i o (e ∷ es) = own_of i (own_next o (event_at i e)) es
