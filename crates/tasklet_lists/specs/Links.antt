-- How four lists are linked inside one vector (docs/MODEL.md, "Class lists").
use Rattle.std.specs.Prelude.{◌≡◌, ◌<◌, ◌≤◌, ◌+◌, ◌-◌, ◌^◌, ℕ, zero, suc, ◌==◌, List, [], ◌∷◌, length, slice_index_or, slice_set, if◌then◌else◌}
use Rattle.sched_base.specs.declared.names.Class.{Class}
use Rattle.sched_base.specs.declared.names.Class.TheVariants.{Urgent, Normal, Bulk, Heavy}
use Rattle.queue_model.specs.Classes.{Classes}
use Rattle.tasklet_lists.specs.declared.tasklet_lists.Ends.{Ends}
use Rattle.tasklet_lists.specs.declared.tasklet_lists.AllEnds.{AllEnds}

-- n tasks from task i on, where each is followed by the one that its place in the vector names
abbrev pub linked : List ℕ → ℕ → ℕ → List ℕ
linked following i zero = []
linked following i (suc n) = i ∷ linked following (slice_index_or following i 0) n

-- the list with these ends
abbrev pub list_of : List ℕ → Ends → List ℕ
list_of following e = linked following e.first e.len

-- the ends of a class's list
abbrev pub ends_of : Class → AllEnds → Ends
ends_of Urgent a = a.urgent
ends_of Normal a = a.normal
ends_of Bulk a = a.bulk
ends_of Heavy a = a.heavy

-- the ends of a class's list changed
abbrev pub with_ends : Class → Ends → AllEnds → AllEnds
with_ends Urgent e a = record a { urgent = e }
with_ends Normal e a = record a { normal = e }
with_ends Bulk e a = record a { bulk = e }
with_ends Heavy e a = record a { heavy = e }

-- all four lists
abbrev pub lists_of : List ℕ → AllEnds → Classes (List ℕ)
lists_of following a = record {
  urgent = list_of following a.urgent;
  normal = list_of following a.normal;
  bulk = list_of following a.bulk;
  heavy = list_of following a.heavy;
}

-- how often task i stands in a list, and in all four
abbrev pub times : ℕ → List ℕ → ℕ
times i [] = 0
times i (j ∷ js) = (if i == j then 1 else 0) + times i js

abbrev pub in_all : ℕ → Classes (List ℕ) → ℕ
in_all i c = times i c.urgent + (times i c.normal + (times i c.bulk + times i c.heavy))

-- where the list has a task, the last one is last
abbrev pub EndsAt : ℕ → List ℕ → Type 0
EndsAt last [] = Unit {0}
EndsAt last (i ∷ []) = i ≡ last
EndsAt last (i ∷ (j ∷ js)) = EndsAt last (j ∷ js)

-- each list ends at its last task, no task stands twice, and those that stand there are among n tasks
pub record AreSound (n : ℕ) (a : AllEnds) (c : Classes (List ℕ)) : Type 0 where
  pub urgent : EndsAt a.urgent.last c.urgent
  pub normal : EndsAt a.normal.last c.normal
  pub bulk : EndsAt a.bulk.last c.bulk
  pub heavy : EndsAt a.heavy.last c.heavy
  pub once : (i : ℕ) → in_all i c ≤ 1
  pub tasks : (i : ℕ) → 0 < in_all i c → i < n

-- the vector links four sound lists of at most so many tasks as a number of 32 bits can tell
pub record AreLinked (following : List ℕ) (a : AllEnds) : Type 0 where
  pub sound : AreSound (length following) a (lists_of following a)
  pub few : length following < 2 ^ 32

-- the vector once a task has joined the list with these ends, and the list's ends then
abbrev pub joined : List ℕ → Ends → ℕ → List ℕ
joined following e i = if e.len == 0 then following else slice_set following e.last i

abbrev pub joined_ends : Ends → ℕ → Ends
joined_ends e i = record { first = if e.len == 0 then i else e.first; last = i; len = e.len + 1 }

-- the list's ends once its first task has left
abbrev pub left_ends : List ℕ → Ends → Ends
left_ends following e = record { first = slice_index_or following e.first 0; last = e.last; len = e.len - 1 }
