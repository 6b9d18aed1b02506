-- Which entry may go next (docs/WEAVE.md, "The rule").
use Rattle.std.specs.Prelude.{◌≡◌, ◌≢◌, ℕ, ◌+◌, ◌⊎◌, Bool, true, false, not, ◌&&◌, ◌==◌, bit_or, List, [], ◌∷◌}
use Rattle.task_machine.specs.declared.task.Stand.{Stand}
use Rattle.task_machine.specs.declared.task.Stand.TheVariants as stands
use Rattle.task_machine.specs.declared.task.Seen.{Seen}
use Rattle.task_machine.specs.declared.task.Seen.TheVariants as views
use Rattle.task_machine.specs.declared.task.TaskState.{TaskState}
use Rattle.task_machine.specs.declared.calls.Entry.{Entry}
use Rattle.task_machine.specs.Step.{State, task_at}
use Rattle.task_machine.specs.Event.{Change, wakes, kills, Event, apart, sees, posts, gets, misses, draws, event_at}

-- whether a task at rest was seen
abbrev pub is_rest : Stand → Bool
is_rest stands.Rest = true
is_rest st = false

-- whether an allowed call that saw a live task changes nothing
abbrev pub is_quiet_live : Change → Stand → ℕ → Bool → Bool
is_quiet_live (wakes f) st p b = not (is_rest st) && (bit_or p f == p)
is_quiet_live kills st p b = not (is_rest st) && b
is_quiet_live c st p b = false

-- whether an allowed call that saw x changes nothing
abbrev pub is_quiet : Seen → Change → Bool
is_quiet views.Gone c = true
is_quiet (views.Live st p b m) c = is_quiet_live c st p b

-- the first look at task i in the log is none that saw x and changes nothing
abbrev pub LetsBy : Seen → Event → Type 0 → Type 0
LetsBy x (sees y c) later = y ≡ x → is_quiet y c ≡ false
LetsBy x v later = later

abbrev pub Lets : ℕ → Seen → List Entry → Type 0
Lets i x [] = Unit {0}
Lets i x (e ∷ es) = LetsBy x (event_at i e) (Lets i x es)

-- the first get of task i's group in the log holds i, or there is none
abbrev pub HoldsBy : Event → Type 0 → Type 0
HoldsBy gets later = Unit {0}
HoldsBy misses later = ⊥
HoldsBy v later = later

abbrev pub Holds : ℕ → List Entry → Type 0
Holds i [] = Unit {0}
Holds i (e ∷ es) = HoldsBy (event_at i e) (Holds i es)

-- the first look at task i in the log saw it live and taken m times
abbrev pub SawTakes : ℕ → Seen → Type 0
SawTakes m views.Gone = ⊥
SawTakes m (views.Live st p b takes) = takes ≡ m

abbrev pub TellsTakesBy : ℕ → Event → Type 0 → Type 0
TellsTakesBy m (sees y c) later = SawTakes m y
TellsTakesBy m v later = later

abbrev pub TellsTakes : ℕ → ℕ → List Entry → Type 0
TellsTakes i m [] = ⊥
TellsTakes i m (e ∷ es) = TellsTakesBy m (event_at i e) (TellsTakes i m es)

-- how many draws of task i a log has
abbrev pub draw_of : Event → ℕ
draw_of draws = 1
draw_of v = 0

abbrev pub draws_in : ℕ → List Entry → ℕ
draws_in i [] = 0
draws_in i (e ∷ es) = draw_of (event_at i e) + draws_in i es

-- no log but that of caller k has a draw of task i, and that log has one
abbrev pub IsLastDraw : (ℕ → List Entry) → ℕ → ℕ → Type 0
IsLastDraw logs k i = (draws_in i (logs k) ≡ 1) × ((j : ℕ) → j ≢ k → draws_in i (logs j) ≡ 0)

-- where these entries are left in the callers' logs, an event of caller k may be the next for task i,
-- which is in state t
abbrev pub ReadyAt : (ℕ → List Entry) → ℕ → ℕ → Event → TaskState → Type 0
ReadyAt logs k i apart t = Unit {0}
ReadyAt logs k i (sees x c) t = (is_quiet x c ≡ true) ⊎ ((j : ℕ) → Lets i x (logs j))
ReadyAt logs k i (posts b) t = Holds i (logs b)
ReadyAt logs k i gets t = Unit {0}
ReadyAt logs k i misses t = Unit {0}
ReadyAt logs k i draws t = TellsTakes i t.takes (logs k) ⊎ IsLastDraw logs k i

-- where these entries are left in the callers' logs, and the entry is the first that is left in its
-- own and is allowed, it may go next
abbrev pub Ready : (ℕ → List Entry) → State → Entry → Type 0
Ready logs s e = (i : ℕ) → ReadyAt logs e.caller.0 i (event_at i e) (task_at s i)
