-- The rule in words (docs/WEAVE.md, "The rule in words").
use Rattle.std.specs.Prelude.{◌≡◌, ◌≢◌, ℕ, ◌<◌, ◌⊎◌, ◌↔◌, true, Option, Some, None, List, [], ◌∷◌, ◌++◌}
use Rattle.task_machine.specs.declared.task.Seen.{Seen}
use Rattle.task_machine.specs.declared.task.Seen.TheVariants as views
use Rattle.task_machine.specs.declared.calls.Call.{Call}
use Rattle.task_machine.specs.declared.calls.Call.TheVariants as calls
use Rattle.task_machine.specs.declared.calls.Entry.{Entry}
use Rattle.task_machine.specs.Task.{seen_of}
use Rattle.task_machine.specs.Step.{State, task_at, Allowed}
use Rattle.task_machine.specs.History.{stepped, IsMerge}
use Rattle.task_machine.specs.Event.{Change, drops, Event, sees, draws, event_at}
use Rattle.history_weave.specs.Rule.{is_quiet, Holds, Ready}

-- the entry saw x of task i and changed nothing
abbrev pub SawAsIs : ℕ → Seen → Entry → Type 0
SawAsIs i x d = (c : Change) × (event_at i d ≡ sees x c) × (is_quiet x c ≡ true)

-- none of these entries saw x of task i and changed nothing
abbrev pub NoneSawAsIs : ℕ → Seen → List Entry → Type 0
NoneSawAsIs i x es = (past : List Entry) (d : Entry) (more : List Entry) → es ≡ past ++ d ∷ more → SawAsIs i x d → ⊥

-- the entry changes what is seen of a task, and no entry that is left in the logs saw that and changed
-- nothing
abbrev pub ChangesUnseen : (ℕ → List Entry) → State → Entry → Type 0
ChangesUnseen logs s e =
    (i : ℕ) × (seen_of (task_at (stepped s e) i) ≢ seen_of (task_at s i)) × ((j : ℕ) → NoneSawAsIs i (seen_of (task_at s i)) (logs j))

-- the call is a post, and the next get of the task's group in that box holds the task, or there is none
abbrev pub IsHeldPost : (ℕ → List Entry) → Call → Type 0
IsHeldPost logs (calls.Post i b) = Holds i.0 (logs b)
IsHeldPost logs c = ⊥

-- the call is a get
abbrev pub IsGet : Call → Type 0
IsGet (calls.Get g) = Unit {0}
IsGet c = ⊥

-- how often a task was taken, where it was seen live
abbrev pub takes_seen : Seen → Option ℕ
takes_seen views.Gone = None
takes_seen (views.Live st p b m) = Some m

-- the number of a draw of task i, behind which a log has these entries: the takes in the reply of the
-- first wake, kill, take or retirement of the task among them; none where there is no such entry, or
-- it saw the task gone
abbrev pub number_by : Event → Option ℕ → Option ℕ
number_by (sees x drops) later = later
number_by (sees x c) later = takes_seen x
number_by v later = later

abbrev pub number : ℕ → List Entry → Option ℕ
number i [] = None
number i (e ∷ es) = number_by (event_at i e) (number i es)

-- one number is below the other; no number stands above all of them
abbrev pub IsBelow : Option ℕ → Option ℕ → Type 0
IsBelow (Some m) (Some n) = m < n
IsBelow (Some m) None = Unit {0}
IsBelow None n = ⊥

-- the call is a draw with these entries behind it in its log, and no draw of its task that is left has
-- a lower number
abbrev pub IsLowestDraw : (ℕ → List Entry) → List Entry → Call → Type 0
IsLowestDraw logs rest (calls.Draw i) =
    (j : ℕ) (past : List Entry) (d : Entry) (more : List Entry) → logs j ≡ past ++ d ∷ more → event_at i.0 d ≡ draws → IsBelow (number i.0 more) (number i.0 rest) → ⊥
IsLowestDraw logs rest c = ⊥

-- where these entries are left in the logs, entry e, with this rest behind it in its log, may go next:
-- it changes nothing, or one of the other four holds
abbrev pub MayGoNext : (ℕ → List Entry) → State → Entry → List Entry → Type 0
MayGoNext logs s e rest =
    (stepped s e ≡ s) ⊎ (ChangesUnseen logs s e ⊎ (IsHeldPost logs e.call ⊎ (IsGet e.call ⊎ IsLowestDraw logs rest e.call)))

-- where the entries that are left have a legal merge, the head of a log that is allowed is ready exactly
-- where it may go next in these words
abbrev pub RuleIsInWords : Type 0
RuleIsInWords =
    (s : State) (logs : ℕ → List Entry) (es : List Entry) (e : Entry) (rest : List Entry) → IsMerge s logs es → logs e.caller.0 ≡ e ∷ rest → Allowed s e → (Ready logs s e ↔ MayGoNext logs s e rest)
