-- One step of a weave (docs/WEAVE.md, "The weave").
use Rattle.std.specs.Prelude.{◌≡◌, ℕ, ◌+◌, ◌<◌, List, [], ◌∷◌, ◌++◌, length, slice_index, slice_set}
use Rattle.task_machine.specs.declared.calls.Entry.{Entry}
use Rattle.task_machine.specs.Logged.{Logged}
use Rattle.task_machine.specs.Step.{State, Allowed, AllRoom}
use Rattle.task_machine.specs.History.{stepped}
use Rattle.history_weave.specs.declared.index.Index.{Index}
use Rattle.history_weave.specs.Rule.{Ready}
use Rattle.history_weave.specs.Places.{left_of}
use Rattle.history_weave.specs.Indexed.{HasAsManyLinks, tasks_of, IsIndexed, AreNamed, AreOwn}
use Rattle.history_weave.specs.Weaving.{CanMerge}

-- index, logs and machine fit together
pub record FitsTogether (logs : List Logged) (x : Index) (s : State) : Type 0 where
  pub indexed : IsIndexed logs x
  pub named : AreNamed logs (tasks_of x)
  pub own : AreOwn logs
  pub tasks : tasks_of x ≡ length s.tasks
  pub room : AllRoom s

-- the next entry of caller k went: it may go and is allowed, the machine made it, it stands at the
-- end of the merge, and it is not left any more
pub record Went (logs : List Logged) (x y : Index) (before after : List Entry) (s t : State) (k : ℕ) : Type 0 where
  pub entry : Entry
  pub rest : List Entry
  pub head : left_of logs x.next.items k ≡ entry ∷ rest
  pub own : entry.caller.0 ≡ k
  pub ready : Ready (left_of logs x.next.items) s entry
  pub allowed : Allowed s entry
  pub state : t ≡ stepped s entry
  pub pushed : after ≡ before ++ entry ∷ []
  pub next : y.next.items ≡ slice_set x.next.items k (slice_index x.next.items k + 1)
  pub indexed : IsIndexed logs y
  pub tasks : tasks_of y ≡ tasks_of x
  pub links : HasAsManyLinks x y

-- the next entry of some caller went
pub record SomeWent (logs : List Logged) (x y : Index) (before after : List Entry) (s t : State) : Type 0 where
  pub caller : ℕ
  pub within : caller < length logs
  pub went : Went logs x y before after s t caller

-- the next entry of caller k may not go, or is not allowed, or there is none
abbrev pub IsStuck : List Logged → Index → State → ℕ → Type 0
IsStuck logs x s k =
    (e : Entry) (es : List Entry) → left_of logs x.next.items k ≡ e ∷ es → Ready (left_of logs x.next.items) s e → Allowed s e → ⊥

-- some entries are left, and they have a merge
abbrev pub CanGoOn : List Logged → Index → State → Type 0
CanGoOn logs x s = (n : ℕ) × CanMerge s (left_of logs x.next.items) (n + 1)
