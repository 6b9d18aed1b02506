-- Calls of the callers of a round, one after another, and how many can still come
-- (docs/MODEL.md, "Machine and books agree").
use Rattle.std.specs.Prelude.{◌≡◌, ℕ, ◌+◌, ◌≤◌, List, [], ◌∷◌, None}
use Rattle.step_tables.specs.declared.tables.Script.{Script}
use Rattle.task_machine.specs.declared.calls.Entry.{Entry}
use Rattle.task_machine.specs.Step.{Allowed}
use Rattle.task_machine.specs.History.{stepped}
use Rattle.turn_steps.specs.Left.{asked, MayCall, went}
use Rattle.turn_steps.specs.Counts.{calls_left}
use Rattle.standing.specs.Keeps.{Callers, set_at, sum_below}

-- the callers after a call
abbrev pub called : Script → ℕ → Callers → Entry → Callers
called s T c e = record {
  state = stepped c.state e;
  at = set_at e.caller.0 (went s e.caller T e.call e.reply (c.at e.caller.0)) c.at;
}

-- the entry is a next call of its caller, and the machine allows it
pub record IsNext (s : Script) (c : Callers) (e : Entry) : Type 0 where
  pub caller : e.caller.0 ≤ s.workers
  pub asks : MayCall s (c.at e.caller.0) e.call
  pub allowed : Allowed c.state e

-- each entry is such a call after those before it
abbrev pub Going : Script → ℕ → Callers → List Entry → Type 0
Going s T c [] = Unit {0}
Going s T c (e ∷ es) = IsNext s c e × Going s T (called s T c e) es

-- where they lead
abbrev pub gone_on : Script → ℕ → Callers → List Entry → Callers
gone_on s T c [] = c
gone_on s T c (e ∷ es) = gone_on s T (called s T c e) es

-- nobody has a call left but draws
abbrev pub IsDone : Script → Callers → Type 0
IsDone s c = (k : ℕ) → k ≤ s.workers → asked s (c.at k) ≡ None

-- at most so many calls are left of all parts
abbrev pub all_calls : Script → Callers → ℕ
all_calls s c = sum_below (s.workers + 1) (λ k. calls_left s.depth (c.at k).left (c.at k).book)
