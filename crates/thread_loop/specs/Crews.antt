-- What a crew tells of the rounds that it made (docs/MODEL.md, "Crews").
use Rattle.std.specs.Prelude.{◌≡◌, ℕ, ◌≤◌, length, true, false, Bool, List, ◌++◌, map, Option, Some, None}
use Rattle.std.specs.List.{flat_map, range_with_len}
use Rattle.task_machine.specs.declared.calls.Entry.{Entry}
use Rattle.task_machine.specs.Logged.{Logged}
use Rattle.task_machine.specs.History.{calls_of}
use Rattle.thread_loop.specs.declared.crew.Kept.{Kept}
use Rattle.thread_loop.specs.declared.plant.Plant.{Plant}

-- some calls, with the number of their round
abbrev pub kept : ℕ → List Entry → List Kept
kept r es = map (λ e. let k : Kept = record { round = r; entry = e } in k) es

-- the calls of all logs of a round, log by log
abbrev pub kept_logs : ℕ → List Logged → List Kept
kept_logs r logs = flat_map (λ log. kept r log.entries) logs

-- the calls of a round's entries, caller by caller, of so many callers
abbrev pub kept_calls : ℕ → ℕ → List Entry → List Kept
kept_calls r callers es = flat_map (λ k. kept r (calls_of k es)) (range_with_len 0 callers)

-- where calls are told afterwards, they were told before, and grew at the end by these
abbrev pub Grows : Option (List Kept) → Option (List Kept) → List Kept → Type 0
Grows before after more = (ks : List Kept) → after ≡ Some ks → (js : List Kept) × (before ≡ Some js) × (ks ≡ js ++ more)

-- a round was run that is not ended
abbrev pub IsHeard : Plant → Type 0
IsHeard p = p.ran ≡ true

-- what a record tells
abbrev pub told_if : Bool → List Kept → Option (List Kept)
told_if true ks = Some ks
told_if false ks = None

-- a crew that records: what it tells, and for how many calls it has room in all
pub record Recorded : Type 0 where
  pub told : Option (List Kept)
  pub room : ℕ

-- a crew that told its calls tells these too, where they fit into its room; the room stays
pub record HasKept (old : Recorded) (more : List Kept) (new : Recorded) : Type 0 where
  pub room : new.room ≡ old.room
  pub told : (ks : List Kept) → old.told ≡ Some ks → length (ks ++ more) ≤ old.room → new.told ≡ Some (ks ++ more)
