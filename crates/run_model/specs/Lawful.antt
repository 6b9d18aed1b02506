-- Lawful injector rounds, lawful rounds and lawful runs (docs/MODEL.md, "Lawful runs").
use Rattle.std.specs.Prelude.{◌≡◌, ℕ, ◌+◌, ◌==◌, Bool, true, false, IsTrue, nat_le, List, [], ◌∷◌, MatchBool, ⊤}
use Rattle.std.specs.List.{list_all}
use Rattle.step_tables.specs.declared.tables.Script.{Script}
use Rattle.task_machine.specs.declared.calls.Entry.{Entry}
use Rattle.task_machine.specs.History.{History, calls_of}
use Rattle.run_model.specs.Run.{Round, Run}
use Rattle.run_model.specs.Parts.{Each, Then, Quiet}
use Rattle.run_model.specs.Tables.{home_of, actions_in}
use Rattle.run_model.specs.Book.{Book}
use Rattle.run_model.specs.Turn.{Posts, Acts, Turn}
use Rattle.run_model.specs.Standing.{Standing, opening, is_served, turn_ended, next_tick, is_at_rest}

-- a lawful round of the injector: the actions of the round's events, each followed by a post home where it saw rest
abbrev pub Injects : Script → ℕ → List Entry → Type 0
Injects s r es =
    Each (Acts (record { 0 = s.workers }) (λ i. Posts (record { 0 = s.workers }) i (home_of s i))) (actions_in s r) (tt {0}) es (tt {0})

-- the calls of each worker from w on are a lawful turn, from the old books to the new ones, which are settled at the end
abbrev pub Turns : Script → ℕ → List Entry → ℕ → List Book → List Book → Type 0
Turns s T es w [] [] = ⊤
Turns s T es w [] (c ∷ cs) = ⊥
Turns s T es w (b ∷ bs) [] = ⊥
Turns s T es w (b ∷ bs) (c ∷ cs) = Then (Turn s (record { 0 = w }) T) (Quiet (turn_ended s T)) b (calls_of w es) c × Turns s T es (w + 1) bs cs

-- a lawful round r at tick T
pub record RoundOf (s : Script) (r T : ℕ) (old : Standing) (round : Round) (new : Standing) : Type 0 where
  pub tick : round.tick ≡ T
  pub history : History old.state round.entries new.state
  pub turns : Turns s T round.entries 0 old.books new.books
  pub injects : Injects s r (calls_of s.workers round.entries)
  pub callers : IsTrue (list_all (λ e. nat_le e.caller.0 s.workers) round.entries)
  pub served : IsTrue (is_served s old.state round.entries)

-- rounds from r at tick T on, up to the end that they have: at rest, or else after the last round
abbrev pub Goes : Script → Bool → ℕ → ℕ → Standing → List Round → Type 0
Goes s rest r T old [] = ⊥
Goes s rest r T old (round ∷ more) =
    (new : Standing) × RoundOf s r T old round new ×
    MatchBool (is_at_rest s r new)
    ((more ≡ []) × (rest ≡ true))
    (MatchBool (r + 1 == s.rounds)
    ((more ≡ []) × (rest ≡ false))
    (Goes s rest (r + 1) (next_tick s r T new) new more))

-- a lawful run of a script, from its opening to its end
abbrev pub LawfulRun : Script → Run → Type 0
LawfulRun s run = Goes s run.rest 0 s.start (opening s) run.rounds
