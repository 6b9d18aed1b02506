-- Each lawful run tells each take's reasons.
use Rattle.std.proofs.Common.{◌≡◌, ℕ, ◌+◌, ◌==◌, Bool, true, false, if◌then◌else◌, List, [], ◌∷◌, length, map, inl, inr, refl, arith, subst, MatchBool}
use Rattle.std.specs.List.{flat_map}
use Rattle.std.proofs.lemmas.Bool.{cases_lt}
use Rattle.std.proofs.lemmas.List.{get_or_past, get_or-map, length-map}
use Rattle.step_tables.specs.declared.tables.Script.{Script}
use Rattle.task_machine.specs.declared.calls.Entry.{Entry}
use Rattle.task_machine.specs.Task.{resting, seated}
use Rattle.task_machine.specs.Step.{State}
use Rattle.task_machine.specs.History.{Legal}
use Rattle.task_machine.specs.Since.{OpensAs, IsOpening, TakesTell}
use Rattle.task_machine.proofs.Histories.{Legal-append}
use Rattle.task_machine.proofs.Reasons.{TakesTell-legal}
use Rattle.run_model.specs.Run.{Round, Run}
use Rattle.run_model.specs.Lawful.{Goes, LawfulRun}
use Rattle.run_model.specs.Standing.{Standing, opened, opening, next_tick, is_at_rest}
use Rattle.run_model.specs.Tables.{blank_task, def_of, home_of}

opens : (init : Bool) (b : ℕ) → OpensAs init (if init then seated b resting else resting)
opens true b = (b, refl)
opens false b = refl

-- the opening seats the tasks that are to run at the start
pub opening-opens : (s : Script) → IsOpening (λ i. (def_of s i).init) (opening s).state
opening-opens s i =
    elim (cases_lt i (length s.tasks)) [
      | inl lt ↦ rw (get_or-map (opened s) s.tasks i blank_task resting lt) (opens (def_of s i).init (home_of s i))
      | inr le ↦ rw (get_or_past s.tasks i blank_task le, get_or_past (map (opened s) s.tasks) i resting (omega (arith, length-map s.tasks (opened s)))) refl
    ]

-- the entries of some rounds
abbrev all_entries : List Round → List Entry
all_entries rounds = flat_map (λ r. r.entries) rounds

-- the histories of a run's rounds follow on each other
after_round : (s : Script) (rest : Bool) (r T : ℕ) (new : Standing) (more : List Round) (rests last : Bool) → (Goes s rest (r + 1) (next_tick s r T new) new more → Legal new.state (all_entries more)) → MatchBool rests ((more ≡ []) × (rest ≡ true)) (MatchBool last ((more ≡ []) × (rest ≡ false)) (Goes s rest (r + 1) (next_tick s r T new) new more)) → Legal new.state (all_entries more)
after_round s rest r T new more true last later h = rw h.0 tt
after_round s rest r T new more false true later h = rw h.0 tt
after_round s rest r T new more false false later h = later h

pub legal-goes : (s : Script) (rest : Bool) (r T : ℕ) (old : Standing) (rounds : List Round) → Goes s rest r T old rounds → Legal old.state (all_entries rounds)
legal-goes s rest r T old [] h = absurd h
legal-goes s rest r T old (round ∷ more) h =
    let new = h.0 in
    let later : Legal new.state (all_entries more) = after_round s rest r T new more (is_at_rest s r new) (r + 1 == s.rounds) (λ g. legal-goes s rest (r + 1) (next_tick s r T new) new more g) h.2 in
    Legal-append old.state round.entries (all_entries more) h.1.history.0 (subst (λ (x : State). Legal x (all_entries more)) h.1.history.1 later)

pub reasons-told : (s : Script) (run : Run) → LawfulRun s run → TakesTell (λ i. (def_of s i).init) (all_entries run.rounds)
reasons-told s run h =
    TakesTell-legal (λ i. (def_of s i).init) (opening s).state (all_entries run.rounds) (opening-opens s) (legal-goes s run.rest 0 s.start (opening s) run.rounds h)
