-- Each lawful run has a text.
use Rattle.std.proofs.Common.{◌≡◌, ℕ, ◌+◌, ◌-◌, ◌*◌, ◌^◌, ◌<◌, ◌≤◌, ◌==◌, Bool, true, false, List, [], ◌∷◌, ◌++◌, map, length, MatchBool, IsTrue, Option, refl, sym, subst, arith, lit<}
use Rattle.std.specs.List.{All, AllByRecursion}
use Rattle.std.proofs.lemmas.Bool.{leb-true}
use Rattle.std.proofs.lemmas.Bool.Decides.{nat_tests}
use Rattle.std.proofs.lemmas.List.{length-map}
use Rattle.std.proofs.lemmas.List.Elements.{All-cons, All-nil}
use Rattle.step_tables.specs.declared.tables.Script.{Script}
use Rattle.step_tables.specs.Sound.{is_sound}
use Rattle.task_machine.specs.declared.calls.Entry.{Entry}
use Rattle.run_model.specs.Run.{Round, Run}
use Rattle.run_model.specs.Lawful.{RoundOf, Goes, LawfulRun}
use Rattle.run_model.specs.Standing.{Standing, opening, opened, next_tick, is_at_rest}
use Rattle.turn_steps.proofs.Fit.{sound_parts, within-parts, IsFit-sound}
use Rattle.standing.specs.Between.{entered, round_takes}
use Rattle.standing.specs.Firm.{Firm}
use Rattle.standing.specs.Passes.{Passes}
use Rattle.standing.proofs.Enter.{Keeps-entered}
use Rattle.standing.proofs.Firm.{firm-opening, firm-round}
use Rattle.standing.proofs.Opening.{opening_each}
use Rattle.standing.proofs.Rounds.{made-round}
use Rattle.transcript.specs.declared.lines.Line.TheVariants as lines
use Rattle.transcript.specs.HasText.{HasTextLine, HasTextEntry}
use Rattle.run_texts.specs.RunLines.{lines_from}
use Rattle.run_texts.specs.RunText.{HasText}
use Rattle.thread_loop.specs.declared.crew.Kept.{Kept}
use Rattle.thread_loop.specs.Plants.{standing_of}
use Rattle.taskrun.specs.declared.courses.Course.{Course}
use Rattle.taskrun.specs.Courses.{ComesNext}
use Rattle.taskrun.proofs.Advanced.{firm_before}
use Rattle.taskrun.proofs.Calls.{small_going}
use Rattle.taskrun.proofs.Texts.{Small, SmallTask, history_has_text}

all_append : {A : Type 0} (P : A → Type 0) (xs ys : List A) → AllByRecursion P xs → AllByRecursion P ys → AllByRecursion P (xs ++ ys)
all_append P [] ys p q = q
all_append P (x ∷ xs) ys p q = (p.0, all_append P xs ys p.1 q)

small_opening : (s : Script) → IsTrue (is_sound s) → Small (opening s).state
small_opening s h =
    let p = sound_parts s h in
    let tasks = leb-true (length s.tasks) 4096 p.tasks in
    let workers = within-parts 1 16 s.workers p.workers in
    let same : length (map (opened s) s.tasks) ≡ length s.tasks = length-map s.tasks (opened s) in
    record {
      tasks = λ i. opening_each s i SmallTask (lit< tt, lit< tt) (lit< tt, lit< tt);
      few_tasks = omega arith;
      few_workers = omega (arith, workers.1);
    }

-- the entries of a lawful round have a text, and its end is small again
pub round_small : (s : Script) (r T limit : ℕ) (old : Standing) (round : Round) (new : Standing) → IsTrue (is_sound s) → Firm s T limit old → Small old.state → RoundOf s r T old round new → AllByRecursion HasTextLine (map lines.Entry round.entries) × Small new.state
round_small s r T limit old round new sound firm small is =
    let fit = IsFit-sound s sound in
    let going = (made-round s r T old round new firm.places.books is).going in
    let calls = small_going s T (limit + round_takes s) (entered s r T old) round.entries fit (Keeps-entered s r T limit old fit firm.places) going in
    let texts = history_has_text old.state round.entries small is.history.0 calls in
    (texts.0, subst Small (sym is.history.1) texts.1)

-- the lines after a round: the end line alone, or those of the rounds to come
lines_after : (s : Script) (rest : Bool) (r : ℕ) (more : List Round) (G : Type 0) (still last : Bool) → last ≡ (r + 1 == s.rounds) → r < s.rounds → r < 2 ^ 32 → MatchBool still ((more ≡ []) × (rest ≡ true)) (MatchBool last ((more ≡ []) × (rest ≡ false)) G) → (r + 1 < s.rounds → G → AllByRecursion HasTextLine (lines_from (r + 1) more rest)) → AllByRecursion HasTextLine (lines_from (r + 1) more rest)
lines_after s rest r more G true last e lt few h later =
    let number : r + 1 - 1 < 2 ^ 32 = omega arith in
    subst (λ rounds. AllByRecursion HasTextLine (lines_from (r + 1) rounds rest)) (sym h.0) (number, tt)
lines_after s rest r more G false true e lt few h later =
    let number : r + 1 - 1 < 2 ^ 32 = omega arith in
    subst (λ rounds. AllByRecursion HasTextLine (lines_from (r + 1) rounds rest)) (sym h.0) (number, tt)
lines_after s rest r more G false false e lt few h later = later (below e) h
  where
    below : false ≡ (r + 1 == s.rounds) → r + 1 < s.rounds
    below e = grind (arith, nat_tests)

goes_lines : (s : Script) (rest : Bool) (r T limit : ℕ) (old : Standing) (rounds : List Round) → IsTrue (is_sound s) → Firm s T limit old → Small old.state → r < s.rounds → s.rounds ≤ 100000 → Goes s rest r T old rounds → AllByRecursion HasTextLine (lines_from r rounds rest)
goes_lines s rest r T limit old [] sound firm small lt few h = absurd h
goes_lines s rest r T limit old (round ∷ more) sound firm small lt few h =
    let new = h.0 in
    let is = h.1 in
    let texts = round_small s r T limit old round new sound firm small is in
    let tick : round.tick < 2 ^ 32 = subst (λ (n : ℕ). n < 2 ^ 32) (sym is.tick) firm.tick in
    let later = lines_after s rest r more (Goes s rest (r + 1) (next_tick s r T new) new more) (is_at_rest s r new) (r + 1 == s.rounds) refl lt (omega arith) h.2
    (λ next goes. goes_lines s rest (r + 1) (next_tick s r T new) (limit + round_takes s) new more sound (firm-round s r T limit old round new sound firm is) texts.1 next few goes) in
    ((omega arith, tick), all_append HasTextLine (map lines.Entry round.entries) (lines_from (r + 1) more rest) texts.0 later)

some_round : (s : Script) (rest : Bool) (r T : ℕ) (old : Standing) (rounds : List Round) → Goes s rest r T old rounds → 0 < length rounds
some_round s rest r T old [] h = absurd h
some_round s rest r T old (round ∷ more) h = omega arith

-- a lawful run has a text
pub lawful_has_text : (s : Script) (run : Run) → IsTrue (is_sound s) → LawfulRun s run → HasText run
lawful_has_text s run sound h =
    let rounds = within-parts 1 100000 s.rounds (sound_parts s sound).rounds in
    record {
      begun = some_round s run.rest 0 s.start (opening s) run.rounds h;
      lines = goes_lines s run.rest 0 s.start 0 (opening s) run.rounds sound (firm-opening s sound) (small_opening s sound) (omega (arith, rounds.0)) rounds.1 h;
    }

-- whole rounds lead to a small state
pub passes_small : (s : Script) (r T limit : ℕ) (old : Standing) (rounds : List Round) (q U : ℕ) (new : Standing) → IsTrue (is_sound s) → Firm s T limit old → Small old.state → Passes s r T old rounds q U new → Small new.state
passes_small s r T limit old [] q U new sound firm small h = subst (λ (st : Standing). Small st.state) (sym h.2) small
passes_small s r T limit old (round ∷ more) q U new sound firm small h =
    let next = round_small s r T limit old round h.0 sound firm small h.1 in
    passes_small s (r + 1) (next_tick s r T h.0) (limit + round_takes s) h.0 more q U new sound (firm-round s r T limit old round h.0 sound firm h.1) next.1 h.4

entries_all : (es : List Entry) → AllByRecursion HasTextLine (map lines.Entry es) → All HasTextEntry es
entries_all [] h = All-nil HasTextEntry
entries_all (e ∷ es) h = All-cons HasTextEntry e es h.0.1 (entries_all es h.1)

-- the entries of a round after whole rounds have a text
entries_texts : (s : Script) (rounds : List Round) (q U limit : ℕ) (st : Standing) (round : Round) (new : Standing) → IsTrue (is_sound s) → Passes s 0 s.start (opening s) rounds q U st → Firm s U limit st → RoundOf s q U st round new → All HasTextEntry round.entries
entries_texts s rounds q U limit st round new sound passes firm is =
    let small = passes_small s 0 s.start 0 (opening s) rounds q U st sound (firm-opening s sound) (small_opening s sound) passes in
    entries_all round.entries (round_small s q U limit st round new sound firm small is).0

-- a round that comes next may be noted by its lines
pub may_note : (s : Script) (q : ℕ) (tells : Option (List Kept)) (c : Course) (next : Round) → IsTrue (is_sound s) → ComesNext s q tells c next → All HasTextEntry next.entries
may_note s q tells c next sound h =
    let firm = firm_before s h.rounds q h.told tells c sound h.runs in
    entries_texts s h.rounds q c.tick (q * round_takes s) h.runs.old next (standing_of c.plant) sound h.runs.passes firm h.lawful
