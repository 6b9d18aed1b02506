-- The course of a run: the round that is merged, and the next one that is made meanwhile.
use Rattle.std.proofs.Common.{◌≡◌, ◌≢◌, ℕ, suc, ◌+◌, ◌*◌, ◌<◌, ◌≤◌, ◌==◌, ◌||◌, Bool, true, false, List, [], ◌∷◌, ◌++◌, length, MatchBool, IsTrue, Option, refl, sym, ap, ◌∙◌, subst, arith, append_assoc, append-nil, zero-add}
use Rattle.std.proofs.lemmas.Bool.Decides.{nat_tests}
use Rattle.step_tables.specs.declared.tables.Script.{Script}
use Rattle.step_tables.specs.Sound.{is_sound}
use Rattle.task_machine.specs.declared.calls.Entry.{Entry}
use Rattle.task_machine.specs.Step.{State}
use Rattle.task_machine.specs.History.{IsMerge, led}
use Rattle.run_model.specs.Run.{Round}
use Rattle.run_model.specs.Lawful.{RoundOf, Goes, LawfulRun}
use Rattle.run_model.specs.Standing.{Standing, opening, next_tick, is_at_rest}
use Rattle.turn_steps.proofs.Fit.{sound_parts, within-parts}
use Rattle.standing.specs.Passes.{Passes}
use Rattle.standing.specs.Between.{round_takes}
use Rattle.standing.specs.Firm.{Firm}
use Rattle.standing.proofs.Lawful.{runs_firm}
use Rattle.standing.proofs.Whole.{goes-passes}
use Rattle.history_weave.specs.Places.{log_at}
use Rattle.history_weave.specs.Weaving.{HasMerge, HasTakesLeft}
use Rattle.thread_loop.specs.declared.crew.Kept.{Kept}
use Rattle.thread_loop.specs.declared.merger.Merger.{Merger}
use Rattle.thread_loop.specs.declared.plant.Plant.{Plant}
use Rattle.thread_loop.specs.Crews.{kept_logs, kept_calls, Grows}
use Rattle.thread_loop.specs.Mergers.{logs_in, entries_of, IsMergerOf, CanMerge, IsMerged, IsMade, Plays, TakesOver}
use Rattle.thread_loop.specs.Plants.{standing_of, tick_next, IsReady}
use Rattle.thread_loop.proofs.PlayedRounds.{kept-merged, ready-swapped}
use Rattle.taskrun.specs.declared.courses.AfterRound.{AfterRound}
use Rattle.taskrun.specs.declared.courses.Course.{Course}
use Rattle.taskrun.specs.Headline.{kept_rounds}
use Rattle.taskrun.specs.Courses.{is_last, Runs, ComesNext, Advances, CanNote}

-- ---- whole rounds and one more

passes_length : (s : Script) (r T : ℕ) (old : Standing) (rounds : List Round) (q U : ℕ) (new : Standing) → Passes s r T old rounds q U new → r + length rounds ≡ q
passes_length s r T old [] q U new h = omega (arith, h.0)
passes_length s r T old (round ∷ more) q U new h =
    let e = passes_length s (r + 1) (next_tick s r T h.0) h.0 more q U new h.4 in
    omega arith

passes_more : (s : Script) (r T : ℕ) (old : Standing) (rounds : List Round) (q U : ℕ) (st : Standing) (round : Round) (new : Standing) → Passes s r T old rounds q U st → RoundOf s q U st round new → is_at_rest s q new ≡ false → q + 1 ≢ s.rounds → Passes s r T old (rounds ++ round ∷ []) (q + 1) (next_tick s q U new) new
passes_more s r T old [] q U st round new h is rests last =
    let start : RoundOf s r T old round new = subst (λ (b : Standing). RoundOf s r T b round new) h.2 (subst (λ (n : ℕ). RoundOf s r n st round new) h.1 (subst (λ (n : ℕ). RoundOf s n U st round new) h.0 is)) in (
      new,
      start,
      subst (λ (n : ℕ). is_at_rest s n new ≡ false) h.0 rests,
      subst (λ (n : ℕ). n + 1 ≢ s.rounds) h.0 last,
      (ap (λ n. n + 1) h.0, ap (λ (n : ℕ). next_tick s n U new) h.0 ∙ ap (λ (n : ℕ). next_tick s r n new) h.1, refl),
    )
passes_more s r T old (first ∷ rounds) q U st round new h is rests last =
    (h.0, h.1, h.2, h.3, passes_more s (r + 1) (next_tick s r T h.0) h.0 rounds q U st round new h.4 is rests last)

-- a run that ends with a round
ends_now : (s : Script) (q U : ℕ) (st : Standing) (round : Round) (new : Standing) → RoundOf s q U st round new → is_last s q new ≡ true → Goes s (is_at_rest s q new) q U st (round ∷ [])
ends_now s q U st round new is over = (new, is, by_rest _ (is_at_rest s q new) (q + 1 == s.rounds) over)
  where
    none : List Round
    none = []

    by_rest : (G : Type 0) (rest last : Bool) → rest || last ≡ true → MatchBool rest ((none ≡ []) × (rest ≡ true)) (MatchBool last ((none ≡ []) × (rest ≡ false)) G)
    by_rest G true last h = (refl, refl)
    by_rest G false true h = (refl, refl)
    by_rest G false false h = cc

-- a run that goes on
goes_on : (s : Script) (q : ℕ) (st : Standing) → is_last s q st ≡ false → (is_at_rest s q st ≡ false) × (q + 1 ≢ s.rounds)
goes_on s q st e = by_test (is_at_rest s q st) (q + 1 == s.rounds) e refl
  where
    by_test : (rest last : Bool) → rest || last ≡ false → (q + 1 == s.rounds) ≡ last → (rest ≡ false) × (q + 1 ≢ s.rounds)
    by_test true last h f = cc
    by_test false true h f = cc
    by_test false false h f = (refl, differs f)
      where
        differs : (q + 1 == s.rounds) ≡ false → q + 1 ≢ s.rounds
        differs f = grind (arith, nat_tests)

-- ---- what stands before the round that is to be merged

pub more_rounds : (s : Script) (rounds : List Round) (q : ℕ) (told tells : Option (List Kept)) (c : Course) → IsTrue (is_sound s) → Runs s rounds q told tells c → q < s.rounds
more_rounds s rounds q told tells c sound h = (runs_firm s rounds q c.tick h.old sound h.passes).0

pub firm_before : (s : Script) (rounds : List Round) (q : ℕ) (told tells : Option (List Kept)) (c : Course) → IsTrue (is_sound s) → (h : Runs s rounds q told tells c) → Firm s c.tick (q * round_takes s) h.old
firm_before s rounds q told tells c sound h = (runs_firm s rounds q c.tick h.old sound h.passes).2

pub runs_length : (s : Script) (rounds : List Round) (q : ℕ) (told tells : Option (List Kept)) (c : Course) → Runs s rounds q told tells c → length rounds ≡ q
runs_length s rounds q told tells c h = let l = passes_length s 0 s.start (opening s) rounds q c.tick h.old h.passes in omega arith

pub rounds_between : (s : Script) → IsTrue (is_sound s) → (1 ≤ s.rounds) × (s.rounds ≤ 100000)
rounds_between s sound = within-parts 1 100000 s.rounds (sound_parts s sound).rounds

-- where the run is not over, a round more comes
pub next_comes : (s : Script) (rounds : List Round) (q : ℕ) (told tells : Option (List Kept)) (c : Course) → IsTrue (is_sound s) → Runs s rounds q told tells c → c.after.over ≡ false → q + 1 < s.rounds
next_comes s rounds q told tells c sound h on =
    let more = more_rounds s rounds q told tells c sound h in
    let last = (goes_on s q (standing_of c.plant) (sym h.over ∙ on)).1 in
    grind (arith, more, last)

pub can_merge : (s : Script) (rounds : List Round) (q : ℕ) (told tells : Option (List Kept)) (c : Course) → IsTrue (is_sound s) → Runs s rounds q told tells c → CanMerge c.merger
can_merge s rounds q told tells c sound h =
    let places = (firm_before s rounds q told tells c sound h).places in
    let logs = logs_in c.merger in
    let count = h.merger.logs in
    let workers = h.merger.workers in
    record {
      tasks = ap (λ (m : State). length m.tasks) h.merger.machine ∙ places.tasks ∙ sym h.merger.tasks;
      workers = ap (λ (m : State). m.workers) h.merger.machine ∙ places.workers ∙ sym h.merger.workers;
      logs = omega (arith, count, workers);
      few = h.made.few;
      takes_left = subst (λ (m : State). HasTakesLeft m logs) (sym h.merger.machine) h.made.takes_left;
      merge = subst (λ (m : State). HasMerge m logs) (sym h.merger.machine) h.made.merge;
    }

-- what the calls are merged to is a lawful round
lawful_round : (s : Script) (rounds : List Round) (q : ℕ) (told tells : Option (List Kept)) (c : Course) → (h : Runs s rounds q told tells c) → (es : List Entry) → IsMerge c.merger.machine (log_at (logs_in c.merger)) es → RoundOf s q c.tick h.old (record { tick = c.tick; entries = es }) (standing_of c.plant)
lawful_round s rounds q told tells c h es merge = h.made.round es (subst (λ (m : State). IsMerge m (log_at (logs_in c.merger)) es) h.merger.machine merge)

pub can_note : {A : Type 0} (can : Round → A → Type 0) (a : A) (s : Script) (rounds : List Round) (q : ℕ) (told tells : Option (List Kept)) (c : Course) → Runs s rounds q told tells c → ((next : Round) → ComesNext s q tells c next → can next a) → CanNote can c.tick c.merger a
can_note can a s rounds q told tells c h all = λ es merge. all (record { tick = c.tick; entries = es }) (record {
  rounds = rounds;
  told = told;
  runs = h;
  lawful = lawful_round s rounds q told tells c h es merge;
})

-- once they are merged, the machine stands where the plant stood after the round
merger_after : (s : Script) (rounds : List Round) (q : ℕ) (told tells : Option (List Kept)) (c : Course) (w : Merger) → Runs s rounds q told tells c → IsMerged c.merger w → IsMergerOf s (standing_of c.plant).state w
merger_after s rounds q told tells c w h merged =
    let is = lawful_round s rounds q told tells c h (entries_of w) merged.merge in
    record {
      machine = merged.machine ∙ ap (λ (m : State). led m (entries_of w)) h.merger.machine ∙ sym is.history.1;
      tasks = merged.tasks ∙ h.merger.tasks;
      workers = merged.workers ∙ h.merger.workers;
      logs = ap (λ ls. length ls.items) merged.logs ∙ h.merger.logs;
    }

-- ---- what the crew tells

-- nothing more
pub grows_none : (a : Option (List Kept)) → Grows a a []
grows_none a = λ ks e. (ks, e, sym (append-nil ks))

-- in two steps
grows_more : (a b c : Option (List Kept)) (x y : List Kept) → Grows a b x → Grows b c y → Grows a c (x ++ y)
grows_more a b c x y p q = λ ks e.
    let last = q ks e in
    let first = p last.0 last.1 in
    (first.0, first.1, last.2 ∙ ap (λ js. js ++ y) first.2 ∙ append_assoc first.0 x y)

-- the calls of whole rounds with one more
kept_one : (n r : ℕ) (rounds : List Round) (round : Round) → kept_rounds n r (rounds ++ round ∷ []) ≡ kept_rounds n r rounds ++ kept_calls (r + length rounds) n round.entries
kept_one n r [] round = let none : r + 0 ≡ r = omega arith in append-nil (kept_calls r n round.entries) ∙ ap (λ m. kept_calls m n round.entries) (sym none)
kept_one n r (first ∷ rounds) round =
    let next : r + 1 + length rounds ≡ r + length (first ∷ rounds) = omega arith in
    ap (λ ks. kept_calls r n first.entries ++ ks) (kept_one n (r + 1) rounds round ∙ ap (λ m. kept_rounds n (r + 1) rounds ++ kept_calls m n round.entries) next)
    ∙ sym (append_assoc (kept_calls r n first.entries) (kept_rounds n (r + 1) rounds) (kept_calls (r + length (first ∷ rounds)) n round.entries))

-- once the round is merged, the calls that were told are those of whole rounds
told_whole : (s : Script) (rounds : List Round) (q : ℕ) (told tells : Option (List Kept)) (c : Course) (es : List Entry) → (h : Runs s rounds q told tells c) → IsMerge c.merger.machine (log_at (logs_in c.merger)) es → Grows told tells (kept_rounds (suc s.workers) 0 (rounds ++ record { tick = c.tick; entries = es } ∷ []))
told_whole s rounds q told tells c es h merge =
    let round : Round = record { tick = c.tick; entries = es } in
    let n = suc s.workers in
    let count = runs_length s rounds q told tells c h in
    let same = kept-merged s q s.workers c.merger.machine (logs_in c.merger) es h.merger.logs merge in
    let at = kept_one n 0 rounds round ∙ ap (λ m. kept_rounds n 0 rounds ++ kept_calls m n es) (zero-add (length rounds) ∙ count) in
    subst (λ ks. Grows told tells ks) (ap (λ ks. kept_rounds n 0 rounds ++ ks) same ∙ sym at) h.grown

-- ---- the course goes on

-- a plant whose logs are taken over stands where it stood
pub ready_taken : (s : Script) (r : ℕ) (m : State) (w v : Merger) (p q : Plant) → IsMergerOf s m w → TakesOver w v p q → IsReady s r p → IsReady s r q
ready_taken s r m w v p q of taken ready =
    let same = ap (λ (x : Plant). x.logs) taken.given in
    ready-swapped s r p q (taken.given ∙ ap (λ ls. record p { logs = ls }) (sym same)) (ap (λ ls. length ls.items) same ∙ of.logs) ready

-- the logs of a round that was made are taken over
taken_over : (s : Script) (rounds : List Round) (q : ℕ) (told here tells : Option (List Kept)) (old : Standing) (T : ℕ) (p0 p1 : Plant) (w : Merger) (c : Course) → Passes s 0 s.start (opening s) rounds q T old → standing_of p0 ≡ old → tick_next p0 ≡ T → Plays s q p0 p1 here tells → IsMergerOf s old.state w → TakesOver w c.merger p1 c.plant → c.tick ≡ tick_next p0 → c.after.rest ≡ is_at_rest s q (standing_of c.plant) → c.after.over ≡ is_last s q (standing_of c.plant) → Grows told here (kept_rounds (suc s.workers) 0 rounds) → Runs s rounds q told tells c
unfolding standing_of
taken_over s rounds q told here tells old T p0 p1 w c passes stands start plays of taken tick rest over grown =
    let at : T ≡ c.tick = sym start ∙ sym tick in
    let stays : standing_of c.plant ≡ standing_of p1 = ap standing_of taken.given in
    let later : tick_next c.plant ≡ tick_next p1 = ap tick_next taken.given in
    let logs = sym taken.logs in
    let made : IsMade s q c.tick old (logs_in c.merger) (standing_of c.plant) =
    subst (λ (n : ℕ). IsMade s q n old (logs_in c.merger) (standing_of c.plant)) (sym tick)
    (subst (λ (st : Standing). IsMade s q (tick_next p0) st (logs_in c.merger) (standing_of c.plant)) stands
    (subst (λ (st : Standing). IsMade s q (tick_next p0) (standing_of p0) (logs_in c.merger) st) (sym stays)
    (subst (λ ls. IsMade s q (tick_next p0) (standing_of p0) ls (standing_of p1)) logs plays.made))) in
    record {
      old = old;
      passes = subst (λ (n : ℕ). Passes s 0 s.start (opening s) rounds q n old) at passes;
      merger = record {
        machine = ap (λ (v : Merger). v.machine) taken.rest ∙ of.machine;
        tasks = ap (λ (v : Merger). v.weaver.tasks) taken.rest ∙ of.tasks;
        workers = ap (λ (v : Merger). v.weaver.workers) taken.rest ∙ of.workers;
        logs = ap length taken.logs ∙ plays.made.count;
      };
      made = made;
      next = later ∙ plays.next ∙ ap (λ (n : ℕ). next_tick s q n (standing_of p1)) (sym tick) ∙ ap (λ (st : Standing). next_tick s q c.tick st) (sym stays);
      ready = ready_taken s (q + 1) old.state w c.merger p1 c.plant of taken plays.ready;
      rest = rest;
      over = over;
      grown = subst (λ ls. Grows told tells (kept_rounds (suc s.workers) 0 rounds ++ kept_logs q ls)) logs (grows_more told here tells _ _ grown plays.grown);
    }

-- the first round is made
pub begun : (s : Script) (told tells : Option (List Kept)) (p0 p1 : Plant) (w0 : Merger) (c : Course) → standing_of p0 ≡ opening s → tick_next p0 ≡ s.start → Plays s 0 p0 p1 told tells → IsMergerOf s (opening s).state w0 → TakesOver w0 c.merger p1 c.plant → c.tick ≡ tick_next p0 → c.after.rest ≡ is_at_rest s 0 (standing_of c.plant) → c.after.over ≡ is_last s 0 (standing_of c.plant) → Runs s [] 0 told tells c
begun s told tells p0 p1 w0 c stands start plays of taken tick rest over = taken_over s [] 0 told told tells (opening s) s.start p0 p1 w0 c (refl, refl, refl) stands start plays of taken tick rest over (grows_none told)

-- the last round is noted
pub advances_last : (s : Script) (rounds : List Round) (q : ℕ) (told tells : Option (List Kept)) (notes : Round → Type 0) (c d : Course) (w : Merger) (after : AfterRound) → Runs s rounds q told tells c → after ≡ c.after → after.over ≡ true → IsMerged c.merger w → notes (record { tick = c.tick; entries = entries_of w }) → Advances s rounds q told tells notes d after
advances_last s rounds q told tells notes c d w after h same over merged noted =
    let st = standing_of c.plant in
    let round : Round = record { tick = c.tick; entries = entries_of w } in
    let is = lawful_round s rounds q told tells c h (entries_of w) merged.merge in
    let rest : is_at_rest s q st ≡ after.rest = sym h.rest ∙ sym (ap (λ (a : AfterRound). a.rest) same) in
    let last : is_last s q st ≡ true = sym h.over ∙ sym (ap (λ (a : AfterRound). a.over) same) ∙ over in
    record {
      round = round;
      noted = noted;
      ends = λ e. record {
        lawful = subst (λ (b : Bool). LawfulRun s (record { rounds = rounds ++ round ∷ []; rest = b })) rest (goes-passes s (is_at_rest s q st) 0 s.start (opening s) rounds q c.tick h.old (round ∷ []) h.passes (ends_now s q c.tick h.old round st is last));
        grown = told_whole s rounds q told tells c (entries_of w) h merged.merge;
      };
      runs = λ e. cc;
    }

-- a round is noted, and the next one is made
pub advances_on : (s : Script) (rounds : List Round) (q : ℕ) (told here tells : Option (List Kept)) (notes : Round → Type 0) (c d : Course) (p : Plant) (w : Merger) (after : AfterRound) → Runs s rounds q told here c → after ≡ c.after → after.over ≡ false → Plays s (q + 1) c.plant p here tells → IsMerged c.merger w → notes (record { tick = c.tick; entries = entries_of w }) → TakesOver w d.merger p d.plant → d.tick ≡ tick_next c.plant → d.after.rest ≡ is_at_rest s (q + 1) (standing_of d.plant) → d.after.over ≡ is_last s (q + 1) (standing_of d.plant) → Advances s rounds q told tells notes d after
advances_on s rounds q told here tells notes c d p w after h same on plays merged noted taken tick rest over =
    let st = standing_of c.plant in
    let es = entries_of w in
    let round : Round = record { tick = c.tick; entries = es } in
    let is = lawful_round s rounds q told here c h es merged.merge in
    let not_last : is_last s q st ≡ false = sym h.over ∙ sym (ap (λ (a : AfterRound). a.over) same) ∙ on in
    let more = goes_on s q st not_last in
    let passes = passes_more s 0 s.start (opening s) rounds q c.tick h.old round st h.passes is more.0 more.1 in
    record {
      round = round;
      noted = noted;
      ends = λ e. cc;
      runs = λ e. taken_over s (rounds ++ round ∷ []) (q + 1) told here tells st (next_tick s q c.tick st) c.plant p w d passes refl h.next plays (merger_after s rounds q told here c w h merged) taken tick rest over (told_whole s rounds q told here c es h merged.merge);
    }

-- the plant may go on once its logs are taken over
pub ready_after : (s : Script) (rounds : List Round) (q : ℕ) (told here tells : Option (List Kept)) (c : Course) (w v : Merger) (p r : Plant) → Runs s rounds q told here c → IsMerged c.merger w → Plays s (q + 1) c.plant p here tells → TakesOver w v p r → IsReady s (q + 1 + 1) r
ready_after s rounds q told here tells c w v p r h merged plays taken = ready_taken s (q + 1 + 1) (standing_of c.plant).state w v p r (merger_after s rounds q told here c w h merged) taken plays.ready
