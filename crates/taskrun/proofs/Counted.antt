-- Rounds that are counted, and the summary of their run.
use Rattle.std.proofs.Common.{◌≡◌, ℕ, ◌+◌, ◌^◌, ◌≤◌, Bool, true, false, List, [], ◌∷◌, ◌++◌, length, IsTrue, Option, refl, sym, ap, ◌∙◌, subst, arith, append-nil, cond}
use Rattle.std.specs.Prelude.{count_by}
use Rattle.std.proofs.lemmas.List.{length-append}
use Rattle.std.proofs.lemmas.Grind.{flat_map-append}
use Rattle.std.proofs.lemmas.List.Sums.{sum_by-append}
use Rattle.sched_base.specs.Streams.{Appends, AppendsFront}
use Rattle.step_tables.specs.declared.tables.Script.{Script}
use Rattle.step_tables.specs.Sound.{is_sound}
use Rattle.task_machine.specs.declared.calls.Entry.{Entry}
use Rattle.run_model.specs.Run.{Round, Run}
use Rattle.run_model.specs.Standing.{opening}
use Rattle.thread_loop.specs.declared.crew.Kept.{Kept}
use Rattle.taskrun.specs.declared.counting.Counts.{Counts}
use Rattle.taskrun.specs.declared.courses.AfterRound.{AfterRound}
use Rattle.taskrun.specs.declared.courses.Course.{Course}
use Rattle.taskrun.specs.Answers.{WroteSummary, WroteSummaryFront}
use Rattle.taskrun.specs.Courses.{Runs, Advances}
use Rattle.taskrun.specs.Summary.{is_take, is_wake, summary_text, summary_of, entries_of, CanCount, HasCounted, Counted, IsSummary}
use Rattle.taskrun.proofs.Advanced.{runs_length}
use Rattle.taskrun.proofs.Played.{run_of, rounds_begin, front_none}

counts_more : (p : Entry → Bool) (rounds : List Round) (round : Round) (before after : ℕ) → before ≡ count_by p (entries_of rounds) → after ≡ before + count_by p round.entries → after ≡ count_by p (entries_of (rounds ++ round ∷ []))
counts_more p rounds round before after so_far more =
    let joined : entries_of (rounds ++ round ∷ []) ≡ entries_of rounds ++ round.entries = flat_map-append (λ (r : Round). r.entries) rounds (round ∷ []) ∙ ap (λ es. entries_of rounds ++ es) (append-nil round.entries) in
    more ∙ ap (λ n. n + count_by p round.entries) so_far ∙ sym (sum_by-append (λ (e : Entry). cond (p e) 1 0) (entries_of rounds) round.entries) ∙ ap (count_by p) (sym joined)

pub counted_none : (s : Script) (c : Course) (told tells : Option (List Kept)) → Runs s [] 0 told tells c → Counted s 0 c told tells (record { takes = 0; wakes = 0 })
counted_none s c told tells runs = record {
  rounds = [];
  runs = runs;
  takes = refl;
  wakes = refl;
  few_takes = omega arith;
  few_wakes = omega arith;
}

-- what is counted of the rounds with one more
one_more : (s : Script) (q : ℕ) (old : Course) (told here : Option (List Kept)) (c d : Counts) (round : Round) → (h : Counted s q old told here c) → HasCounted round.entries c d → (d.takes ≡ count_by is_take (entries_of (h.rounds ++ round ∷ []))) × (d.wakes ≡ count_by is_wake (entries_of (h.rounds ++ round ∷ [])))
one_more s q old told here c d round h more = (
  counts_more is_take h.rounds round c.takes d.takes h.takes more.takes,
  counts_more is_wake h.rounds round c.wakes d.wakes h.wakes more.wakes,
)

pub counted_more : (s : Script) (q : ℕ) (old new : Course) (told here tells : Option (List Kept)) (after : AfterRound) (c d : Counts) → (h : Counted s q old told here c) → Advances s h.rounds q told tells (λ round. HasCounted round.entries c d) new after → after.over ≡ false → Counted s (q + 1) new told tells d
counted_more s q old new told here tells after c d h adv more =
    let all = one_more s q old told here c d adv.round h adv.noted in
    record {
      rounds = h.rounds ++ adv.round ∷ [];
      runs = adv.runs more;
      takes = all.0;
      wakes = all.1;
      few_takes = omega (arith, h.few_takes, adv.noted.few_takes);
      few_wakes = omega (arith, h.few_wakes, adv.noted.few_wakes);
    }

-- a sound script has few rounds, and so few takes and wakes come before the last
pub can_count : (s : Script) (q : ℕ) (c : Course) (told tells : Option (List Kept)) (counts : Counts) → q ≤ 2 ^ 32 → Counted s q c told tells counts → CanCount counts
can_count s q c told tells counts few h = (omega (arith, few, h.few_takes), omega (arith, few, h.few_wakes))

-- the summary of the run that ends with the round that was noted
pub summed : (s : Script) (q tasks : ℕ) (old new : Course) (told here tells : Option (List Kept)) (after : AfterRound) (c d : Counts) (text : List ℕ) → (h : Counted s q old told here c) → Advances s h.rounds q told tells (λ round. HasCounted round.entries c d) new after → after.over ≡ true → tasks ≡ length s.tasks → text ≡ summary_text tasks (q + 1) d.takes d.wakes after.rest → IsSummary s told tells text
unfolding summary_of
summed s q tasks old new told here tells after c d text h adv over count is =
    let all = h.rounds ++ adv.round ∷ [] in
    let run : Run = record { rounds = all; rest = after.rest } in
    let before = runs_length s h.rounds q told here old h.runs in
    let long : q + 1 ≡ length all = (let l = length-append h.rounds (adv.round ∷ []) in omega arith) in
    let more = one_more s q old told here c d adv.round h adv.noted in
    let ends = adv.ends over in (
      run,
      run_of s run ends.lawful,
      is ∙ (λ i. summary_text (count i) (long i) (more.0 i) (more.1 i) after.rest),
      ends.grown,
    )

-- ---- what is written of a summary

pub summary_written : (s : Script) (before after : Option (List ℕ)) (told tells : Option (List Kept)) (text : List ℕ) → IsSummary s told tells text → Appends before after text → WroteSummary before after told tells s
summary_written s before after told tells text h p = (h.0, h.1, subst (λ t. Appends before after t) h.2 p, h.3)

pub summary_begun : (s : Script) (before after : Option (List ℕ)) (told tells : Option (List Kept)) (text : List ℕ) → IsSummary s told tells text → AppendsFront before after text → WroteSummaryFront before after s
summary_begun s before after told tells text h p = (h.0, h.1, subst (λ t. AppendsFront before after t) h.2 p)

pub summary_none : (s : Script) (before : Option (List ℕ)) → IsTrue (is_sound s) → WroteSummaryFront before before s
summary_none s before sound =
    let g = rounds_begin s [] 0 s.start (opening s) sound (refl, refl, refl) in
    (g.0, run_of s g.0 g.1, front_none before (summary_of s g.0))
