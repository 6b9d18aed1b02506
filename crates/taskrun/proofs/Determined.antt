-- All runs of a script that is closed by homes have one summary, and so have those of a generated script.
use Rattle.std.proofs.Common.{◌≡◌, ℕ, ◌≤◌, Bool, IsTrue, List, Option, Some, None, length, ap, ◌∙◌, subst}
use Rattle.std.specs.Prelude.{count_by}
use Rattle.step_tables.specs.declared.tables.Script.{Script}
use Rattle.step_tables.specs.Homes.{IsClosedByHomes}
use Rattle.step_tables.specs.Sound.{is_sound}
use Rattle.run_model.specs.Run as runs
use Rattle.run_model.specs.Lawful.{LawfulRun}
use Rattle.closed_runs.proofs.Counts.{counts_alike}
use Rattle.closed_runs.proofs.Runs.{runs_alike}
use Rattle.script_gen.specs.Generated.{generated}
use Rattle.script_gen.proofs.Closed.{script_is_closed}
use Rattle.script_gen.proofs.Sound.{script_is_sound}
use Rattle.sched_base.specs.Streams.{Appends}
use Rattle.command_line.specs.declared.command.Command.{Command}
use Rattle.command_line.specs.declared.command.Command.TheVariants.{Run, Replay, Gen}
use Rattle.thread_loop.specs.declared.crew.Kept.{Kept}
use Rattle.taskrun.specs.declared.status.Status.{Status}
use Rattle.taskrun.specs.declared.status.Status.TheVariants.{Done, ScriptRefused, Usage, ReadFault, WriteFault, NoMemory, NotLawful, TextRefused}
use Rattle.taskrun.specs.Answers.{Sums, HasOneSummary, SumsAlike}
use Rattle.taskrun.specs.Headline.{history_of, IsRunOf}
use Rattle.taskrun.specs.Summary.{is_take, is_wake, summary_text, summary_of}

pub closed_summaries : (s : Script) (a b : runs.Run) → IsTrue (is_sound s) → IsClosedByHomes s → LawfulRun s a → LawfulRun s b → summary_of s a ≡ summary_of s b
unfolding summary_of
closed_summaries s a b sound closed g h =
    let alike = runs_alike s a b sound closed g h in
    let tasks = length s.tasks in
    ap (λ (n : ℕ). summary_text tasks n (count_by is_take (history_of a)) (count_by is_wake (history_of a)) a.rest) alike.count ∙
    ap (λ (n : ℕ). summary_text tasks (length b.rounds) n (count_by is_wake (history_of a)) a.rest) (counts_alike s a b is_take sound closed g h) ∙
    ap (λ (n : ℕ). summary_text tasks (length b.rounds) (count_by is_take (history_of b)) n a.rest) (counts_alike s a b is_wake sound closed g h) ∙
    ap (λ (rest : Bool). summary_text tasks (length b.rounds) (count_by is_take (history_of b)) (count_by is_wake (history_of b)) rest) alike.rest

-- the one summary of a seed and a size
pub generated_summaries : (seed size : ℕ) (a b : runs.Run) → 1 ≤ size → size ≤ 4096 → IsRunOf (generated seed size) a → IsRunOf (generated seed size) b → summary_of (generated seed size) a ≡ summary_of (generated seed size) b
generated_summaries seed size a b some few g h =
    closed_summaries (generated seed size) a b (script_is_sound seed size some few) (script_is_closed seed size some few) g.lawful h.lawful

-- what was written is the summary of each run
pub one_summary : (seed size : ℕ) (before after : Option (List ℕ)) (told tells : Option (List Kept)) (status : Status) → 1 ≤ size → size ≤ 4096 → Sums (generated seed size) before after told tells status → HasOneSummary seed size before after status
one_summary seed size before after told tells Done some few h = λ run is.
    subst (λ (text : List ℕ). Appends before after text) (generated_summaries seed size h.0 run some few h.1 is) h.2
one_summary seed size before after told tells (ScriptRefused fault) some few h = tt
one_summary seed size before after told tells Usage some few h = tt
one_summary seed size before after told tells ReadFault some few h = tt
one_summary seed size before after told tells WriteFault some few h = tt
one_summary seed size before after told tells NoMemory some few h = tt
one_summary seed size before after told tells (NotLawful line) some few h = tt
one_summary seed size before after told tells (TextRefused fault) some few h = tt

-- nothing is said of a summary before one was written
pub none_summed : (command : Option Command) (before after : Option (List ℕ)) → SumsAlike command before after NoMemory
none_summed None before after = tt
none_summed (Some Run) before after = tt
none_summed (Some Replay) before after = tt
none_summed (Some (Gen seed size)) before after = tt
