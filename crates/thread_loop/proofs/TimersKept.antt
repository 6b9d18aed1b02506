-- Queues stay those of a worker of the script.
use Rattle.std.proofs.Common.{◌≡◌, ℕ, ◌≤◌, false, sym, ap, subst, ◌∙◌, arith}
use Rattle.sched_base.specs.KeyedList.{AreKeyed, ChangesRoot, root_at, holds}
use Rattle.eb32_core.specs.Forest.{Grove, seen_of}
use Rattle.queue_model.specs.RunList.{RunList}
use Rattle.tasklet_lists.specs.ClassLists.{ClassLists}
use Rattle.step_tables.specs.declared.tables.Script.{Script}
use Rattle.run_model.specs.Book.{Book}
use Rattle.turn_steps.specs.Times.{listed}
use Rattle.wait_queue.specs.Timers.{Timers, IsSameQueue}
use Rattle.wait_queue.specs.Timers as timers
use Rattle.wait_queue.proofs.Beside as waits
use Rattle.run_queue.specs.Runners.{Runners, run_list}
use Rattle.run_queue.specs.Runners as runners
use Rattle.run_queue.proofs.Beside as runs
use Rattle.thread_loop.specs.declared.queues.Queues.{Queues}
use Rattle.thread_loop.specs.Queues.{book_of, Fits}

-- the timers have changed
pub timers_changed : (s : Script) (q : Queues) (forest : Grove) (times : Timers) → Fits s q → AreKeyed (seen_of forest) → timers.Fits times (seen_of forest) → ChangesRoot q.timers.root (seen_of q.forest) (seen_of forest) → IsSameQueue q.timers times → Fits s (record { forest = forest; timers = times; runners = q.runners; lists = q.lists })
timers_changed s q forest times f keyed t c same =
    let apart : q.timers.root ≡ q.runners.root → ⊥ = λ e. let a : q.timers.root ≡ 0 = f.first in let b : q.runners.root ≡ 1 = f.second in omega arith in
    let none : (task : ℕ) → holds (runners.entry_of task) (root_at q.timers.root (seen_of forest)) ≡ false = λ task. ap (λ r. holds (runners.entry_of task) (root_at r (seen_of forest))) (sym same.root) ∙ waits.own_entries times (seen_of forest) task t in
    let beside = runs.stays_beside q.runners (seen_of q.forest) (seen_of forest) q.timers.root f.runners c apart none in
    let run : run_list q.runners (seen_of forest) ≡ run_list q.runners (seen_of q.forest) = beside.1 in
    record {
      keyed = keyed;
      timers = t;
      runners = beside.0;
      first = same.root ∙ f.first;
      second = f.second;
      roots = c.roots ∙ f.roots;
      entries = c.entries ∙ f.entries;
      expiries = same.tasks ∙ f.expiries;
      lists = f.lists;
      depth = f.depth;
      few = f.few;
      once = λ i. subst (λ (l : RunList). listed i (let b : Book = record { wait = timers.wait_list 0 q.timers (seen_of q.forest); run = l; lists = q.lists.lists } in b) ≤ 1) (sym run) (f.once i);
    }

-- the runnable tasks have changed
pub runners_changed : (s : Script) (q : Queues) (forest : Grove) (run : Runners) (lists : ClassLists) → Fits s q → AreKeyed (seen_of forest) → runners.Fits run (seen_of forest) → ChangesRoot q.runners.root (seen_of q.forest) (seen_of forest) → run.root ≡ q.runners.root → run.depth ≡ q.runners.depth → lists.tasks ≡ q.lists.tasks → ((i : ℕ) → listed i (book_of 0 (record { forest = forest; timers = q.timers; runners = run; lists = lists })) ≤ 1) → Fits s (record { forest = forest; timers = q.timers; runners = run; lists = lists })
runners_changed s q forest run lists f keyed t c root depth tasks once =
    let apart : q.runners.root ≡ q.timers.root → ⊥ = λ e. let a : q.timers.root ≡ 0 = f.first in let b : q.runners.root ≡ 1 = f.second in omega arith in
    let none : (task : ℕ) → holds (timers.entry_of task) (root_at q.runners.root (seen_of forest)) ≡ false = λ task. ap (λ r. holds (timers.entry_of task) (root_at r (seen_of forest))) (sym root) ∙ runs.own_entries run (seen_of forest) task t in
    let beside = waits.stays_beside q.timers (seen_of q.forest) (seen_of forest) q.runners.root f.timers c apart none in
    record {
      keyed = keyed;
      timers = beside.0;
      runners = t;
      first = f.first;
      second = root ∙ f.second;
      roots = c.roots ∙ f.roots;
      entries = c.entries ∙ f.entries;
      expiries = f.expiries;
      lists = tasks ∙ f.lists;
      depth = depth ∙ f.depth;
      few = f.few;
      once = once;
    }

-- the class lists have changed
pub lists_changed : (s : Script) (q : Queues) (lists : ClassLists) → Fits s q → lists.tasks ≡ q.lists.tasks → ((i : ℕ) → listed i (book_of 0 (record { forest = q.forest; timers = q.timers; runners = q.runners; lists = lists })) ≤ 1) → Fits s (record { forest = q.forest; timers = q.timers; runners = q.runners; lists = lists })
lists_changed s q lists f tasks once = record {
  keyed = f.keyed;
  timers = f.timers;
  runners = f.runners;
  first = f.first;
  second = f.second;
  roots = f.roots;
  entries = f.entries;
  expiries = f.expiries;
  lists = tasks ∙ f.lists;
  depth = f.depth;
  few = f.few;
  once = once;
}
