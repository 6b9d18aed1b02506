-- What a worker's queues stand for, and when they fit a script (docs/MODEL.md, "The worker").
use Rattle.std.specs.Prelude.{◌≡◌, ℕ, ◌+◌, ◌*◌, ◌≤◌, Option, None, Some, length}
use Rattle.sched_base.specs.KeyedList.{AreKeyed, root_at}
use Rattle.queue_model.specs.Classes.{Classes, Next}
use Rattle.wait_queue.specs.Timers.{wait_list}
use Rattle.wait_queue.specs.Timers as timers
use Rattle.run_queue.specs.Runners.{run_list}
use Rattle.run_queue.specs.Runners as runners
use Rattle.eb32_core.specs.Forest.{seen_of}
use Rattle.step_tables.specs.declared.tables.Script.{Script}
use Rattle.run_model.specs.Book.{Book}
use Rattle.turn_steps.specs.Times.{listed}
use Rattle.thread_loop.specs.declared.queues.Queues.{Queues}
use Rattle.thread_loop.specs.declared.queues.Quotas.{Quotas}
use Rattle.thread_loop.specs.declared.queues.NextRun.{NextRun}

-- the book that queues stand for, their timers as seen from tick T
abbrev pub book_of : ℕ → Queues → Book
book_of T q = record { wait = wait_list T q.timers (seen_of q.forest); run = run_list q.runners (seen_of q.forest); lists = q.lists.lists }

-- how many tasks were ever put in: into each root, and the count of arrivals
abbrev pub made_of : Queues → ℕ
made_of q = (root_at 0 (seen_of q.forest)).insertions + (root_at 1 (seen_of q.forest)).insertions + q.runners.count

-- at most n more were put in
pub record Grows (n : ℕ) (old new : Queues) : Type 0 where
  pub grows : made_of old ≤ made_of new
  pub bound : made_of new ≤ made_of old + n

-- quotas as numbers for the classes
abbrev pub quotas_of : Quotas → Classes ℕ
quotas_of q = record { urgent = q.urgent; normal = q.normal; bulk = q.bulk; heavy = q.heavy }

-- the task that runs next
abbrev pub next_of : Option NextRun → Option Next
next_of None = None
next_of (Some x) = Some (record { class = x.class; task = x.task.0 })

-- the queues are those of a worker of the script: two roots of one forest with two entries a task; no task is listed twice
pub record Fits (s : Script) (q : Queues) : Type 0 where
  pub keyed : AreKeyed (seen_of q.forest)
  pub timers : timers.Fits q.timers (seen_of q.forest)
  pub runners : runners.Fits q.runners (seen_of q.forest)
  pub first : q.timers.root ≡ 0
  pub second : q.runners.root ≡ 1
  pub roots : length (seen_of q.forest).roots ≡ 2
  pub entries : (seen_of q.forest).entries ≡ 2 * length s.tasks
  pub expiries : length q.timers.expiries ≡ length s.tasks
  pub lists : q.lists.tasks ≡ length s.tasks
  pub depth : q.runners.depth ≡ s.depth
  pub few : length s.tasks ≤ 4096
  pub once : (i : ℕ) → listed i (book_of 0 q) ≤ 1
