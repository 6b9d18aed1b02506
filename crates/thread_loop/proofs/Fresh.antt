-- New queues fit their script.
use Rattle.std.proofs.Common.{◌≡◌, ℕ, ◌*◌, ◌≤◌, [], length, map, replicate, sym, ap, subst, ◌∙◌, arith}
use Rattle.std.proofs.lemmas.List.{length-replicate}
use Rattle.sched_base.specs.KeyedList.{AreKeyed, KeyedList, KeyedRoots, root_at, holds, blank}
use Rattle.eb32_core.specs.Forest.{Grove, seen_of}
use Rattle.queue_model.specs.RunList.{RunList}
use Rattle.queue_model.specs.Walk.{walked}
use Rattle.step_tables.specs.declared.tables.Script.{Script}
use Rattle.run_model.specs.Standing.{no_run}
use Rattle.tasklet_lists.specs.ClassLists.{ClassLists, no_lists}
use Rattle.turn_steps.specs.Times.{in_classes}
use Rattle.wait_queue.specs.Timers.{Timers}
use Rattle.wait_queue.specs.Timers as timers
use Rattle.wait_queue.proofs.Meaning.{blank_root, ready_blank}
use Rattle.run_queue.specs.Runners.{Runners, run_list}
use Rattle.run_queue.specs.Runners as runners
use Rattle.thread_loop.specs.Queues.{Fits}
use Rattle.thread_loop.proofs.Once.{in_run}

-- two empty roots of two entries for each of n tasks
abbrev pub empty_roots : ℕ → KeyedRoots
empty_roots n = record { roots = replicate 2 blank; entries = 2 * n }

runners_ready : (n : ℕ) → runners.IsReady 1 (empty_roots n)
runners_ready n = record {
  exists = rw (length-replicate 2 blank) (omega arith);
  empty = ap (λ (l : KeyedList). l.items) (blank_root 2 1);
  apart = λ other task within ne. ap (holds (runners.entry_of task)) (blank_root 2 other);
}

no_runners : (q : Runners) (lists : KeyedRoots) → root_at q.root lists ≡ blank → q.count ≡ 0 → run_list q lists ≡ no_run
no_runners q lists e none =
    ap (λ (l : KeyedList). let r : RunList = record { count = q.count; items = map (runners.run_item q.count) (walked (runners.now_of q.count) l.items) } in r) e ∙ ap (λ k. let r : RunList = record { count = k; items = [] } in r) none

-- new queues
pub fresh : (s : Script) (n depth : ℕ) (forest : Grove) (time : Timers) (run : Runners) (lists : ClassLists) → n ≡ length s.tasks → n ≤ 4096 → depth ≡ s.depth → AreKeyed (seen_of forest) → seen_of forest ≡ empty_roots n → time ≡ record { root = 0; expiries = replicate n 0 } → ((l : KeyedRoots) → timers.IsReady 0 n l → timers.Fits time l) → run ≡ record { root = 1; depth = depth; count = 0; waiting = 0 } → ((l : KeyedRoots) → runners.IsReady 1 l → runners.Fits run l) → lists ≡ record { tasks = n; lists = no_lists } → Fits s (record { forest = forest; timers = time; runners = run; lists = lists })
fresh s n depth forest time run lists few most deep keyed empty t t_fits r r_fits l =
    let root : run.root ≡ 1 = ap (λ (q : Runners). q.root) r in
    let vacant : root_at run.root (seen_of forest) ≡ blank = ap (λ k. root_at k (seen_of forest)) root ∙ ap (root_at 1) empty ∙ blank_root 2 1 in
    let run_is : run_list run (seen_of forest) ≡ no_run = no_runners run (seen_of forest) vacant (ap (λ (q : Runners). q.count) r) in
    record {
      keyed = keyed;
      timers = t_fits (seen_of forest) (subst (λ (k : KeyedRoots). timers.IsReady 0 n k) (sym empty) (ready_blank 2 (2 * n) 0 n (omega arith) (omega arith) (omega arith)));
      runners = r_fits (seen_of forest) (subst (λ (k : KeyedRoots). runners.IsReady 1 k) (sym empty) (runners_ready n));
      first = ap (λ (q : Timers). q.root) t;
      second = root;
      roots = ap (λ (k : KeyedRoots). length k.roots) empty ∙ length-replicate 2 blank;
      entries = ap (λ (k : KeyedRoots). k.entries) empty ∙ ap (λ k. 2 * k) few;
      expiries = ap (λ (q : Timers). length q.expiries) t ∙ length-replicate n 0 ∙ few;
      lists = ap (λ (c : ClassLists). c.tasks) l ∙ few;
      depth = ap (λ (q : Runners). q.depth) r ∙ deep;
      few = rw (← few) most;
      once = λ i.
          let a : in_run i (run_list run (seen_of forest)) ≡ 0 = ap (in_run i) run_is in
          let b : in_classes i lists.lists ≡ 0 = ap (λ (c : ClassLists). in_classes i c.lists) l in
          omega arith;
    }
