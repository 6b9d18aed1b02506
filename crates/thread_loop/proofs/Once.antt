-- A task that no list counts stands in none, and no task comes to be listed twice.
use Rattle.std.proofs.Common.{◌≡◌, ℕ, ◌+◌, ◌*◌, ◌/◌, ◌≤◌, ◌<◌, ◌==◌, false, List, [], ◌∷◌, Option, Some, None, map, drop, length, refl, sym, ap, ◌∙◌, arith, inl, inr, eq-eqb, ne_eqb}
use Rattle.std.specs.Prelude.{ℤ}
use Rattle.std.specs.List.{list_any, AllByRecursion}
use Rattle.std.proofs.lemmas.Bool.{cases_Bool, cases_eq}
use Rattle.sched_base.specs.declared.names.Class.{Class}
use Rattle.queue_model.specs.Classes.{Classes, pushed}
use Rattle.queue_model.specs.RunList.{RunItem, RunList, arrived, without_least, is_listed}
use Rattle.run_model.specs.Book.{Book}
use Rattle.eb32_core.specs.Forest.{seen_of}
use Rattle.run_queue.specs.Runners.{first_task, now_of, entry_of, run_item, in_order, IsRunner}
use Rattle.sched_base.specs.declared.names.TaskId.{TaskId}
use Rattle.sched_base.specs.KeyedList.{KeyedItem, root_at}
use Rattle.queue_model.proofs.Walk.{all-walked}
use Rattle.std.specs.Option.{option_map, IfSome}
use Rattle.step_tables.specs.declared.tables.Script.{Script}
use Rattle.thread_loop.specs.declared.queues.Queues.{Queues}
use Rattle.thread_loop.specs.Queues.{book_of, Fits}
use Rattle.task_machine.specs.Step.{bit}
use Rattle.tasklet_lists.specs.ClassLists.{stands_in, is_pushed}
use Rattle.turn_steps.specs.Times.{times, in_classes, listed}
use Rattle.turn_steps.proofs.Books.{times-inserted, lists-pushed}

abbrev pub task_of : RunItem → ℕ
task_of y = y.task

abbrev pub in_run : ℕ → RunList → ℕ
in_run i l = times i (map task_of l.items)

-- ---- tests

pub not_standing : (i : ℕ) (js : List ℕ) → times i js ≡ 0 → stands_in i js ≡ false
not_standing i [] h = refl
not_standing i (j ∷ js) h =
    elim (cases_Bool (i == j)) [
      | inl k ↦ let one : 1 + times i js ≡ 0 = rw k at h in absurd (omega arith)
      | inr k ↦ let rest : 0 + times i js ≡ 0 = rw k at h in rw k (not_standing i js (omega arith))
    ]

not_waiting : (i : ℕ) (ys : List RunItem) → times i (map task_of ys) ≡ 0 → list_any (λ (y : RunItem). y.task == i) ys ≡ false
not_waiting i [] h = refl
not_waiting i (y ∷ ys) h =
    elim (cases_eq i y.task) [
      | inl k ↦ let one : 1 + times i (map task_of ys) ≡ 0 = rw (eq-eqb i y.task k) at h in absurd (omega arith)
      | inr k ↦
          let rest : 0 + times i (map task_of ys) ≡ 0 = rw (ne_eqb i y.task k) at h in
          rw (ne_eqb y.task i (λ e. k (sym e))) (not_waiting i ys (omega arith))
    ]

-- a task that is not listed does not wait to run
pub not_listed : (i : ℕ) (b : Book) → listed i b ≡ 0 → is_listed i b.run ≡ false
not_listed i b h = not_waiting i b.run.items (omega arith)

-- a task that is in no class's list
pub not_pushed : (i : ℕ) (c : Classes (List ℕ)) → in_classes i c ≡ 0 → is_pushed i c ≡ false
not_pushed i c h =
    rw (not_standing i c.urgent (omega arith), not_standing i c.normal (omega arith), not_standing i c.bulk (omega arith), not_standing i c.heavy (omega arith)) refl

-- ---- numbers

once_more : (n i j : ℕ) → n ≤ 1 → (i ≡ j → n ≡ 0) → bit (i == j) + n ≤ 1
once_more n i j h none =
    elim (cases_eq i j) [ inl k ↦ let z : n ≡ 0 = none k in rw (eq-eqb i j k) (omega arith) | inr k ↦ rw (ne_eqb i j k) (omega arith) ]

-- a task that was not listed arrives
pub once_arrived : (depth id : ℕ) (nice : ℤ) (b : Book) (run : RunList) → ((i : ℕ) → listed i b ≤ 1) → listed id b ≡ 0 → run ≡ arrived depth id nice b.run → (i : ℕ) → in_run i run + in_classes i b.lists ≤ 1
once_arrived depth id nice b run once absent e i =
    let more : bit (i == id) + listed i b ≤ 1 = once_more (listed i b) i id (once i) (λ k. ap (λ j. listed j b) k ∙ absent) in
    let now : in_run i run ≡ bit (i == id) + in_run i b.run = ap (in_run i) e ∙ times-inserted i _ _ b.run.items in
    omega arith

-- a task that was not listed joins a class's list
pub once_joined : (k : Class) (id : ℕ) (b : Book) → ((i : ℕ) → listed i b ≤ 1) → listed id b ≡ 0 → (i : ℕ) → in_run i b.run + in_classes i (pushed k (id ∷ []) b.lists) ≤ 1
once_joined k id b once absent i =
    let more : bit (i == id) + listed i b ≤ 1 = once_more (listed i b) i id (once i) (λ k. ap (λ j. listed j b) k ∙ absent) in
    let now : in_classes i (pushed k (id ∷ []) b.lists) ≡ in_classes i b.lists + (bit (i == id) + 0) = lists-pushed i k (id ∷ []) b.lists in
    omega arith

-- ---- the first task of the run list

first_counted : (id : ℕ) (ys : List RunItem) → Some id ≡ first_task ys → (i : ℕ) → bit (i == id) + times i (map task_of (drop 1 ys)) ≡ times i (map task_of ys)
first_counted id [] h i = cc
first_counted id (y ∷ ys) h i = let e : id ≡ y.task = cc in rw e refl

bit_same : (i : ℕ) → bit (i == i) ≡ 1
bit_same i = rw (eq-eqb i i refl) refl

-- once it is picked, no list counts it, and no other task more than once
pub once_picked : (b : Book) (run : RunList) → ((i : ℕ) → listed i b ≤ 1) → run ≡ without_least 1 b.run → (i : ℕ) → in_run i run + in_classes i b.lists ≤ 1
once_picked b run once e i =
    let now : in_run i run ≡ times i (map task_of (drop 1 b.run.items)) = ap (in_run i) e in
    let fewer = times-rest i b.run.items in
    let most = once i in
    omega arith
  where
    times-rest : (i : ℕ) (ys : List RunItem) → times i (map task_of (drop 1 ys)) ≤ times i (map task_of ys)
    times-rest i [] = omega arith
    times-rest i (y ∷ ys) = omega arith

abbrev pub NoneListed : RunList → Classes (List ℕ) → Option TaskId → Type 0
NoneListed run lists o = IfSome o (λ (id : TaskId). in_run id.0 run + in_classes id.0 lists ≡ 0)

pub picked_absent : (b : Book) (run : RunList) → ((i : ℕ) → listed i b ≤ 1) → run ≡ without_least 1 b.run → (o : Option TaskId) → option_map (λ (id : TaskId). id.0) o ≡ first_task b.run.items → NoneListed run b.lists o
picked_absent b run once e None h = tt
picked_absent b run once e (Some id) h =
    let there = first_counted id.0 b.run.items h id.0 in
    let one = bit_same id.0 in
    let now : in_run id.0 run ≡ times id.0 (map task_of (drop 1 b.run.items)) = ap (in_run id.0) e in
    let most = once id.0 in
    omega arith

first_below : (n count entries : ℕ) (xs : List KeyedItem) (o : Option TaskId) → entries ≡ 2 * n → AllByRecursion (IsRunner entries) xs → option_map (λ (id : TaskId). id.0) o ≡ first_task (map (run_item count) xs) → IfSome o (λ (id : TaskId). id.0 < n)
first_below n count entries xs None e all h = tt
first_below n count entries [] (Some id) e all h = cc
first_below n count entries (x ∷ xs) (Some id) e all h =
    let own : id.0 ≡ x.entry / 2 = cc in
    let odd : x.entry ≡ entry_of (x.entry / 2) = all.0.entry in
    let lt : x.entry < entries = all.0.exists in
    omega arith

-- the first task of the run list is one of the script's
pub first_exists : (s : Script) (q : Queues) (o : Option TaskId) → Fits s q → option_map (λ (id : TaskId). id.0) o ≡ first_task (book_of 0 q).run.items → IfSome o (λ (id : TaskId). id.0 < length s.tasks)
first_exists s q o f h =
    let items : List KeyedItem = (root_at q.runners.root (seen_of q.forest)).items in
    first_below (length s.tasks) q.runners.count (seen_of q.forest).entries (in_order q.runners (seen_of q.forest)) o f.entries (all-walked (IsRunner (seen_of q.forest).entries) (now_of q.runners.count) items f.runners.runners) h
