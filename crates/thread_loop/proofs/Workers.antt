-- What keeps a worker's invariant: the tasks of its stages are tasks, fewer calls are left, rows go with takes.
use Rattle.std.proofs.Common.{◌≡◌, ℕ, ◌+◌, ◌-◌, ◌*◌, ◌^◌, ◌<◌, ◌≤◌, ◌==◌, List, [], ◌∷◌, length, get_or, Option, Some, None, refl, sym, ap, subst, ◌∙◌, arith, add-one, inl, inr, eq-eqb, if◌then◌else◌, IsTrue, IfSome, get_or-set_same, get_or-set_other, length-set}
use Rattle.std.specs.List.{range_with_len}
use Rattle.std.proofs.Math.ListN.{set}
use Rattle.std.proofs.lemmas.Bool.{cases_lt, cases_Bool, eqb-true}
use Rattle.std.proofs.lemmas.Bool.Decides.{eqb_tells}
use Rattle.std.proofs.lemmas.List.FromFn.{length-range_with_len}
use Rattle.sched_base.specs.declared.names.CallerId.{CallerId}
use Rattle.sched_base.specs.declared.names.TaskId.{TaskId}
use Rattle.queue_model.specs.Classes.{Next}
use Rattle.queue_model.specs.WaitList.{WaitItem, WaitList, expiry_of}
use Rattle.step_tables.specs.declared.tables.Action.{Action}
use Rattle.step_tables.specs.declared.tables.Action.TheVariants.{Wake as WakesOf, Kill as KillsOf}
use Rattle.step_tables.specs.declared.tables.Script.{Script}
use Rattle.step_tables.specs.Sound.{is_sound}
use Rattle.task_machine.specs.Step.{bit}
use Rattle.task_machine.specs.declared.calls.Call.{Call}
use Rattle.task_machine.specs.declared.calls.Call.TheVariants.{Wake, Kill, Post, Get, Draw, Take, DropRun, Retire}
use Rattle.task_machine.specs.declared.calls.Reply.{Reply}
use Rattle.task_machine.specs.declared.calls.Reply.TheVariants as replies
use Rattle.run_model.specs.Book.{Book}
use Rattle.run_model.specs.Replies.{takes_in}
use Rattle.run_model.specs.Tables.{call_of, groups, home_of, row_at, row_number}
use Rattle.run_model.proofs.Readings.{some_inj}
use Rattle.turn_steps.specs.Left as steps
use Rattle.turn_steps.specs.Left.{Left, gets, wakes, runs, acts, posts, drops, retires, returns, drawn, injects, carries, over, Stage, stage, next_in, take_call, asked_in, heard_in}
use Rattle.turn_steps.specs.Times.{listed}
use Rattle.turn_steps.specs.Has.{has, gain, CanGive, caller}
use Rattle.turn_steps.specs.Counts.{calls_left}
use Rattle.turn_steps.proofs.Fit.{sound_parts, within-parts, IsFit-sound}
use Rattle.turn_steps.proofs.Hears.{grows}
use Rattle.turn_steps.proofs.Measure.{within-gets, calls_left-heard, calls_left-went}
use Rattle.turn_steps.proofs.Stages.{has-gets}
use Rattle.thread_loop.specs.Queues.{book_of}
use Rattle.thread_loop.specs.Turns.{book_in, stage_at, unsettled, unsettled_in, NamesTasks, IsGiven, KnowsRow, take_of}
use Rattle.thread_loop.specs.Workers.{RowsFit, is_taken, takes_after, takes_of, TellsTakes}
use Rattle.thread_loop.specs.declared.queues.Queues.{Queues}
use Rattle.thread_loop.specs.declared.worker.Worker.{Worker}
use Rattle.thread_loop.specs.declared.turn.Phase.{Phase}
use Rattle.thread_loop.specs.declared.turn.Phase.TheVariants.{Gets, Wakes, Runs, Acts, Posts, Drops, Retires, Returns, Drawn}
use Rattle.thread_loop.proofs.Scripts.{few_tasks, few_groups}
use Rattle.thread_loop.proofs.Turns.{next-listed}

-- ---- books

-- the book of a stage lists what the queues list
listed-book : (i T U : ℕ) (q : Queues) (p : Phase) → listed i (book_in T q p) ≡ listed i (book_of U q)
listed-book i T U q (Gets g) = refl
listed-book i T U q (Wakes j) = refl
listed-book i T U q (Runs o) = refl
listed-book i T U q (Acts run n) = refl
listed-book i T U q (Posts run n j) = refl
listed-book i T U q (Drops j o) = refl
listed-book i T U q (Retires held j o) = refl
listed-book i T U q (Returns j o) = refl
listed-book i T U q (Drawn j n) = refl

-- where no call is asked, the book of the stage is that of the queues
pub over_book : (s : Script) (T : ℕ) (q : Queues) (p : Phase) → steps.asked s (stage_at s T q p) ≡ None → book_of T q ≡ book_in T q p
over_book s T q (Gets g) e = refl
over_book s T q (Wakes j) e = cc
over_book s T q (Runs o) e = refl
over_book s T q (Acts run n) e = refl
over_book s T q (Posts run n j) e = refl
over_book s T q (Drops j o) e = refl
over_book s T q (Retires held j o) e = refl
over_book s T q (Returns j o) e = refl
over_book s T q (Drawn j n) e = refl

-- ---- what is named

pub begun_names : (s : Script) (T U : ℕ) (q : Queues) (p : Phase) → NamesTasks s (stage_at s T q p) → NamesTasks s (steps.begun s U (book_of U q))
begun_names s T U q p h i some =
    let at = has-gets s U i (range_with_len 0 (groups s)) (book_of U q) in
    let same = listed-book i T U q p in
    h i (omega arith)

names-heard : (s : Script) (w : CallerId) (T : ℕ) (l : Left) (b : Book) (r : Reply) (c : Call) → asked_in s l b ≡ Some c → CanGive s (stage l b) c r → NamesTasks s (stage l b) → NamesTasks s (heard_in s w T r l b)
names-heard s w T l b r c e can h i some =
    let most = (grows s w T i l b c r e).most in
    elim (cases_lt 0 (gain i c r)) [ inl lt ↦ can.tasks i lt | inr ge ↦ h i (omega arith) ]

pub heard_names : (s : Script) (w : CallerId) (T : ℕ) (g : Stage) (r : Reply) → IsGiven s g r → NamesTasks s g → NamesTasks s (steps.heard s w T r g)
heard_names s w T g r given h = names-heard s w T g.left g.book r given.0 given.1 given.2 h

pub drew_names : (s : Script) (i : ℕ) (g : Stage) → i < length s.tasks → NamesTasks s g → NamesTasks s (steps.drew s i g)
drew_names s i g lt h j some =
    elim (cases_Bool (j == i)) [
      | inl k ↦ let same : j ≡ i = eqb-true j i k in omega arith
      | inr k ↦ let none = ap bit k in h j (omega arith)
    ]

-- ---- how many calls are left

pub begun_calls : (s : Script) (U : ℕ) (b : Book) → IsTrue (is_sound s) → length b.wait.items ≤ length s.tasks → calls_left s.depth (steps.begun s U b).left (steps.begun s U b).book ≤ 75265
begun_calls s U b sound few =
    let most = (within-gets s U (range_with_len 0 (groups s)) b).calls in
    let groups_are = length-range_with_len 0 (groups s) in
    let groups_few = few_groups s sound in
    let tasks_few = few_tasks s sound in
    let depth = within-parts 1 1000 s.depth (sound_parts s sound).depth in
    omega (arith, depth.1)

pub heard_calls : (s : Script) (w : CallerId) (T : ℕ) (g : Stage) (r : Reply) → IsTrue (is_sound s) → IsGiven s g r → calls_left s.depth (steps.heard s w T r g).left (steps.heard s w T r g).book < calls_left s.depth g.left g.book
heard_calls s w T g r sound given = calls_left-heard s w T r g.left g.book given.0 (IsFit-sound s sound) given.1

pub drew_calls : (s : Script) (i : ℕ) (g : Stage) → IsTrue (is_sound s) → home_of s i ≡ s.workers → 0 < steps.draws_now s g → calls_left s.depth (steps.drew s i g).left (steps.drew s i g).book < calls_left s.depth g.left g.book
drew_calls s i g sound shared some = calls_left-went s (caller 0) 0 (Draw (record { 0 = i })) replies.Done g (IsFit-sound s sound) (inr (record { task = i; call = refl; shared = shared; some = some }))

-- room for all turns: at most 2^13 are put in by each call, and as many as the timers settle
pub unsettled-le : (l : WaitList) → unsettled l ≤ 1
unsettled-le l = first l.items
  where
    first : (items : List WaitItem) → unsettled_in l items ≤ 1
    first [] = omega arith
    first (y ∷ ys) = elim (cases_Bool (expiry_of l y.task == y.key)) [ inl k ↦ rw k (omega arith) | inr k ↦ rw k (omega arith) ]

pub room_after : (m n c d u v t : ℕ) → n ≤ m + 2 ^ 13 → d < c → v ≤ 1 → m + (2 ^ 14 * c + 2 ^ 13 * u) ≤ t → n + (2 ^ 14 * d + 2 ^ 13 * v) ≤ t
room_after m n c d u v t grows less one room = omega arith

pub room_begun : (m n c d u v t : ℕ) → n ≤ m + 2 ^ 13 → d ≤ 75265 → v ≤ 1 → m + (2 ^ 14 * c + 2 ^ 13 * u) ≤ t * 2 ^ 31 → n + (2 ^ 14 * d + 2 ^ 13 * v) ≤ (t + 1) * 2 ^ 31
room_begun m n c d u v t grows few one room = omega arith

-- ---- takes

take-is : (o : Option Call) (i : TaskId) → take_of o ≡ Some i → o ≡ Some (Take i)
take-is None i e = cc
take-is (Some (Wake j f)) i e = cc
take-is (Some (Kill j)) i e = cc
take-is (Some (Post j b)) i e = cc
take-is (Some (Get g)) i e = cc
take-is (Some (Draw j)) i e = cc
take-is (Some (Take j)) i e = ap (λ (k : TaskId). Some (Take k)) (some_inj _ _ e)
take-is (Some (DropRun j)) i e = cc
take-is (Some (Retire j)) i e = cc

same-bit : (i : ℕ) → bit (i == i) ≡ 1
same-bit i = ap bit (eq-eqb i i refl)

next-takes : (o : Option Next) (i : TaskId) → take_call o ≡ Some (Take i) → (x : Next) × (o ≡ Some x) × (x.task ≡ i.0)
next-takes None i e = cc
next-takes (Some x) i e = (x, refl, let f : Call → ℕ = task-of in ap f (some_inj _ _ e))
  where
    task-of : Call → ℕ
    task-of (Take j) = j.0
    task-of c = 0

action-takes : (a : Action) (i : TaskId) → call_of a ≡ Take i → ⊥
action-takes (WakesOf j f) i e = cc
action-takes (KillsOf j) i e = cc

-- a task that is taken next is one that the caller has
takes-has : (s : Script) (l : Left) (b : Book) (i : TaskId) → asked_in s l b ≡ Some (Take i) → 0 < has i.0 (stage l b)
takes-has s (gets g gs) b i e = cc
takes-has s (wakes j js) b i e = cc
takes-has s (runs q) b i e =
    let h = next-takes (next_in q b) i e in
    let some : 0 < listed i.0 b = subst (λ j. 0 < listed j b) h.2 (next-listed q b h.0 h.1) in
    omega arith
takes-has s (acts a more j row q) b i e = absurd (action-takes a i (some_inj _ _ e))
takes-has s (posts k more j row q) b i e = cc
takes-has s (drops j q) b i e = cc
takes-has s (retires held j q) b i e = cc
takes-has s (returns j q) b i e = cc
takes-has s (drawn j n) b i e =
    let same : i.0 ≡ j = cc in
    let one : bit (i.0 == j) ≡ 1 = ap bit (eq-eqb i.0 j same) in
    omega arith
takes-has s (injects a more) b i e = absurd (action-takes a i (some_inj _ _ e))
takes-has s (carries j more) b i e = cc
takes-has s over b i e = cc

pub taken_in : (s : Script) (g : Stage) (o : Option TaskId) (n : ℕ) → o ≡ take_of (steps.asked s g) → NamesTasks s g → n ≡ length s.tasks → IfSome o (λ i. i.0 < n)
taken_in s g None n e h same = tt
taken_in s g (Some i) n e h same =
    let lt = h i.0 (takes-has s g.left g.book i (take-is (steps.asked s g) i (sym e))) in
    omega arith

-- the row of the task that is taken next is the one of the takes that the reply tells
pub row_known : (s : Script) (w : Worker) (g : Stage) (o : Option TaskId) (row : ℕ) (r : Reply) → o ≡ take_of (steps.asked s g) → NamesTasks s g → RowsFit s w.rows.items w.takes.items → ((c : Call) → steps.asked s g ≡ Some c → TellsTakes w c r) → IfSome o (λ i. row ≡ get_or w.rows.items i.0 0) → KnowsRow s row g r
unfolding takes_of
row_known s w g None row r e h fit tells same i is = cc
row_known s w g (Some j) row r e h fit tells same i is =
    let call = take-is (steps.asked s g) i is in
    let one : j ≡ i = some_inj _ _ (e ∙ is) in
    let told : takes_in r ≡ get_or w.takes.items i.0 0 = (tells (Take i) call).0 in
    let lt = h i.0 (takes-has s g.left g.book i call) in
    same ∙ ap (λ (k : TaskId). get_or w.rows.items k.0 0) one ∙ fit.same i.0 lt ∙ ap (row_number s i.0) (sym told)

-- and it can be taken once more
pub takes_few : (w : Worker) (g : Stage) (s : Script) (o : Option TaskId) (r : Reply) → o ≡ take_of (steps.asked s g) → ((c : Call) → steps.asked s g ≡ Some c → TellsTakes w c r) → IfSome o (λ i. get_or w.takes.items i.0 0 < 2 ^ 48 - 1)
unfolding takes_of
takes_few w g s None r e tells = tt
takes_few w g s (Some j) r e tells =
    let told = tells (Take j) (take-is (steps.asked s g) j (sym e)) in
    let same : takes_in r ≡ get_or w.takes.items j.0 0 = told.0 in
    let few : takes_in r < 2 ^ 48 - 1 = told.1 in
    omega arith

pub counted : (c : Call) (i t : ℕ) → (if is_taken i (take_of (Some c)) then t + 1 else t) ≡ takes_after c i t
counted (Wake j f) i t = refl
counted (Kill j) i t = refl
counted (Post j b) i t = refl
counted (Get g) i t = refl
counted (Draw j) i t = refl
counted (Take j) i t = refl
counted (DropRun j) i t = refl
counted (Retire j) i t = refl

-- ---- rows

-- a task's row and takes told anew
pub rows_told : (s : Script) (rows takes : List ℕ) (i row t : ℕ) → RowsFit s rows takes → i < length s.tasks → row ≡ row_number s i t → RowsFit s (set rows i row) (set takes i t)
rows_told s rows takes i row t h lt is = record {
  rows = length-set rows i row ∙ h.rows;
  takes = length-set takes i t ∙ h.takes;
  same = λ j below.
      elim (eqb_tells j i) [
        | inl k ↦
            let in-rows : i < length rows = omega (arith, h.rows) in
            let in-takes : i < length takes = omega (arith, h.takes) in
            let at : get_or (set rows i row) i 0 ≡ row_number s i (get_or (set takes i t) i 0) = rw (get_or-set_same rows i row 0 in-rows, get_or-set_same takes i t 0 in-takes) is in
            subst (λ j. get_or (set rows i row) j 0 ≡ row_number s j (get_or (set takes i t) j 0)) (sym k.1) at
        | inr k ↦ let ne = k.1 in rw (get_or-set_other rows i j row 0 ne, get_or-set_other takes i j t 0 ne) (h.same j below)
      ];
}

-- and after a take
pub rows_counted : (s : Script) (rows takes : List ℕ) (i row : ℕ) → RowsFit s rows takes → i < length s.tasks → row ≡ (row_at s i (get_or rows i 0)).next → RowsFit s (set rows i row) (set takes i (get_or takes i 0 + 1))
rows_counted s rows takes i row h lt is =
    rows_told s rows takes i row (get_or takes i 0 + 1) h lt (rw add-one (is ∙ ap (λ n. (row_at s i n).next) (h.same i lt)))
