-- The timers of a worker: each is a task's, and seen from near ticks they are the same.
use Rattle.std.proofs.Common.{◌≡◌, ℕ, ◌/◌, ◌≤◌, ◌<◌, ◌^◌, List, [], ◌∷◌, Option, Some, None, map, length, sym, ap, ◌∙◌, arith, pos, negsuc, ◌+ℤ◌, ◌≤ℤ◌, ◌-◌, ◌+◌}
use Rattle.std.specs.Prelude.{ℤ}
use Rattle.std.specs.List.{AllByRecursion}
use Rattle.std.proofs.lemmas.Int.{ints}
use Rattle.std.proofs.lemmas.List.{length-map}
use Rattle.std.proofs.lemmas.Map.Steps.{length-le_from_distinct_below}
use Rattle.sched_base.specs.KeyedList.{KeyedItem, root_at}
use Rattle.sched_base.proofs.Inserted.{all-map, all-weaker}
use Rattle.sched_base.proofs.Once.{in_all, all_in}
use Rattle.eb32_core.specs.Forest.{seen_of}
use Rattle.queue_model.specs.Ticks.{distance}
use Rattle.queue_model.specs.WaitList.{WaitItem, WaitList}
use Rattle.queue_model.specs.Walk.{walked}
use Rattle.queue_model.specs.Window.{IsNear, AreNear}
use Rattle.queue_model.specs.Clock.{off, IsWithin, Window, behind}
use Rattle.queue_model.proofs.Settles.{off_is}
use Rattle.queue_model.proofs.Walk.{all-walked}
use Rattle.queue_model.proofs.WalkItems.{once_walked, in_walked}
use Rattle.queue_model.specs.Laws.{SweepGoesOn}
use Rattle.queue_model.specs.Sweep.{due, fired, swept}
use Rattle.queue_model.specs.SweepStep.{is_due, TasksApart, first_fired, swept_once}
use Rattle.queue_model.proofs.WholeSweep.{sweeps_on, apart-filter}
use Rattle.sched_base.specs.declared.names.TaskId.{TaskId}
use Rattle.std.specs.Option.{option_map, IfNone, IfSome}
use Rattle.step_tables.specs.declared.tables.Script.{Script}
use Rattle.wait_queue.specs.Timers.{IsTimer, wait_item}
use Rattle.wait_queue.proofs.Meaning.{tasks_distinct, tasks_below}
use Rattle.wait_queue.proofs.Whole.{lists_stay, ordered_list, tasks_apart}
use Rattle.thread_loop.specs.declared.queues.Queues.{Queues}
use Rattle.run_model.specs.Book.{Book}
use Rattle.thread_loop.specs.Queues.{book_of, Fits}

-- the items of the timers, as seen from tick T
abbrev pub items_of : ℕ → Queues → List KeyedItem
items_of T q = walked T (root_at q.timers.root (seen_of q.forest)).items

timers : (s : Script) (q : Queues) (T : ℕ) → Fits s q → AllByRecursion (IsTimer (length q.timers.expiries)) (items_of T q)
timers s q T f = all-walked (IsTimer (length q.timers.expiries)) T (root_at q.timers.root (seen_of q.forest)).items f.timers.timers

-- each timer is a task's
pub timers_are_tasks : (s : Script) (q : Queues) (T : ℕ) → Fits s q → AllByRecursion (λ (y : WaitItem). y.task < length s.tasks) (book_of T q).wait.items
timers_are_tasks s q T f =
    let few : length q.timers.expiries ≡ length s.tasks = f.expiries in
    all-map wait_item (λ (y : WaitItem). y.task < length s.tasks) (items_of T q) (all-weaker (IsTimer (length q.timers.expiries)) (λ (y : KeyedItem). y.entry / 2 < length s.tasks) (items_of T q) (λ y h. let t : y.entry / 2 < length q.timers.expiries = h.task in omega arith) (timers s q T f))

-- there are no more timers than tasks
pub few_timers : (s : Script) (q : Queues) (T : ℕ) → Fits s q → length (book_of T q).wait.items ≤ length s.tasks
few_timers s q T f =
    let n : ℕ = length q.timers.expiries in
    let items : List KeyedItem = items_of T q in
    let once = once_walked T (root_at q.timers.root (seen_of q.forest)).items (f.keyed.keyed q.timers.root f.timers.exists).once in
    let count : length (map (λ (y : KeyedItem). y.entry / 2) items) ≤ n = length-le_from_distinct_below _ n (tasks_distinct n items (timers s q T f) once) (tasks_below n items (timers s q T f)) in
    let few : length q.timers.expiries ≡ length s.tasks = f.expiries in
    omega (arith, length-map items (λ (y : KeyedItem). y.entry / 2), length-map items wait_item)

-- ---- a sweep

goes_on : (s : Script) (q : Queues) (now : ℕ) → now < 2 ^ 32 → Fits s q → SweepGoesOn now (book_of now q).wait
goes_on s q now n f =
    let w : WaitList = (book_of now q).wait in
    let once = once_walked now (root_at q.timers.root (seen_of q.forest)).items (f.keyed.keyed q.timers.root f.timers.exists).once in
    let apart : TasksApart (due now w) = apart-filter (is_due now) w.items (tasks_apart (length q.timers.expiries) (items_of now q) (timers s q now f) once) in
    sweeps_on now w (ordered_list now q.timers (seen_of q.forest) n f.keyed f.timers) apart

-- what holds of a list and the next one where a step answers none, and where it answers a task
abbrev pub Ends : ℕ → WaitList → WaitList → Type 0
Ends now old new = (fired now old ≡ []) × (new ≡ swept now old)

abbrev pub Goes : ℕ → WaitList → WaitList → TaskId → Type 0
Goes now old new id = (fired now old ≡ id.0 ∷ fired now new) × (swept now new ≡ swept now old)

step_ends : (now : ℕ) (w new : WaitList) (r : Option TaskId) → option_map (λ (id : TaskId). id.0) r ≡ first_fired now w → new ≡ swept_once now w → SweepGoesOn now w → IfNone r (Ends now w new)
step_ends now w new None h e on = let none = on.none (sym h) in (none.0, e ∙ sym none.1)
step_ends now w new (Some i) h e on = tt

step_goes : (now : ℕ) (w new : WaitList) (r : Option TaskId) → option_map (λ (id : TaskId). id.0) r ≡ first_fired now w → new ≡ swept_once now w → SweepGoesOn now w → IfSome r (Goes now w new)
step_goes now w new None h e on = tt
step_goes now w new (Some i) h e on = let some = on.some i.0 (sym h) in (some.0 ∙ ap (λ (l : WaitList). i.0 ∷ fired now l) (sym e), ap (λ (l : WaitList). swept now l) e ∙ sym some.1)

-- a step that answers none is the end of the sweep
pub sweep_ends : (s : Script) (q : Queues) (now : ℕ) (r : Option TaskId) (new : WaitList) → now < 2 ^ 32 → Fits s q → option_map (λ (id : TaskId). id.0) r ≡ first_fired now (book_of now q).wait → new ≡ swept_once now (book_of now q).wait → IfNone r (Ends now (book_of now q).wait new)
sweep_ends s q now r new n f answers e = step_ends now (book_of now q).wait new r answers e (goes_on s q now n f)

-- one that answers a task leaves the rest of the sweep
pub sweep_goes : (s : Script) (q : Queues) (now : ℕ) (r : Option TaskId) (new : WaitList) → now < 2 ^ 32 → Fits s q → option_map (λ (id : TaskId). id.0) r ≡ first_fired now (book_of now q).wait → new ≡ swept_once now (book_of now q).wait → IfSome r (Goes now (book_of now q).wait new)
sweep_goes s q now r new n f answers e = step_goes now (book_of now q).wait new r answers e (goes_on s q now n f)

-- ---- the window

near_by : (x : ℤ) (n : ℕ) → x +ℤ pos (2 ^ 31) ≡ pos n → 2 ^ 31 - 2 ^ 20 ≤ n → n ≤ 2 ^ 31 + 2 ^ 30 + 1 → (negsuc (2 ^ 20 - 1) ≤ℤ x) × (x ≤ℤ pos (2 ^ 30 + 1))
near_by x n e low high = (omega (arith, ints), omega (arith, ints))

near : (now t : ℕ) → IsWithin behind now t → IsNear now t
near now t h = near_by (distance t now) (off t now) (off_is t now) h.2 h.3

within : (now : ℕ) (xs : List KeyedItem) → AllByRecursion (λ (y : WaitItem). IsWithin behind now y.key) (map wait_item xs) → AreNear now xs
within now [] h = tt
within now (x ∷ xs) h = (near now x.key h.0, within now xs h.1)

-- keys within the window of the list are near in the root
near_items : (q : Queues) (T now : ℕ) → Window behind now (book_of T q).wait → AreNear now (root_at q.timers.root (seen_of q.forest)).items
near_items q T now w =
    let items : List KeyedItem = (root_at q.timers.root (seen_of q.forest)).items in
    all_in (λ (y : KeyedItem). IsNear now y.key) items (λ y k. in_all (λ (z : KeyedItem). IsNear now z.key) y (items_of T q) (within now (items_of T q) w.keys) (in_walked T y items k))

-- while all timers lie in the window of both ticks, the book is the same from both
pub book_stays : (s : Script) (q : Queues) (before now : ℕ) → before < 2 ^ 32 → now < 2 ^ 32 → Fits s q → Window behind before (book_of before q).wait → Window behind now (book_of before q).wait → book_of now q ≡ book_of before q
book_stays s q before now b n f w v =
    ap (λ (l : WaitList). let k : Book = record { wait = l; run = (book_of before q).run; lists = (book_of before q).lists } in k) (lists_stay now before q.timers (seen_of q.forest) n b f.timers (near_items q before now v) (near_items q before before w))
