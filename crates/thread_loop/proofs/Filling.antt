-- The normal list filled from the run list, one task at a time.
use Rattle.std.proofs.Common.{◌≡◌, ℕ, zero, suc, ◌-◌, ◌<◌, ◌≤◌, List, [], ◌∷◌, ◌++◌, Some, None, map, take, drop, length, refl, sym, ap, ◌∙◌, arith, append_assoc, append-nil, length-append}
use Rattle.sched_base.specs.declared.names.Class.TheVariants.{Normal}
use Rattle.queue_model.specs.Classes.{Classes, pushed}
use Rattle.queue_model.specs.RunList.{RunItem, least, without_least}
use Rattle.queue_model.specs.WaitList.{WaitList}
use Rattle.run_model.specs.Book.{Book, filled}
use Rattle.run_queue.specs.Runners.{first_task}
use Rattle.thread_loop.proofs.Once.{task_of}

-- a book whose normal list takes the n first tasks
abbrev pub filled_by : ℕ → Book → Book
filled_by n b = record b { run = without_least n b.run; lists = pushed Normal (least n b.run) b.lists }

-- a book by its parts, the normal list apart
abbrev made : WaitList → ℕ → List RunItem → Classes (List ℕ) → List ℕ → Book
made w count items c normal = record { wait = w; run = record { count = count; items = items }; lists = record c { normal = normal } }

filled-none : (b : Book) → filled_by 0 b ≡ b
filled-none b = ap (λ normal. made b.wait b.run.count b.run.items b.lists normal) (append-nil b.lists.normal)

take-nil : (n : ℕ) → take n (let xs : List RunItem = [] in xs) ≡ []
take-nil zero = refl
take-nil (suc n) = refl

drop-nil : (n : ℕ) → drop n (let xs : List RunItem = [] in xs) ≡ []
drop-nil zero = refl
drop-nil (suc n) = refl

filled-empty : (n : ℕ) (b : Book) → b.run.items ≡ [] → filled_by n b ≡ b
filled-empty n b e =
    let no_items : drop n b.run.items ≡ b.run.items = ap (drop n) e ∙ drop-nil n ∙ sym e in
    let no_tasks : map task_of (take n b.run.items) ≡ [] = ap (λ (ys : List RunItem). map task_of (take n ys)) e ∙ ap (map task_of) (take-nil n) in
    ap (λ items. made b.wait b.run.count items b.lists (b.lists.normal ++ map task_of (take n b.run.items))) no_items
    ∙ ap (λ ids. made b.wait b.run.count b.run.items b.lists (b.lists.normal ++ ids)) no_tasks
    ∙ filled-none b

-- where the normal list has enough tasks, there is nothing to do
pub filled-enough : (depth : ℕ) (b : Book) → depth ≤ length b.lists.normal → filled depth b ≡ b
filled-enough depth b h =
    let none : depth - length b.lists.normal ≡ 0 = omega arith in
    ap (λ n. filled_by n b) none ∙ filled-none b

none_first : (ys : List RunItem) → None ≡ first_task ys → ys ≡ []
none_first [] h = refl
none_first (y ∷ ys) h = cc

-- nor is there where no task waits to run
pub filled-idle : (depth : ℕ) (b : Book) → None ≡ first_task b.run.items → filled depth b ≡ b
filled-idle depth b h = filled-empty (depth - length b.lists.normal) b (none_first b.run.items h)

-- the book once the first task has moved
abbrev pub moved : ℕ → Book → Book
moved id b = record b { run = without_least 1 b.run; lists = pushed Normal (id ∷ []) b.lists }

moved-first : (n id : ℕ) (b : Book) (y : RunItem) (ys : List RunItem) → b.run.items ≡ y ∷ ys → id ≡ y.task → filled_by n (moved id b) ≡ filled_by (suc n) b
moved-first n id b y ys e own =
    let normal : List ℕ = b.lists.normal in
    let rest : drop n (drop 1 b.run.items) ≡ drop (suc n) b.run.items = ap (λ (zs : List RunItem). drop n (drop 1 zs)) e ∙ sym (ap (drop (suc n)) e) in
    let ids : id ∷ map task_of (take n (drop 1 b.run.items)) ≡ map task_of (take (suc n) b.run.items) =
    ap (λ (zs : List RunItem). id ∷ map task_of (take n (drop 1 zs))) e ∙ ap (λ i. i ∷ map task_of (take n ys)) own ∙ sym (ap (λ (zs : List RunItem). map task_of (take (suc n) zs)) e) in
    ap (λ items. made b.wait b.run.count items b.lists ((normal ++ id ∷ []) ++ map task_of (take n (drop 1 b.run.items)))) rest
    ∙ ap (made b.wait b.run.count (drop (suc n) b.run.items) b.lists) (append_assoc normal (id ∷ []) (map task_of (take n (drop 1 b.run.items))))
    ∙ ap (λ is. made b.wait b.run.count (drop (suc n) b.run.items) b.lists (normal ++ is)) ids

some_first : (id : ℕ) (ys : List RunItem) → Some id ≡ first_task ys → (z : RunItem) × (zs : List RunItem) × (ys ≡ z ∷ zs) × (id ≡ z.task)
some_first id [] h = cc
some_first id (y ∷ ys) h = (y, ys, refl, let e : id ≡ y.task = cc in e)

-- a step of filling
pub filled-step : (depth id : ℕ) (b : Book) → length b.lists.normal < depth → Some id ≡ first_task b.run.items → filled depth (moved id b) ≡ filled depth b
filled-step depth id b lt h =
    let n : ℕ = depth - length (b.lists.normal ++ id ∷ []) in
    let f = some_first id b.run.items h in
    let more : suc n ≡ depth - length b.lists.normal = omega (arith, length-append b.lists.normal (id ∷ [])) in
    moved-first n id b f.0 f.1 f.2 f.3 ∙ ap (λ k. filled_by k b) more

-- a pick that finds no task leaves the book as it was
pub picked-idle : (b : Book) → None ≡ first_task b.run.items → record b { run = without_least 1 b.run } ≡ b
picked-idle b h =
    let none = none_first b.run.items h in
    ap (λ items. made b.wait b.run.count items b.lists b.lists.normal) (ap (λ (ys : List RunItem). drop 1 ys) none ∙ sym none)
