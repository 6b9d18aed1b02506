-- How often a task is listed in a book that has changed.
use Rattle.std.proofs.Common.{◌≡◌, ℕ, zero, suc, ◌+◌, ◌-◌, ◌==◌, Bool, List, [], ◌∷◌, ◌++◌, map, take, drop, length, Option, Some, refl, sym, ap, subst, arith, ◌⊎◌, inl, inr}
use Rattle.std.proofs.lemmas.Bool.{cases_Bool}
use Rattle.sched_base.specs.KeyedList.{inserted}
use Rattle.sched_base.specs.declared.names.Class.{Class}
use Rattle.sched_base.specs.declared.names.Class.TheVariants.{Urgent, Normal, Bulk, Heavy}
use Rattle.queue_model.specs.RunList.{RunItem}
use Rattle.queue_model.specs.Classes.{Classes, of_class, pushed, popped, Next, run_in, first_run}
use Rattle.step_tables.specs.declared.tables.Kind.{Kind}
use Rattle.step_tables.specs.declared.tables.Kind.TheVariants.{Pinned, Shared, Tasklet}
use Rattle.step_tables.specs.declared.tables.Script.{Script}
use Rattle.task_machine.specs.Step.{bit}
use Rattle.run_model.specs.Tables.{def_of}
use Rattle.run_model.specs.Book.{Book, queued_as, queued, queued_all, filled, taken_from}
use Rattle.run_model.proofs.Readings.{some_inj}
use Rattle.turn_steps.specs.Left.{Onward, by_class, by_draw, next_in}
use Rattle.turn_steps.specs.Times.{times, in_classes, listed}

pub times-append : (i : ℕ) (xs ys : List ℕ) → times i (xs ++ ys) ≡ times i xs + times i ys
times-append i [] ys = omega arith
times-append i (x ∷ xs) ys = let e = times-append i xs ys in omega arith

pub times-take_drop : (i n : ℕ) (xs : List RunItem) → times i (map (λ (y : RunItem). y.task) (take n xs)) + times i (map (λ (y : RunItem). y.task) (drop n xs)) ≡ times i (map (λ (y : RunItem). y.task) xs)
times-take_drop i zero xs = omega arith
times-take_drop i (suc n) [] = omega arith
times-take_drop i (suc n) (x ∷ xs) = let e = times-take_drop i n xs in omega arith

pub times-inserted : (i : ℕ) (stays : RunItem → Bool) (x : RunItem) (ys : List RunItem) → times i (map (λ (y : RunItem). y.task) (inserted stays x ys)) ≡ bit (i == x.task) + times i (map (λ (y : RunItem). y.task) ys)
times-inserted i stays x [] = refl
times-inserted i stays x (y ∷ ys) =
    let e = times-inserted i stays x ys in
    elim (cases_Bool (stays y)) [ inl k ↦ rw k (omega arith) | inr k ↦ rw k refl ]

pub lists-pushed : (i : ℕ) (k : Class) (ids : List ℕ) (c : Classes (List ℕ)) → in_classes i (pushed k ids c) ≡ in_classes i c + times i ids
lists-pushed i Urgent ids c = let e = times-append i c.urgent ids in omega arith
lists-pushed i Normal ids c = let e = times-append i c.normal ids in omega arith
lists-pushed i Bulk ids c = let e = times-append i c.bulk ids in omega arith
lists-pushed i Heavy ids c = let e = times-append i c.heavy ids in omega arith

listed-queued_as : (kind : Kind) (s : Script) (i j : ℕ) (b : Book) → listed i (queued_as kind s j b) ≡ listed i b + bit (i == j)
listed-queued_as (Pinned home nice) s i j b = rw times-inserted (omega arith)
listed-queued_as (Shared nice) s i j b = rw times-inserted (omega arith)
listed-queued_as (Tasklet home class) s i j b = rw (lists-pushed i class (j ∷ []) b.lists) (omega arith)

pub listed-queued : (s : Script) (i j : ℕ) (b : Book) → listed i (queued s j b) ≡ listed i b + bit (i == j)
listed-queued s i j b = listed-queued_as (def_of s j).kind s i j b

pub listed-queued_all : (s : Script) (i : ℕ) (ids : List ℕ) (b : Book) → listed i (queued_all s ids b) ≡ listed i b + times i ids
listed-queued_all s i [] b = omega arith
listed-queued_all s i (j ∷ js) b =
    let more = listed-queued_all s i js (queued s j b) in
    let one = listed-queued s i j b in
    omega arith

pub listed-filled : (depth i : ℕ) (b : Book) → listed i (filled depth b) ≡ listed i b
listed-filled depth i b =
    let n : ℕ = depth - length b.lists.normal in
    let e = times-take_drop i n b.run.items in
    rw (lists-pushed i Normal (map (λ (y : RunItem). y.task) (take n b.run.items)) b.lists) (omega arith)

-- the item that comes next is the first of its class's list
first_of : (k : Class) (is : List ℕ) (n : ℕ) (other : Option Next) (x : Next) → run_in k is n other ≡ Some x → ((x.class ≡ k) × (js : List ℕ) × (is ≡ x.task ∷ js)) ⊎ (other ≡ Some x)
first_of k [] n other x e = inr e
first_of k (i ∷ is) zero other x e = inr e
first_of k (i ∷ is) (suc n) other x e =
    let same = some_inj _ _ e in
    inl (ap (λ (y : Next). y.class) (sym same), is, ap (λ (y : Next). y.task ∷ is) same)

pub next-first : (ks : List Class) (c : Classes (List ℕ)) (q : Classes ℕ) (x : Next) → first_run ks c q ≡ Some x → (js : List ℕ) × (of_class x.class c ≡ x.task ∷ js)
next-first [] c q x e = cc
next-first (k ∷ ks) c q x e =
    elim (first_of k (of_class k c) (of_class k q) (first_run ks c q) x e) [
      | inl h ↦ (h.1, subst (λ (j : Class). of_class j c ≡ x.task ∷ h.1) (sym h.0) h.2)
      | inr h ↦ next-first ks c q x h
    ]

times-head : (i j : ℕ) (is js : List ℕ) → is ≡ j ∷ js → times i (drop 1 is) + bit (i == j) ≡ times i is
times-head i j [] js e = cc
times-head i j (k ∷ is) js e = let same : k ≡ j = cc in rw (sym same) (omega arith)

lists-popped : (i : ℕ) (k : Class) (j : ℕ) (js : List ℕ) (c : Classes (List ℕ)) → of_class k c ≡ j ∷ js → in_classes i (popped k c) + bit (i == j) ≡ in_classes i c
lists-popped i Urgent j js c e = let h = times-head i j c.urgent js e in omega arith
lists-popped i Normal j js c e = let h = times-head i j c.normal js e in omega arith
lists-popped i Bulk j js c e = let h = times-head i j c.bulk js e in omega arith
lists-popped i Heavy j js c e = let h = times-head i j c.heavy js e in omega arith

pub listed-taken : (i : ℕ) (b : Book) (q : Onward) (x : Next) → next_in q b ≡ Some x → listed i (taken_from x.class b) + bit (i == x.task) ≡ listed i b
listed-taken i b (by_class q) x e =
    let f = next-first (Urgent ∷ Normal ∷ Bulk ∷ Heavy ∷ []) b.lists q x e in
    let h = lists-popped i x.class x.task f.0 b.lists f.1 in
    omega arith
listed-taken i b (by_draw n) x e = cc
