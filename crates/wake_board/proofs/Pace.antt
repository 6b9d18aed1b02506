-- The takes of shared tasks stay small.
use Rattle.std.proofs.Common.{◌≡◌, ◌≢◌, ℕ, zero, suc, ◌+◌, ◌-◌, ◌*◌, ◌^◌, ◌<◌, ◌≤◌, Bool, true, if◌then◌else◌, List, [], ◌∷◌, length, get_or, refl, sym, ap, subst, ◌∙◌, inl, inr, arith, eq-eqb, ne_eqb, eqb-true}
use Rattle.std.proofs.lemmas.Bool.{cases_eq, cases_Bool}
use Rattle.atomic_table.specs.Table as table
use Rattle.task_machine.specs.declared.task.Place.{Place}
use Rattle.task_machine.specs.declared.task.Place.TheVariants as places
use Rattle.task_machine.specs.declared.task.Stand.{Stand}
use Rattle.task_machine.specs.declared.task.Seen.TheVariants as views
use Rattle.task_machine.specs.declared.task.TaskState.{TaskState}
use Rattle.task_machine.specs.declared.calls.Call.{Call}
use Rattle.task_machine.specs.declared.calls.Call.TheVariants as calls
use Rattle.task_machine.specs.declared.calls.Entry.{Entry}
use Rattle.task_machine.specs.Task.{seen_of, seen_at}
use Rattle.task_machine.specs.Step.{State, task_at, bit}
use Rattle.task_machine.specs.History.{stepped, Legal, calls_of}
use Rattle.task_machine.specs.Since.{is_take}
use Rattle.task_word.specs.Word.{seen_in}
use Rattle.task_word.proofs.Words.{seen_in-stands}
use Rattle.wake_board.specs.declared.body.Body.{Body}
use Rattle.wake_board.specs.declared.views.Opening.{Opening}
use Rattle.wake_board.specs.declared.views.View.{View}
use Rattle.wake_board.specs.Start.{Start, start_of, IsShared}
use Rattle.wake_board.specs.Rule.{now_of, IsPaced, Paced, IsKept}
use Rattle.wake_board.specs.Own.{takes_in}
use Rattle.wake_board.proofs.Known.{takes-led, gone-led}
use Rattle.wake_board.proofs.Ends.{caller_named}

-- a take of a shared task is early
early : (o : Start) (n i : ℕ) (c : Call) → IsShared o i → IsPaced o n c → is_take i c ≡ true → n < 2 ^ 40
early o n i (calls.Take j) shared pace take =
    pace (subst (IsShared o) (eqb-true i j.0 take) shared)
early o n i (calls.Wake j f) shared pace take = cc
early o n i (calls.Kill j) shared pace take = cc
early o n i (calls.Post j b) shared pace take = cc
early o n i (calls.Get g) shared pace take = cc
early o n i (calls.Draw j) shared pace take = cc
early o n i (calls.DropRun j) shared pace take = cc
early o n i (calls.Retire j) shared pace take = cc

-- so one caller takes a shared task at most 2^40 times
paced_takes : (o : Start) (n i : ℕ) (es : List Entry) → IsShared o i → Paced o n es → takes_in i es ≤ 2 ^ 40 - n
paced_takes o n i [] shared p = omega arith
paced_takes o n i (e ∷ es) shared p =
    let more = paced_takes o (suc n) i es shared p.1 in
    elim (cases_Bool (is_take i e.call)) [
      | inl yes' ↦
          (let few = early o n i e.call shared p.0 yes' in
          let one : bit (is_take i e.call) ≡ 1 = ap bit yes' in omega arith)
      | inr no' ↦ (let none : bit (is_take i e.call) ≡ 0 = ap bit no' in omega arith)
    ]

-- the sum of the first n numbers of a sequence
abbrev sum_to : (ℕ → ℕ) → ℕ → ℕ
sum_to f zero = 0
sum_to f (suc n) = f n + sum_to f n

sum_zero : (f : ℕ → ℕ) (n : ℕ) → ((k : ℕ) → f k ≡ 0) → sum_to f n ≡ 0
sum_zero f zero h = refl
sum_zero f (suc n) h = let a = h n in let b = sum_zero f n h in omega arith

sum_bound : (f : ℕ → ℕ) (n : ℕ) → ((k : ℕ) → f k ≤ 2 ^ 40) → sum_to f n ≤ n * 2 ^ 40
sum_bound f zero h = omega arith
sum_bound f (suc n) h =
    let a = h n in
    let b = sum_bound f n h in omega arith

sum_below : (f g : ℕ → ℕ) (n : ℕ) → ((k : ℕ) → k < n → g k ≡ f k) → sum_to g n ≡ sum_to f n
sum_below f g zero h = refl
sum_below f g (suc n) h = let a = h n (omega arith) in let b = sum_below f g n (λ k l. h k (omega arith)) in omega arith

-- one more at one place
sum_more : (f g : ℕ → ℕ) (n c b : ℕ) → c < n → g c ≡ b + f c → ((k : ℕ) → k ≢ c → g k ≡ f k) → sum_to g n ≡ b + sum_to f n
sum_more f g zero c b l here others = absurd (omega arith)
sum_more f g (suc n) c b l here others =
    elim (cases_eq c n) [
      | inl same ↦
          (let rest = sum_below f g n (λ k lk. others k (λ e. omega arith)) in
          let top : g n ≡ b + f n = subst (λ (q : ℕ). g q ≡ b + f q) same here in omega arith)
      | inr ne ↦
          (let rest = sum_more f g n c b (omega arith) here others in
          let top = others n (λ e. ne (sym e)) in omega arith)
    ]

-- the takes of a history are those of all callers
takes_sum : (s : State) (h : List Entry) (i : ℕ) → Legal s h → takes_in i h ≡ sum_to (λ k. takes_in i (calls_of k h)) (suc s.workers)
takes_sum s [] i l = sym (sum_zero (λ k. 0) (suc s.workers) (λ k. refl))
takes_sum s (e ∷ h) i l =
    let more = takes_sum (stepped s e) h i l.1 in
    let near = caller_named s e.caller e.call l.0.named in
    let F : ℕ → ℕ = λ k. takes_in i (calls_of k h) in
    let G : ℕ → ℕ = λ k. takes_in i (calls_of k (e ∷ h)) in
    let here : G e.caller.0 ≡ bit (is_take i e.call) + F e.caller.0 = ap (λ (b : Bool). takes_in i (if b then e ∷ calls_of e.caller.0 h else calls_of e.caller.0 h)) (eq-eqb e.caller.0 e.caller.0 refl) in
    let others : (k : ℕ) → k ≢ e.caller.0 → G k ≡ F k = λ k ne. ap (λ (b : Bool). takes_in i (if b then e ∷ calls_of k h else calls_of k h)) (ne_eqb e.caller.0 k (λ z. ne (sym z))) in
    let all = sum_more F G (suc s.workers) e.caller.0 (bit (is_take i e.call)) (omega arith) here others in
    ap (λ (n : ℕ). bit (is_take i e.call) + n) more ∙ sym all

pub seen_takes : (p : Place) (t : TaskState) (st : Stand) (n : ℕ) (b : Bool) (m : ℕ) → seen_at p t ≡ views.Live st n b m → (t.takes ≡ m) × (p ≢ places.Gone)
seen_takes places.Rest t st n b m e = (cc, λ z. cc)
seen_takes (places.Hands k) t st n b m e = (cc, λ z. cc)
seen_takes (places.Boxed c) t st n b m e = (cc, λ z. cc)
seen_takes (places.Drawn k) t st n b m e = (cc, λ z. cc)
seen_takes (places.Runs k) t st n b m e = (cc, λ z. cc)
seen_takes places.Gone t st n b m e = cc

-- the takes of a shared task that is not gone
pub few_takes : (o : Opening) (s : table.State Body View) (r : IsKept o s) (i : ℕ) → i < length (start_of o).state.tasks → IsShared (start_of o) i → (task_at (now_of (start_of o) r.history) i).place ≢ places.Gone → (task_at (now_of (start_of o) r.history) i).takes < 2 ^ 48 - 1
few_takes o s r i within shared lives =
    let first : (task_at (start_of o).state i).place ≢ places.Gone = λ z. lives (gone-led (start_of o).state r.history i r.legal z) in
    let few = r.few i within shared first in
    let led' = takes-led (start_of o).state r.history i r.legal lives in
    let sum = takes_sum (start_of o).state r.history i r.legal in
    let w : ℕ = (start_of o).state.workers in
    let narrow : w ≤ 64 = r.opened.few in
    let bound = sum_bound (λ k. takes_in i (calls_of k r.history)) (suc w) (λ k. (let p = paced_takes (start_of o) 0 i (calls_of k r.history) shared (r.paced k) in omega arith)) in
    let top : suc w * 2 ^ 40 ≤ 65 * 2 ^ 40 = omega arith in
    omega arith

pub has_room : (o : Opening) (s : table.State Body View) (i : ℕ) (st : Stand) (n : ℕ) (b : Bool) (t : ℕ) → IsKept o s → i < length (start_of o).state.tasks → IsShared (start_of o) i → seen_in (get_or s.words (i + 1) 0) ≡ views.Live st n b t → t < 2 ^ 48 - 1
has_room o s i st n b t r within shared seen =
    let x : TaskState = task_at (now_of (start_of o) r.history) i in
    let next : i + 1 ≡ suc i = omega arith in
    let is : seen_in (get_or s.words (suc i) 0) ≡ seen_of x = seen_in-stands (get_or s.words (suc i) 0) (seen_of x) (r.words.tasks i within) in
    let here : seen_of x ≡ views.Live st n b t = sym is ∙ (ap (λ (k : ℕ). seen_in (get_or s.words k 0)) (sym next) ∙ seen) in
    let parts = seen_takes x.place x st n b t here in
    let few = few_takes o s r i within shared parts.1 in
    let takes = parts.0 in
    omega arith
