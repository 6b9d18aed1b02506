-- What a get does: just the members of its group that it answers come into the caller's hands.
use Rattle.std.proofs.Common.{◌≡◌, ◌≢◌, ℕ, zero, suc, ◌+◌, ◌*◌, ◌/◌, ◌%◌, ◌<◌, ◌≤◌, Bool, true, false, cond, ◌==◌, if◌then◌else◌, ◌⊎◌, inl, inr, List, ◌∷◌, map, refl, sym, ap, ◌∙◌, arith, ne_eqb, eqb-true, eq-eqb}
use Rattle.std.specs.Int.{bit_at}
use Rattle.std.specs.List.{range_with_len, filter}
use Rattle.std.proofs.lemmas.Bool.{cases_lt}
use Rattle.sched_base.specs.declared.names.CallerId.{CallerId}
use Rattle.task_machine.specs.declared.task.Place.TheVariants as places
use Rattle.task_machine.specs.declared.task.TaskState.{TaskState}
use Rattle.task_machine.specs.declared.calls.Call.TheVariants as calls
use Rattle.task_machine.specs.declared.calls.Reply.{Reply}
use Rattle.task_machine.specs.declared.calls.Reply.TheVariants.{Group}
use Rattle.task_machine.specs.Task.{put, in_hands, in_draw, in_run, is_boxed}
use Rattle.task_machine.specs.Step.{State, task_at, bit, IsBox, Allowed}
use Rattle.task_machine.specs.History.{stepped}
use Rattle.run_model.specs.Replies.{members}
use Rattle.turn_steps.specs.Has.{said}
use Rattle.turn_steps.specs.Times.{times}
use Rattle.standing.specs.Places.{held, ran, drawn_to}
use Rattle.standing.proofs.Effects.{by_step, apart-boxed}

-- members of group g among m of them from the first one on
abbrev picked : ℕ → (ℕ → Bool) → ℕ → ℕ → List ℕ
picked g p f m = map (λ b. 64 * g + b) (filter p (range_with_len f m))

times_one : (i g f : ℕ) (p : ℕ → Bool) (chosen : Bool) (xs : List ℕ) → times i (map (λ b. 64 * g + b) (cond chosen (f ∷ xs) xs)) ≡ (if chosen then bit (i == 64 * g + f) else 0) + times i (map (λ b. 64 * g + b) xs)
times_one i g f p true xs = refl
times_one i g f p false xs = omega arith

times_next : (i g : ℕ) (p : ℕ → Bool) (f m : ℕ) → times i (picked g p f (suc m)) ≡ (if p f then bit (i == 64 * g + f) else 0) + times i (picked g p (f + 1) m)
times_next i g p f m = times_one i g f p (p f) (filter p (range_with_len (f + 1) m))

if_zero : (b : Bool) (n : ℕ) → n ≡ 0 → (if b then n else 0) ≡ 0
if_zero true n e = e
if_zero false n e = refl

if_bit : (b : Bool) (n : ℕ) → n ≡ 1 → (if b then n else 0) ≡ bit b
if_bit true n e = e
if_bit false n e = refl

pub times_outside : (i g : ℕ) (p : ℕ → Bool) (f m : ℕ) → (i < 64 * g + f) ⊎ (64 * g + f + m ≤ i) → times i (picked g p f m) ≡ 0
times_outside i g p f zero h = refl
times_outside i g p f (suc m) h =
    let ne : i ≢ 64 * g + f = elim h [ inl lt ↦ omega arith | inr le ↦ omega arith ] in
    let later : (i < 64 * g + (f + 1)) ⊎ (64 * g + (f + 1) + m ≤ i) = elim h [ inl lt ↦ inl (omega arith) | inr le ↦ inr (omega arith) ] in
    omega (arith, times_next i g p f m, if_zero (p f) (bit (i == 64 * g + f)) (ap bit (ne_eqb i (64 * g + f) ne)), times_outside i g p (f + 1) m later)

pub times_inside : (i g : ℕ) (p : ℕ → Bool) (f m d : ℕ) → i ≡ 64 * g + (f + d) → d < m → times i (picked g p f m) ≡ bit (p (f + d))
times_inside i g p f zero d e h = absurd (omega arith)
times_inside i g p f (suc m) zero e h =
    let same : f + 0 ≡ f = omega arith in
    let here : i ≡ 64 * g + f = omega arith in
    rw same (omega (arith, times_next i g p f m, if_bit (p f) (bit (i == 64 * g + f)) (ap bit (eq-eqb i (64 * g + f) here)), times_outside i g p (f + 1) m (inl (omega arith))))
times_inside i g p f (suc m) (suc d) e h =
    let ne : i ≢ 64 * g + f = omega arith in
    let same : f + suc d ≡ f + 1 + d = omega arith in
    rw same (omega (arith, times_next i g p f m, if_zero (p f) (bit (i == 64 * g + f)) (ap bit (ne_eqb i (64 * g + f) ne)), times_inside i g p (f + 1) m d (omega arith) (omega arith)))

set_bit : (n : ℕ) (b : Bool) → n ≡ bit b → bit (n == 1) ≡ bit b
set_bit n true e = rw e refl
set_bit n false e = rw e refl

-- a task of the group is answered where it is in the caller's box, and any other task is not
answered : (s : State) (b g n i : ℕ) → IsBox s b g n → i / 64 ≡ g → times i (members g (Group n)) ≡ bit (is_boxed b (task_at s i).place)
answered s b g n i box e =
    let lt : i % 64 < 64 = omega arith in
    let whole : i ≡ 64 * g + (0 + i % 64) = omega arith in
    let here : 64 * g + i % 64 ≡ i = omega arith in
    let first : 0 + i % 64 ≡ i % 64 = omega arith in
    times_inside i g (λ b. bit_at n b == 1) 0 64 (i % 64) whole lt ∙
    ap (λ j. bit (bit_at n j == 1)) first ∙
    set_bit (bit_at n (i % 64)) (is_boxed b (task_at s (64 * g + i % 64)).place) (box.1 (i % 64) lt) ∙
    ap (λ j. bit (is_boxed b (task_at s j).place)) here

outside : (g i : ℕ) → i / 64 ≢ g → (i < 64 * g + 0) ⊎ (64 * g + 0 + 64 ≤ i)
outside g i ne = elim (cases_lt i (64 * g)) [ inl lt ↦ inl (omega arith) | inr le ↦ inr (omega arith) ]

unanswered : (g n i : ℕ) → i / 64 ≢ g → times i (members g (Group n)) ≡ 0
unanswered g n i ne =
    let apart : (i < 64 * g + 0) ⊎ (64 * g + 0 + 64 ≤ i) = outside g i ne in
    times_outside i g (λ b. bit_at n b == 1) 0 64 apart

got_held : (k : CallerId) (t : TaskState) (here : Bool) → is_boxed k.0 t.place ≡ here → bit (in_hands k (if here then put (places.Hands k) t else t).place) ≡ bit (in_hands k t.place) + bit here
got_held k t true e = rw (apart-boxed k k.0 t.place e).0 (ap bit (eq-eqb k.0 k.0 refl))
got_held k t false e = omega arith

got_run : (k : CallerId) (t : TaskState) (here : Bool) → is_boxed k.0 t.place ≡ here → in_run k (if here then put (places.Hands k) t else t).place ≡ in_run k t.place
got_run k t true e = sym (apart-boxed k k.0 t.place e).2
got_run k t false e = refl

got_drawn : (k : CallerId) (t : TaskState) (here : Bool) → is_boxed k.0 t.place ≡ here → in_draw k (if here then put (places.Hands k) t else t).place ≡ in_draw k t.place
got_drawn k t true e = sym (apart-boxed k k.0 t.place e).1
got_drawn k t false e = refl

-- what a get answers of a task
pub members_are : (s : State) (b g i n : ℕ) (r : Reply) → r ≡ Group n → IsBox s b g n → i / 64 ≡ g → times i (members g r) ≡ bit (is_boxed b (task_at s i).place)
members_are s b g i n r e box h = ap (λ q. times i (members g q)) e ∙ answered s b g n i box h

pub members_apart : (g i n : ℕ) (r : Reply) → r ≡ Group n → i / 64 ≢ g → times i (members g r) ≡ 0
members_apart g i n r e h = ap (λ q. times i (members g q)) e ∙ unanswered g n i h

pub held-get : (s : State) (k : CallerId) (g : ℕ) (r : Reply) (i : ℕ) → Allowed s (said k (calls.Get g) r) → held k (stepped s (said k (calls.Get g) r)) i ≡ held k s i + times i (members g r)
held-get s k g r i a =
    by_step s (said k (calls.Get g) r) i (λ t. bit (in_hands k t.place) ≡ held k s i + times i (members g r)) a (λ e. got_held k (task_at s i) (is_boxed k.0 (task_at s i).place) refl ∙ ap (λ n. held k s i + n) (sym (members_are s k.0 g i a.reply.0 r a.reply.1 a.reply.2 (eqb-true (i / 64) g e)))) (λ e. omega (arith, members_apart g i a.reply.0 r a.reply.1 (λ same. let yes : (i / 64 == g) ≡ true = eq-eqb (i / 64) g same in cc)))

pub ran-get : (s : State) (k : CallerId) (g : ℕ) (r : Reply) (i : ℕ) → Allowed s (said k (calls.Get g) r) → ran k (stepped s (said k (calls.Get g) r)) i ≡ ran k s i
ran-get s k g r i a =
    by_step s (said k (calls.Get g) r) i (λ t. bit (in_run k t.place) ≡ ran k s i) a (λ e. ap bit (got_run k (task_at s i) (is_boxed k.0 (task_at s i).place) refl)) (λ e. refl)

pub drawn-get : (s : State) (k : CallerId) (g : ℕ) (r : Reply) (i : ℕ) → Allowed s (said k (calls.Get g) r) → drawn_to k (stepped s (said k (calls.Get g) r)) i ≡ drawn_to k s i
drawn-get s k g r i a =
    by_step s (said k (calls.Get g) r) i (λ t. bit (in_draw k t.place) ≡ drawn_to k s i) a (λ e. ap bit (got_drawn k (task_at s i) (is_boxed k.0 (task_at s i).place) refl)) (λ e. refl)
