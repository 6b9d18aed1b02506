-- When the shared box was served, and who may still draw where it was not.
use Rattle.std.proofs.Common.{◌≡◌, ◌≢◌, ℕ, zero, suc, ◌+◌, ◌<◌, Bool, true, false, ◌&&◌, ◌||◌, ◌==◌, if◌then◌else◌, ◌⊎◌, inl, inr, List, [], ◌∷◌, length, refl, arith, eq-eqb}
use Rattle.std.specs.List.{filter, list_all, range_with_len}
use Rattle.std.proofs.lemmas.Bool.{cases_Bool}
use Rattle.step_tables.specs.declared.tables.Script.{Script}
use Rattle.task_machine.specs.declared.calls.Entry.{Entry}
use Rattle.task_machine.specs.Task.{is_boxed}
use Rattle.task_machine.specs.Step.{State, task_at}
use Rattle.task_machine.specs.History.{calls_of}
use Rattle.run_model.specs.Standing.{in_shared, is_draw_of, was_drawn, draws_of, is_served}

and_false : (a b : Bool) → (a && b) ≡ false → (a ≡ false) ⊎ (b ≡ false)
and_false true b h = inr h
and_false false b h = inl refl

or_false : (a b : Bool) → (a || b) ≡ false → (a ≡ false) × (b ≡ false)
or_false true b h = cc
or_false false b h = (refl, h)

or_right : (a b : Bool) → b ≡ true → (a || b) ≡ true
or_right true b h = refl
or_right false b h = h

-- one of the numbers fails a test that not all pass
pub one_fails : (f : ℕ → Bool) (m n : ℕ) → list_all f (range_with_len m n) ≡ false → (x : ℕ) × (x < m + n) × (f x ≡ false)
one_fails f m zero h = cc
one_fails f m (suc n) h =
    elim (and_false (f m) (list_all f (range_with_len (m + 1) n)) h) [
      | inl here ↦ (m, omega arith, here)
      | inr there ↦ (let later = one_fails f (m + 1) n there in (later.0, omega (arith, later.1), later.2))
    ]

-- all that pass one test pass another
all_filtered : (f p : ℕ → Bool) (xs : List ℕ) → ((i : ℕ) → p i ≡ true → f i ≡ true) → list_all f (filter p xs) ≡ true
all_filtered f p [] h = refl
all_filtered f p (x ∷ xs) h =
    elim (cases_Bool (p x)) [ inl k ↦ rw (k, h x k) (all_filtered f p xs h) | inr k ↦ rw k (all_filtered f p xs h) ]

one_filtered : (f p : ℕ → Bool) (xs : List ℕ) → list_all f (filter p xs) ≡ false → (x : ℕ) × (p x ≡ true) × (f x ≡ false)
one_filtered f p [] h = cc
one_filtered f p (x ∷ xs) h =
    elim (cases_Bool (p x)) [
      | inl k ↦ (let g : (f x && list_all f (filter p xs)) ≡ false = rw k at h in elim (and_false (f x) (list_all f (filter p xs)) g) [ inl here ↦ (x, k, here) | inr there ↦ one_filtered f p xs there ])
      | inr k ↦ (let g : list_all f (filter p xs) ≡ false = rw k at h in one_filtered f p xs g)
    ]

drawn_more : (own x a b : Bool) → (b ≡ true → a ≡ true) → (x || b) ≡ true → (x || a) ≡ true
drawn_more own true a b f h = refl
drawn_more own false a b f h = f h

-- what a caller drew was drawn
drawn_if : (i : ℕ) (e : Entry) (es ys : List Entry) (own : Bool) → (was_drawn i ys ≡ true → was_drawn i es ≡ true) → was_drawn i (if own then e ∷ ys else ys) ≡ true → was_drawn i (e ∷ es) ≡ true
drawn_if i e es ys true f h = drawn_more true (is_draw_of i e.call) (was_drawn i es) (was_drawn i ys) f h
drawn_if i e es ys false f h = or_right (is_draw_of i e.call) (was_drawn i es) (f h)

pub drawn-calls : (i k : ℕ) (es : List Entry) → was_drawn i (calls_of k es) ≡ true → was_drawn i es ≡ true
drawn-calls i k [] h = h
drawn-calls i k (e ∷ es) h = drawn_if i e es (calls_of k es) (e.caller.0 == k) (drawn-calls i k es) h

-- a worker with fewer draws than it may make, and a task of the shared box that nobody drew
pub record Unserved (s : Script) (state : State) (es : List Entry) : Type 0 where
  pub worker : ℕ
  pub among : worker < s.workers
  pub fewer : draws_of worker es ≢ s.depth
  pub task : ℕ
  pub boxed : is_boxed s.workers (task_at state task).place ≡ true
  pub waits : was_drawn task es ≡ false

not_equal : (m n : ℕ) → (m == n) ≡ false → m ≢ n
not_equal m n h same = let yes : (m == n) ≡ true = eq-eqb m n same in cc

pub unserved : (s : Script) (state : State) (es : List Entry) → is_served s state es ≡ false → Unserved s state es
unserved s state es h =
    let parts = or_false (list_all (λ i. was_drawn i es) (in_shared s state)) (list_all (λ w. draws_of w es == s.depth) (range_with_len 0 s.workers)) h in
    let one = one_filtered (λ i. was_drawn i es) (λ i. is_boxed s.workers (task_at state i).place) (range_with_len 0 (length state.tasks)) parts.0 in
    let who = one_fails (λ w. draws_of w es == s.depth) 0 s.workers parts.1 in
    record {
      worker = who.0;
      among = omega (arith, who.1);
      fewer = not_equal (draws_of who.0 es) s.depth who.2;
      task = one.0;
      boxed = one.1;
      waits = one.2;
    }

-- the box was served where each worker made its draws or knows that each task of the box was drawn by somebody
pub served-by : (s : Script) (state : State) (es : List Entry) → ((k : ℕ) → k < s.workers → (draws_of k es ≡ s.depth) ⊎ ((i : ℕ) → is_boxed s.workers (task_at state i).place ≡ true → (j : ℕ) × (was_drawn i (calls_of j es) ≡ true))) → is_served s state es ≡ true
served-by s state es h =
    elim (cases_Bool (is_served s state es)) [
      | inl served ↦ served
      | inr waits ↦
          (let u = unserved s state es waits in
          absurd (elim (h u.worker u.among) [
            | inl all ↦ u.fewer all
            | inr each ↦ (let by = each u.task u.boxed in let yes = drawn-calls u.task by.0 es by.1 in let no = u.waits in cc)
          ]))
    ]
