-- What is counted over a history depends on the calls of each caller alone.
use Rattle.std.proofs.Common.{◌≡◌, ℕ, zero, suc, ◌+◌, ◌<◌, ◌≤◌, Bool, true, false, cond, ◌==◌, nat_lt, if◌then◌else◌, List, [], ◌∷◌, refl, sym, ap, ◌∙◌, arith}
use Rattle.std.specs.List.{sum_by, flat_map}
use Rattle.std.proofs.lemmas.Bool.{lt-ltb}
use Rattle.std.proofs.lemmas.Bool.Decides.{nat_tests}
use Rattle.std.proofs.lemmas.List.Sums.{sum_by-cons, sum_by-append}
use Rattle.task_machine.specs.declared.calls.Entry.{Entry}
use Rattle.task_machine.specs.History.{calls_of}
use Rattle.run_model.specs.Run.{Round}
use Rattle.closed_runs.specs.Laws.{ClosedRunsCountAlike}
use Rattle.closed_runs.proofs.Runs.{AllAlike, all_alike}

-- f of an entry where its caller is below n
abbrev under : ℕ → (Entry → ℕ) → Entry → ℕ
under n f e = cond (nat_lt e.caller.0 n) (f e) 0

sum_if : (f : Entry → ℕ) (b : Bool) (e : Entry) (xs : List Entry) → sum_by f (if b then e ∷ xs else xs) ≡ cond b (f e) 0 + sum_by f xs
sum_if f true e xs = sum_by-cons f e xs
sum_if f false e xs = omega arith

under_next : (a n v : ℕ) → cond (nat_lt a (n + 1)) v 0 ≡ cond (nat_lt a n) v 0 + cond (a == n) v 0
under_next a n v = grind (arith, nat_tests)

-- the sum below the next caller
sum_next : (f : Entry → ℕ) (n : ℕ) (es : List Entry) → sum_by (under (n + 1) f) es ≡ sum_by (under n f) es + sum_by f (calls_of n es)
sum_next f n [] = omega arith
sum_next f n (e ∷ es) =
    omega (arith, sum_by-cons (under (n + 1) f) e es, sum_by-cons (under n f) e es, sum_if f (e.caller.0 == n) e (calls_of n es), under_next e.caller.0 n (f e), sum_next f n es)

under_none : (a v : ℕ) → cond (nat_lt a 0) v 0 ≡ 0
under_none a v = grind (arith, nat_tests)

sum_none : (f : Entry → ℕ) (es : List Entry) → sum_by (under 0 f) es ≡ 0
sum_none f [] = refl
sum_none f (e ∷ es) = omega (arith, sum_by-cons (under 0 f) e es, under_none e.caller.0 (f e), sum_none f es)

sum_under : (f : Entry → ℕ) (n : ℕ) (es fs : List Entry) → ((k : ℕ) → calls_of k es ≡ calls_of k fs) → sum_by (under n f) es ≡ sum_by (under n f) fs
sum_under f zero es fs h = sum_none f es ∙ sym (sum_none f fs)
sum_under f (suc n) es fs h =
    let one : suc n ≡ n + 1 = omega arith in
    rw one (omega (arith, sum_next f n es, sum_next f n fs, sum_under f n es fs h, ap (sum_by f) (h n)))

-- a number above all callers of some entries
abbrev above : List Entry → ℕ
above [] = 0
above (e ∷ es) = e.caller.0 + 1 + above es

sum_above : (f : Entry → ℕ) (n : ℕ) (es : List Entry) → above es ≤ n → sum_by (under n f) es ≡ sum_by f es
sum_above f n [] h = refl
sum_above f n (e ∷ es) h =
    let lt : e.caller.0 < n = omega arith in
    let here : under n f e ≡ f e = rw (lt-ltb e.caller.0 n lt) refl in
    omega (arith, sum_by-cons (under n f) e es, sum_by-cons f e es, here, sum_above f n es (omega arith))

pub sum_calls : (f : Entry → ℕ) (es fs : List Entry) → ((k : ℕ) → calls_of k es ≡ calls_of k fs) → sum_by f es ≡ sum_by f fs
sum_calls f es fs h =
    let n = above es + above fs in
    sym (sum_above f n es (omega arith)) ∙ sum_under f n es fs h ∙ sum_above f n fs (omega arith)

sum_rounds : (f : Entry → ℕ) (xs ys : List Round) → AllAlike xs ys → sum_by f (flat_map (λ (x : Round). x.entries) xs) ≡ sum_by f (flat_map (λ (x : Round). x.entries) ys)
sum_rounds f [] [] h = refl
sum_rounds f [] (y ∷ ys) h = absurd h
sum_rounds f (x ∷ xs) [] h = absurd h
sum_rounds f (x ∷ xs) (y ∷ ys) h =
    omega (arith, sum_by-append f x.entries (flat_map (λ (x : Round). x.entries) xs), sum_by-append f y.entries (flat_map (λ (x : Round). x.entries) ys), sum_calls f x.entries y.entries h.0.calls, sum_rounds f xs ys h.1)

pub counts_alike : ClosedRunsCountAlike
counts_alike s a b p sound closed g h =
    sum_rounds (λ e. cond (p e) 1 0) a.rounds b.rounds (all_alike s a b sound closed g h).0
