-- Sums over the logs.
use Rattle.std.proofs.Common.{◌≡◌, ◌≢◌, ℕ, zero, suc, ◌+◌, ◌<◌, ◌≤◌, List, [], ◌∷◌, length, get_or, take, drop, refl, ap, ◌∙◌, inl, inr, arith, sum_by}
use Rattle.std.proofs.lemmas.Bool.{cases_eq}
use Rattle.std.proofs.lemmas.List.{take-take, get_or_past, drop_all}
use Rattle.std.proofs.lemmas.List.Sums.{sum_by-cons, sum_by_more, sum_by-take-le}
use Rattle.task_machine.specs.declared.calls.Entry.{Entry}
use Rattle.task_machine.specs.Logged.{Logged}
use Rattle.history_weave.specs.Places.{log_at, no_log, left_of, entry_count, sum_over}

-- a sum of which one term is greater
pub sum_over-raise : (f g : ℕ → ℕ) (n m k d : ℕ) → n ≤ k → k < n + m → g k ≡ d + f k → ((j : ℕ) → j ≢ k → g j ≡ f j) → sum_over g n m ≡ d + sum_over f n m
sum_over-raise f g n zero k d low high here others = absurd (omega arith)
sum_over-raise f g n (suc m) k d low high here others =
    elim (cases_eq n k) [
      | inl same ↦
          let first : g n ≡ d + f n = rw same here in
          let rest : sum_over g (suc n) m ≡ sum_over f (suc n) m =
          sum_over-same f g (suc n) m (λ j le. others j (λ e. omega arith)) in
          omega arith
      | inr ne ↦
          let first : g n ≡ f n = others n ne in
          let rest : sum_over g (suc n) m ≡ d + sum_over f (suc n) m =
          sum_over-raise f g (suc n) m k d (omega arith) (omega arith) here others in
          omega arith
    ]
  where
    sum_over-same : (f g : ℕ → ℕ) (n m : ℕ) → ((j : ℕ) → n ≤ j → g j ≡ f j) → sum_over g n m ≡ sum_over f n m
    sum_over-same f g n zero h = refl
    sum_over-same f g n (suc m) h =
        let first : g n ≡ f n = h n (omega arith) in
        let rest : sum_over g (suc n) m ≡ sum_over f (suc n) m = sum_over-same f g (suc n) m (λ j le. h j (omega arith)) in
        omega arith

pub sum_over-le : (f g : ℕ → ℕ) (n m : ℕ) → ((j : ℕ) → f j ≤ g j) → sum_over f n m ≤ sum_over g n m
sum_over-le f g n zero h = omega arith
sum_over-le f g n (suc m) h =
    let first = h n in let rest = sum_over-le f g (suc n) m h in omega arith

pub sum_over-zero : (f : ℕ → ℕ) (n m : ℕ) → ((j : ℕ) → f j ≡ 0) → sum_over f n m ≡ 0
sum_over-zero f n zero h = refl
sum_over-zero f n (suc m) h = let first = h n in let rest = sum_over-zero f (suc n) m h in omega arith

pub sum_over-term : (f : ℕ → ℕ) (n m k : ℕ) → n ≤ k → k < n + m → f k ≤ sum_over f n m
sum_over-term f n zero k low high = absurd (omega arith)
sum_over-term f n (suc m) k low high =
    elim (cases_eq n k) [
      | inl same ↦ rw same (omega arith)
      | inr ne ↦ (let rest = sum_over-term f (suc n) m k (omega arith) (omega arith) in omega arith)
    ]

-- two terms of a sum
pub sum_over-two : (f : ℕ → ℕ) (n m j k : ℕ) → n ≤ j → j < n + m → n ≤ k → k < n + m → j ≢ k → f j + f k ≤ sum_over f n m
sum_over-two f n zero j k lj hj lk hk ne = absurd (omega arith)
sum_over-two f n (suc m) j k lj hj lk hk ne =
    elim (cases_eq n j) [
      | inl same ↦
          (let rest = sum_over-term f (suc n) m k (omega arith) (omega arith) in rw (← same) (omega arith))
      | inr other ↦ elim (cases_eq n k) [
        | inl same ↦
            (let rest = sum_over-term f (suc n) m j (omega arith) (omega arith) in rw (← same) (omega arith))
        | inr away ↦
            (let rest = sum_over-two f (suc n) m j k (omega arith) (omega arith) (omega arith) (omega arith) ne in omega arith)
      ]
    ]

sum_over-shift : (f : ℕ → ℕ) (n m : ℕ) → sum_over (λ k. f (suc k)) n m ≡ sum_over f (suc n) m
sum_over-shift f n zero = refl
sum_over-shift f n (suc m) = ap (λ r. f (suc n) + r) (sum_over-shift f (suc n) m)

-- a sum over the logs, number by number
pub sum_over-logs : (w : List Entry → ℕ) (logs : List Logged) → sum_by (λ log. w log.entries) logs ≡ sum_over (λ k. w (log_at logs k)) 0 (length logs)
sum_over-logs w [] = refl
sum_over-logs w (log ∷ logs) =
    let f : Logged → ℕ = λ l. w l.entries in
    sum_by-cons f log logs ∙
    ap (λ r. w log.entries + r) (sum_over-logs w logs ∙ sum_over-shift (λ k. w (log_at (log ∷ logs) k)) 0 (length logs))

-- the entries of log k stand between those of the logs before it and of the logs behind it
pub entry_count-more : (logs : List Logged) (k : ℕ) → k < length logs → entry_count (take (k + 1) logs) ≡ entry_count (take k logs) + length (log_at logs k)
entry_count-more logs k lt = sum_by_more (λ log. length log.entries) logs k no_log lt

pub entry_count-le : (logs : List Logged) (j k : ℕ) → j ≤ k → entry_count (take j logs) ≤ entry_count (take k logs)
entry_count-le logs j k le =
    let same : take j (take k logs) ≡ take j logs = take-take j k logs le in
    rw (← same) (sum_by-take-le (λ log. length log.entries) (take k logs) j)

pub entry_count-whole : (logs : List Logged) (k : ℕ) → entry_count (take k logs) ≤ entry_count logs
entry_count-whole logs k = sum_by-take-le (λ log. length log.entries) logs k

-- there are no entries where there is no log
pub log_at-past : (logs : List Logged) (k : ℕ) → length logs ≤ k → log_at logs k ≡ []
log_at-past logs k le = ap (λ log. log.entries) (get_or_past logs k no_log le)

pub left_of-past : (logs : List Logged) (next : List ℕ) (k : ℕ) → length logs ≤ k → left_of logs next k ≡ []
left_of-past logs next k le = ap (drop (get_or next k 0)) (log_at-past logs k le) ∙ drop_all (get_or next k 0) [] (omega arith)
