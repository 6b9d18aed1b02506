-- The word of a group in a box, task by task.
use Rattle.std.proofs.Common.{◌≡◌, ℕ, suc, ◌+◌, ◌-◌, ◌*◌, ◌%◌, ◌^◌, ◌<◌, ◌≤◌, ◌⊎◌, inl, inr, Bool, true, false, List, length, get_or, sym, ap, ◌∙◌, arith, bit_or}
use Rattle.std.proofs.lemmas.Bool.{cases_lt}
use Rattle.std.proofs.lemmas.Nat.{or_lt}
use Rattle.std.proofs.lemmas.Nat.Bits.{bit_at_set_same, bit_at_set_other, bit_at_above}
use Rattle.std.proofs.lemmas.List.{get_or_past, get_or_default}
use Rattle.std.proofs.Math.Pow.{pow-lt}
use Rattle.std.specs.Int.{bit_at, w64}
use Rattle.task_machine.specs.declared.task.TaskState.{TaskState}
use Rattle.task_machine.specs.Task.{resting, is_boxed}
use Rattle.task_machine.specs.Step.{bit, IsBoxIn}

-- n is the word of the first k tasks from task f on
abbrev pub IsPart : List TaskState → ℕ → ℕ → ℕ → ℕ → Type 0
IsPart ts b f n k =
    (n < 2 ^ k) × ((j : ℕ) → j < k → bit_at n j ≡ bit (is_boxed b (get_or ts (f + j) resting).place))

below_suc : (j k : ℕ) → j < suc k → (j < k) ⊎ (j ≡ k)
below_suc j k h = elim (cases_lt j k) [ inl lt ↦ inl lt | inr le ↦ inr (omega arith) ]

pow_suc_lt : (k : ℕ) → 2 ^ k < 2 ^ suc k
pow_suc_lt k = pow-lt (omega arith)

pow_kept : (k : ℕ) → k < 64 → 1 * 2 ^ k % 2 ^ 64 ≡ 2 ^ k
pow_kept k h = let le : 2 ^ k < 2 ^ 64 = pow-lt h in grind arith

pub IsPart-none : (ts : List TaskState) (b f : ℕ) → IsPart ts b f 0 0
IsPart-none ts b f = (omega arith, λ j h. absurd (omega arith))

-- a task that is not in the box leaves its bit clear
pub IsPart-clear : (ts : List TaskState) (b f n k : ℕ) → is_boxed b (get_or ts (f + k) resting).place ≡ false → IsPart ts b f n k → IsPart ts b f n (suc k)
IsPart-clear ts b f n k e h = (
  omega (arith, h.0, pow_suc_lt k),
  λ j l. elim (below_suc j k l) [ inl lt ↦ h.1 j lt | inr same ↦ rw same (bit_at_above n k k h.0 (omega arith) ∙ sym (ap bit e)) ],
)

-- a task that is in the box sets its bit
pub IsPart-set : (ts : List TaskState) (b f n k : ℕ) → k < 64 → is_boxed b (get_or ts (f + k) resting).place ≡ true → IsPart ts b f n k → IsPart ts b f (bit_or n (1 * 2 ^ k % 2 ^ 64)) (suc k)
IsPart-set ts b f n k within e h = (
  or_lt (suc k) n (1 * 2 ^ k % 2 ^ 64) (omega (arith, h.0, pow_suc_lt k)) (omega (arith, pow_suc_lt k, pow_kept k within)),
  λ j l. elim (below_suc j k l) [ inl lt ↦ bit_at_set_other w64 n k within j (omega arith) ∙ h.1 j lt | inr same ↦ rw same (bit_at_set_same w64 n k within ∙ sym (ap bit e)) ],
)

pow_within : (n k : ℕ) → k ≤ 64 → n < 2 ^ k → n < 2 ^ 64
pow_within n k h l = elim (cases_lt k 64) [ inl lt ↦ (let p : 2 ^ k < 2 ^ 64 = pow-lt lt in omega arith) | inr le ↦ (let e : k ≡ 64 = omega arith in rw e at l) ]

-- a whole group, or what the list has of it
pub IsBoxIn-whole : (ts : List TaskState) (b g n k : ℕ) → k ≤ 64 → (k < 64 → length ts ≤ 64 * g + k) → IsPart ts b (64 * g) n k → IsBoxIn ts b g n
IsBoxIn-whole ts b g n k within past h = (
  pow_within n k within h.0,
  λ j l. elim (cases_lt j k) [
    | inl lt ↦ h.1 j lt
    | inr le ↦ bit_at_above n k j h.0 le ∙ sym (ap (λ t. bit (is_boxed b t.place)) (get_or_past ts (64 * g + j) resting (omega (arith, past (omega arith)))))
  ],
)

-- the word with one more task, read at place i of the list
next_at : (g i : ℕ) → 64 * g ≤ i → i + 1 - 64 * g ≡ suc (i - 64 * g)
next_at g i h = omega arith

boxed_at : (ts : List TaskState) (b g i : ℕ) (t : TaskState) (r : Bool) → 64 * g ≤ i → i < length ts → is_boxed b (get_or ts i t).place ≡ r → is_boxed b (get_or ts (64 * g + (i - 64 * g)) resting).place ≡ r
boxed_at ts b g i t r from within e =
    let same : 64 * g + (i - 64 * g) ≡ i = omega arith in
    rw (same, get_or_default ts i resting t within) e

pub IsPart-next_clear : (ts : List TaskState) (b g i n : ℕ) (t : TaskState) → 64 * g ≤ i → i < length ts → is_boxed b (get_or ts i t).place ≡ false → IsPart ts b (64 * g) n (i - 64 * g) → IsPart ts b (64 * g) n (i + 1 - 64 * g)
IsPart-next_clear ts b g i n t from within e h =
    rw (next_at g i from) (IsPart-clear ts b (64 * g) n (i - 64 * g) (boxed_at ts b g i t false from within e) h)

pub IsPart-next_set : (ts : List TaskState) (b g i n : ℕ) (t : TaskState) → 64 * g ≤ i → i < length ts → i < 64 * g + 64 → is_boxed b (get_or ts i t).place ≡ true → IsPart ts b (64 * g) n (i - 64 * g) → IsPart ts b (64 * g) (bit_or n (1 * 2 ^ (i - 64 * g) % 2 ^ 64)) (i + 1 - 64 * g)
IsPart-next_set ts b g i n t from within upto e h =
    rw (next_at g i from) (IsPart-set ts b (64 * g) n (i - 64 * g) (omega arith) (boxed_at ts b g i t true from within e) h)
