-- Tasks that are among others.
use Rattle.std.proofs.Common.{◌≡◌, ◌⊎◌, ℕ, zero, suc, ◌+◌, ◌-◌, ◌*◌, ◌<◌, ◌≤◌, true, List, [], ◌∷◌, ◌++◌, length, sym, ap, ◌∙◌, inl, inr, ⊎_elim, arith, eq-eqb, eqb-true}
use Rattle.std.specs.Prelude.{nat_lt, ◌==◌, ◌&&◌}
use Rattle.std.specs.Int.{bit_at}
use Rattle.std.proofs.lemmas.Bool.{cases_eq, cases_Bool, lt-ltb, and_parts, ltb-true}
use mathlib.Core.Option.{some, some-ne-none}
use Rattle.wake_board.specs.Seen.{clear_from}
use Rattle.wake_board.proofs.Tables.{at_append, at_front, at_behind, at_single}
use Rattle.shared_queue.specs.Drawing.{IsAmong}

pub among_front : (xs ys : List ℕ) (i : ℕ) → IsAmong xs i → IsAmong (xs ++ ys) i
among_front xs ys i a = (a.0, at_front xs ys a.0 i a.1)

pub among_behind : (xs ys : List ℕ) (i : ℕ) → IsAmong ys i → IsAmong (xs ++ ys) i
among_behind xs ys i a = (length xs + a.0, at_behind xs ys a.0 i a.1)

pub among_either : (xs ys : List ℕ) (i : ℕ) → IsAmong (xs ++ ys) i → IsAmong xs i ⊎ IsAmong ys i
among_either xs ys i a =
    ⊎_elim (λ e. inl (a.0, e)) (λ t. inr (a.0 - length xs, t.1)) (at_append xs ys a.0 i a.1)

pub among_one : (x i : ℕ) → IsAmong (x ∷ []) i → x ≡ i
among_one x i a = (at_single x i a.0 a.1).1

pub among_none : (i : ℕ) → IsAmong [] i → ⊥
among_none i a = some-ne-none i (sym a.1)

-- a task of a group whose bit is clear is listed
pub clear_has : (n g word bits j k : ℕ) → j ≤ k → k < j + bits → 64 * g + k < n → bit_at word k ≡ 0 → IsAmong (clear_from n g word j bits) (64 * g + k)
clear_has n g word zero j k low high within clear = absurd (omega arith)
clear_has n g word (suc bits) j k low high within clear =
    elim (cases_eq j k) [
      | inl same ↦ (
          let low' : nat_lt (64 * g + j) n ≡ true = lt-ltb (64 * g + j) n (omega arith) in
          let zero' : (bit_at word j == 0) ≡ true = eq-eqb (bit_at word j) 0 (ap (bit_at word) same ∙ clear) in
          rw (low', zero') (0, ap (λ (x : ℕ). some (64 * g + x)) same)
          )
      | inr ne ↦ (
          let rest : IsAmong (clear_from n g word (suc j) bits) (64 * g + k) = clear_has n g word bits (suc j) k (omega arith) (omega arith) within clear in
          elim (cases_Bool (nat_lt (64 * g + j) n && bit_at word j == 0)) [
            | inl t ↦ rw t (suc rest.0, rest.1)
            | inr f ↦ rw f rest
          ]
          )
    ]

-- a task of group g, at a bit from j on and for so many bits, that is clear
pub record IsClear (n g word j bits i : ℕ) : Type 0 where
  pub bit : ℕ
  pub is : i ≡ 64 * g + bit
  pub low : j ≤ bit
  pub high : bit < j + bits
  pub exists : i < n
  pub clear : bit_at word bit ≡ 0

-- and what is listed is such a task
pub clear_of : (n g word bits j i : ℕ) → IsAmong (clear_from n g word j bits) i → IsClear n g word j bits i
clear_of n g word zero j i a = absurd (among_none i a)
clear_of n g word (suc bits) j i a =
    elim (cases_Bool (nat_lt (64 * g + j) n && bit_at word j == 0)) [
      | inl t ↦ (
          let listed : IsAmong ((64 * g + j) ∷ clear_from n g word (suc j) bits) i = rw t at a in
          ⊎_elim (λ first. here t (among_one (64 * g + j) i first)) (λ rest. wider (clear_of n g word bits (suc j) i rest)) (among_either ((64 * g + j) ∷ []) (clear_from n g word (suc j) bits) i listed)
          )
      | inr f ↦ wider (clear_of n g word bits (suc j) i (rw f at a))
    ]
  where
    here : (nat_lt (64 * g + j) n && bit_at word j == 0) ≡ true → 64 * g + j ≡ i → IsClear n g word j (suc bits) i
    here t same =
        let parts = and_parts (nat_lt (64 * g + j) n) (bit_at word j == 0) t in
        let below : 64 * g + j < n = ltb-true (64 * g + j) n parts.0 in
        record {
          bit = j;
          is = sym same;
          low = omega arith;
          high = omega arith;
          exists = omega arith;
          clear = eqb-true (bit_at word j) 0 parts.1;
        }

    wider : IsClear n g word (suc j) bits i → IsClear n g word j (suc bits) i
    wider r =
        let low = r.low in
        let high = r.high in
        record {
          bit = r.bit;
          is = r.is;
          low = omega arith;
          high = omega arith;
          exists = r.exists;
          clear = r.clear;
        }
