-- The actions of a row, one at a time.
use Rattle.std.proofs.Common.{◌≡◌, ℕ, suc, zero, ◌+◌, ◌-◌, ◌≤◌, List, [], ◌∷◌, ◌++◌, length, refl, ap, sym, ◌∙◌, arith, append_assoc, append-nil, length-append}
use Rattle.std.specs.Prelude.{Some, None}
use Rattle.step_tables.specs.Words.{Word}
use Rattle.step_tables.specs.Shapes.{Order, wakes, kills, order_at, and_more, orders_at}
use Rattle.step_tables.specs.Text.{order_words}
use Rattle.step_tables.proofs.Back.{order_back}

-- with these actions before
abbrev pub led_by : List Order → List Order × List Word → List Order × List Word
led_by before found = (before ++ found.0, found.1)

-- one action more
next_order : (most : ℕ) (ws : List Word) (x : Order × List Word) → order_at ws ≡ Some x → orders_at (suc most) ws ≡ led_by (x.0 ∷ []) (orders_at most x.1)
unfolding orders_at
next_order most ws x e = ap (λ o. and_more ws o (orders_at most)) e

-- no action more
pub no_order : (most : ℕ) (ws : List Word) → order_at ws ≡ None → orders_at most ws ≡ ([], ws)
unfolding orders_at
no_order zero ws e = refl
no_order (suc most) ws e = ap (λ o. and_more ws o (orders_at most)) e

pub order_length : (o : Order) → 1 ≤ length (order_words o)
order_length (wakes name list) = omega arith
order_length (kills name) = omega arith

-- an action has a word
pub shorter : (ws : List Word) (x : Order × List Word) → order_at ws ≡ Some x → length x.1 + 1 ≤ length ws
shorter ws x e =
    let is : length ws ≡ length (order_words x.0 ++ x.1) = ap length (order_back ws x e).1 in
    let sum : length (order_words x.0 ++ x.1) ≡ length (order_words x.0) + length x.1 = length-append (order_words x.0) x.1 in
    let some : 1 ≤ length (order_words x.0) = order_length x.0 in
    omega arith

-- what was found before, and what the rest holds, are all that there is
pub record SoFar (all : List Word) (found : List Order) (rest : List Word) : Type 0 where
  pub room : length rest + length found ≤ length all
  pub same : led_by found (orders_at (length all - length found) rest) ≡ orders_at (length all) all

pub more_orders : (all : List Word) (found : List Order) (rest : List Word) (x : Order × List Word) → order_at rest ≡ Some x → SoFar all found rest → SoFar all (found ++ x.0 ∷ []) x.1
more_orders all found rest x e so_far =
    let less : length x.1 + 1 ≤ length rest = shorter rest x e in
    let room : length rest + length found ≤ length all = so_far.room in
    let one : length (found ++ x.0 ∷ []) ≡ length found + 1 = length-append found (x.0 ∷ []) in
    let count : length all - length found ≡ suc (length all - length (found ++ x.0 ∷ [])) = omega arith in
    record {
      room = omega arith;
      same =
          (λ i. (append_assoc found (x.0 ∷ []) (orders_at (length all - length (found ++ x.0 ∷ [])) x.1).0 i, (orders_at (length all - length (found ++ x.0 ∷ [])) x.1).1))
          ∙ sym (ap (led_by found) (ap (λ n. orders_at n rest) count ∙ next_order _ rest x e))
          ∙ so_far.same;
    }

-- where no action is left, all are found
pub all_orders : (all : List Word) (found : List Order) (rest : List Word) → order_at rest ≡ None → SoFar all found rest → (found, rest) ≡ orders_at (length all) all
all_orders all found rest e so_far =
    ap (λ o. (o, rest)) (sym (append-nil found))
    ∙ sym (ap (led_by found) (no_order (length all - length found) rest e))
    ∙ so_far.same
