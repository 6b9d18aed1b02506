-- How the reasons since a take grow by one entry.
use Rattle.std.proofs.Common.{◌≡◌, ℕ, Bool, true, false, ◌||◌, if◌then◌else◌, List, [], ◌∷◌, ◌++◌, refl, sym, ap, ◌∙◌, arith, bit_or}
use Rattle.std.proofs.lemmas.List.Folds.{list_any-append}
use Rattle.std.proofs.lemmas.Nat.Bits.{same_from_bits, bit_at_or}
use Rattle.std.proofs.Math.Bool.{or-true}
use Rattle.std.specs.Int.Bits.{or_zero_l, or_zero_r}
use Rattle.task_machine.specs.declared.calls.Entry.{Entry}
use Rattle.task_machine.specs.Since.{wake_of, is_kill, is_take, reasons_in, has_kill, has_take, since_take, first_reasons, reasons_since, killed_since}

or_assoc : (a b c : ℕ) → bit_or (bit_or a b) c ≡ bit_or a (bit_or b c)
or_assoc a b c =
    same_from_bits (bit_or (bit_or a b) c) (bit_or a (bit_or b c)) (λ i. simp bit_at_or (omega arith))

pub or_false : (b : Bool) → (b || false) ≡ b
or_false true = refl
or_false false = refl

has_take-push : (i : ℕ) (xs : List Entry) (e : Entry) → has_take i (xs ++ e ∷ []) ≡ (has_take i xs || is_take i e.call)
has_take-push i xs e =
    list_any-append (λ x. is_take i x.call) xs (e ∷ []) ∙ ap (λ b. has_take i xs || b) (or_false (is_take i e.call))

reasons_in-push : (i : ℕ) (xs : List Entry) (e : Entry) → reasons_in i (xs ++ e ∷ []) ≡ bit_or (reasons_in i xs) (wake_of i e.call)
reasons_in-push i [] e = or_zero_r (wake_of i e.call) ∙ sym (or_zero_l (wake_of i e.call))
reasons_in-push i (x ∷ xs) e = ap (bit_or (wake_of i x.call)) (reasons_in-push i xs e) ∙ sym (or_assoc (wake_of i x.call) (reasons_in i xs) (wake_of i e.call))

has_kill-push : (i : ℕ) (xs : List Entry) (e : Entry) → has_kill i (xs ++ e ∷ []) ≡ (has_kill i xs || is_kill i e.call)
has_kill-push i xs e =
    list_any-append (λ x. is_kill i x.call) xs (e ∷ []) ∙ ap (λ b. has_kill i xs || b) (or_false (is_kill i e.call))

-- a take leaves nothing behind it
since_take-take : (i : ℕ) (xs : List Entry) (e : Entry) → is_take i e.call ≡ true → since_take i (xs ++ e ∷ []) ≡ []
since_take-take i [] e h = rw h
since_take-take i (x ∷ xs) e h =
    let taken : has_take i (xs ++ e ∷ []) ≡ true = has_take-push i xs e ∙ rw (h, or-true (has_take i xs)) in
    rw taken (since_take-take i xs e h)

push_if : (b t : Bool) (xs ys : List Entry) (x e : Entry) → (if b then ys ++ e ∷ [] else (if t then xs ++ e ∷ [] else x ∷ (xs ++ e ∷ []))) ≡ (if b then ys else (if t then xs else x ∷ xs)) ++ e ∷ []
push_if true t xs ys x e = refl
push_if false true xs ys x e = refl
push_if false false xs ys x e = refl

-- any other entry comes at the end
since_take-push : (i : ℕ) (xs : List Entry) (e : Entry) → is_take i e.call ≡ false → since_take i (xs ++ e ∷ []) ≡ since_take i xs ++ e ∷ []
since_take-push i [] e h = rw h
since_take-push i (x ∷ xs) e h =
    let same : has_take i (xs ++ e ∷ []) ≡ has_take i xs = has_take-push i xs e ∙ rw (h, or_false (has_take i xs)) in
    rw (same, since_take-push i xs e h) (push_if (has_take i xs) (is_take i x.call) xs (since_take i xs) x e)

-- the reasons since a take begin anew with it, and grow by each other entry
pub reasons_since-take : (is_init : ℕ → Bool) (i : ℕ) (xs : List Entry) (e : Entry) → is_take i e.call ≡ true → reasons_since is_init i (xs ++ e ∷ []) ≡ 0
reasons_since-take is_init i xs e h = rw (has_take-push i xs e, h, or-true (has_take i xs), since_take-take i xs e h)

pub reasons_since-push : (is_init : ℕ → Bool) (i : ℕ) (xs : List Entry) (e : Entry) → is_take i e.call ≡ false → reasons_since is_init i (xs ++ e ∷ []) ≡ bit_or (reasons_since is_init i xs) (wake_of i e.call)
reasons_since-push is_init i xs e h =
    rw (has_take-push i xs e, h, or_false (has_take i xs), since_take-push i xs e h, reasons_in-push i (since_take i xs) e) (sym (or_assoc (if has_take i xs then 0 else first_reasons (is_init i)) (reasons_in i (since_take i xs)) (wake_of i e.call)))

pub killed_since-take : (i : ℕ) (xs : List Entry) (e : Entry) → is_take i e.call ≡ true → killed_since i (xs ++ e ∷ []) ≡ false
killed_since-take i xs e h = rw (since_take-take i xs e h)

pub killed_since-push : (i : ℕ) (xs : List Entry) (e : Entry) → is_take i e.call ≡ false → killed_since i (xs ++ e ∷ []) ≡ (killed_since i xs || is_kill i e.call)
killed_since-push i xs e h = rw (since_take-push i xs e h) (has_kill-push i (since_take i xs) e)

pub reasons_since-none : (is_init : ℕ → Bool) (i : ℕ) → reasons_since is_init i [] ≡ first_reasons (is_init i)
reasons_since-none is_init i = or_zero_r (first_reasons (is_init i))
