-- Answers as facts, and facts as answers.
use Rattle.std.proofs.Common.{◌≡◌, ◌↔◌, Bool, true, false, IsTrue, MatchBool, refl}

pub on-true : (b : Bool) (P Q : Type 0) → b ≡ true → MatchBool b P Q → P
on-true true P Q e h = h
on-true false P Q e h = cc

pub on-false : (b : Bool) (P Q : Type 0) → b ≡ false → MatchBool b P Q → Q
on-false true P Q e h = cc
on-false false P Q e h = h

pub never : (P : Type 0) → (P → ⊥) → IsTrue false ↔ P
never P fails = ((λ h. cc), (λ p. absurd (fails p)))

pub surely : (P : Type 0) → P → IsTrue true ↔ P
surely P p = ((λ h. p), (λ q. refl))

pub no-fact : (b : Bool) (P : Type 0) → b ≡ false → IsTrue b ↔ P → P → ⊥
no-fact b P e h p = let holds : b ≡ true = h.1 p in cc

pub the-fact : (b : Bool) (P : Type 0) → b ≡ true → IsTrue b ↔ P → P
the-fact b P e h = h.0 e

pub through : (b : Bool) (P Q : Type 0) → IsTrue b ↔ P → (P → Q) → (Q → P) → IsTrue b ↔ Q
through b P Q h f g = ((λ t. f (h.0 t)), (λ q. h.1 (g q)))

pub answered : (b : Bool) (P Q R : Type 0) → IsTrue b ↔ P → (P → Q) → ((P → ⊥) → R) → MatchBool b Q R
answered true P Q R h f g = f (h.0 refl)
answered false P Q R h f g = g (λ p. (let holds : false ≡ true = h.1 p in cc))
