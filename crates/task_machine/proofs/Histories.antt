-- Histories one after another, and the one end of a history.
use Rattle.std.proofs.Common.{◌≡◌, ℕ, true, false, Bool, ◌==◌, if◌then◌else◌, List, [], ◌∷◌, ◌++◌, refl, sym, ap, subst, ◌∙◌}
use Rattle.task_machine.specs.declared.calls.Entry.{Entry}
use Rattle.task_machine.specs.Step.{State, Step}
use Rattle.task_machine.specs.History.{stepped, Legal, led, History, calls_of}

pub led-append : (s : State) (xs ys : List Entry) → led s (xs ++ ys) ≡ led (led s xs) ys
led-append s [] ys = refl
led-append s (x ∷ xs) ys = led-append (stepped s x) xs ys

pub Legal-append : (s : State) (xs ys : List Entry) → Legal s xs → Legal (led s xs) ys → Legal s (xs ++ ys)
Legal-append s [] ys h g = g
Legal-append s (x ∷ xs) ys h g = (h.0, Legal-append (stepped s x) xs ys h.1 g)

pub Legal-front : (s : State) (xs ys : List Entry) → Legal s (xs ++ ys) → Legal s xs
Legal-front s [] ys h = tt
Legal-front s (x ∷ xs) ys h = (h.0, Legal-front (stepped s x) xs ys h.1)

pub Legal-rest : (s : State) (xs ys : List Entry) → Legal s (xs ++ ys) → Legal (led s xs) ys
Legal-rest s [] ys h = h
Legal-rest s (x ∷ xs) ys h = Legal-rest (stepped s x) xs ys h.1

-- one history after another is a history
pub History-append : (old mid new : State) (xs ys : List Entry) → History old xs mid → History mid ys new → History old (xs ++ ys) new
History-append old mid new xs ys h g =
    let later : Legal (led old xs) ys = subst (λ (s : State). Legal s ys) h.1 g.0 in
    (Legal-append old xs ys h.0 later, g.1 ∙ ap (λ s. led s ys) h.1 ∙ sym (led-append old xs ys))

-- a step is a history of one entry
pub History-step : (old : State) (e : Entry) (new : State) → Step old e new → History old (e ∷ []) new
History-step old e new step = ((step.allowed, tt), step.state)

calls_if : (b : Bool) (x : Entry) (xs ys zs : List Entry) → zs ≡ xs ++ ys → (if b then x ∷ zs else zs) ≡ (if b then x ∷ xs else xs) ++ ys
calls_if true x xs ys zs e = ap (λ us. x ∷ us) e
calls_if false x xs ys zs e = e

pub calls_of-append : (k : ℕ) (xs ys : List Entry) → calls_of k (xs ++ ys) ≡ calls_of k xs ++ calls_of k ys
calls_of-append k [] ys = refl
calls_of-append k (x ∷ xs) ys =
    calls_if (x.caller.0 == k) x (calls_of k xs) (calls_of k ys) (calls_of k (xs ++ ys)) (calls_of-append k xs ys)

pub History-one_end : (s : State) (es : List Entry) (a b : State) → History s es a → History s es b → a ≡ b
History-one_end s es a b h g = h.1 ∙ sym g.1
