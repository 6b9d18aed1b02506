-- The actions of events from one on.
use Rattle.std.proofs.Common.{◌≡◌, ℕ, zero, suc, ◌+◌, ◌<◌, ◌≤◌, List, [], ◌∷◌, length, drop, get_or, refl, sym, ap, ◌∙◌, arith, drop-cons, add-one}
use Rattle.step_tables.specs.declared.tables.Event.{Event}
use Rattle.thread_loop.specs.Events.{actions_all}

-- the events from one on
pub events-at : (es : List Event) (i : ℕ) (e : Event) → e ≡ get_or es i e → i < length es → actions_all (drop i es) ≡ e.action ∷ actions_all (drop (i + 1) es)
events-at es i e same lt =
    ap (λ xs. actions_all xs) (drop-cons es i e lt) ∙ ap (λ (x : Event). x.action ∷ actions_all (drop (suc i) es)) (sym same) ∙ ap (λ n. e.action ∷ actions_all (drop n es)) (sym (add-one i))

pub none-left : (es : List Event) (i : ℕ) → length es ≤ i → actions_all (drop i es) ≡ []
none-left [] zero h = refl
none-left [] (suc i) h = refl
none-left (e ∷ es) zero h = absurd (omega arith)
none-left (e ∷ es) (suc i) h = none-left es i (omega arith)
