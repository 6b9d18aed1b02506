-- A caller that follows its part has what its part says, whatever the others do.
use Rattle.std.proofs.Common.{◌≡◌, ℕ, ◌==◌, Bool, true, false, if◌then◌else◌, List, [], ◌∷◌, refl, sym, eq-eqb, subst}
use Rattle.sched_base.specs.declared.names.CallerId.{CallerId}
use Rattle.step_tables.specs.declared.tables.Script.{Script}
use Rattle.task_machine.specs.declared.calls.Entry.{Entry}
use Rattle.task_machine.specs.Step.{State, Allowed}
use Rattle.task_machine.specs.History.{stepped, Legal, led, calls_of}
use Rattle.turn_steps.specs.Left.{Stage, went}
use Rattle.turn_steps.specs.Told.{Told, told}
use Rattle.turn_steps.specs.Has.{caller, said}
use Rattle.standing.specs.Keeps.{Owns}
use Rattle.standing.proofs.OwnsKept.{Owns-other, Owns-went}

-- what follows the first entry, which is the caller's or another's
Owns-entry : (s : Script) (T k : ℕ) (state : State) (g : Stage) (e : Entry) (es : List Entry) (own : Bool) → ((mid : State) (x : Stage) → Owns k mid x → Legal mid es → Told s (caller k) T x (calls_of k es) → Owns k (led mid es) (told s (caller k) T x (calls_of k es))) → (e.caller.0 == k) ≡ own → Owns k state g → Legal state (e ∷ es) → Told s (caller k) T g (if own then e ∷ calls_of k es else calls_of k es) → Owns k (led (stepped state e) es) (told s (caller k) T g (if own then e ∷ calls_of k es else calls_of k es))
Owns-entry s T k state g e es true later same o l h =
    let mine : Allowed state (said (caller k) e.call e.reply) = subst (λ (w : CallerId). Allowed state (said w e.call e.reply)) h.0 l.0 in
    later (stepped state e) (went s (caller k) T e.call e.reply g) (subst (λ (w : CallerId). Owns k (stepped state (said w e.call e.reply)) (went s (caller k) T e.call e.reply g)) (sym h.0) (Owns-went s T state g e.call h.1 k e.reply o mine)) l.1 h.2
Owns-entry s T k state g e es false later other o l h =
    later (stepped state e) g (Owns-other state e k g (λ same. let yes : (e.caller.0 == k) ≡ true = eq-eqb e.caller.0 k (sym same) in cc) l.0 o) l.1 h

-- in each legal history in which caller k follows its part
pub Owns-told : (s : Script) (T k : ℕ) (state : State) (g : Stage) (es : List Entry) → Owns k state g → Legal state es → Told s (caller k) T g (calls_of k es) → Owns k (led state es) (told s (caller k) T g (calls_of k es))
Owns-told s T k state g [] o l h = o
Owns-told s T k state g (e ∷ es) o l h =
    Owns-entry s T k state g e es (e.caller.0 == k) (λ mid x p q t. Owns-told s T k mid x es p q t) refl o l h
