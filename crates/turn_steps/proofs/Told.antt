-- What is left is told call by call.
use Rattle.std.proofs.Common.{◌≡◌, ℕ, List, [], ◌∷◌, None, refl, sym, subst}
use Rattle.sched_base.specs.declared.names.CallerId.{CallerId}
use Rattle.step_tables.specs.declared.tables.Script.{Script}
use Rattle.task_machine.specs.declared.calls.Entry.{Entry}
use Rattle.run_model.specs.Book.{Book}
use Rattle.turn_steps.specs.Left.{Stage, asked, went, Rest}
use Rattle.turn_steps.specs.Told.{Told, told}
use Rattle.turn_steps.specs.Laws.{RestsAreTold}

pub rest-told : (s : Script) (w : CallerId) (T : ℕ) (g : Stage) (es : List Entry) (d : Book) → Rest s w T g es d → Told s w T g es × (asked s (told s w T g es) ≡ None) × (d ≡ (told s w T g es).book)
rest-told s w T g [] d h = (tt, h.0, h.1)
rest-told s w T g (e ∷ es) d h =
    let more = rest-told s w T (went s w T e.call e.reply g) es d h.2 in
    ((h.0, h.1, more.0), more.1, more.2)

pub told-rest : (s : Script) (w : CallerId) (T : ℕ) (g : Stage) (es : List Entry) → Told s w T g es → asked s (told s w T g es) ≡ None → Rest s w T g es (told s w T g es).book
told-rest s w T g [] h none = (none, refl)
told-rest s w T g (e ∷ es) h none = (h.0, h.1, told-rest s w T (went s w T e.call e.reply g) es h.2 none)

pub rests_told : RestsAreTold
rests_told s w T g es d = (rest-told s w T g es d, λ h. subst (λ (b : Book). Rest s w T g es b) (sym h.2) (told-rest s w T g es h.0 h.1))
