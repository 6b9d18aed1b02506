-- From a stage a caller makes a part of its turn, and then goes on at another stage.
use Rattle.std.proofs.Common.{◌≡◌, ℕ, List, [], ◌∷◌, ◌++◌, Some, None, refl, sym, ap, ap₂, subst, ◌∙◌, append_assoc, inl}
use Rattle.sched_base.specs.declared.names.CallerId.{CallerId}
use Rattle.step_tables.specs.declared.tables.Script.{Script}
use Rattle.task_machine.specs.declared.calls.Call.{Call}
use Rattle.task_machine.specs.declared.calls.Reply.{Reply}
use Rattle.task_machine.specs.declared.calls.Entry.{Entry}
use Rattle.run_model.specs.Parts.{Part, Quiet, Then, Asks, From, Each}
use Rattle.run_model.specs.Book.{Book}
use Rattle.turn_steps.specs.Left.{Stage, asked, heard, went, Rest}
use Rattle.turn_steps.proofs.Asked.{went-asked, only_asked}

-- the rest from stage g is the part from book b and then the rest from where it stops
pub record Leads {B : Type 0} (s : Script) (w : CallerId) (T : ℕ) (P : Part B) (b : B) (g : Stage) (stop : B → Stage) : Type 0 where
  pub to : (c : B) (xs ys : List Entry) (d : Book) → P b xs c → Rest s w T (stop c) ys d → Rest s w T g (xs ++ ys) d
  pub from : (zs : List Entry) (d : Book) → Rest s w T g zs d → (c : B) × (xs : List Entry) × (ys : List Entry) × (zs ≡ xs ++ ys) × P b xs c × Rest s w T (stop c) ys d

pub leads-quiet : {B : Type 0} (s : Script) (w : CallerId) (T : ℕ) (f : B → B) (b : B) (stop : B → Stage) → Leads s w T (Quiet f) b (stop (f b)) stop
leads-quiet {B} s w T f b stop = record {
  to = λ c xs ys d p rest.
      subst (λ (zs : List Entry). Rest s w T (stop (f b)) (zs ++ ys) d) (sym p.0) (subst (λ (k : B). Rest s w T (stop k) ys d) p.1 rest);
  from = λ zs d rest. (f b, [], zs, refl, (refl, refl), rest);
}

pub leads-then : {B : Type 0} (s : Script) (w : CallerId) (T : ℕ) (P Q : Part B) (b : B) (g : Stage) (mid stop : B → Stage) → Leads s w T P b g mid → ((c : B) → Leads s w T Q c (mid c) stop) → Leads s w T (Then P Q) b g stop
leads-then {B} s w T P Q b g mid stop hp hq = record {
  to = λ c xs ys d p rest.
      let two = (hq p.between).to c p.second ys d p.back rest in
      let one = hp.to p.between p.first (p.second ++ ys) d p.front two in
      let e : xs ++ ys ≡ p.first ++ (p.second ++ ys) = ap (λ zs. zs ++ ys) p.joined ∙ append_assoc p.first p.second ys in
      subst (λ (zs : List Entry). Rest s w T g zs d) (sym e) one;
  from = λ zs d rest.
      let one = hp.from zs d rest in
      let two = (hq one.0).from one.2 d one.5 in
      let e : zs ≡ (one.1 ++ two.1) ++ two.2 = one.3 ∙ (ap (λ xs. one.1 ++ xs) two.3 ∙ sym (append_assoc one.1 two.1 two.2)) in
      (two.0, one.1 ++ two.1, two.2, e, record { first = one.1; second = two.1; between = one.0; joined = refl; front = one.4; back = two.4 }, two.5);
}

-- the rest from a stage that asks a call begins with it
asks_from : {B : Type 0} (s : Script) (w : CallerId) (T : ℕ) (call : Call) (P : Reply → Part B) (b : B) (g : Stage) (stop : B → Stage) → asked s g ≡ Some call → ((r : Reply) → Leads s w T (P r) b (heard s w T r g) stop) → (zs : List Entry) (d : Book) → Rest s w T g zs d → (c : B) × (xs : List Entry) × (ys : List Entry) × (zs ≡ xs ++ ys) × Asks w call P b xs c × Rest s w T (stop c) ys d
asks_from s w T call P b g stop is h [] d rest = let e : None ≡ Some call = sym rest.0 ∙ is in cc
asks_from s w T call P b g stop is h (e ∷ es) d rest =
    let same : e.call ≡ call = only_asked s g call e.call is rest.1 in
    let entry : e ≡ record { caller = w; call = call; reply = e.reply } = ap₂ (λ (k : CallerId) (c : Call). record { caller = k; call = c; reply = e.reply }) rest.0 same in
    let next : went s w T e.call e.reply g ≡ heard s w T e.reply g = went-asked s w T e.call e.reply g (is ∙ ap (λ c. Some c) (sym same)) in
    let more = (h e.reply).from es d (subst (λ (k : Stage). Rest s w T k es d) next rest.2) in
    (more.0, e ∷ more.1, more.2, ap (λ zs. e ∷ zs) more.3, record { reply = e.reply; rest = more.1; begins = ap (λ x. x ∷ more.1) entry; goes_on = more.4 }, more.5)

pub leads-asks : {B : Type 0} (s : Script) (w : CallerId) (T : ℕ) (call : Call) (P : Reply → Part B) (b : B) (g : Stage) (stop : B → Stage) → asked s g ≡ Some call → ((r : Reply) → Leads s w T (P r) b (heard s w T r g) stop) → Leads s w T (Asks w call P) b g stop
leads-asks {B} s w T call P b g stop is h = record {
  to = λ c xs ys d p rest.
      let more = (h p.reply).to c p.rest ys d p.goes_on rest in
      let next : went s w T call p.reply g ≡ heard s w T p.reply g = went-asked s w T call p.reply g is in
      subst (λ (zs : List Entry). Rest s w T g (zs ++ ys) d) (sym p.begins) (refl, inl is, subst (λ (k : Stage). Rest s w T k (p.rest ++ ys) d) (sym next) more);
  from = asks_from s w T call P b g stop is h;
}

pub leads-from : {B : Type 0} (s : Script) (w : CallerId) (T : ℕ) (P : B → Part B) (b : B) (g : Stage) (stop : B → Stage) → Leads s w T (P b) b g stop → Leads s w T (From P) b g stop
leads-from s w T P b g stop h = record { to = h.to; from = h.from }

pub leads-each : {A B : Type 0} (s : Script) (w : CallerId) (T : ℕ) (P : A → Part B) (enter : List A → B → Stage) (xs : List A) (b : B) → ((x : A) (more : List A) (c : B) → Leads s w T (P x) c (enter (x ∷ more) c) (enter more)) → Leads s w T (Each P xs) b (enter xs b) (enter [])
leads-each {A} {B} s w T P enter [] b h = leads-quiet s w T (λ (c : B). c) b (enter [])
leads-each s w T P enter (x ∷ xs) b h = leads-then s w T (P x) (Each P xs) b (enter (x ∷ xs) b) (enter xs) (enter []) (h x xs b) (λ c. leads-each s w T P enter xs c h)
