-- What a caller asks is no draw, and while it asks it draws none.
use Rattle.std.proofs.Common.{◌≡◌, ℕ, ◌<◌, false, Some, None, Option, refl, sym, ap, ◌∙◌, arith, inl, inr}
use Rattle.sched_base.specs.declared.names.CallerId.{CallerId}
use Rattle.queue_model.specs.Classes.{Next}
use Rattle.step_tables.specs.declared.tables.Action.{Action}
use Rattle.step_tables.specs.declared.tables.Action.TheVariants.{Wake as Wakes, Kill as Kills}
use Rattle.step_tables.specs.declared.tables.Script.{Script}
use Rattle.task_machine.specs.declared.calls.Call.{Call}
use Rattle.task_machine.specs.declared.calls.Call.TheVariants.{Wake, Kill, Post, Get, Draw, Take, DropRun, Retire}
use Rattle.task_machine.specs.declared.calls.Reply.{Reply}
use Rattle.run_model.specs.Tables.{home_of, call_of}
use Rattle.run_model.specs.Standing.{is_draw}
use Rattle.run_model.specs.Book.{Book}
use Rattle.run_model.proofs.Readings.{some_inj}
use Rattle.turn_steps.specs.Left.{next_in, Left, gets, wakes, runs, acts, posts, drops, retires, returns, drawn, injects, carries, over, Stage, take_call, asked_in, asked, heard, draws_if, draws_now_in, draws_now, drew, MayCall, went}

action-draw : (a : Action) → is_draw (call_of a) ≡ false
action-draw (Wakes i reasons) = refl
action-draw (Kills i) = refl

take-draw : (o : Option Next) (c : Call) → take_call o ≡ Some c → is_draw c ≡ false
take-draw None c e = cc
take-draw (Some x) c e = ap is_draw (sym (some_inj _ _ e))

pub asked-draw : (s : Script) (l : Left) (b : Book) (c : Call) → asked_in s l b ≡ Some c → is_draw c ≡ false
asked-draw s (gets g gs) b c e = ap is_draw (sym (some_inj _ _ e))
asked-draw s (wakes i is) b c e = ap is_draw (sym (some_inj _ _ e))
asked-draw s (runs q) b c e = take-draw (next_in q b) c e
asked-draw s (acts a more i row q) b c e = ap is_draw (sym (some_inj _ _ e)) ∙ action-draw a
asked-draw s (posts j more i row q) b c e = ap is_draw (sym (some_inj _ _ e))
asked-draw s (drops i q) b c e = ap is_draw (sym (some_inj _ _ e))
asked-draw s (retires held i q) b c e = ap is_draw (sym (some_inj _ _ e))
asked-draw s (returns i q) b c e = ap is_draw (sym (some_inj _ _ e))
asked-draw s (drawn i n) b c e = ap is_draw (sym (some_inj _ _ e))
asked-draw s (injects a more) b c e = ap is_draw (sym (some_inj _ _ e)) ∙ action-draw a
asked-draw s (carries j more) b c e = ap is_draw (sym (some_inj _ _ e))
asked-draw s over b c e = cc

went-call : (s : Script) (w : CallerId) (T : ℕ) (c : Call) (r : Reply) (g : Stage) → is_draw c ≡ false → went s w T c r g ≡ heard s w T r g
went-call s w T (Wake i f) r g e = refl
went-call s w T (Kill i) r g e = refl
went-call s w T (Post i b) r g e = refl
went-call s w T (Get n) r g e = refl
went-call s w T (Draw i) r g e = cc
went-call s w T (Take i) r g e = refl
went-call s w T (DropRun i) r g e = refl
went-call s w T (Retire i) r g e = refl

-- a call that is asked goes on as the reply is heard
pub went-asked : (s : Script) (w : CallerId) (T : ℕ) (c : Call) (r : Reply) (g : Stage) → asked s g ≡ Some c → went s w T c r g ≡ heard s w T r g
went-asked s w T c r g e = went-call s w T c r g (asked-draw s g.left g.book c e)

draws-none : (o : Option Next) (n : ℕ) (c : Call) → take_call o ≡ Some c → draws_if o n ≡ 0
draws-none None n c e = cc
draws-none (Some x) n c e = refl

pub no-draws : (s : Script) (l : Left) (b : Book) (c : Call) → asked_in s l b ≡ Some c → draws_now_in s l b ≡ 0
no-draws s (gets g gs) b c e = refl
no-draws s (wakes i is) b c e = refl
no-draws s (runs q) b c e = draws-none (next_in q b) _ c e
no-draws s (acts a more i row q) b c e = refl
no-draws s (posts j more i row q) b c e = refl
no-draws s (drops i q) b c e = refl
no-draws s (retires held i q) b c e = refl
no-draws s (returns i q) b c e = refl
no-draws s (drawn i n) b c e = refl
no-draws s (injects a more) b c e = refl
no-draws s (carries j more) b c e = refl
no-draws s over b c e = refl

-- where a call is asked, no draw may come
pub only_asked : (s : Script) (g : Stage) (call c : Call) → asked s g ≡ Some call → MayCall s g c → c ≡ call
only_asked s g call c e may =
    elim may [
      | inl h ↦ some_inj _ _ (sym h ∙ e)
      | inr d ↦ let none = no-draws s g.left g.book call e in let some = d.some in absurd (omega arith)
    ]

-- what a next call leaves, by its two cases
pub by_ask : (s : Script) (w : CallerId) (T : ℕ) (g : Stage) (c : Call) (r : Reply) (P : Call → Stage → Type 0) → MayCall s g c → (asked s g ≡ Some c → P c (heard s w T r g)) → ((i : ℕ) → home_of s i ≡ s.workers → 0 < draws_now s g → c ≡ Draw (record { 0 = i }) → P (Draw (record { 0 = i })) (drew s i g)) → P c (went s w T c r g)
by_ask s w T g c r P may f h =
    elim may [
      | inl e ↦ rw (went-asked s w T c r g e) (f e)
      | inr d ↦ rw d.call (h d.task d.shared d.some d.call)
    ]
