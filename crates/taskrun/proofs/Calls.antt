-- The calls of a lawful round have reasons out of the seven.
use Rattle.std.proofs.Common.{◌≡◌, ℕ, ◌<◌, ◌≤◌, ◌&&◌, Bool, true, false, List, [], ◌∷◌, length, Option, Some, None, IsTrue, refl, sym, subst, arith, lit<, inl, inr, leb, ltb}
use Rattle.std.specs.List.{AllByRecursion}
use Rattle.std.proofs.lemmas.Bool.{leb-true}
use Rattle.queue_model.specs.Classes.{Next}
use Rattle.step_tables.specs.declared.tables.Action.{Action}
use Rattle.step_tables.specs.declared.tables.Action.TheVariants.{Wake as Wakes, Kill as Kills}
use Rattle.step_tables.specs.declared.tables.Script.{Script}
use Rattle.step_tables.specs.Sound.{within, is_sound_action}
use Rattle.task_machine.specs.declared.calls.Call.{Call}
use Rattle.task_machine.specs.declared.calls.Call.TheVariants as calls
use Rattle.task_machine.specs.declared.calls.Entry.{Entry}
use Rattle.run_model.specs.Tables.{call_of}
use Rattle.run_model.specs.Book.{Book}
use Rattle.run_model.proofs.Readings.{some_inj}
use Rattle.turn_steps.specs.Left.{Left, gets, wakes, runs, acts, posts, drops, retires, returns, drawn, injects, carries, over, Stage, next_in, take_call, asked_in, MayCall}
use Rattle.turn_steps.specs.Ranges.{NamesIn, InRange, IsFit}
use Rattle.standing.specs.Keeps.{Callers, Keeps}
use Rattle.standing.specs.Going.{Going, called}
use Rattle.standing.proofs.Steps.{Keeps-going}

-- both of two tests
pub both : (a b : Bool) → (a && b) ≡ true → (a ≡ true) × (b ≡ true)
both true b h = (refl, h)
both false b h = cc

-- a wake has reasons out of the seven
abbrev pub SmallCall : Call → Type 0
SmallCall (calls.Wake i reasons) = reasons < 128
SmallCall c = Unit {0}

small_action : (n : ℕ) (a : Action) → IsTrue (is_sound_action n a) → SmallCall (call_of a)
small_action n (Wakes i reasons) h =
    let p = both (ltb i.0 n) (within 1 127 reasons) h in
    let q = both (leb 1 reasons) (leb reasons 127) p.1 in
    let le : reasons ≤ 127 = leb-true reasons 127 q.1 in
    omega arith
small_action n (Kills i) h = tt

small_take : (o : Option Next) (c : Call) → take_call o ≡ Some c → SmallCall c
small_take None c e = cc
small_take (Some x) c e = subst SmallCall (some_inj _ _ e) tt

-- what a caller asks
small_asked : (s : Script) (n : ℕ) (l : Left) (b : Book) (c : Call) → NamesIn n l → asked_in s l b ≡ Some c → SmallCall c
small_asked s n (gets g gs) b c names e = subst SmallCall (some_inj _ _ e) tt
small_asked s n (wakes i is) b c names e = subst SmallCall (some_inj _ _ e) (lit< tt)
small_asked s n (runs q) b c names e = small_take (next_in q b) c e
small_asked s n (acts a more i row q) b c names e = subst SmallCall (some_inj _ _ e) (small_action n a names.0)
small_asked s n (posts j more i row q) b c names e = subst SmallCall (some_inj _ _ e) tt
small_asked s n (drops i q) b c names e = subst SmallCall (some_inj _ _ e) tt
small_asked s n (retires held i q) b c names e = subst SmallCall (some_inj _ _ e) tt
small_asked s n (returns i q) b c names e = subst SmallCall (some_inj _ _ e) tt
small_asked s n (drawn i m) b c names e = subst SmallCall (some_inj _ _ e) tt
small_asked s n (injects a more) b c names e = subst SmallCall (some_inj _ _ e) (small_action n a names.0)
small_asked s n (carries j more) b c names e = subst SmallCall (some_inj _ _ e) tt
small_asked s n over b c names e = cc

-- a next call
small_next : (s : Script) (n : ℕ) (g : Stage) (c : Call) → InRange n g → MayCall s g c → SmallCall c
small_next s n g c range (inl asks) = small_asked s n g.left g.book c range.names asks
small_next s n g c range (inr may) = subst SmallCall (sym may.call) tt

-- all calls of a round
pub small_going : (s : Script) (T limit : ℕ) (c : Callers) (es : List Entry) → IsFit s → Keeps s limit c → Going s T c es → AllByRecursion (λ e. SmallCall e.call) es
small_going s T limit c [] fit keeps h = tt
small_going s T limit c (e ∷ es) fit keeps h = (
  small_next s (length s.tasks) (c.at e.caller.0) e.call (keeps.range e.caller.0 h.0.caller) h.0.asks,
  small_going s T limit (called s T c e) es fit (Keeps-going s T limit c (e ∷ []) fit keeps (h.0, tt)) h.1,
)
