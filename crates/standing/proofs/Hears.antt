-- Each reply that the machine gives to a caller's next call is one that its part can hear.
use Rattle.std.proofs.Common.{◌≡◌, ℕ, ◌+◌, ◌<◌, ◌⊎◌, inl, inr, length, refl, arith}
use Rattle.std.proofs.lemmas.Bool.{cases_lt}
use Rattle.sched_base.specs.declared.names.CallerId.{CallerId}
use Rattle.step_tables.specs.declared.tables.Script.{Script}
use Rattle.task_machine.specs.declared.calls.Call.{Call}
use Rattle.task_machine.specs.declared.calls.Call.TheVariants as calls
use Rattle.task_machine.specs.declared.calls.Reply.{Reply}
use Rattle.task_machine.specs.declared.calls.Entry.{Entry}
use Rattle.task_machine.specs.Step.{State, task_at, Allowed, IsReply}
use Rattle.task_machine.specs.Event.{HasKind}
use Rattle.task_machine.specs.History.{stepped}
use Rattle.task_machine.proofs.After.{length-after}
use Rattle.task_machine.specs.Task.{seen_of}
use Rattle.turn_steps.specs.Left.{Stage}
use Rattle.turn_steps.specs.Has.{caller, said, has, gain, CanGive}
use Rattle.standing.specs.Places.{held, ran, drawn_to}
use Rattle.standing.specs.Keeps.{Owns, Callers, Keeps}
use Rattle.standing.specs.Going.{IsNext}
use Rattle.standing.proofs.Own.{held-raise, ran-raise, drawn-raise, held-draw, ran-draw, drawn-draw}
use Rattle.standing.proofs.Gets.{held-get, ran-get, drawn-get}
use Rattle.standing.proofs.OwnsKept.{exclusive}
use Rattle.standing.proofs.Steps.{held-in, ran-in, drawn-in}

kind-reply : (s : State) (k : CallerId) (c : Call) (r : Reply) → IsReply s k c r → HasKind c r
kind-reply s k (calls.Wake i f) r h = (seen_of (task_at s i.0), h)
kind-reply s k (calls.Kill i) r h = (seen_of (task_at s i.0), h)
kind-reply s k (calls.Post i b) r h = h
kind-reply s k (calls.Get g) r h = (h.0, h.1, h.2.0)
kind-reply s k (calls.Draw i) r h = h
kind-reply s k (calls.Take i) r h = (seen_of (task_at s i.0), h)
kind-reply s k (calls.DropRun i) r h = (seen_of (task_at s i.0), h)
kind-reply s k (calls.Retire i) r h = (seen_of (task_at s i.0), h)

-- in how many ways a caller has a task
abbrev ways : CallerId → State → ℕ → ℕ
ways k s i = held k s i + ran k s i + drawn_to k s i

ways-in : (s : State) (k : CallerId) (i : ℕ) → 0 < ways k s i → i < length s.tasks
ways-in s k i h =
    elim (cases_lt 0 (held k s i)) [
      | inl lt ↦ held-in s k i lt
      | inr le ↦
          elim (cases_lt 0 (ran k s i)) [ inl lt ↦ ran-in s k i lt | inr none ↦ drawn-in s k i (omega arith) ]
    ]

-- what a call gains its caller has more after it
gained : (s : State) (k : CallerId) (c : Call) (r : Reply) (i : ℕ) → Allowed s (said k c r) → (gain i c r ≡ 0) ⊎ (gain i c r + ways k s i ≡ ways k (stepped s (said k c r)) i)
gained s k (calls.Wake j f) r i a =
    let c = calls.Wake j f in
    inr (omega (arith, held-raise s k c r i refl a, ran-raise s k c r i refl a, drawn-raise s k c r i refl a))
gained s k (calls.Kill j) r i a =
    let c = calls.Kill j in
    inr (omega (arith, held-raise s k c r i refl a, ran-raise s k c r i refl a, drawn-raise s k c r i refl a))
gained s k (calls.Post j b) r i a = inl refl
gained s k (calls.Get g) r i a = inr (omega (arith, held-get s k g r i a, ran-get s k g r i a, drawn-get s k g r i a))
gained s k (calls.Draw j) r i a = inr (omega (arith, held-draw s k j r i a, ran-draw s k j r i a, drawn-draw s k j r i a))
gained s k (calls.Take j) r i a = inl refl
gained s k (calls.DropRun j) r i a = inl refl
gained s k (calls.Retire j) r i a = inl refl

has-ways : (k : ℕ) (s : State) (g : Stage) (i : ℕ) → Owns k s g → has i g ≡ ways (caller k) s i
has-ways k s g i o = omega (arith, o.hands i, o.runs i, o.draws i)

pub can_give-owns : (s : Script) (state : State) (k : ℕ) (g : Stage) (c : Call) (r : Reply) → length state.tasks ≡ length s.tasks → Owns k state g → Allowed state (said (caller k) c r) → CanGive s g c r
can_give-owns s state k g c r n o a = record {
  kind = kind-reply state (caller k) c r a.reply;
  once = λ i. elim (gained state (caller k) c r i a) [
    | inl none ↦ omega (arith, none, has-ways k state g i o, exclusive (caller k) state i)
    | inr more ↦ omega (arith, more, has-ways k state g i o, exclusive (caller k) (stepped state (said (caller k) c r)) i)
  ];
  tasks = λ i h. elim (gained state (caller k) c r i a) [
    | inl none ↦ absurd (omega arith)
    | inr more ↦ omega (arith, ways-in (stepped state (said (caller k) c r)) (caller k) i (omega arith), length-after state (caller k) c)
  ];
}

pub can_give-allowed : (s : Script) (limit : ℕ) (c : Callers) (e : Entry) → Keeps s limit c → IsNext s c e → CanGive s (c.at e.caller.0) e.call e.reply
can_give-allowed s limit c e keeps next =
    can_give-owns s c.state e.caller.0 (c.at e.caller.0) e.call e.reply keeps.tasks (keeps.owns e.caller.0 next.caller) next.allowed
