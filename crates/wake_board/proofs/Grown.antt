-- What a call makes of a pass.
use Rattle.std.proofs.Common.{◌≡◌, ℕ, ◌+◌, List, [], ◌∷◌, ◌++◌, refl, sym, ap, subst, ◌∙◌, arith}
use Rattle.atomic_table.specs.Table.{Me}
use Rattle.atomic_table.specs.Seated.{TableId}
use Rattle.task_machine.specs.declared.calls.Call.{Call}
use Rattle.task_machine.specs.declared.calls.Reply.{Reply}
use Rattle.task_machine.specs.declared.calls.Entry.{Entry}
use Rattle.task_machine.specs.Step.{task_at, bit}
use Rattle.task_machine.specs.Since.{is_take}
use Rattle.task_machine.specs.Event.{event_at}
use Rattle.task_machine.specs.Own.{Own, own_at, own_next, own_of}
use Rattle.wake_board.specs.declared.body.Body.{Body}
use Rattle.wake_board.specs.declared.views.View.{View}
use Rattle.wake_board.specs.Start.{Start, start_in}
use Rattle.wake_board.specs.Outs.{out_of, without, Carries}
use Rattle.wake_board.specs.Seen.{Held, entry_by, own_log, logged, with_call, own_view, Attests, Calls, Told, AreAbsent, Misses, ToldMisses, missed, with_out, OutTold}
use Rattle.wake_board.specs.Ends.{own_by}
use Rattle.wake_board.specs.Own.{takes_in, known_takes, held_by, IsPass}

pub takes_in-end : (i : ℕ) (es : List Entry) (e : Entry) → takes_in i (es ++ e ∷ []) ≡ takes_in i es + bit (is_take i e.call)
takes_in-end i [] e = omega arith
takes_in-end i (x ∷ es) e = let more = takes_in-end i es e in omega arith

-- what a caller has after one more entry
pub own_of-end : (i : ℕ) (o : Own) (es : List Entry) (e : Entry) → own_of i o (es ++ e ∷ []) ≡ own_next (own_of i o es) (event_at i e)
own_of-end i o [] e = refl
own_of-end i o (x ∷ es) e = own_of-end i (own_next o (event_at i x)) es e

-- a call leaves the parts of a pass together
pub IsPass-told : (who : ℕ) (me new : Me Body View) (c : Call) (a : Reply) → IsPass who me → Told me c a new → IsPass who new
IsPass-told who me new c a r t =
    let there : IsPass who (logged me.0 (entry_by me.0.first c a), me.1) = record { log = refl; number = r.number; slots = r.slots } in
    subst (IsPass who) (sym t.seat) there

-- the call, as contracts see the pass
pub Calls-told : (board later : TableId) (who : ℕ) (me new : Me Body View) (c : Call) (a : Reply) → later ≡ board → IsPass who me → Told me c a new → Calls (held_by board who me.0) c a (held_by later who new.0)
Calls-told board later who me new c a same r t =
    let e : Entry = entry_by me.0.first c a in
    let f : Entry = entry_by who c a in
    let one : e ≡ f = ap (λ (n : ℕ). entry_by n c a) r.number in
    let grown : held_by later who new.0 ≡ with_call (held_by board who me.0) c a = ap (λ (b : TableId). held_by b who new.0) same ∙ (ap (λ (x : Me Body View). held_by board who x.0) t.seat ∙ ap (λ (x : Entry). held_by board who (logged me.0 x)) one) in
    let start : Start = start_in me.0.start in
    let log : own_log new.0.logs ≡ own_log me.0.logs ++ f ∷ [] = ap (λ (x : Me Body View). own_log x.0.logs) t.seat ∙ ap (λ (x : Entry). own_log me.0.logs ++ x ∷ []) one in
    let attested : Attests start who c a (own_log me.0.logs ++ f ∷ []) = subst (λ (n : ℕ). Attests start n c a (own_log me.0.logs ++ f ∷ [])) r.number (subst (Attests start me.0.first c a) log t.attested) in
    record { entry = grown; attested = subst (λ (h : Held). Attests start who c a h.entries) (sym grown) attested }

-- what a pass has of a task, by its seat and as contracts see it
pub own_view-held : (board : TableId) (who : ℕ) (me : Me Body View) (i : ℕ) → IsPass who me → own_view me.0 i ≡ own_by (held_by board who me.0) i
own_view-held board who me i r =
    ap (λ (n : ℕ). own_of i (own_at n (task_at (start_in me.0.start).state i).place) (own_log me.0.logs)) r.number

-- what a pass has, and what it knows, after a call
pub own-called : (old new : Held) (c : Call) (a : Reply) (i : ℕ) → Calls old c a new → own_by new i ≡ own_next (own_by old i) (event_at i (entry_by old.who c a))
own-called old new c a i t =
    ap (λ (p : Held). own_by p i) t.entry ∙ own_of-end i (own_at old.who (task_at old.start.state i).place) old.entries (entry_by old.who c a)

pub takes-called : (old new : Held) (c : Call) (a : Reply) (i : ℕ) → Calls old c a new → known_takes new.start new.entries i ≡ known_takes old.start old.entries i + bit (is_take i c)
takes-called old new c a i t =
    let more = takes_in-end i old.entries (entry_by old.who c a) in
    ap (λ (p : Held). known_takes p.start p.entries i) t.entry ∙ (let z : (task_at old.start.state i).takes + takes_in i (old.entries ++ entry_by old.who c a ∷ []) ≡ known_takes old.start old.entries i + bit (is_take i c) = omega arith in z)

-- misses leave the parts of a pass together
pub IsPass-missed : (who : ℕ) (me new : Me Body View) (tasks : List ℕ) → IsPass who me → ToldMisses me tasks new → IsPass who new
IsPass-missed who me new tasks r t =
    let there : IsPass who (missed me.0 tasks, me.1) = record { log = r.log; number = r.number; slots = r.slots } in
    subst (IsPass who) (sym t.seat) there

pub Misses-told : (board later : TableId) (who : ℕ) (me new : Me Body View) (tasks : List ℕ) → later ≡ board → IsPass who me → ToldMisses me tasks new → Misses (held_by board who me.0) tasks (held_by later who new.0)
Misses-told board later who me new tasks same r t =
    record {
      noted = ap (λ (b : TableId). held_by b who new.0) same ∙ ap (λ (x : Me Body View). held_by board who x.0) t.seat;
      absent = subst (λ (n : ℕ). AreAbsent (start_in me.0.start) n (own_log me.0.logs) tasks) r.number t.absent;
    }

-- the body of a drawn task goes out
pub IsPass-out : (who : ℕ) (me new : Me Body View) (i : ℕ) (body : Body) → IsPass who me → OutTold me i body new → IsPass who new
IsPass-out who me new i body r t =
    let there : IsPass who (with_out me.0 (out_of i body.takes ∷ me.0.outs), (i, body) ∷ me.1) = record { log = r.log; number = r.number; slots = (refl, r.slots) } in
    subst (IsPass who) (sym t.seat) there

-- and comes back
pub IsPass-in : (who : ℕ) (me new : Me Body View) (i : ℕ) → IsPass who me → new.0 ≡ with_out me.0 (without i me.0.outs) → Carries new.1 (without i me.0.outs) → IsPass who new
IsPass-in who me new i r view carries =
    let there : IsPass who (with_out me.0 (without i me.0.outs), new.1) = record { log = r.log; number = r.number; slots = carries } in
    subst (λ (v : View). IsPass who (v, new.1)) (sym view) there
