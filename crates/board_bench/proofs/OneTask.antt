-- What a caller has while it runs a shared task.
use Rattle.std.proofs.Common.{◌≡◌, ◌≢◌, ℕ, zero, suc, ◌+◌, ◌-◌, ◌^◌, ◌<◌, ◌≤◌, ◌==◌, ◌||◌, Bool, true, false, if◌then◌else◌, List, [], ◌∷◌, ◌++◌, length, map, get_or, length-append, refl, sym, ap, subst, ◌∙◌, inl, inr, arith, eq-eqb}
use Rattle.std.proofs.lemmas.Bool.{cases_eq}
use mathlib.Core.Option.{some, some-ne-none}
use lib.ListN.{get_elem?}
use Rattle.sched_base.specs.declared.names.TaskId.{TaskId}
use Rattle.task_machine.specs.declared.task.Seen.{Seen}
use Rattle.task_machine.specs.declared.calls.Call.{Call}
use Rattle.task_machine.specs.declared.calls.Call.TheVariants as calls
use Rattle.task_machine.specs.declared.calls.Reply.{Reply}
use Rattle.task_machine.specs.declared.calls.Reply.TheVariants as replies
use Rattle.task_machine.specs.declared.calls.Entry.{Entry}
use Rattle.task_machine.specs.Step.{subject, is_about}
use Rattle.task_machine.specs.Event.{apart, event_of, event_at}
use Rattle.task_machine.specs.Own.{Own, away, holding, drawing, running, saw_rest, saw_busy, own_next}
use Rattle.task_machine.proofs.About.{NoGet, is_about-subject, is_about-other}
use Rattle.step_tables.specs.declared.tables.TaskDef.{TaskDef}
use Rattle.step_tables.specs.Nexts.{next_rows, row_after}
use Rattle.wake_board.specs.declared.views.Out.{Out}
use Rattle.wake_board.specs.Outs.{out_of, HasBody, NoBody, without, gained}
use Rattle.wake_board.specs.Bodies.{with_outs, IsOutWith, MayTake}
use Rattle.wake_board.specs.Seen.{Held, Laid, entry_by, with_call, with_misses, Calls, Misses, IsPassOf}
use Rattle.wake_board.specs.Ends.{own_by}
use Rattle.wake_board.proofs.Grown.{own-called}
use Rattle.board_bench.specs.Callers.{IsUsed}
use Rattle.board_bench.specs.Drawn.{IsClear, HasOne}

pub one_first : (b : Laid) (p : Held) (i : ℕ) → IsClear b p → HasOne b p i away []
one_first b p i r =
    record { board = r.used.board; start = r.used.start; outs_are = r.used.outs; has = r.away_all i; others = λ j ne. r.away_all j }

pub one_last : (b : Laid) (p : Held) (i : ℕ) → HasOne b p i away [] → IsClear b p
one_last b p i r =
    record {
      used = record { board = r.board; start = r.start; outs = r.outs_are };
      away_all = λ j. elim (cases_eq j i) [ inl same ↦ subst (λ (k : ℕ). own_by p k ≡ away) (sym same) r.has | inr ne ↦ r.others j ne ];
    }

pub clear_missed : (b : Laid) (p q : Held) (tasks : List ℕ) → IsClear b p → Misses p tasks q → IsClear b q
clear_missed b p q tasks r t =
    let there : IsClear b (with_misses p tasks) = record { used = record { board = r.used.board; start = r.used.start; outs = r.used.outs }; away_all = r.away_all } in
    subst (IsClear b) (sym t.noted) there

-- a call on the one task
pub one_call : (b : Laid) (p q : Held) (i : ℕ) (c : Call) (r : Reply) (o u : Own) (outs : List Out) → HasOne b p i o outs → Calls p c r q → NoGet c → subject c ≡ i → own_next o (event_of i c r) ≡ u → HasOne b q i u outs
one_call b p q i c r o u outs h t ng is becomes =
    let e : Entry = entry_by p.who c r in
    let about : is_about i c ≡ true = subst (λ (k : ℕ). is_about k c ≡ true) is (is_about-subject c ng) in
    let event : event_at i e ≡ event_of i c r = ap (λ (y : Bool). if y then event_of i c r else apart) about in
    record {
      board = ap (λ (x : Held). x.board) t.entry ∙ h.board;
      start = ap (λ (x : Held). x.start) t.entry ∙ h.start;
      outs_are = ap (λ (x : Held). x.outs) t.entry ∙ h.outs_are;
      has = own-called p q c r i t ∙ (ap (λ (x : Own). own_next x (event_at i e)) h.has ∙ (ap (own_next o) event ∙ becomes));
      others = λ j ne.
          let other : is_about j c ≡ false = is_about-other j c ng (λ z. ne (z ∙ is)) in
          own-called p q c r j t ∙ (ap (λ (y : Bool). own_next (own_by p j) (if y then event_of j c r else apart)) other ∙ h.others j ne);
    }

-- a body that moves
pub one_moved : (b : Laid) (p q : Held) (i : ℕ) (o : Own) (outs new : List Out) → HasOne b p i o outs → q ≡ with_outs p new → HasOne b q i o new
one_moved b p q i o outs new h is =
    let there : HasOne b (with_outs p new) i o new = record { board = h.board; start = h.start; outs_are = refl; has = h.has; others = h.others } in
    subst (λ (x : Held). HasOne b x i o new) (sym is) there

-- the steps of a run
pub one_drawn : (b : Laid) (p q : Held) (id : TaskId) → HasOne b p id.0 away [] → Calls p (calls.Draw id) replies.Done q → HasOne b q id.0 drawing []
one_drawn b p q id h t = one_call b p q id.0 (calls.Draw id) replies.Done away drawing [] h t (λ g e. cc) refl refl

pub one_out : (b : Laid) (p q : Held) (i t : ℕ) → HasOne b p i drawing [] → q ≡ with_outs p (out_of i t ∷ p.outs) → HasOne b q i drawing (out_of i t ∷ [])
one_out b p q i t h is =
    one_moved b p q i drawing [] (out_of i t ∷ []) h (is ∙ ap (λ (l : List Out). with_outs p (out_of i t ∷ l)) h.outs_are)

pub one_taken : (b : Laid) (p q : Held) (id : TaskId) (seen : Seen) (outs : List Out) → HasOne b p id.0 drawing outs → Calls p (calls.Take id) (replies.Task seen) q → HasOne b q id.0 running outs
one_taken b p q id seen outs h t = one_call b p q id.0 (calls.Take id) (replies.Task seen) drawing running outs h t (λ g e. cc) refl refl

without_one : (i t : ℕ) → without i (out_of i t ∷ []) ≡ []
without_one i t = ap (λ (b : Bool). if b then without i [] else out_of i t ∷ without i []) (eq-eqb i i refl)

pub one_in : (b : Laid) (p q : Held) (i t : ℕ) (o : Own) → HasOne b p i o (out_of i t ∷ []) → q ≡ with_outs p (without i p.outs) → HasOne b q i o []
one_in b p q i t o h is =
    one_moved b p q i o (out_of i t ∷ []) [] h (is ∙ ap (with_outs p) (ap (without i) h.outs_are ∙ without_one i t))

pub one_dropped : (b : Laid) (p q : Held) (id : TaskId) (seen : Seen) → HasOne b p id.0 running [] → Calls p (calls.DropRun id) (replies.Task seen) q → HasOne b q id.0 (if saw_busy seen then holding else away) []
one_dropped b p q id seen h t = one_call b p q id.0 (calls.DropRun id) (replies.Task seen) running (if saw_busy seen then holding else away) [] h t (λ g e. cc) refl refl

pub one_woken : (b : Laid) (p q : Held) (id : TaskId) (f : ℕ) (seen : Seen) (x : Bool) → HasOne b p id.0 (if x then holding else away) [] → Calls p (calls.Wake id f) (replies.Task seen) q → HasOne b q id.0 (if x || saw_rest seen then holding else away) []
one_woken b p q id f seen x h t =
    one_call b p q id.0 (calls.Wake id f) (replies.Task seen) (if x then holding else away) (if x || saw_rest seen then holding else away) [] h t (λ g e. cc) refl (either x (saw_rest seen))
  where
    either : (x y : Bool) → (if y then holding else (if x then holding else away)) ≡ (if x || y then holding else away)
    either true true = refl
    either true false = refl
    either false true = refl
    either false false = refl

pub one_posted : (b : Laid) (p q : Held) (id : TaskId) (boxno : ℕ) → HasOne b p id.0 holding [] → Calls p (calls.Post id boxno) replies.Done q → HasOne b q id.0 away []
one_posted b p q id boxno h t = one_call b p q id.0 (calls.Post id boxno) replies.Done holding away [] h t (λ g e. cc) refl refl

-- what a pass has by a test that came out so
pub when_true : (b : Laid) (p : Held) (i : ℕ) (x : Bool) (o u : Own) → x ≡ true → HasOne b p i (if x then o else u) [] → HasOne b p i o []
when_true b p i x o u e h = subst (λ (y : Bool). HasOne b p i (if y then o else u) []) e h

pub when_false : (b : Laid) (p : Held) (i : ℕ) (x : Bool) (o u : Own) → x ≡ false → HasOne b p i (if x then o else u) [] → HasOne b p i u []
when_false b p i x o u e h = subst (λ (y : Bool). HasOne b p i (if y then o else u) []) e h

-- no body is out with a pass that has none
pub nobody_out : (b : Laid) (p : Held) (i : ℕ) (o : Own) → HasOne b p i o [] → NoBody p.outs i
nobody_out b p i o h j x e =
    absurd (some-ne-none x (sym (subst (λ (l : List Out). get_elem? l j ≡ some x) h.outs_are e)))

-- the only body that is out
pub only_out : (b : Laid) (p : Held) (i t : ℕ) (o : Own) → HasOne b p i o (out_of i t ∷ []) → HasBody p.outs i t
only_out b p i t o h = (0, ap (λ (l : List Out). get_elem? l 0) h.outs_are)

-- so the task may be taken
pub may_take : (b : Laid) (p : Held) (i t : ℕ) → HasOne b p i drawing (out_of i t ∷ []) → length p.entries < 2 ^ 40 → MayTake p i t
may_take b p i t h few = inr (record { drawn = h.has; out = only_out b p i t drawing h; early = few })

pub longer : (p q : Held) (c : Call) (r : Reply) → Calls p c r q → length q.entries ≡ length p.entries + 1
longer p q c r t = ap (λ (x : Held). length x.entries) t.entry ∙ length-append p.entries (entry_by p.who c r ∷ [])

pub same_who : (p q : Held) (c : Call) (r : Reply) → Calls p c r q → q.who ≡ p.who
same_who p q c r t = ap (λ (x : Held). x.who) t.entry

-- the row after one more take
pub row_more : (nexts : List (List ℕ)) (i t : ℕ) → get_or (get_or nexts i []) (row_after nexts i t) 0 ≡ row_after nexts i (t + 1)
unfolding row_after
row_more nexts i t = let z : suc t ≡ t + 1 = omega arith in ap (row_after nexts i) z

-- what a body that comes back must have
pub out_with : (b : Laid) (p : Held) (i t : ℕ) → HasOne b p i running (out_of i t ∷ []) → IsOutWith p i (t + 1)
out_with b p i t h = (t, only_out b p i t running h, ap (λ (o : Own). t + gained o) (sym h.has))

pub out_drawn : (b : Laid) (p : Held) (i t : ℕ) → HasOne b p i drawing (out_of i t ∷ []) → IsOutWith p i t
out_drawn b p i t h = (t, only_out b p i t drawing h, (let z : t ≡ t + 0 = omega arith in z) ∙ ap (λ (o : Own). t + gained o) (sym h.has))

pub moved_entries : (p q : Held) (outs : List Out) → q ≡ with_outs p outs → q.entries ≡ p.entries
moved_entries p q outs is = ap (λ (x : Held). x.entries) is

pub moved_who : (p q : Held) (outs : List Out) → q ≡ with_outs p outs → q.who ≡ p.who
moved_who p q outs is = ap (λ (x : Held). x.who) is

pub missed_entries : (p q : Held) (tasks : List ℕ) → Misses p tasks q → q.entries ≡ p.entries
missed_entries p q tasks t = ap (λ (x : Held). x.entries) t.noted

pub missed_who : (p q : Held) (tasks : List ℕ) → Misses p tasks q → q.who ≡ p.who
missed_who p q tasks t = ap (λ (x : Held). x.who) t.noted

-- of which board the pass is
pub one_board : (b : Laid) (p : Held) (i : ℕ) (o : Own) (outs : List Out) → HasOne b p i o outs → IsPassOf b p
one_board b p i o outs h = record { board = h.board; start = h.start }

pub clear_board : (b : Laid) (p : Held) → IsClear b p → IsPassOf b p
clear_board b p r = record { board = r.used.board; start = r.used.start }
