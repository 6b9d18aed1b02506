-- What stands while the entries of a round are made, and what one entry more makes of it.
use Rattle.std.proofs.Common.{◌≡◌, ◌≢◌, ℕ, suc, ◌+◌, ◌*◌, ◌<◌, Bool, true, false, if◌then◌else◌, List, [], ◌∷◌, ◌++◌, length, slice_index_or, refl, sym, ap, ◌∙◌, arith, subst}
use Rattle.step_tables.specs.declared.tables.Script.{Script}
use Rattle.task_machine.specs.declared.calls.Entry.{Entry}
use Rattle.task_machine.specs.Since.{is_take}
use Rattle.task_machine.specs.Task.{is_gone}
use Rattle.task_machine.specs.Step.{State, task_at, bit, AllRoom, Allowed}
use Rattle.task_machine.specs.History.{stepped, calls_of}
use Rattle.run_model.specs.Tables.{home_of, row_at, row_number}
use Rattle.turn_steps.specs.Left.{went}
use Rattle.standing.specs.Keeps.{Callers, Keeps}
use Rattle.standing.specs.Going.{called, IsNext}
use Rattle.standing.specs.Between.{entered, round_takes}
use Rattle.standing.specs.Homes.{KeepsHomes}
use Rattle.standing.specs.Clock.{KeepsClock}
use Rattle.standing.specs.Laws.{takes_by}
use Rattle.standing.proofs.Finish.{going-append, gone_on-append}
use Rattle.standing.proofs.Firm.{firm-calls}
use Rattle.standing.proofs.HomesKept.{TimersHaveHomes-sound}
use Rattle.standing.proofs.Merge.{set_same, set_other}
use Rattle.standing.proofs.TakesTold.{step-takes, takes-told}
use Rattle.run_replay.specs.Floors.{after_all, KnowsRows, Making, Made}
use Rattle.thread_loop.specs.Idle.{Opened}
use Rattle.run_replay.specs.declared.floor.Floor.{Floor}

-- ---- what stands

pub keeps-making : (s : Script) (g : Opened) (es : List Entry) (floor : Floor) → Making s g es floor → Keeps s (g.round * round_takes s + round_takes s) (after_all s g es)
keeps-making s g es floor h = (firm-calls s g.round g.tick (g.round * round_takes s) g.old es h.sound h.firm h.going).0

pub homes-making : (s : Script) (g : Opened) (es : List Entry) (floor : Floor) → Making s g es floor → KeepsHomes s (after_all s g es)
homes-making s g es floor h = (firm-calls s g.round g.tick (g.round * round_takes s) g.old es h.sound h.firm h.going).1

pub clock-making : (s : Script) (g : Opened) (es : List Entry) (floor : Floor) → Making s g es floor → KeepsClock s g.tick (after_all s g es)
clock-making s g es floor h = (firm-calls s g.round g.tick (g.round * round_takes s) g.old es h.sound h.firm h.going).2

-- each task has room for one take more
pub room-making : (s : Script) (g : Opened) (es : List Entry) (floor : Floor) → Making s g es floor → AllRoom floor.machine
room-making s g es floor h =
    let keeps = keeps-making s g es floor h in
    let few = h.few in
    subst AllRoom (sym h.state) (λ i. let most = keeps.takes i in omega arith)

pub tasks-making : (s : Script) (g : Opened) (es : List Entry) (floor : Floor) → Making s g es floor → length floor.machine.tasks ≡ length s.tasks
tasks-making s g es floor h = ap (λ (st : State). length st.tasks) h.state ∙ (keeps-making s g es floor h).tasks

pub workers-making : (s : Script) (g : Opened) (es : List Entry) (floor : Floor) → Making s g es floor → floor.machine.workers ≡ s.workers
workers-making s g es floor h = ap (λ (st : State). st.workers) h.state ∙ (keeps-making s g es floor h).workers

-- a next entry is allowed
pub allowed-making : (s : Script) (g : Opened) (es : List Entry) (floor : Floor) (e : Entry) → Making s g es floor → IsNext s (after_all s g es) e → Allowed floor.machine e
allowed-making s g es floor e h next = subst (λ (st : State). Allowed st e) (sym h.state) next.allowed

-- ---- one entry more

pub after-next : (s : Script) (g : Opened) (es : List Entry) (e : Entry) → after_all s g (es ++ e ∷ []) ≡ called s g.tick (after_all s g es) e
after-next s g es e = gone_on-append s g.tick (entered s g.round g.tick g.old) es (e ∷ [])

row_taken : (s : Script) (i n t : ℕ) (b : Bool) → n ≡ row_number s i t → (if b then (row_at s i n).next else n) ≡ row_number s i (t + bit b)
row_taken s i n t true e = let up : suc t ≡ t + 1 = omega arith in ap (λ m. (row_at s i m).next) e ∙ ap (row_number s i) up
row_taken s i n t false e = e ∙ ap (row_number s i) (omega arith)

rows-next : (s : Script) (e : Entry) (old new : Floor) → KnowsRows s old.machine old.rows.items → Allowed old.machine e → Made s e old new → KnowsRows s new.machine new.rows.items
rows-next s e old new h a n = record {
  count = n.count ∙ h.count;
  known = λ i live.
      let step = step-takes old.machine e i a (ap (λ (st : State). is_gone (task_at st i).place) (sym n.state) ∙ live) in
      n.rows i ∙ row_taken s i (slice_index_or old.rows.items i 0) (task_at old.machine i).takes (is_take i e.call) (h.known i step.0) ∙ ap (row_number s i) (sym step.1 ∙ ap (λ (st : State). (task_at st i).takes) (sym n.state));
}

pub making-next : (s : Script) (g : Opened) (es : List Entry) (e : Entry) (old new : Floor) → Making s g es old → IsNext s (after_all s g es) e → Made s e old new → Making s g (es ++ e ∷ []) new
making-next s g es e old new h next n = record {
  sound = h.sound;
  round = h.round;
  few = h.few;
  firm = h.firm;
  going = going-append s g.tick (entered s g.round g.tick g.old) es (e ∷ []) h.going (next, tt);
  state = n.state ∙ ap (λ (st : State). stepped st e) h.state ∙ sym (ap (λ (x : Callers). x.state) (after-next s g es e));
  rows = rows-next s e old new h.rows (allowed-making s g es old e h next) n;
}

-- the caller's stage goes on, and those of the others stay
pub stage-next : (s : Script) (g : Opened) (es : List Entry) (e : Entry) → (after_all s g (es ++ e ∷ [])).at e.caller.0 ≡ went s e.caller g.tick e.call e.reply ((after_all s g es).at e.caller.0)
stage-next s g es e =
    let c = after_all s g es in
    ap (λ (x : Callers). x.at e.caller.0) (after-next s g es e) ∙ set_same e.caller.0 (went s e.caller g.tick e.call e.reply (c.at e.caller.0)) c.at

pub others-next : (s : Script) (g : Opened) (es : List Entry) (e : Entry) (j : ℕ) → j ≢ e.caller.0 → (after_all s g (es ++ e ∷ [])).at j ≡ (after_all s g es).at j
others-next s g es e j ne =
    let c = after_all s g es in
    ap (λ (x : Callers). x.at j) (after-next s g es e) ∙ set_other e.caller.0 j (went s e.caller g.tick e.call e.reply (c.at e.caller.0)) c.at ne

-- the takes of a worker's own task
pub own-takes : (s : Script) (g : Opened) (es : List Entry) (e : Entry) (old new : Floor) (i : ℕ) → Making s g es old → IsNext s (after_all s g es) e → Made s e old new → home_of s i < s.workers → is_gone (task_at new.machine i).place ≡ false → (is_gone (task_at old.machine i).place ≡ false) × ((task_at new.machine i).takes ≡ (task_at old.machine i).takes + takes_by i (calls_of (home_of s i) (e ∷ [])))
own-takes s g es e old new i h next n home live =
    let c = after_all s g es in
    let there : new.machine ≡ stepped c.state e = n.state ∙ ap (λ (st : State). stepped st e) h.state in
    let t = takes-told s g.tick (home_of s i) i c (e ∷ []) (TimersHaveHomes-sound s h.sound) (homes-making s g es old h) home refl (next, tt) (ap (λ (st : State). is_gone (task_at st i).place) (sym there) ∙ live) in (
      ap (λ (st : State). is_gone (task_at st i).place) h.state ∙ t.0,
      ap (λ (st : State). (task_at st i).takes) there ∙ t.1 ∙ ap (λ (st : State). (task_at st i).takes + takes_by i (calls_of (home_of s i) (e ∷ []))) (sym h.state),
    )
