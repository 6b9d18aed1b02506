-- Homes are kept by each call and each round.
use Rattle.std.proofs.Common.{◌≡◌, ℕ, ◌/◌, ◌<◌, true, inl, inr, List, [], ◌∷◌, length, Some, sym, ap, ◌∙◌, arith, subst, IsTrue, eqb-true, ltb, ltb-true, get_or}
use Rattle.std.proofs.lemmas.Bool.{cases_eq}
use Rattle.std.specs.List.{range_with_len}
use Rattle.sched_base.specs.declared.names.CallerId.{CallerId}
use Rattle.step_tables.specs.declared.tables.Expiry.{Expiry}
use Rattle.step_tables.specs.declared.tables.Expiry.TheVariants.{Keep, After, Never}
use Rattle.step_tables.specs.declared.tables.Kind.{Kind}
use Rattle.step_tables.specs.declared.tables.Kind.TheVariants.{Pinned, Shared, Tasklet}
use Rattle.step_tables.specs.declared.tables.Script.{Script}
use Rattle.step_tables.specs.Sound.{is_sound, is_sound_expiry, is_sound_kind, is_sound_row, is_sound_task}
use Rattle.task_machine.specs.declared.calls.Call.{Call}
use Rattle.task_machine.specs.declared.calls.Call.TheVariants as calls
use Rattle.task_machine.specs.declared.calls.Reply.{Reply}
use Rattle.task_machine.specs.declared.calls.Entry.{Entry}
use Rattle.task_machine.specs.Task.{is_boxed}
use Rattle.task_machine.specs.Step.{State, task_at, Allowed}
use Rattle.run_model.proofs.Readings.{both, some_inj}
use Rattle.run_model.specs.Replies.{members}
use Rattle.run_model.specs.Run.{Round}
use Rattle.run_model.specs.Lawful.{RoundOf}
use Rattle.run_model.specs.Tables.{blank_row, blank_task, home_in, home_of, groups, actions_in}
use Rattle.run_model.specs.Book.{Book}
use Rattle.run_model.specs.Standing.{Standing, opening, book_at, blank_book}
use Rattle.turn_steps.specs.Left.{Left, gets, Stage, asked_in, went, MayCall}
use Rattle.turn_steps.specs.Times.{times, listed}
use Rattle.turn_steps.specs.Has.{caller, said}
use Rattle.turn_steps.proofs.Asked.{by_ask}
use Rattle.turn_steps.proofs.Fit.{sound_parts, at_all, task_parts, row_parts}
use Rattle.standing.specs.Keeps.{Callers}
use Rattle.standing.specs.Going.{called, IsNext, Going, gone_on}
use Rattle.standing.specs.Between.{KeepsBetween, entered}
use Rattle.standing.specs.Homes.{IsOf, Timed, Homed, BoxesOf, KeepsHomes, HomesBetween, TimersHaveHomes}
use Rattle.standing.proofs.Boxes.{comes-step}
use Rattle.queue_model.proofs.ItemTasks.{TimersOf}
use Rattle.standing.proofs.Ended.{ended-of, listed-ended}
use Rattle.standing.proofs.Enter.{entered_each}
use Rattle.standing.proofs.Gets.{members_are, members_apart}
use Rattle.standing.proofs.Homes.{homed-gets, homed-events, homed-heard, homed-drew}
use Rattle.standing.proofs.Opening.{opening_each, blank_at}
use Rattle.standing.proofs.Rounds.{made-round, left_after}
use Rattle.standing.proofs.Steps.{at_each, bit_set, posts_home}

-- a member of a get's answer was in the caller's box
pub member-boxed : (s : State) (k : CallerId) (g : ℕ) (r : Reply) (i : ℕ) → Allowed s (said k (calls.Get g) r) → 0 < times i (members g r) → is_boxed k.0 (task_at s i).place ≡ true
member-boxed s k g r i a some =
    elim (cases_eq (i / 64) g) [
      | inl same ↦ bit_set (is_boxed k.0 (task_at s i).place) (omega (arith, members_are s k.0 g i a.reply.0 r a.reply.1 a.reply.2 same))
      | inr ne ↦ absurd (omega (arith, members_apart g i a.reply.0 r a.reply.1 ne))
    ]

-- what a get brings is of the caller
came_home : (s : Script) (state : State) (k : ℕ) (l : Left) (b : Book) (c : Call) (r : Reply) → BoxesOf s state → asked_in s l b ≡ Some c → Allowed state (said (caller k) c r) → (g i : ℕ) (gs : List ℕ) → l ≡ gets g gs → 0 < times i (members g r) → IsOf s k i
came_home s state k l b c r boxes e a g i gs same some =
    let asks : asked_in s (gets g gs) b ≡ Some c = ap (λ x. asked_in s x b) (sym same) ∙ e in
    let call : calls.Get g ≡ c = some_inj (calls.Get g) c asks in
    let get : Allowed state (said (caller k) (calls.Get g) r) = subst (λ (d : Call). Allowed state (said (caller k) d r)) (sym call) a in
    boxes k i (member-boxed state (caller k) g r i get some)

homed-went : (s : Script) (T : ℕ) (state : State) (k : ℕ) (g : Stage) (c : Call) (r : Reply) → TimersHaveHomes s → BoxesOf s state → MayCall s g c → Allowed state (said (caller k) c r) → Homed s k g → Homed s k (went s (caller k) T c r g)
homed-went s T state k g c r have boxes may a h =
    by_ask s (caller k) T g c r (λ d x. Homed s k x) may (λ e. homed-heard s k T r g.left g.book have (came_home s state k g.left g.book c r boxes e a) h) (λ i shared some e. homed-drew s k i g shared h)

pub KeepsHomes-next : (s : Script) (T : ℕ) (c : Callers) (e : Entry) → TimersHaveHomes s → KeepsHomes s c → IsNext s c e → KeepsHomes s (called s T c e)
KeepsHomes-next s T c e have keeps next =
    let j = e.caller.0 in
    let g = went s e.caller T e.call e.reply (c.at j) in
    record {
      boxes = λ b i h. elim (comes-step c.state e b i next.allowed h) [ inl was ↦ keeps.boxes b i was | inr came ↦ posts_home s (c.at j) e.call next.asks b i came.0 came.1 ];
      homed = λ k le. at_each (λ k x. Homed s k x) j k g c.at (λ same. rw same (homed-went s T c.state j (c.at j) e.call e.reply have keeps.boxes next.asks next.allowed (keeps.homed j next.caller))) (λ ne. keeps.homed k le);
    }

pub KeepsHomes-going : (s : Script) (T : ℕ) (c : Callers) (es : List Entry) → TimersHaveHomes s → KeepsHomes s c → Going s T c es → KeepsHomes s (gone_on s T c es)
KeepsHomes-going s T c [] have keeps h = keeps
KeepsHomes-going s T c (e ∷ es) have keeps h =
    KeepsHomes-going s T (called s T c e) es have (KeepsHomes-next s T c e have keeps h.0) h.1

pub KeepsHomes-entered : (s : Script) (r T : ℕ) (st : Standing) → HomesBetween s st → KeepsHomes s (entered s r T st)
KeepsHomes-entered s r T st h = record {
  boxes = h.boxes;
  homed = λ k le. entered_each s r T st (λ k g. Homed s k g) k (λ same. homed-events s k (actions_in s r) (blank_book 0) (λ i some. absurd (omega arith), tt)) (λ ne. homed-gets s k T (range_with_len 0 (groups s)) (book_at st k) (λ i some. h.lists k i (omega arith) some, h.timers k (omega arith)));
}

pub HomesBetween-round : (s : Script) (r T limit : ℕ) (old : Standing) (round : Round) (new : Standing) → TimersHaveHomes s → KeepsBetween s limit old → HomesBetween s old → RoundOf s r T old round new → HomesBetween s new
HomesBetween-round s r T limit old round new have keeps h is =
    let made = made-round s r T old round new keeps.books is in
    let c = gone_on s T (entered s r T old) round.entries in
    let after = KeepsHomes-going s T (entered s r T old) round.entries have (KeepsHomes-entered s r T old h) made.going in
    let left = left_after s r T old round new keeps.books is in
    record {
      boxes = rw left.state after.boxes;
      lists = λ k i lt some. (after.homed k (omega arith)).lists i (let same = ap (listed i) (left.books k lt) in omega (arith, listed-ended s T i (c.at k).book));
      timers = λ k lt. rw (left.books k lt) (ended-of (IsOf s k) s T (c.at k).book (after.homed k (omega arith)).timers);
    }

pub HomesBetween-opening : (s : Script) → HomesBetween s (opening s)
HomesBetween-opening s = record {
  boxes = λ b i. opening_each s i (λ t. is_boxed b t.place ≡ true → home_of s i ≡ b) (λ h. sym (eqb-true b (home_of s i) h)) (λ h. cc);
  lists = λ k i lt. blank_at s.workers k (blank_book (length s.tasks)) (blank_book 0) (λ b. 0 < listed i b → IsOf s k i) (λ some. absurd (omega arith)) (λ some. absurd (omega arith));
  timers = λ k lt. blank_at s.workers k (blank_book (length s.tasks)) (blank_book 0) (λ b. TimersOf (IsOf s k) b.wait) tt tt;
}

-- only a pinned task has an expiry, and it has a worker for its home
timed-home : (s : Script) (kind : Kind) (x : Expiry) → is_sound_kind s.workers kind ≡ true → is_sound_expiry kind x ≡ true → Timed x (home_in s kind < s.workers)
timed-home s kind Keep h g = tt
timed-home s kind Never h g = tt
timed-home s (Pinned home nice) (After d) h g = ltb-true home s.workers (both (ltb home s.workers) _ h).0
timed-home s (Shared nice) (After d) h g = cc
timed-home s (Tasklet home class) (After d) h g = cc

pub TimersHaveHomes-sound : (s : Script) → IsTrue (is_sound s) → TimersHaveHomes s
TimersHaveHomes-sound s h i n =
    let parts = sound_parts s h in
    at_all (is_sound_task s.workers (length s.tasks)) (λ d. Timed (get_or d.rows n blank_row).expiry (home_in s d.kind < s.workers)) s.tasks i blank_task parts.defs
    (λ d k. let t = task_parts s.workers (length s.tasks) d k in at_all (is_sound_row (length s.tasks) d.kind (length d.rows)) (λ row. Timed row.expiry (home_in s d.kind < s.workers)) d.rows n blank_row t.rows (λ row q. timed-home s d.kind row.expiry t.kind (row_parts (length s.tasks) d.kind (length d.rows) row q).expiry) tt)
    tt
