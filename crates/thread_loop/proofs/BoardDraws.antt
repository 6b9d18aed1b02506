-- A worker that draws shared tasks on a board, and the run of each.
use Rattle.std.proofs.Common.{◌≡◌, ℕ, zero, suc, ◌+◌, ◌<◌, inr, Bool, true, false, if◌then◌else◌, List, [], ◌∷◌, ◌++◌, length, map, get_or, Some, refl, sym, ap, ◌∙◌, arith, subst, eq-eqb, append-nil}
use Rattle.std.specs.Prelude.{ℤ, slice_index}
use mathlib.Core.Option.{some, some-ne-none}
use lib.ListN.{get_elem?}
use Rattle.sched_base.specs.declared.names.CallerId.{CallerId}
use Rattle.sched_base.specs.declared.names.TaskId.{TaskId}
use Rattle.step_tables.specs.declared.tables.Script.{Script}
use Rattle.step_tables.specs.declared.tables.Row.{Row}
use Rattle.step_tables.specs.Nexts.{next_rows, nexts_of, row_after}
use Rattle.task_machine.specs.declared.task.Seen.{Seen}
use Rattle.task_machine.specs.declared.calls.Call.{Call}
use Rattle.task_machine.specs.declared.calls.Call.TheVariants as calls
use Rattle.task_machine.specs.declared.calls.Reply.{Reply}
use Rattle.task_machine.specs.declared.calls.Reply.TheVariants as replies
use Rattle.task_machine.specs.declared.calls.Entry.{Entry}
use Rattle.task_machine.specs.Event.{draws, takes, sees, apart}
use Rattle.task_machine.specs.Step.{bit}
use Rattle.task_machine.specs.Own.{drawing, running, own_next}
use Rattle.run_model.specs.Standing.{is_draw}
use Rattle.run_model.specs.Tables.{home_of, def_of, row_number, blank_row, blank_task}
use Rattle.turn_steps.specs.Left.{Left, Stage, asked, asked_in, draws_now, drew, MayCall, went}
use Rattle.turn_steps.specs.Told.{Told, told}
use Rattle.turn_steps.specs.Has.{caller, said}
use Rattle.turn_steps.specs.Counts.{draws_ahead}
use Rattle.standing.proofs.Ahead.{ahead-went}
use Rattle.wake_board.specs.Seen.{Held, Laid, Calls, with_misses}
use Rattle.wake_board.specs.Outs.{out_of, HasBody, NoBody, without, gained}
use Rattle.wake_board.specs.Ends.{own_by}
use Rattle.wake_board.specs.Bodies.{with_outs, MayTake, IsOutWith}
use Rattle.wake_board.proofs.Grown.{own-called}
use Rattle.wake_board.proofs.Tables.{at_front}
use Rattle.thread_loop.specs.Workers.{number_of, tick_of, turns_of, takes_of, stage_of, Fits, takes_after}
use Rattle.thread_loop.specs.Workers.{calls_in}
use Rattle.thread_loop.specs.Boards.{log_of, IsSame, IsMissed, draws_in}
use Rattle.thread_loop.specs.BoardTurns.{OnBoard, HasCalled, IsDrawn, at_home}
use Rattle.shared_queue.specs.Drawing.{Draws, FindsNone}
use Rattle.thread_loop.specs.Calls.{IsMade}
use Rattle.thread_loop.specs.declared.worker.Worker.{Worker}
use Rattle.thread_loop.proofs.BoardTurns.{Took}

-- ---- the pass with other misses, or with no body out

pub on-misses : (s : Script) (b : Laid) (w : Worker) (p : Held) (tasks : List ℕ) → OnBoard s b w p → OnBoard s b w (with_misses p tasks)
on-misses s b w p tasks on = record {
  fits = on.fits;
  stage = record {
    sound = on.stage.sound;
    board = on.stage.board;
    pass = record { board = on.stage.pass.board; start = on.stage.pass.start };
    number = on.stage.number;
    among = on.stage.among;
    part = on.stage.part;
    hands = on.stage.hands;
    runs = on.stage.runs;
    draws = on.stage.draws;
    range = on.stage.range;
    homed = on.stage.homed;
  };
  takes = on.takes;
  book = on.book;
  spare = on.spare;
  entries = on.entries;
  few = on.few;
}

pub called-misses : (s : Script) (w : Worker) (p : Held) (tasks : List ℕ) → HasCalled s w p w (with_misses p tasks)
called-misses s w p tasks = record {
  more = [];
  logged = sym (append-nil (log_of w).entries);
  room = refl;
  grown = record {
    board = refl;
    who = refl;
    start = refl;
    entries = sym (append-nil p.entries);
    misses = λ i h. (h.0, at_front p.misses tasks h.0 i h.1);
    outs = refl;
  };
  followed = tt;
  stage = refl;
  number = refl;
  tick = refl;
  turns = refl;
}

pub home-same : (p : Held) → p.outs ≡ [] → at_home p ≡ p
home-same p e = ap (λ outs. record p { outs = outs }) (sym e)

-- ---- the rows of a task

at_map : {X Y : Type 0} (f : X → Y) (xs : List X) (i : ℕ) (d : X) (e : Y) → f d ≡ e → get_or (map f xs) i e ≡ f (get_or xs i d)
at_map f [] i d e h = sym h
at_map f (x ∷ xs) zero d e h = refl
at_map f (x ∷ xs) (suc i) d e h = at_map f xs i d e h

pub rows-after : (s : Script) (i t : ℕ) → row_after (nexts_of s) i t ≡ row_number s i t
unfolding row_after
rows-after s i zero = refl
rows-after s i (suc t) =
    let before = rows-after s i t in
    let rows = at_map next_rows s.tasks i blank_task [] refl in
    let n = row_number s i t in
    ap (λ xs. slice_index xs (row_after (nexts_of s) i t)) rows
    ∙ ap (λ m. slice_index (next_rows (def_of s i)) m) before
    ∙ at_map (λ (row : Row). row.next) (def_of s i).rows n blank_row 0 refl

-- ---- a draw

-- a task that was drawn is drawn by the caller, and one that was taken is run by it
pub own-drawn : (p q : Held) (i : TaskId) (r : Reply) → Calls p (calls.Draw i) r q → own_by q i.0 ≡ drawing
own-drawn p q i r t =
    own-called p q (calls.Draw i) r i.0 t ∙ ap (λ (x : Bool). own_next (own_by p i.0) (if x then draws else apart)) (eq-eqb i.0 i.0 refl)

pub own-taken : (p q : Held) (i : TaskId) (x : Seen) → Calls p (calls.Take i) (replies.Task x) q → own_by q i.0 ≡ running
own-taken p q i x t =
    own-called p q (calls.Take i) (replies.Task x) i.0 t ∙ ap (λ (b : Bool). own_next (own_by p i.0) (if b then sees x takes else apart)) (eq-eqb i.0 i.0 refl)

pub none-out : (p : Held) (i : ℕ) → p.outs ≡ [] → NoBody p.outs i
none-out p i e = subst (λ xs. NoBody xs i) (sym e) (λ j x at. absurd (some-ne-none x (sym at)))

pub may-draw : (s : Script) (b : Laid) (w : Worker) (i : ℕ) → home_of s i ≡ s.workers → 0 < draws_now s (stage_of s w) → MayCall s (stage_of s w) (calls.Draw (record { 0 = i }))
may-draw s b w i shared some' = inr (record { task = i; call = refl; shared = shared; some = some' })

pub took-drew : (s : Script) (i : TaskId) (t : ℕ) (w v u : Worker) → IsSame w v → (log_of v).entries ≡ (log_of w).entries ++ said (caller (number_of w)) (calls.Draw i) replies.Done ∷ [] → (log_of v).room ≡ (log_of w).room → log_of u ≡ log_of v → stage_of s u ≡ drew s i.0 (stage_of s v) → Fits s u → number_of u ≡ number_of v → tick_of u ≡ tick_of v → turns_of u ≡ turns_of v → ((j : ℕ) → home_of s j ≡ number_of v → takes_of u j ≡ takes_of v j) → Took s (calls.Draw i) replies.Done w u
took-drew s i t w v u same logged room kept stage' fits number tick turns takes' =
    let at : stage_of s u ≡ drew s i.0 (stage_of s w) = stage' ∙ ap (drew s i.0) (same.stage s) in
    record {
      stage = at;
      fits = fits;
      number = number ∙ same.number;
      tick = tick ∙ same.tick;
      turns = turns ∙ same.turns;
      takes = λ j home. takes' j (home ∙ sym same.number) ∙ same.takes j ∙ (let more : takes_of w j ≡ takes_of w j + 0 = omega arith in more);
      book = λ none. absurd (let asks : asked s (stage_of s u) ≡ Some (calls.Take (record { 0 = i.0 })) = ap (asked s) at in cc);
      logged = ap (λ l. l.entries) kept ∙ logged;
      room = ap (λ l. l.room) kept ∙ room;
    }

-- ---- the take of the task that was drawn

pub may-take-drawn : (s : Script) (b : Laid) (w : Worker) (p : Held) (i : ℕ) → OnBoard s b w (at_home p) → IsDrawn s w p i → 0 < calls_in s w → MayTake p i (takes_of w i)
may-take-drawn s b w p i on d some' = inr (record {
  drawn = d.drawn;
  out = subst (λ xs. HasBody xs i (takes_of w i)) (sym d.outs) (0, refl);
  early = (let few = on.entries in omega arith);
})

pub calls-home : (p q : Held) (c : Call) (r : Reply) → Calls p c r q → Calls (at_home p) c r (at_home q)
calls-home p q c r t = record { entry = ap at_home t.entry; attested = t.attested }

pub asked-drawn : (s : Script) (w : Worker) (p : Held) (i : ℕ) → IsDrawn s w p i → asked s (stage_of s w) ≡ Some (calls.Take (record { 0 = i }))
asked-drawn s w p i d = ap (λ (l : Left). asked_in s l (stage_of s w).book) d.left.1

-- what the body of a task that was taken holds, and that it is out with the pass
pub out-taken : (s : Script) (w : Worker) (p q : Held) (i : TaskId) (x : Seen) (n : ℕ) → IsDrawn s w p i.0 → Calls p (calls.Take i) (replies.Task x) q → n ≡ takes_of w i.0 + 1 → IsOutWith q i.0 n
out-taken s w p q i x n d t same =
    let outs : q.outs ≡ out_of i.0 (takes_of w i.0) ∷ [] = ap (λ (y : Held). y.outs) t.entry ∙ d.outs in
    let has : HasBody q.outs i.0 (takes_of w i.0) = subst (λ xs. HasBody xs i.0 (takes_of w i.0)) (sym outs) (0, refl) in
    (takes_of w i.0, has, same ∙ ap (λ o. takes_of w i.0 + gained o) (sym (own-taken p q i x t)))

pub back-home : (s : Script) (w : Worker) (p q u : Held) (i : TaskId) (r : Reply) → IsDrawn s w p i.0 → Calls p (calls.Take i) r q → u ≡ with_outs q (without i.0 q.outs) → u ≡ at_home q
back-home s w p q u i r d t back =
    let outs : q.outs ≡ out_of i.0 (takes_of w i.0) ∷ [] = ap (λ (y : Held). y.outs) t.entry ∙ d.outs in
    let none : without i.0 q.outs ≡ [] = ap (without i.0) outs ∙ ap (λ (x : Bool). if x then [] else (out_of i.0 (takes_of w i.0) ∷ [])) (eq-eqb i.0 i.0 refl) in
    back ∙ ap (with_outs q) none

-- ---- how many draws were made

draws_one : (e : Entry) (es : List Entry) (b : Bool) → is_draw e.call ≡ b → draws_in (e ∷ es) ≡ bit b + draws_in es
draws_one e es true h = rw h (let one : suc (draws_in es) ≡ 1 + draws_in es = omega arith in one)
draws_one e es false h = rw h (let none : draws_in es ≡ 0 + draws_in es = omega arith in none)

pub draws-told : (s : Script) (w : CallerId) (T : ℕ) (g : Stage) (es : List Entry) → Told s w T g es → draws_in es + draws_ahead s.depth (told s w T g es).left ≡ draws_ahead s.depth g.left
draws-told s w T g [] h = omega arith
draws-told s w T g (e ∷ es) h =
    let more = draws-told s w T (went s w T e.call e.reply g) es h.2 in
    let here = ahead-went s w T e.call e.reply g h.1 in
    let one = draws_one e es (is_draw e.call) refl in
    omega arith

-- after the take the worker knows of one take more
pub taken-more : (s : Script) (w v u : Worker) (i : TaskId) → IsSame w v → asked s (stage_of s w) ≡ Some (calls.Take i) → ((call : Call) → asked s (stage_of s v) ≡ Some call → (j : ℕ) → takes_of u j ≡ takes_after call j (takes_of v j)) → takes_of u i.0 ≡ takes_of w i.0 + 1
taken-more s w v u i same asks h =
    h (calls.Take i) (ap (asked s) (same.stage s) ∙ asks) i.0
    ∙ ap (λ (x : Bool). if x then takes_of v i.0 + 1 else takes_of v i.0) (eq-eqb i.0 i.0 refl)
    ∙ ap (λ n. n + 1) (same.takes i.0)

-- ---- what the shared queue answers

pub made-draw : (b : Laid) (ranks : List ℤ) (p q : Held) (i : TaskId) → (d : Draws ranks p i.0 q) → IsMade b.start (with_misses p d.tasks) (calls.Draw i) replies.Done q
made-draw b ranks p q i d = record { calls = record { entry = d.gained; attested = d.attested }; brings = tt; tells = tt }

at_back : (xs ys : List ℕ) (j i : ℕ) → get_elem? ys j ≡ some i → (k : ℕ) × (get_elem? (xs ++ ys) k ≡ some i)
at_back [] ys j i e = (j, e)
at_back (x ∷ xs) ys j i e = let more = at_back xs ys j i e in (suc more.0, more.1)

pub missed-all : (ranks : List ℤ) (p q : Held) (i : ℕ) → FindsNone ranks p q → i < length ranks → IsMissed q i
missed-all ranks p q i f lt =
    let there = f.every i lt in
    let now : IsMissed (with_misses p f.tasks) i = at_back p.misses f.tasks there.0 i there.1 in
    subst (λ (x : Held). IsMissed x i) (sym f.noted) now
