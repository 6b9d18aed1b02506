-- Each entry of a legal history has a text, where its wakes have reasons out of the seven.
use Rattle.std.proofs.Common.{◌≡◌, ℕ, ◌+◌, ◌^◌, ◌<◌, ◌≤◌, ◌==◌, ◌&&◌, not, Bool, true, false, if◌then◌else◌, List, [], ◌∷◌, map, length, refl, sym, subst, arith, lit<}
use Rattle.std.proofs.lemmas.Bool.{ltb-true, eqb-true}
use Rattle.std.proofs.lemmas.Bool.Decides.{nat_tests}
use Rattle.std.proofs.lemmas.Nat.{or_lt}
use Rattle.std.specs.List.{AllByRecursion}
use Rattle.sched_base.specs.declared.names.CallerId.{CallerId}
use Rattle.task_machine.specs.declared.task.Place.{Place}
use Rattle.task_machine.specs.declared.task.Place.TheVariants as places
use Rattle.task_machine.specs.declared.task.TaskState.{TaskState}
use Rattle.task_machine.specs.declared.calls.Call.{Call}
use Rattle.task_machine.specs.declared.calls.Call.TheVariants as calls
use Rattle.task_machine.specs.declared.calls.Reply.{Reply}
use Rattle.task_machine.specs.declared.calls.Reply.TheVariants as replies
use Rattle.task_machine.specs.declared.calls.Entry.{Entry}
use Rattle.task_machine.specs.Task.{is_gone, is_boxed, seen_at, seen_of}
use Rattle.task_machine.specs.Step.{State, task_at, subject, is_about, is_box, is_task, names, changed, Roomy, HasRoom, IsReply, Allowed}
use Rattle.task_machine.specs.History.{Legal, led, stepped}
use Rattle.task_machine.proofs.After.{task_at-after, subject-lt, length-after}
use Rattle.transcript.specs.declared.lines.Line.TheVariants as lines
use Rattle.transcript.specs.HasText.{HasTextLine, HasTextCall, HasTextSeen, TellsTask, FitsCall, FitsReply}
use Rattle.taskrun.proofs.Calls.{SmallCall, both}

-- a task whose numbers have a text
abbrev pub SmallTask : TaskState → Type 0
SmallTask t = (t.pending < 128) × (t.takes < 2 ^ 48)

-- the same of each task, and few tasks and workers
pub record Small (s : State) : Type 0 where
  pub tasks : (i : ℕ) → SmallTask (task_at s i)
  pub few_tasks : length s.tasks ≤ 65536
  pub few_workers : s.workers ≤ 64

small_if : (b : Bool) (t u : TaskState) → SmallTask t → SmallTask u → SmallTask (if b then t else u)
small_if true t u p q = p
small_if false t u p q = q

-- what a call makes of such a task
small_changed : (k : CallerId) (c : Call) (t : TaskState) → SmallTask t → SmallCall c → Roomy c t → SmallTask (changed k c t)
small_changed k (calls.Wake i f) t h small room = small_if (is_gone t.place) t _ h (or_lt 7 t.pending f h.0 small, h.1)
small_changed k (calls.Kill i) t h small room = small_if (is_gone t.place) t _ h h
small_changed k (calls.Post i b) t h small room = h
small_changed k (calls.Get g) t h small room = small_if (is_boxed k.0 t.place) _ t h h
small_changed k (calls.Draw i) t h small room = h
small_changed k (calls.Take i) t h small room = (lit< tt, omega arith)
small_changed k (calls.DropRun i) t h small room = h
small_changed k (calls.Retire i) t h small room = (lit< tt, lit< tt)

-- a task that a call is about has room where the call's subject has it
room_about : (s : State) (i : ℕ) (c : Call) → is_about i c ≡ true → Roomy c (task_at s (subject c)) → Roomy c (task_at s i)
room_about s i (calls.Wake j f) about room = tt
room_about s i (calls.Kill j) about room = tt
room_about s i (calls.Post j b) about room = tt
room_about s i (calls.Get g) about room = tt
room_about s i (calls.Draw j) about room = tt
room_about s i (calls.Take j) about room = subst (λ n. HasRoom (task_at s n)) (sym (eqb-true i j.0 about)) room
room_about s i (calls.DropRun j) about room = tt
room_about s i (calls.Retire j) about room = tt

small_moved : (s : State) (k : CallerId) (c : Call) (i : ℕ) (b : Bool) → is_about i c ≡ b → SmallTask (task_at s i) → SmallCall c → Roomy c (task_at s (subject c)) → SmallTask (if b then changed k c (task_at s i) else task_at s i)
small_moved s k c i true about h small room = small_changed k c (task_at s i) h small (room_about s i c about room)
small_moved s k c i false about h small room = h

small_step : (s : State) (e : Entry) → Small s → Allowed s e → SmallCall e.call → Small (stepped s e)
small_step s e h allowed small = record {
  tasks = λ i. subst SmallTask (sym (task_at-after s e.caller e.call i (subject-lt s e.caller e.call allowed.named))) (small_moved s e.caller e.call i (is_about i e.call) refl (h.tasks i) small allowed.room);
  few_tasks = let same = length-after s e.caller e.call in let few = h.few_tasks in omega arith;
  few_workers = h.few_workers;
}

-- what a call sees of such a task has a text
seen_small : (p : Place) (t : TaskState) → SmallTask t → FitsReply (replies.Task (seen_at p t)) × HasTextSeen (seen_at p t)
seen_small places.Rest t h = h
seen_small (places.Hands k) t h = h
seen_small (places.Boxed b) t h = h
seen_small (places.Drawn k) t h = h
seen_small (places.Runs k) t h = h
seen_small places.Gone t h = (tt, tt)

told : (t : TaskState) (r : Reply) → SmallTask t → r ≡ replies.Task (seen_of t) → FitsReply r × TellsTask r
told t r h e = subst (λ r. FitsReply r × TellsTask r) (sym e) (seen_small t.place t h)

some_reason : (f : ℕ) → not (f == 0) ≡ true → 0 < f
some_reason f h = grind (arith, nat_tests)

text_by : (s : State) (k : CallerId) (c : Call) (r : Reply) → Small s → subject c < length s.tasks → names s k c ≡ true → SmallCall c → IsReply s k c r → FitsCall c × FitsReply r × HasTextCall c r
text_by s k (calls.Wake i f) r h there named small reply =
    let t = told (task_at s i.0) r (h.tasks i.0) reply in
    let few = h.few_tasks in
    ((omega arith, small), t.0, (some_reason f named, t.1))
text_by s k (calls.Kill i) r h there named small reply =
    let t = told (task_at s i.0) r (h.tasks i.0) reply in let few = h.few_tasks in (omega arith, t.0, t.1)
text_by s k (calls.Post i b) r h there named small reply =
    let few = h.few_tasks in
    let few_workers = h.few_workers in
    let box_ = ltb-true b (s.workers + 1) named in
    ((omega arith, omega arith), subst FitsReply (sym reply) tt, subst (λ r. HasTextCall (calls.Post i b) r) (sym reply) tt)
text_by s k (calls.Get g) r h there named small reply =
    let few = h.few_tasks in
    (omega arith, subst FitsReply (sym reply.1) reply.2.0, subst (λ r. HasTextCall (calls.Get g) r) (sym reply.1) tt)
text_by s k (calls.Draw i) r h there named small reply =
    let few = h.few_tasks in
    (omega arith, subst FitsReply (sym reply) tt, subst (λ r. HasTextCall (calls.Draw i) r) (sym reply) tt)
text_by s k (calls.Take i) r h there named small reply =
    let t = told (task_at s i.0) r (h.tasks i.0) reply in let few = h.few_tasks in (omega arith, t.0, t.1)
text_by s k (calls.DropRun i) r h there named small reply =
    let t = told (task_at s i.0) r (h.tasks i.0) reply in let few = h.few_tasks in (omega arith, t.0, t.1)
text_by s k (calls.Retire i) r h there named small reply =
    let t = told (task_at s i.0) r (h.tasks i.0) reply in let few = h.few_tasks in (omega arith, t.0, t.1)

entry_has_text : (s : State) (e : Entry) → Small s → Allowed s e → SmallCall e.call → HasTextLine (lines.Entry e)
entry_has_text s e h allowed small =
    let caller = both (is_box s e.caller.0) (is_task s (subject e.call) && names s e.caller e.call) allowed.named in
    let below = ltb-true e.caller.0 (s.workers + 1) caller.0 in
    let few_workers = h.few_workers in
    let t = text_by s e.caller e.call e.reply h (subject-lt s e.caller e.call allowed.named) (both (is_task s (subject e.call)) (names s e.caller e.call) caller.1).1 small allowed.reply in
    ((omega arith, t.0, t.1), t.2)

pub history_has_text : (s : State) (es : List Entry) → Small s → Legal s es → AllByRecursion (λ e. SmallCall e.call) es → AllByRecursion HasTextLine (map lines.Entry es) × Small (led s es)
history_has_text s [] h legal small = (tt, h)
history_has_text s (e ∷ es) h legal small =
    let rest = history_has_text (stepped s e) es (small_step s e h legal.0 small.0) legal.1 small.1 in
    ((entry_has_text s e h legal.0 small.0, rest.0), rest.1)
