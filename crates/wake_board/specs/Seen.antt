-- What a pass and a board are to contracts, and what one call tells (docs/BOARD.md, "Passes").
use Rattle.std.specs.Prelude.{◌≡◌, ◌≢◌, ℕ, zero, suc, ◌+◌, ◌-◌, ◌*◌, ◌/◌, ◌%◌, ◌^◌, ◌<◌, ◌≤◌, ◌==◌, ◌&&◌, nat_lt, if◌then◌else◌, List, [], ◌∷◌, ◌++◌, length, None}
use Rattle.std.specs.Int.{bit_at, bit_not, w64}
use mathlib.Core.Option.{some}
use lib.ListN.{get_elem?}
use Rattle.atomic_table.specs.Seated.{TableId}
use Rattle.atomic_table.specs.Table.{Me, Step, rest}
use Rattle.sched_base.specs.declared.names.TaskId.{TaskId}
use Rattle.task_machine.specs.declared.task.Seen.{Seen}
use Rattle.task_machine.specs.declared.task.Seen.TheVariants as views
use Rattle.task_machine.specs.declared.calls.Call.{Call}
use Rattle.task_machine.specs.declared.calls.Call.TheVariants as calls
use Rattle.task_machine.specs.declared.calls.Reply.{Reply}
use Rattle.task_machine.specs.declared.calls.Reply.TheVariants as replies
use Rattle.task_machine.specs.declared.calls.Entry.{Entry}
use Rattle.task_machine.specs.Step.{task_at}
use Rattle.task_machine.specs.declared.task.Place.TheVariants as places
use Rattle.task_machine.specs.History.{Legal, led, calls_of}
use Rattle.task_machine.specs.Own.{Own, away, own_at, own_of}
use Rattle.task_word.specs.Word.{seen_in, wake_bits, taken_word}
use Rattle.wake_board.specs.declared.body.Body.{Body}
use Rattle.wake_board.specs.declared.views.Out.{Out}
use Rattle.wake_board.specs.declared.views.View.{View}
use Rattle.step_tables.specs.Nexts.{row_after}
use Rattle.wake_board.specs.Rows.{box_at}
use Rattle.wake_board.specs.Start.{Start, start_in, home_of, IsShared}
use Rattle.wake_board.specs.Outs.{out_of, HasBody, without, Carries}

-- a pass: of which board it is, its caller's number, with what the board was opened, its own entries, the tasks that it
-- found absent from the shared box, and the bodies that are out with it
pub record Held : Type 0 where
  pub board : TableId
  pub who : ℕ
  pub start : Start
  pub entries : List Entry
  pub misses : List ℕ
  pub outs : List Out

-- a board: which it is, and with what it was opened
pub record Laid : Type 0 where
  pub board : TableId
  pub start : Start

abbrev pub entry_by : ℕ → Call → Reply → Entry
entry_by k c r = record { caller = record { 0 = k }; call = c; reply = r }

-- a legal history from the opening ends with the entry, and the own calls of its caller in it are the entries
abbrev pub Attests : Start → ℕ → Call → Reply → List Entry → Type 0
Attests o k c r entries =
    (h : List Entry) × Legal o.state (h ++ entry_by k c r ∷ []) × (calls_of k (h ++ entry_by k c r ∷ []) ≡ entries)

-- the pass with one more entry of its own
abbrev pub with_call : Held → Call → Reply → Held
with_call p c r = record p { entries = p.entries ++ entry_by p.who c r ∷ [] }

-- the call added one entry to the pass's own, and no other; a legal history from the opening ends with it, in which the
-- pass's own calls are just its entries
pub record Calls (old : Held) (c : Call) (r : Reply) (new : Held) : Type 0 where
  pub entry : new ≡ with_call old c r
  pub attested : Attests old.start old.who c r new.entries

-- the only log of a view
abbrev pub own_log : List (List Entry) → List Entry
own_log [] = []
own_log (es ∷ ess) = es

abbrev pub logged : View → Entry → View
logged v e = record v { logs = (own_log v.logs ++ e ∷ []) ∷ [] }

-- what a step of a call tells its seat
pub record Told (me : Me Body View) (c : Call) (r : Reply) (new : Me Body View) : Type 0 where
  pub seat : new ≡ (logged me.0 (entry_by me.0.first c r), me.1)
  pub attested : Attests (start_in me.0.start) me.0.first c r (own_log new.0.logs)

-- the pass is of the board
pub record IsPassOf (b : Laid) (p : Held) : Type 0 where
  pub board : p.board ≡ b.board
  pub start : p.start ≡ b.start

-- a wake by its word and operand, and each other call on a task's word
abbrev pub TellsWake : Step Body → Me Body View → ℕ → Me Body View → Type 0
TellsWake st me n new =
    (i f : ℕ) → st.word ≡ i + 1 → st.first ≡ wake_bits f → Told me (calls.Wake (record { 0 = i }) f) (replies.Task (seen_in n)) new

abbrev pub TellsCall : (TaskId → Call) → Step Body → Me Body View → ℕ → Me Body View → Type 0
TellsCall call st me n new =
    (i : ℕ) → st.word ≡ i + 1 → Told me (call (record { 0 = i })) (replies.Task (seen_in n)) new

-- a bit as the operand of a step
abbrev pub bit_mask : ℕ → ℕ
bit_mask j = 1 * 2 ^ j % 2 ^ 64

-- how often a task was taken by what is seen of it
abbrev pub takes_seen : Seen → ℕ
takes_seen views.Gone = 0
takes_seen (views.Live st n b m) = m

-- a take by its word and operand, which has the takes that the task then had
abbrev pub TellsTake : Step Body → Me Body View → ℕ → Me Body View → Type 0
TellsTake st me n new =
    (i t : ℕ) → st.word ≡ i + 1 → st.first ≡ taken_word t → Told me (calls.Take (record { 0 = i })) (replies.Task (seen_in n)) new × (takes_seen (seen_in n) ≡ t)

-- how many tasks there are, by a view
abbrev pub count_in : View → ℕ
count_in v = length (start_in v.start).state.tasks

-- a post by its word and operand
abbrev pub TellsPost : Step Body → Me Body View → ℕ → Me Body View → Type 0
TellsPost st me n new =
    (i b : ℕ) → i < count_in me.0 → b ≤ (start_in me.0.start).state.workers → st.word ≡ box_at (count_in me.0) b (i / 64) → st.first ≡ bit_mask (i % 64) → Told me (calls.Post (record { 0 = i }) b) replies.Done new

-- what a seat's caller has of task i, by its own log
abbrev pub own_view : View → ℕ → Own
own_view v i = own_of i (own_at v.first (task_at (start_in v.start).state i).place) (own_log v.logs)

-- each task of a word was not the caller's before, and has the caller's box as its home
abbrev pub BringsHome : View → ℕ → ℕ → Type 0
BringsHome v g n =
    (j : ℕ) → j < 64 → bit_at n j ≡ 1 → (home_of (start_in v.start) (64 * g + j) ≡ v.first) × (own_view v (64 * g + j) ≡ away)

-- a get by its word
abbrev pub TellsGet : Step Body → Me Body View → ℕ → Me Body View → Type 0
TellsGet st me n new =
    (g : ℕ) → 64 * g < count_in me.0 → st.word ≡ box_at (count_in me.0) me.0.first g → Told me (calls.Get g) (replies.Group n) new × BringsHome me.0 g n

-- the tasks are absent from the shared box: some legal history from the opening, in which the own calls of the caller are
-- the entries, leaves each of them out of it
abbrev pub AreAbsent : Start → ℕ → List Entry → List ℕ → Type 0
AreAbsent o k entries tasks =
    (h : List Entry) × Legal o.state h × (calls_of k h ≡ entries) × ((j i : ℕ) → get_elem? tasks j ≡ some i → (task_at (led o.state h) i).place ≢ places.Boxed o.state.workers)

-- the pass with more misses
abbrev pub with_misses : Held → List ℕ → Held
with_misses p tasks = record p { misses = p.misses ++ tasks }

-- the call added no entry, and just these misses, which were absent from the shared box
pub record Misses (old : Held) (tasks : List ℕ) (new : Held) : Type 0 where
  pub noted : new ≡ with_misses old tasks
  pub absent : AreAbsent old.start old.who old.entries tasks

abbrev pub missed : View → List ℕ → View
missed v tasks = record v { misses = v.misses ++ tasks }

-- what a step that found these tasks absent tells its seat
pub record ToldMisses (me : Me Body View) (tasks : List ℕ) (new : Me Body View) : Type 0 where
  pub seat : new ≡ (missed me.0 tasks, me.1)
  pub absent : AreAbsent (start_in me.0.start) me.0.first (own_log me.0.logs) tasks

-- where a group's word of the shared box stands, by a view
abbrev pub shared_at : View → ℕ → ℕ
shared_at v g = box_at (count_in v) (start_in v.start).state.workers g

-- a draw by its word and operand: the task is drawn where its bit was set, and is a miss where the bit was clear
abbrev pub TellsDraw : Step Body → Me Body View → ℕ → Me Body View → Type 0
TellsDraw st me n new =
    (i : ℕ) → i < count_in me.0 → st.word ≡ shared_at me.0 (i / 64) → st.first ≡ bit_not w64 (bit_mask (i % 64)) → (bit_at n (i % 64) ≡ 1 → Told me (calls.Draw (record { 0 = i })) replies.Done new) × (bit_at n (i % 64) ≡ 0 → ToldMisses me (i ∷ []) new)

-- the tasks of group g, of n tasks in all, whose bits are clear in a word, from bit j on and for so many bits
abbrev pub clear_from : ℕ → ℕ → ℕ → ℕ → ℕ → List ℕ
clear_from n g word j zero = []
clear_from n g word j (suc bits) =
    if nat_lt (64 * g + j) n && bit_at word j == 0 then (64 * g + j) ∷ clear_from n g word (suc j) bits else clear_from n g word (suc j) bits

-- the tasks of a group that are not in its word
abbrev pub clear_in : ℕ → ℕ → ℕ → List ℕ
clear_in n g word = clear_from n g word 0 64

-- a peep by its word
abbrev pub TellsPeep : Step Body → Me Body View → ℕ → Me Body View → Type 0
TellsPeep st me n new =
    (g : ℕ) → 64 * g < count_in me.0 → st.word ≡ shared_at me.0 g → ToldMisses me (clear_in (count_in me.0) g n) new

-- task i was taken t times: so it was after some legal history from the opening, in which the own calls of the caller are the
-- entries
abbrev pub WasTaken : Start → ℕ → List Entry → ℕ → ℕ → Type 0
WasTaken o k entries i t =
    (h : List Entry) × Legal o.state h × (calls_of k h ≡ entries) × ((task_at (led o.state h) i).takes ≡ t)

abbrev pub with_out : View → List Out → View
with_out v outs = record v { outs = outs }

-- what a seat is told that took the slot of task i: it is shared, and its body has its takes, which are few, and their row
pub record OutTold (me : Me Body View) (i : ℕ) (body : Body) (new : Me Body View) : Type 0 where
  pub seat : new ≡ (with_out me.0 (out_of i body.takes ∷ me.0.outs), (i, body) ∷ me.1)
  pub shared : IsShared (start_in me.0.start) i
  pub row : body.row ≡ row_after (start_in me.0.start).nexts i body.takes
  pub room : body.takes < 2 ^ 48 - 1
  pub taken : WasTaken (start_in me.0.start) me.0.first (own_log me.0.logs) i body.takes

abbrev pub TellsOut : ℕ → Step Body → Me Body View → ℕ → Me Body View → Type 0
TellsOut i st me n new = (body : Body) × OutTold me i body new

-- what a seat is told whose slot of task i came before its others
pub record FrontTold (me : Me Body View) (i t : ℕ) (new : Me Body View) : Type 0 where
  pub body : Body
  pub slots : List (ℕ × Body)
  pub seat : new ≡ (with_out me.0 (out_of i t ∷ without i me.0.outs), (i, body) ∷ slots)
  pub carries : Carries slots (without i me.0.outs)

abbrev pub TellsFront : ℕ → Step Body → Me Body View → ℕ → Me Body View → Type 0
TellsFront i st me n new = (t : ℕ) → HasBody me.0.outs i t → FrontTold me i t new

-- a seat gave back its first slot
abbrev pub outs_after : List Out → List Out
outs_after [] = []
outs_after (x ∷ xs) = xs

abbrev pub TellsBack : Step Body → Me Body View → ℕ → Me Body View → Type 0
TellsBack st me n new = new ≡ (with_out me.0 (outs_after me.0.outs), rest me.1)

-- a seat with several logs gives up the first
abbrev pub rest_of : List (List Entry) → List (List Entry)
rest_of [] = []
rest_of (es ∷ ess) = ess

abbrev pub view_left : View → View
view_left v = record v { first = suc v.first; logs = rest_of v.logs }

abbrev pub view_right : View → View
view_right v = record { start = v.start; first = v.first; logs = own_log v.logs ∷ []; misses = []; outs = [] }

-- a seat takes in the logs of the callers right before its own
abbrev pub view_both : View → View → View
view_both v w = record v { first = w.first; logs = w.logs ++ v.logs; misses = v.misses ++ w.misses }

-- what is left of the seat that was taken in
abbrev pub view_spent : View
view_spent = record { start = None; first = 0; logs = []; misses = []; outs = [] }
