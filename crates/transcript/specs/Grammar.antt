-- What the words of a line say: docs/TRANSCRIPT.md, "Shapes".
use Rattle.std.specs.Prelude.{ℕ, ◌==◌, if◌then◌else◌, List, [], ◌∷◌, Option, Some, None}
use Rattle.sched_base.specs.declared.names.TaskId.{TaskId}
use Rattle.task_machine.specs.declared.task.Stand.TheVariants as stands
use Rattle.transcript.specs.Types.{Stand, Seen, Call, Reply, Name, Said, First, Holds}
use Rattle.task_machine.specs.declared.task.Seen.TheVariants as seens
use Rattle.task_machine.specs.declared.calls.Call.TheVariants as calls
use Rattle.task_machine.specs.declared.calls.Reply.TheVariants as replies
use Rattle.text_lines.specs.Steps.{◌>>=◌, ◌or_else◌, only_if, is_empty}
use Rattle.text_lines.specs.Pieces.{Word, pieces}
use Rattle.text_lines.specs.Numbers.{number}
use Rattle.text_lines.specs.Slots.{Value, small_at, number_at, reasons_at, index_at}
use Rattle.text_lines.specs.Shapes.{front, part_at}
use Rattle.transcript.specs.declared.lines.Line.TheVariants as lines
use Rattle.transcript.specs.declared.shape.Name.TheVariants as names
use Rattle.transcript.specs.declared.shape.Answer.{Answer}
use Rattle.transcript.specs.declared.shape.Answer.TheVariants as answers
use Rattle.transcript.specs.Tables.{row, all_names, answer_of, mask_slots}

-- the task whose number is the first value
abbrev pub task : List Value → TaskId
task vs = record { 0 = small_at vs 0 }

-- the call of these values, where the row is one of a call
abbrev pub call_of : Name → List Value → Option Call
call_of names.Wake vs = Some (calls.Wake (task vs) (reasons_at vs 1))
call_of names.Kill vs = Some (calls.Kill (task vs))
call_of names.Post vs = Some (calls.Post (task vs) (small_at vs 1))
call_of names.Get vs = Some (calls.Get (small_at vs 0))
call_of names.Draw vs = Some (calls.Draw (task vs))
call_of names.Take vs = Some (calls.Take (task vs))
call_of names.DropRun vs = Some (calls.DropRun (task vs))
call_of names.Retire vs = Some (calls.Retire (task vs))
call_of k vs = None

-- what a call saw of a task that stands there, by these values
abbrev pub live_of : Stand → List Value → Seen
live_of stand vs = seens.Live stand (reasons_at vs 0) (index_at vs 1 == 1) (number_at vs 2)

-- what a call saw, by these values, where the row tells that
abbrev pub seen_of : Name → List Value → Option Seen
seen_of names.Gone vs = Some seens.Gone
seen_of names.Rest vs = Some (live_of stands.Rest vs)
seen_of names.Queued vs = Some (live_of stands.Queued vs)
seen_of names.Runs vs = Some (live_of stands.Runs vs)
seen_of k vs = None

-- the line of these values, where the row is one of a line
abbrev pub line_of : Name → List Value → Option Said
line_of names.First vs = Some First
line_of names.Round vs = Some (Holds (lines.Round (small_at vs 0) (small_at vs 1)))
line_of names.End vs = Some (Holds (lines.End (index_at vs 0 == 0) (small_at vs 1)))
line_of k vs = None

-- the value, where no word is left
abbrev pub at_end : {A : Type 0} → List Word → A → Option A
at_end ws x = only_if (is_empty ws) x

-- what the values of the one part make, with no word behind it
abbrev pub alone : {A : Type 0} → (Name → List Value → Option A) → List Word → Option A
alone make ws = part_at row all_names ws >>= (λ p. make p.kind p.values >>= at_end p.rest)

-- what a call saw of its task
abbrev pub seen_in : List Word → Option Seen
seen_in ws = alone seen_of ws

-- the answer to a call
abbrev pub reply_in : Answer → List Word → Option Reply
reply_in answers.Seen ws = seen_in ws >>= (λ s. Some (replies.Task s))
reply_in answers.Group ws = front mask_slots ws >>= (λ r. at_end r.1 (replies.Group (number_at r.0 0)))
reply_in answers.Nothing ws = at_end ws replies.Done

-- the letter c, and the caller's number
abbrev pub caller_in : Word → Option ℕ
caller_in [] = None
caller_in (c ∷ w) = if c == 99 then number 4294967295 w else None

-- the entry of a caller: the call, and the answer
abbrev pub entry_of : ℕ → List Word → Option Said
entry_of k ws =
    part_at row all_names ws >>= (λ p. call_of p.kind p.values >>= (λ c. reply_in (answer_of p.kind) p.rest >>= (λ r. Some (Holds (lines.Entry (record { caller = record { 0 = k }; call = c; reply = r }))))))

-- an entry: the caller, the call, and the answer
abbrev pub entry_in : List Word → Option Said
entry_in [] = None
entry_in (w ∷ ws) = caller_in w >>= (λ k. entry_of k ws)

-- another line
abbrev pub plain_in : List Word → Option Said
plain_in ws = alone line_of ws

-- what words say
abbrev pub said_by : List Word → Option Said
said_by ws = entry_in ws or_else plain_in ws

-- what a line says: its words are parted by single spaces
unfoldable pub said : List ℕ → Option Said
said text = said_by (pieces 32 text)
