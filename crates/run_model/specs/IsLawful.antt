-- The test for lawful runs (docs/MODEL.md, "A test for lawful runs").
use Rattle.std.specs.Prelude.{ℕ, ◌+◌, ◌-◌, ◌^◌, ◌==◌, ◌&&◌, not, nat_lt, nat_le, Bool, true, false, List, [], ◌∷◌, Option, None, Some, option_and_then, option_map, is_some, if◌then◌else◌}
use Rattle.std.specs.List.{list_all}
use Rattle.std.specs.Option.{option_map_or}
use Rattle.step_tables.specs.declared.tables.Script.{Script}
use Rattle.task_machine.specs.declared.task.Stand.{Stand}
use Rattle.task_machine.specs.declared.task.Stand.TheVariants.{Rest, Queued, Runs}
use Rattle.task_machine.specs.declared.task.Seen.{Seen}
use Rattle.task_machine.specs.declared.task.Seen.TheVariants.{Live, Gone}
use Rattle.task_machine.specs.declared.task.TaskState.{TaskState}
use Rattle.task_machine.specs.declared.calls.Call.{Call}
use Rattle.task_machine.specs.declared.calls.Call.TheVariants.{Take}
use Rattle.task_machine.specs.declared.calls.Reply.{Reply}
use Rattle.task_machine.specs.declared.calls.Reply.TheVariants.{Task, Group, Done}
use Rattle.task_machine.specs.declared.calls.Entry.{Entry}
use Rattle.task_machine.specs.Step.{State, task_at, subject, is_named, fits, reply_of}
use Rattle.task_machine.specs.History.{stepped, led, calls_of}
use Rattle.run_model.specs.Run.{Round, Run}
use Rattle.run_model.specs.Book.{Book}
use Rattle.run_model.specs.Reader.{Reader, in_turn, quietly}
use Rattle.run_model.specs.TurnReader.{turning, injecting}
use Rattle.run_model.specs.Standing.{Standing, opening, is_served, turn_ended, next_tick, is_at_rest}

-- whether two stands, two sights of a task, or two replies are the same
abbrev pub same_stand : Stand → Stand → Bool
same_stand Rest Rest = true
same_stand Queued Queued = true
same_stand Runs Runs = true
same_stand x y = false

abbrev pub same_flag : Bool → Bool → Bool
same_flag true true = true
same_flag false false = true
same_flag x y = false

abbrev pub same_seen : Seen → Seen → Bool
same_seen Gone Gone = true
same_seen (Live x p a m) (Live y q b n) = same_stand x y && (p == q && (same_flag a b && m == n))
same_seen x y = false

abbrev pub same_reply : Reply → Reply → Bool
same_reply (Task x) (Task y) = same_seen x y
same_reply (Group m) (Group n) = m == n
same_reply Done Done = true
same_reply x y = false

-- whether a task has room for one more take, where the call is a take
abbrev pub is_roomy : Call → TaskState → Bool
is_roomy (Take i) t = nat_lt t.takes (2 ^ 48 - 1)
is_roomy c t = true

-- whether the machine allows an entry
abbrev pub is_allowed : State → Entry → Bool
is_allowed s e =
    is_named s e.caller e.call && (fits s e.caller e.call &&
    (is_roomy e.call (task_at s (subject e.call)) && same_reply (reply_of s e.caller e.call) e.reply))

-- whether entries are a legal history
abbrev pub is_legal : State → List Entry → Bool
is_legal s [] = true
is_legal s (e ∷ es) = is_allowed s e && is_legal (stepped s e) es

-- the book that a reader leaves, where it left no entry
abbrev pub if_none_left : {B : Type 0} → B → List Entry → Option B
if_none_left b [] = Some b
if_none_left b (e ∷ es) = None

abbrev pub reads_all : {B : Type 0} → Reader B → B → List Entry → Option B
reads_all r b es = option_and_then (λ g. if_none_left g.new g.rest) (r b es)

-- the books after the turns of the workers from w on
abbrev pub books_after : Script → ℕ → List Entry → ℕ → List Book → Option (List Book)
books_after s T es w [] = Some []
books_after s T es w (b ∷ bs) =
    option_and_then (λ c. option_map (λ cs. c ∷ cs) (books_after s T es (w + 1) bs)) (reads_all (in_turn (turning s (record { 0 = w }) T) (quietly (turn_ended s T))) b (calls_of w es))

-- whether a round is lawful but for the workers' turns
abbrev pub is_framed : Script → ℕ → ℕ → Standing → Round → Bool
is_framed s r T old round =
    round.tick == T && (is_legal old.state round.entries &&
    (is_some (reads_all (injecting s r) (tt {0}) (calls_of s.workers round.entries)) &&
    (list_all (λ e. nat_le e.caller.0 s.workers) round.entries && is_served s old.state round.entries)))

-- what stands after a round that is lawful
abbrev pub if_framed : Bool → Option Standing → Option Standing
if_framed true o = o
if_framed false o = None

abbrev pub after_round : Script → ℕ → ℕ → Standing → Round → Option Standing
after_round s r T old round =
    if_framed (is_framed s r T old round)
    (option_map (λ books. record old { state = led old.state round.entries; books = books }) (books_after s T round.entries 0 old.books))

-- whether no round is left
abbrev pub is_done : List Round → Bool
is_done [] = true
is_done (round ∷ more) = false

-- whether rounds go on lawfully from what stands, up to the end that they have
abbrev pub is_going : Script → Bool → ℕ → ℕ → Standing → List Round → Bool
is_going s rest r T old [] = false
is_going s rest r T old (round ∷ more) =
    option_map_or
    (λ new.
    if is_at_rest s r new then is_done more && rest
    else if r + 1 == s.rounds then is_done more && not rest
    else is_going s rest (r + 1) (next_tick s r T new) new more)
    (after_round s r T old round)
    false

-- whether a run of a script is lawful
abbrev pub is_lawful : Script → Run → Bool
is_lawful s run = is_going s run.rest 0 s.start (opening s) run.rounds
