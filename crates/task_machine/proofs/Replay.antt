-- A history computed from its calls: by it a given history is seen to be legal, or not.
use Rattle.std.proofs.Common.{◌≡◌, ◌-◌, ◌^◌, Bool, true, false, ◌&&◌, nat_lt, ltb-true, List, [], ◌∷◌, refl, ap}
use Rattle.task_machine.specs.declared.task.TaskState.{TaskState}
use Rattle.task_machine.specs.declared.calls.Call.{Call}
use Rattle.task_machine.specs.declared.calls.Call.TheVariants as calls
use Rattle.task_machine.specs.declared.calls.Entry.{Entry}
use Rattle.task_machine.specs.Step.{State, task_at, subject, is_named, fits, Roomy, Allowed, reply_of}
use Rattle.task_machine.specs.History.{stepped, Legal}
use Rattle.task_machine.proofs.Replies.{IsReply-reply_of, IsReply-unique}

-- whether there is room for a take
abbrev has_room : TaskState → Bool
has_room t = nat_lt t.takes (2 ^ 48 - 1)

abbrev is_roomy : Call → TaskState → Bool
is_roomy (calls.Take i) t = has_room t
is_roomy c t = true

Roomy-is_roomy : (c : Call) (t : TaskState) → is_roomy c t ≡ true → Roomy c t
Roomy-is_roomy (calls.Wake i f) t h = tt
Roomy-is_roomy (calls.Kill i) t h = tt
Roomy-is_roomy (calls.Post i b) t h = tt
Roomy-is_roomy (calls.Get g) t h = tt
Roomy-is_roomy (calls.Draw i) t h = tt
Roomy-is_roomy (calls.Take i) t h = ltb-true t.takes (2 ^ 48 - 1) h
Roomy-is_roomy (calls.DropRun i) t h = tt
Roomy-is_roomy (calls.Retire i) t h = tt

-- whether the machine allows the entry with some reply
abbrev pub may_come : State → Entry → Bool
may_come s e =
    is_named s e.caller e.call && (fits s e.caller e.call && is_roomy e.call (task_at s (subject e.call)))

-- whether it allows each of the entries with some reply
abbrev pub all_may_come : State → List Entry → Bool
all_may_come s [] = true
all_may_come s (e ∷ es) = may_come s e && all_may_come (stepped s e) es

-- the same calls with the replies that the machine gives
abbrev pub replayed : State → List Entry → List Entry
replayed s [] = []
replayed s (e ∷ es) = record e { reply = reply_of s e.caller e.call } ∷ replayed (stepped s e) es

and_first : (a b : Bool) → (a && b) ≡ true → a ≡ true
and_first true b h = refl
and_first false b h = cc

and_second : (a b : Bool) → (a && b) ≡ true → b ≡ true
and_second true b h = h
and_second false b h = cc

Allowed-may_come : (s : State) (e : Entry) → may_come s e ≡ true → reply_of s e.caller e.call ≡ e.reply → Allowed s e
Allowed-may_come s e h same =
    let named = is_named s e.caller e.call in
    let fit = fits s e.caller e.call in
    let room = is_roomy e.call (task_at s (subject e.call)) in
    let later = and_second named (fit && room) h in
    record {
      named = and_first named (fit && room) h;
      fit = and_first fit room later;
      room = Roomy-is_roomy e.call (task_at s (subject e.call)) (and_second fit room later);
      reply = rw (← same) (IsReply-reply_of s e.caller e.call);
    }

pub Legal-replayed : (s : State) (es : List Entry) → all_may_come s es ≡ true → replayed s es ≡ es → Legal s es
Legal-replayed s [] h same = tt
Legal-replayed s (e ∷ es) h same =
    let made : Entry = record e { reply = reply_of s e.caller e.call } in
    let head : made ≡ e = cc in
    let first : reply_of s e.caller e.call ≡ e.reply = ap (λ (x : Entry). x.reply) head in
    let rest : replayed (stepped s e) es ≡ es = cc in
    (Allowed-may_come s e (and_first (may_come s e) (all_may_come (stepped s e) es) h) first, Legal-replayed (stepped s e) es (and_second (may_come s e) (all_may_come (stepped s e) es) h) rest)

-- a legal history is the replayed one
pub replayed-legal : (s : State) (es : List Entry) → Legal s es → replayed s es ≡ es
replayed-legal s [] h = refl
replayed-legal s (e ∷ es) h =
    rw (← IsReply-unique s e.caller e.call e.reply h.0.reply, replayed-legal (stepped s e) es h.1)
