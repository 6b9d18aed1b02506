-- The test for legal histories decides them.
use Rattle.std.proofs.Common.{◌≡◌, Bool, true, false, List, [], ◌∷◌, refl, sym, ap, subst, eqb-true, ltb-true, lt-ltb}
use Rattle.task_machine.specs.declared.task.Stand.{Stand}
use Rattle.task_machine.specs.declared.task.Stand.TheVariants.{Rest, Queued, Runs}
use Rattle.task_machine.specs.declared.task.Seen.{Seen}
use Rattle.task_machine.specs.declared.task.Seen.TheVariants.{Live, Gone}
use Rattle.task_machine.specs.declared.task.TaskState.{TaskState}
use Rattle.task_machine.specs.declared.calls.Call.{Call}
use Rattle.task_machine.specs.declared.calls.Call.TheVariants.{Wake, Kill, Post, Get, Draw, Take, DropRun, Retire}
use Rattle.task_machine.specs.declared.calls.Reply.{Reply}
use Rattle.task_machine.specs.declared.calls.Reply.TheVariants.{Task, Group, Done}
use Rattle.task_machine.specs.declared.calls.Entry.{Entry}
use Rattle.task_machine.specs.Step.{State, Roomy, IsReply, Allowed, reply_of}
use Rattle.task_machine.proofs.Replies.{IsReply-reply_of, IsReply-unique}
use Rattle.task_machine.specs.History.{Legal, stepped}
use Rattle.run_model.specs.IsLawful.{same_stand, same_flag, same_seen, same_reply, is_roomy, is_allowed, is_legal}
use Rattle.run_model.proofs.Readings.{both, same_number}

stand_true : (x y : Stand) → same_stand x y ≡ true → x ≡ y
stand_true Rest Rest e = refl
stand_true Queued Queued e = refl
stand_true Runs Runs e = refl
stand_true x y e = cc

flag_true : (x y : Bool) → same_flag x y ≡ true → x ≡ y
flag_true true true e = refl
flag_true false false e = refl
flag_true x y e = cc

seen_true : (x y : Seen) → same_seen x y ≡ true → x ≡ y
seen_true Gone Gone e = refl
seen_true (Live x p a m) (Live y q b n) e =
    let h = both _ _ e in
    let k = both _ _ h.1 in
    let l = both _ _ k.1 in
    let ex = stand_true x y h.0 in
    let ep = eqb-true p q k.0 in
    let ea = flag_true a b l.0 in
    let em = eqb-true m n l.1 in
    cc
seen_true x y e = cc

reply_true : (x y : Reply) → same_reply x y ≡ true → x ≡ y
reply_true (Task x) (Task y) e = ap (λ z. Task z) (seen_true x y e)
reply_true (Group m) (Group n) e = ap (λ z. Group z) (eqb-true m n e)
reply_true Done Done e = refl
reply_true x y e = cc

stand_refl : (x : Stand) → same_stand x x ≡ true
stand_refl Rest = refl
stand_refl Queued = refl
stand_refl Runs = refl

flag_refl : (x : Bool) → same_flag x x ≡ true
flag_refl true = refl
flag_refl false = refl

seen_refl : (x : Seen) → same_seen x x ≡ true
seen_refl Gone = refl
seen_refl (Live x p a m) = rw (stand_refl x, same_number p, flag_refl a, same_number m) refl

reply_refl : (x : Reply) → same_reply x x ≡ true
reply_refl (Task x) = seen_refl x
reply_refl (Group m) = same_number m
reply_refl Done = refl

roomy_true : (c : Call) (t : TaskState) → is_roomy c t ≡ true → Roomy c t
roomy_true (Wake i f) t e = tt
roomy_true (Kill i) t e = tt
roomy_true (Post i b) t e = tt
roomy_true (Get g) t e = tt
roomy_true (Draw i) t e = tt
roomy_true (Take i) t e = ltb-true _ _ e
roomy_true (DropRun i) t e = tt
roomy_true (Retire i) t e = tt

true_roomy : (c : Call) (t : TaskState) → Roomy c t → is_roomy c t ≡ true
true_roomy (Wake i f) t h = refl
true_roomy (Kill i) t h = refl
true_roomy (Post i b) t h = refl
true_roomy (Get g) t h = refl
true_roomy (Draw i) t h = refl
true_roomy (Take i) t h = lt-ltb _ _ h
true_roomy (DropRun i) t h = refl
true_roomy (Retire i) t h = refl

pub allowed_true : (s : State) (e : Entry) → is_allowed s e ≡ true → Allowed s e
allowed_true s e h =
    let a = both _ _ h in
    let b = both _ _ a.1 in
    let c = both _ _ b.1 in
    record {
      named = a.0;
      fit = b.0;
      room = roomy_true e.call _ c.0;
      reply = subst (λ (r : Reply). IsReply s e.caller e.call r) (reply_true _ _ c.1) (IsReply-reply_of s e.caller e.call);
    }

pub true_allowed : (s : State) (e : Entry) → Allowed s e → is_allowed s e ≡ true
true_allowed s e h =
    let same : reply_of s e.caller e.call ≡ e.reply = sym (IsReply-unique s e.caller e.call e.reply h.reply) in
    let equal : same_reply (reply_of s e.caller e.call) e.reply ≡ true = subst (λ (r : Reply). same_reply (reply_of s e.caller e.call) r ≡ true) same (reply_refl (reply_of s e.caller e.call)) in
    rw (h.named, h.fit, true_roomy e.call _ h.room, equal) refl

pub legal_true : (s : State) (es : List Entry) → is_legal s es ≡ true → Legal s es
legal_true s [] h = tt
legal_true s (e ∷ es) h = let a = both _ _ h in (allowed_true s e a.0, legal_true (stepped s e) es a.1)

pub true_legal : (s : State) (es : List Entry) → Legal s es → is_legal s es ≡ true
true_legal s [] h = refl
true_legal s (e ∷ es) h = rw (true_allowed s e h.0, true_legal (stepped s e) es h.1) refl
