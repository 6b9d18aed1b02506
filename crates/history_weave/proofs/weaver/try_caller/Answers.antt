use Rattle.std.proofs.Common.{◌≡◌, ◌∷◌, sym, ◌∙◌, ap}
use Rattle.task_machine.specs.declared.calls.Entry.{Entry}
use Rattle.task_machine.specs.Step.{Allowed}
use Rattle.task_machine.proofs.Replies.{Refused-not_allowed}
use Rattle.history_weave.specs.Rule.{Ready}
use Rattle.history_weave.specs.Kinds.{KindGoes}
use Rattle.history_weave.specs.Places.{left_of}
use Rattle.history_weave.proofs.Entering.{head-read}
use Rattle.history_weave.proofs.KindEvents.{Ready-goes, goes-Ready, Allowed-seen}
use Rattle.history_weave.proofs.weaver.try_caller.Goals as goal

pub may_go-requires-clause-next : goal.may_go-requires-clause-next
may_go-requires-clause-next c =
    let e = c.index-log-place.result in
    let h = head-read c.args.logs.now c.args.index.now c.args.k c.index-place.result.now c.index-logs-k.result c.as_slice-log.result.now e c.requires.together.indexed c.requires.caller c.index-place.ensures c.index-logs-k.is c.as_slice-log.ensures c.if-place-log.false c.index-log-place.is in
    (e, h.rest, h.head, sym c.kind_of.ensures)

pub returns-then-not-may_go-clause-stuck : goal.returns-then-not-may_go-clause-stuck
returns-then-not-may_go-clause-stuck c = λ d ds left ready allowed.
    let logs = c.args.logs.now in
    let x = c.args.index.now in
    let s = c.args.machine.now in
    let k = c.args.k in
    let e = c.index-log-place.result in
    let κ = c.kind_of.result in
    let h = head-read logs x k c.index-place.result.now c.index-logs-k.result c.as_slice-log.result.now e c.requires.together.indexed c.requires.caller c.index-place.ensures c.index-logs-k.is c.as_slice-log.ensures c.if-place-log.false c.index-log-place.is in
    let heads : e ∷ h.rest ≡ d ∷ ds = sym h.head ∙ left in
    let same : d ≡ e = cc in
    let here : Ready (left_of logs x.next.items) s e = rw same at ready in
    let there : Allowed s e = rw same at allowed in
    let own = sym (ap (λ (f : Entry). f.caller.0) h.entry) ∙ c.requires.together.own k _ e c.requires.caller h.within in
    let seen = Allowed-seen s e κ (sym c.kind_of.ensures) there in
    let goes : KindGoes (left_of logs x.next.items) s k κ = rw own at (goes-Ready (left_of logs x.next.items) s e κ (sym c.kind_of.ensures) here) in
    let may = c.may_go.ensures.complete seen goes in
    let not_may = c.if-not-may_go.true in cc

pub returns-in-Ok-clause-went : goal.returns-in-Ok-clause-went
returns-in-Ok-clause-went c =
    let logs = c.args.logs.now in
    let x = c.args.index.now in
    let s = c.args.machine.now in
    let k = c.args.k in
    let e = c.index-log-place.result in
    let h = head-read logs x k c.index-place.result.now c.index-logs-k.result c.as_slice-log.result.now e c.requires.together.indexed c.requires.caller c.index-place.ensures c.index-logs-k.is c.as_slice-log.ensures c.if-place-log.false c.index-log-place.is in
    let own = sym (ap (λ (f : Entry). f.caller.0) h.entry) ∙ c.requires.together.own k _ e c.requires.caller h.within in
    let goes : KindGoes (left_of logs x.next.items) s e.caller.0 c.kind_of.result = rw own (c.may_go.ensures.sound c.if-not-may_go.false) in
    let step = c.in-Ok.ensures.step in
    record {
      entry = e;
      rest = h.rest;
      head = h.head;
      own = own;
      ready = Ready-goes (left_of logs x.next.items) s e c.kind_of.result (sym c.kind_of.ensures) goes;
      allowed = step.allowed;
      state = step.state;
      pushed = c.push_reserved.ensures.items;
      next = c.leave.ensures.next;
      indexed = c.leave.ensures.indexed;
      tasks = c.leave.ensures.tasks;
      links = c.leave.ensures.links;
    }

pub returns-in-Err-clause-stuck : goal.returns-in-Err-clause-stuck
returns-in-Err-clause-stuck c = λ d ds left ready allowed.
    let logs = c.args.logs.now in
    let x = c.args.index.now in
    let s = c.args.machine.now in
    let k = c.args.k in
    let e = c.index-log-place.result in
    let h = head-read logs x k c.index-place.result.now c.index-logs-k.result c.as_slice-log.result.now e c.requires.together.indexed c.requires.caller c.index-place.ensures c.index-logs-k.is c.as_slice-log.ensures c.if-place-log.false c.index-log-place.is in
    let heads : e ∷ h.rest ≡ d ∷ ds = sym h.head ∙ left in
    let same : d ≡ e = cc in
    let there : Allowed s e = rw same at allowed in
    Refused-not_allowed s e c.in-Err.field-0 c.in-Err.ensures.cause there
