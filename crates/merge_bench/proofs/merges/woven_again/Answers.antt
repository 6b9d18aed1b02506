use Rattle.std.proofs.Common.{◌≡◌, ◌+◌, List, sym, ap, subst, ◌∙◌, arith}
use Rattle.task_machine.specs.Logged.{Logged}
use Rattle.task_machine.specs.Step.{State}
use Rattle.task_machine.specs.History.{History}
use Rattle.merge_bench.specs.Histories.{AreCut}
use Rattle.merge_bench.proofs.Cutting.{HasMerge-cut, count-cut, takes-cut, taken-new, on_true}
use Rattle.merge_bench.proofs.merges.woven_again.Goals as goal

-- the history from the second new machine, and the logs of its callers
legal : (c : goal.After-deref) → History c.in_ok-machine.machine c.args.entries.now c.lead.new.machine
legal c =
    let same : c.in_ok-led.led ≡ c.in_ok-machine.machine = c.in_ok-led.ensures ∙ sym c.in_ok-machine.ensures in
    let h = on_true c.lead.result (History c.in_ok-led.led c.args.entries.now c.lead.new.machine) c.if-not-lead.false c.lead.ensures in
    subst (λ (s : State). History s c.args.entries.now c.lead.new.machine) same h

logged : (c : goal.After-deref) → AreCut c.deref.result.now (c.in_ok-machine.machine.workers + 1) c.args.entries.now
logged c =
    let workers = ap (λ (s : State). s.workers) c.in_ok-machine.ensures in
    let cut = subst (λ (l : List Logged). AreCut l (c.args.shape.workers + 1) c.args.entries.now) (sym c.deref.ensures.value) c.in_ok-logs.ensures in
    rw workers cut

pub weave-requires-clause-reserved : goal.weave-requires-clause-reserved
weave-requires-clause-reserved c =
    let count = count-cut c.in_ok-machine.machine c.lead.new.machine c.args.entries.now c.deref.result.now (legal c) (logged c) in
    let room = c.in_ok-reserve.ensures.room in omega arith

pub weave-requires-clause-takes_left : goal.weave-requires-clause-takes_left
weave-requires-clause-takes_left c =
    let none = taken-new c.args.shape.tasks c.args.shape.workers in
    let few = c.if-entries.false in
    takes-cut c.in_ok-machine.machine c.lead.new.machine c.args.entries.now c.deref.result.now (legal c) (logged c) (rw c.in_ok-machine.ensures none) (omega arith)

pub weave-requires-clause-mergeable : goal.weave-requires-clause-mergeable
weave-requires-clause-mergeable c =
    HasMerge-cut c.in_ok-machine.machine c.lead.new.machine c.args.entries.now c.deref.result.now (legal c) (logged c)
