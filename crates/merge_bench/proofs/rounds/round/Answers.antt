use Rattle.std.proofs.Common.{◌≡◌, ◌+◌, sym, ap, subst, ◌∙◌, arith}
use Rattle.task_machine.specs.Step.{State}
use Rattle.task_machine.specs.History.{History}
use Rattle.merge_bench.specs.Histories.{AreCut}
use Rattle.merge_bench.proofs.Cutting.{HasMerge-cut, count-cut, takes-cut, taken-new, on_true}
use Rattle.merge_bench.proofs.rounds.round.Goals as goal

-- the history from the second new machine, and the logs of its callers
legal : (c : goal.After-machine-3-1) → History c.in_ok-machine-2.machine c.args.entries.now c.lead-legal.new.machine
legal c =
    let same : c.in_ok-machine.machine ≡ c.in_ok-machine-2.machine =
    c.in_ok-machine.ensures ∙ sym c.in_ok-machine-2.ensures in
    let h = on_true c.lead-legal.result (History c.in_ok-machine.machine c.args.entries.now c.lead-legal.new.machine) c.if-not-legal.false c.lead-legal.ensures in
    subst (λ (s : State). History s c.args.entries.now c.lead-legal.new.machine) same h

logged : (c : goal.After-machine-3-1) → AreCut c.args.logs.now (c.in_ok-machine-2.machine.workers + 1) c.args.entries.now
logged c =
    let workers = ap (λ (s : State). s.workers) c.in_ok-machine-2.ensures in rw workers c.requires.cut

pub weave-requires-clause-reserved : goal.weave-requires-clause-reserved
weave-requires-clause-reserved c =
    let count = count-cut c.in_ok-machine-2.machine c.lead-legal.new.machine c.args.entries.now c.args.logs.now (legal c) (logged c) in
    let room = c.requires.reserved in omega arith

pub weave-requires-clause-takes_left : goal.weave-requires-clause-takes_left
weave-requires-clause-takes_left c =
    let none = taken-new c.args.shape.tasks c.args.shape.workers in
    let few = c.requires.few in
    takes-cut c.in_ok-machine-2.machine c.lead-legal.new.machine c.args.entries.now c.args.logs.now (legal c) (logged c) (rw c.in_ok-machine-2.ensures none) (omega arith)

pub weave-requires-clause-mergeable : goal.weave-requires-clause-mergeable
weave-requires-clause-mergeable c =
    HasMerge-cut c.in_ok-machine-2.machine c.lead-legal.new.machine c.args.entries.now c.args.logs.now (legal c) (logged c)
