use Rattle.std.proofs.Common.{List, ◌∷◌, [], ◌++◌, arith, ap, ◌∙◌}
use Rattle.task_machine.specs.declared.calls.Entry.{Entry}
use Rattle.task_machine.specs.Logged.{Logged}
use Rattle.merge_bench.proofs.Cutting.{own-on, own-off}
use Rattle.merge_bench.proofs.merges.own_log.Goals as goal
use Rattle.merge_bench.proofs.merges.own_log.Goals.{then-entry-k+in_ok-reserve, else-entry-k}

pub loop-entry-preserved : goal.loop-entry-preserved
loop-entry-preserved c =
    let es = c.args.entries.now in
    let e = c.entry-item.result in
    let i = c.loop-entry.entry-index in
    let log = c.loop-entry.log.entries in
    elim c.if-entry-k.branch [
      | then-entry-k+in_ok-reserve w ↦
          let made = ap (λ (l : Logged). l.entries) w.log-is ∙ w.push.ensures.entries ∙ ap (λ (l : List Entry). l ++ e ∷ []) w.reserve.ensures.entries in
          own-on c.args.k es log c.if-entry-k.log.entries i e (omega arith) c.entry-item.is w.if-entry-k.true c.loop-entry.invariant made
      | else-entry-k w ↦
          ap (λ (l : Logged). l.entries) w.log-is ∙ own-off c.args.k es log i e (omega arith) c.entry-item.is w.if-entry-k.false c.loop-entry.invariant
    ]
