use Rattle.std.proofs.Common.{◌-◌, ◌*◌, sym, arith}
use Rattle.task_machine.proofs.Words.{IsBoxIn-whole, IsPart-next_clear, IsPart-next_set}
use Rattle.task_machine.proofs.machine.group_word.Goals as goal
use Rattle.task_machine.proofs.machine.group_word.Goals.{then-is_in_box, else-is_in_box}

pub loop-i-preserved : goal.loop-i-preserved
loop-i-preserved c =
    elim c.if-is_in_box.branch [
      | then-is_in_box w ↦ rw w.word-is (IsPart-next_set c.args.tasks.now c.args.boxno c.args.group c.loop-i.i c.loop-i.word c.index-tasks-i.result (omega arith) (omega arith) (omega arith) (sym w.if-is_in_box.ensures) c.loop-i.invariant)
      | else-is_in_box w ↦ rw w.word-is (IsPart-next_clear c.args.tasks.now c.args.boxno c.args.group c.loop-i.i c.loop-i.word c.index-tasks-i.result (omega arith) (omega arith) (sym w.if-is_in_box.ensures) c.loop-i.invariant)
    ]

pub returns : goal.returns
returns c =
    IsBoxIn-whole c.args.tasks.now c.args.boxno c.args.group c.loop-i.word (c.loop-i.i - 64 * c.args.group) (omega arith) (λ l. omega arith) c.loop-i.invariant
