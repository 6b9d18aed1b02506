use Rattle.std.proofs.Common.{ap, arith, length, ◌+◌, sym, subst, ◌∙◌}
use Rattle.step_tables.specs.declared.tables.TaskDef.{TaskDef}
use Rattle.wake_board.specs.Rows.{WordRow}
use Rattle.thread_loop.proofs.Opened.{few_tasks, few_workers, home_below}
use Rattle.thread_loop.proofs.Laid.{WordsTo, init-read, untouched, words_first, words_rest, words_seat, words_all}
use Rattle.thread_loop.proofs.opening.words_of.Goals.{then-tasks-number, else-tasks-number}
use Rattle.thread_loop.proofs.opening.words_of.Goals as goal

pub overflow_cast-tasks : goal.overflow_cast-tasks
overflow_cast-tasks c = let few = few_tasks c.args.script.now c.tasks-tasks.ensures.sound in let same = ap length c.tasks-tasks.ensures.same in omega arith

pub new-requires-clause-few_tasks : goal.new-requires-clause-few_tasks
new-requires-clause-few_tasks c = let few = few_tasks c.args.script.now c.tasks-tasks.ensures.sound in let same = ap length c.tasks-tasks.ensures.same in omega arith

pub new-requires-clause-some_workers : goal.new-requires-clause-some_workers
new-requires-clause-some_workers c = let few = few_workers c.args.script.now c.tasks-tasks.ensures.sound in omega (arith, few.0, c.workers.ensures.same)

pub new-requires-clause-few_workers : goal.new-requires-clause-few_workers
new-requires-clause-few_workers c = let few = few_workers c.args.script.now c.tasks-tasks.ensures.sound in omega (arith, few.1, c.workers.ensures.same)

pub loop-number-init : goal.loop-number-init
loop-number-init c = record { stand = words_first c.args.script.now (length c.tasks-tasks.result.now) c.workers.result c.in_ok-words.words c.tasks-tasks.ensures.sound (ap length c.tasks-tasks.ensures.same) c.workers.ensures.same c.in_ok-words.ensures }

pub seat_init-requires-clause-box_exists : goal.seat_init-requires-clause-box_exists
seat_init-requires-clause-box_exists c = let below = home_below c.args.script.now c.loop-number.number c.tasks-tasks.ensures.sound in omega (arith, c.home_of.ensures, c.loop-number.invariant.stand.workers)

pub seat_init-requires-clause-untouched : goal.seat_init-requires-clause-untouched
seat_init-requires-clause-untouched c = untouched c.args.script.now c.loop-number.number c.home_of.result c.loop-number.words c.loop-number.invariant.stand (omega (arith, ap length c.tasks-tasks.ensures.same)) c.home_of.ensures

pub loop-number-preserved : goal.loop-number-preserved
loop-number-preserved c =
    let s = c.args.script.now in
    let n = c.loop-number.number in
    let stand = c.loop-number.invariant.stand in
    let init = init-read s n c.tasks-tasks.result.now c.index-tasks-number.result c.index-tasks-number.is c.tasks-tasks.ensures.same c.loop-number-test.true in
    record {
      stand = elim c.if-tasks-number.branch [
        | then-tasks-number w ↦ words_seat s n w.home_of.result c.loop-number.words c.if-tasks-number.words c.index-tasks-number.result.init stand (omega (arith, c.loop-number-test.true, ap length c.tasks-tasks.ensures.same)) init (ap (λ (t : TaskDef). t.init) c.index-tasks-number.is ∙ w.if-tasks-number.true) w.home_of.ensures (w.words-is ∙ w.seat_init.ensures)
        | else-tasks-number w ↦ subst (λ (x : WordRow). WordsTo s (n + 1) x) (sym w.words-is) (words_rest s n c.loop-number.words c.index-tasks-number.result.init stand init (ap (λ (t : TaskDef). t.init) c.index-tasks-number.is ∙ w.if-tasks-number.false))
      ];
    }

pub returns : goal.returns
returns c = words_all c.args.script.now c.loop-number.number c.loop-number.words (omega (arith, ap length c.tasks-tasks.ensures.same)) c.loop-number.invariant.stand
