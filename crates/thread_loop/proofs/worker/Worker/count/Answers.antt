use Rattle.std.proofs.Common.{◌<◌, ◌∙◌, arith, length, get_or, subst, IfSome, Option}
use Rattle.std.proofs.lemmas.List.{get_or_read}
use Rattle.sched_base.specs.declared.names.TaskId.{TaskId}
use Rattle.thread_loop.proofs.Scripts.{row_in}
use Rattle.thread_loop.proofs.worker.Worker.count.Goals as goal

pub row_at-requires-clause-row : goal.row_at-requires-clause-row
row_at-requires-clause-row c =
    let lt : c.in-Some.id.0 < length c.args.script.now.tasks = subst (λ (o : Option TaskId). IfSome o (λ id. id.0 < length c.args.script.now.tasks)) c.in-Some.is c.requires.exists in
    let there : c.in-Some.id.0 < length c.args.self.now.rows.items = omega (arith, c.requires.rows.rows) in
    let read = get_or_read c.args.self.now.rows.items c.in-Some.id.0 c.index.result.now there c.index.ensures 0 in
    rw (read ∙ c.requires.rows.same c.in-Some.id.0 lt) (row_in c.args.script.now c.in-Some.id.0 (get_or c.args.self.now.takes.items c.in-Some.id.0 0) c.requires.sound lt)
