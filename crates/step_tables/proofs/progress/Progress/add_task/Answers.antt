use Rattle.std.proofs.lemmas.Bool.{leb-false}
use Rattle.std.proofs.Common.{◌≡◌, length, None, ap, arith, sym, subst}
use Rattle.step_tables.specs.Judging.{named, task_of}
use Rattle.step_tables.specs.Views.{task_view}
use Rattle.step_tables.proofs.Bounds.{tasks_small}
use Rattle.step_tables.proofs.Good.{good_task, good_name}
use Rattle.step_tables.proofs.progress.Progress.add_task.Goals as goal

pub push-requires-clause-few : goal.push-requires-clause-few
push-requires-clause-few c =
    let p = c.args.self.now in
    let room = leb-false _ (length p.tasks) (good_task p (task_view c.args.line.now) c.requires).few in
    omega (arith, room, tasks_small p.version)

pub push-requires-clause-new : goal.push-requires-clause-new
unfolding task_of
push-requires-clause-new c =
    subst (λ name. named c.args.self.now.tasks name ≡ None) (sym (ap (λ task. task.name) c.in_ok-task.ensures)) (good_name c.args.self.now (task_view c.args.line.now) c.requires)
