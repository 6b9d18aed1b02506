use Rattle.std.proofs.Common.{◌≡◌, ◌<◌, ℕ, List, get_or, length, ap, sym, ◌∙◌}
use Rattle.std.proofs.lemmas.List.{get_or_default}
use Rattle.task_machine.specs.declared.task.TaskState.{TaskState}
use Rattle.task_machine.specs.declared.task.Place.TheVariants as places
use Rattle.task_machine.specs.declared.calls.Call.{Call}
use Rattle.task_machine.specs.Task.{resting, put}
use Rattle.task_machine.specs.Step.{State, task_at, after}
use Rattle.task_machine.proofs.About.{is_named-post}
use Rattle.task_machine.proofs.Lists.{after_post}
use Rattle.task_machine.proofs.machine.Machine.change.Goals as goal

pub returns-in-Post : goal.returns-in-Post
returns-in-Post c =
    let s = c.args.self.now in
    let named = is_named-post s c.args.caller c.in-Post.id c.in-Post.boxno (rw c.in-Post.is at c.requires.named) in
    c.put.ensures ∙ after_post s c.args.caller c.in-Post.id c.in-Post.boxno named.1 ∙ ap (after s c.args.caller) (sym c.in-Post.is)
