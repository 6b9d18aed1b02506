use Rattle.std.proofs.Common.{◌≡◌, ◌<◌, ℕ, List, get_or, length, ap, sym, ◌∙◌, arith}
use Rattle.std.proofs.lemmas.List.{get_or_default}
use Rattle.std.proofs.Math.ListN.{length-set}
use Rattle.task_machine.specs.declared.task.TaskState.{TaskState}
use Rattle.task_machine.specs.Task.{resting}
use Rattle.task_machine.specs.Step.{State, subject, changed}
use Rattle.task_machine.proofs.About.{is_named-task}
use Rattle.task_machine.proofs.Lists.{each-from_call}
use Rattle.task_machine.proofs.Marks.{AreMarked-change, no_get}
use Rattle.task_machine.proofs.machine.Machine.change_one.Goals as goal

pub invariant_of-self : goal.invariant_of-self
invariant_of-self c =
    let k = c.args.caller in
    let call = c.args.call.now in
    let ts = c.self.inside.tasks.items in
    let named = is_named-task c.args.self.now k call c.requires.named in
    let within : subject call < length ts = rw (← c.self.view_is) at named in
    let read = c.index_mut-task.ensures.value in
    let here : c.index_mut-task.result.now ≡ get_or ts (subject call) c.index_mut-task.result.now = rw c.subject.ensures at read in
    let change : c.change_task.new.task ≡ changed k call (get_or ts (subject call) resting) =
    c.change_task.ensures ∙ ap (changed k call) (here ∙ get_or_default ts (subject call) c.index_mut-task.result.now resting within) in
    rw c.subject.ensures (c.self.invariant.0, omega (arith, c.self.invariant.1, length-set ts (subject call) c.change_task.new.task), AreMarked-change c.self.inside.workers ts c.self.inside.marks.items k call (subject call) c.change_task.new.task c.self.invariant.2 c.requires.fills within change)

pub returns : goal.returns
returns c =
    let k = c.args.caller in
    let call = c.args.call.now in
    let ts = c.self.inside.tasks.items in
    let named = is_named-task c.args.self.now k call c.requires.named in
    let within : subject call < length ts = rw (← c.self.view_is) at named in
    let read = c.index_mut-task.ensures.value in
    let here : c.index_mut-task.result.now ≡ get_or ts (subject call) c.index_mut-task.result.now = rw c.subject.ensures at read in
    let changes : (d : TaskState) → c.change_task.new.task ≡ changed k call (get_or ts (subject call) d) = λ d.
    c.change_task.ensures ∙ ap (changed k call) (here ∙ get_or_default ts (subject call) c.index_mut-task.result.now d within) in
    let with_tasks : List TaskState → State = λ us. record { workers = c.self.inside.workers; tasks = us } in
    rw (← c.self.view_is, c.subject.ensures) (ap with_tasks (each-from_call k call ts c.change_task.new.task (no_get call c.requires.fills) within changes))
