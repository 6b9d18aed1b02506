-- A task more, from the draws behind those before.
use Rattle.std.proofs.Common.{◌≡◌, ◌∙◌}
use Rattle.script_gen.proofs.Tasks.{made_more, drawn_more, none_made, none_drawn}
use Rattle.script_gen.proofs.generating.tasks.Goals as goal

pub loop-number-init : goal.loop-number-init
loop-number-init c = (c.in_ok-list.ensures.items ∙ none_made c.args.size c.args.seed, c.of-draws.ensures ∙ none_drawn c.args.seed)

pub loop-number-preserved : goal.loop-number-preserved
loop-number-preserved c = (
  made_more c.args.size c.args.seed c.loop-number.number c.loop-number.draws.state _ _ _ c.of_task-drawn.result c.loop-number.invariant.0 c.loop-number.invariant.1 c.of_task-drawn.ensures.value c.in_ok-task.ensures c.in_ok-push.ensures.items,
  drawn_more c.args.seed c.loop-number.number c.loop-number.draws.state _ c.loop-number.invariant.1 c.of_task-drawn.ensures.state,
)
