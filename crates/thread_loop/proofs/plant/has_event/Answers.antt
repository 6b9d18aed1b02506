use Rattle.std.proofs.Common.{ap, not, ◌∙◌}
use Rattle.thread_loop.proofs.NextTick.{event-by}
use Rattle.thread_loop.proofs.plant.has_event.Goals as goal

pub returns : goal.returns
returns c = ap not c.is_empty.ensures ∙ event-by c.args.script.now c.args.round c.events_of.result.now c.events_of.ensures.actions
