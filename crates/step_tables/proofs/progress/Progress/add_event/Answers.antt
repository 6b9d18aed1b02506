use Rattle.step_tables.specs.Views.{event_view}
use Rattle.step_tables.proofs.Good.{good_event}
use Rattle.step_tables.proofs.progress.Progress.add_event.Goals as goal

pub event_of-event-requires : goal.event_of-event-requires
event_of-event-requires c = (good_event c.args.self.now (event_view c.args.line.now) c.requires).round
