use Rattle.std.proofs.Common.{ap, sym, ◌∙◌}
use Rattle.turn_steps.specs.Left.{asked}
use Rattle.run_replay.proofs.Injections.{nothing-left}
use Rattle.run_replay.proofs.injection.Injection.next_call.Goals as goal

pub returns-in-None-event : goal.returns-in-None-event
returns-in-None-event c = sym (ap (asked c.args.script.now) (nothing-left c.args.script.now c.args.round c.args.self.now c.requires.events c.in-None.is (sym c.event.ensures.first ∙ c.in-None-event.is)))
