use Rattle.std.proofs.Common.{◌+◌, ◌<◌, ◌^◌, Option, Some, IfSome, ap, sym, refl, ◌∙◌, arith, subst}
use Rattle.step_tables.specs.declared.tables.Event.{Event}
use Rattle.turn_steps.specs.Left.{heard}
use Rattle.turn_steps.specs.Has.{caller}
use Rattle.run_replay.proofs.Injections.{events-made, heard-rest, heard-busy, nothing-left}
use Rattle.run_replay.proofs.injection.Injection.heard.Goals as goal

pub overflow_add-self : goal.overflow_add-self
overflow_add-self c =
    let few : IfSome (Some c.in-Some-event.event) (λ _. c.args.self.now.next + 1 < 2 ^ 64) = subst (λ (o : Option Event). IfSome o (λ _. c.args.self.now.next + 1 < 2 ^ 64)) c.in-Some-event.is c.event.ensures.few in
    omega arith

pub returns-then-is_rest-clause-stage : goal.returns-then-is_rest-clause-stage
returns-then-is_rest-clause-stage c = λ k tick.
    heard-rest c.args.script.now c.args.round k tick c.args.self.now _ c.in-Some-event.event c.args.reply.now c.target.result c.in-None.is (sym c.event.ensures.first ∙ c.in-Some-event.is) refl refl c.target.ensures (sym c.is_rest.ensures ∙ c.if-is_rest.true)

pub returns-then-is_rest-clause-events : goal.returns-then-is_rest-clause-events
returns-then-is_rest-clause-events c = events-made c.args.script.now c.args.round c.args.self.now _ c.in-Some-event.event c.requires (sym c.event.ensures.first ∙ c.in-Some-event.is) refl

pub returns-else-is_rest-clause-stage : goal.returns-else-is_rest-clause-stage
returns-else-is_rest-clause-stage c = λ k tick.
    heard-busy c.args.script.now c.args.round k tick c.args.self.now _ c.in-Some-event.event c.args.reply.now c.in-None.is (sym c.event.ensures.first ∙ c.in-Some-event.is) refl c.in-None.is (sym c.is_rest.ensures ∙ c.if-is_rest.false)

pub returns-else-is_rest-clause-events : goal.returns-else-is_rest-clause-events
returns-else-is_rest-clause-events c = events-made c.args.script.now c.args.round c.args.self.now _ c.in-Some-event.event c.requires (sym c.event.ensures.first ∙ c.in-Some-event.is) refl

pub returns-in_default-clause-stage : goal.returns-in_default-clause-stage
returns-in_default-clause-stage c = λ k tick.
    let s = c.args.script.now in
    let here = nothing-left s c.args.round c.args.self.now c.requires c.in-None.is (sym c.event.ensures.first ∙ c.in_default.is) in
    here ∙ sym (ap (heard s (caller k) tick c.args.reply.now) here)
