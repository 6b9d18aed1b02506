use Rattle.std.proofs.Common.{◌+◌, ◌∙◌, List, length, drop, refl, sym, ap, arith, subst, length-append, length-drop}
use Rattle.std.proofs.lemmas.List.{length-map}
use Rattle.step_tables.specs.declared.tables.Action.{Action}
use Rattle.step_tables.specs.declared.tables.Event.{Event}
use Rattle.task_machine.specs.Logged.{Logged}
use Rattle.task_machine.specs.declared.calls.Entry.{Entry}
use Rattle.turn_steps.specs.Ranges.{AreSound}
use Rattle.turn_steps.proofs.Fit.{IsFit-sound}
use Rattle.thread_loop.specs.Events.{actions_all}
use Rattle.thread_loop.specs.BoardTurns.{AtActions, HasInjected}
use Rattle.thread_loop.proofs.BoardRounds.{at-begun, injected-none, injected-trans, injects-all, free-over}
use Rattle.thread_loop.proofs.Events.{events-at, none-left}
use Rattle.thread_loop.proofs.injector.Injector.inject.Goals as goal

pub loop-event-init : goal.loop-event-init
loop-event-init g c =
    let s = c.args.script.now in
    let events = c.events_of-events.result.now in
    let sound = c.events_of-events.ensures.sound in
    record {
      at = at-begun s c.args.board.now (actions_all events) c.args.pass.now sound c.requires.board c.requires.pass c.requires.number c.requires.outs c.requires.free
          (subst (λ (xs : List Action). AreSound (length s.tasks) xs) (sym c.events_of-events.ensures.actions) ((IsFit-sound s sound).events c.args.round));
      injected = subst (λ (es : List Entry). HasInjected s (actions_all events) (actions_all events) c.args.pass.now es c.args.pass.now) (sym c.clear.ensures.entries) (injected-none s (actions_all events) c.args.pass.now);
      spare =
          (let none = ap (λ (es : List Entry). length es) c.clear.ensures.entries in
          let room = c.clear.ensures.room in
          let view = ap (λ (l : Logged). l.room) c.self.view_is in
          let enough = c.requires.reserved in
          let count = ap (λ (xs : List Action). length xs) c.events_of-events.ensures.actions in
          let all = length-map events (λ (e : Event). e.action) in
          omega arith);
      room = refl;
    }

pub act-requires : goal.act-requires
act-requires g c =
    let events = c.events_of-events.result.now in
    let i = c.loop-event.event-index in
    let at = events-at events i c.event-item.result c.event-item.is c.loop-event-test.true in
    record {
      at = (actions_all (drop (i + 1) events), subst (λ (xs : List Action). AtActions c.args.script.now c.args.board.now xs c.loop-event.pass) at c.loop-event.invariant.at);
      spare =
          (let spare = c.loop-event.invariant.spare in
          let lt = c.loop-event-test.true in
          omega (arith, length-drop i events));
    }

pub loop-event-preserved : goal.loop-event-preserved
loop-event-preserved g c =
    let s = c.args.script.now in
    let events = c.events_of-events.result.now in
    let i = c.loop-event.event-index in
    let later = actions_all (drop (i + 1) events) in
    let at = events-at events i c.event-item.result c.event-item.is c.loop-event-test.true in
    let acted = c.act.ensures.acted in
    let made = injected-trans s (actions_all events) _ later c.args.pass.now c.loop-event.pass c.act.new.pass c.loop-event.self.entries acted.entries (subst (λ (xs : List Action). HasInjected s (actions_all events) xs c.args.pass.now c.loop-event.self.entries c.loop-event.pass) at c.loop-event.invariant.injected) (acted.injected later) in
    record {
      at = c.act.ensures.at later (subst (λ (xs : List Action). AtActions s c.args.board.now xs c.loop-event.pass) at c.loop-event.invariant.at);
      injected = subst (λ (es : List Entry). HasInjected s (actions_all events) later c.args.pass.now es c.act.new.pass) (sym acted.logged) made;
      spare =
          (let spare = c.loop-event.invariant.spare in
          let room = acted.room in
          let few = acted.few in
          let long = ap (λ (es : List Entry). length es) acted.logged in
          let longer = simp length-append at long in
          let lt = c.loop-event-test.true in
          omega (arith, length-drop i events, length-drop (i + 1) events));
      room = acted.room ∙ c.loop-event.invariant.room;
    }

pub returns-clause-injects : goal.returns-clause-injects
returns-clause-injects g c =
    let events = c.events_of-events.result.now in
    let none = none-left events c.loop-event.event-index c.loop-event-test.false in
    injects-all c.args.script.now c.args.round (actions_all events) c.args.pass.now c.loop-event.pass c.loop-event.self.entries c.events_of-events.ensures.actions (subst (λ (xs : List Action). HasInjected c.args.script.now (actions_all events) xs c.args.pass.now c.loop-event.self.entries c.loop-event.pass) none c.loop-event.invariant.injected)

pub returns-clause-grown : goal.returns-clause-grown
returns-clause-grown g c = c.loop-event.invariant.injected.grown

pub returns-clause-free : goal.returns-clause-free
returns-clause-free g c =
    let events = c.events_of-events.result.now in
    let none = none-left events c.loop-event.event-index c.loop-event-test.false in
    free-over c.args.script.now c.args.board.now c.loop-event.pass (subst (λ (xs : List Action). AtActions c.args.script.now c.args.board.now xs c.loop-event.pass) none c.loop-event.invariant.at)
