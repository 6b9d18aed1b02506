use Rattle.std.proofs.Common.{◌∙◌, ap, sym, subst, arith}
use Rattle.task_machine.specs.declared.calls.Call.{Call}
use Rattle.run_model.proofs.Readings.{some_inj}
use Rattle.run_model.specs.Tables.{row_number}
use Rattle.thread_loop.specs.Workers.{TellsTakes}
use Rattle.run_replay.proofs.Turning.{Drew, Heard, drawable-next, hears-next, stage-asked, tells-next, turned-draw, turning-heard, undrawn-call}
use Rattle.run_replay.proofs.watcher.hear.Goals as goal

pub body-requires-clause-exists : goal.body-requires-clause-exists
body-requires-clause-exists c = (drawable-next c.args.script.now c.requires.0 c.requires.1 c.args.entry.now c.in-Draw.id c.requires.2 c.args.floor.now c.args.worker.now c.in-Draw.is c.requires.3 c.requires.4 c.requires.5 c.requires.6).there

pub body-requires-clause-live : goal.body-requires-clause-live
body-requires-clause-live c = (drawable-next c.args.script.now c.requires.0 c.requires.1 c.args.entry.now c.in-Draw.id c.requires.2 c.args.floor.now c.args.worker.now c.in-Draw.is c.requires.3 c.requires.4 c.requires.5 c.requires.6).live

pub drew-requires-clause-takes : goal.drew-requires-clause-takes
drew-requires-clause-takes c =
    let few = (drawable-next c.args.script.now c.requires.0 c.requires.1 c.args.entry.now c.in-Draw.id c.requires.2 c.args.floor.now c.args.worker.now c.in-Draw.is c.requires.3 c.requires.4 c.requires.5 c.requires.6).few in
    let same = c.body.ensures.takes in
    omega arith

pub drew-requires-clause-row : goal.drew-requires-clause-row
drew-requires-clause-row c =
    let row = (drawable-next c.args.script.now c.requires.0 c.requires.1 c.args.entry.now c.in-Draw.id c.requires.2 c.args.floor.now c.args.worker.now c.in-Draw.is c.requires.3 c.requires.4 c.requires.5 c.requires.6).row in
    c.body.ensures.row ∙ row ∙ ap (row_number c.args.script.now c.in-Draw.id.0) (sym c.body.ensures.takes)

pub heard-requires : goal.heard-requires
heard-requires c =
    let none = undrawn-call c.args.entry.now.call c.in_default.not-Draw in
    let asks = stage-asked c.args.script.now c.requires.0 c.requires.1 c.requires.2 c.args.worker.now c.args.entry.now c.requires.3 c.requires.4 c.requires.6 none in
    record {
      fits = c.requires.3.turning.fits;
      can_give = (c.args.entry.now.call, asks, hears-next c.args.script.now c.requires.0 c.requires.1 c.requires.2 c.args.worker.now c.args.entry.now c.requires.3 c.requires.4 c.requires.6);
      takes = λ call is. subst (λ (x : Call). TellsTakes c.args.worker.now x c.args.entry.now.reply) (some_inj c.args.entry.now.call call (sym asks ∙ is)) (tells-next c.args.script.now c.requires.0 c.requires.1 c.requires.2 c.args.worker.now c.args.entry.now c.requires.3 c.requires.4 c.requires.6 none);
    }

pub returns-in-Draw-clause-turned : goal.returns-in-Draw-clause-turned
returns-in-Draw-clause-turned c = λ g es old h next made same.
    let it : Drew c.args.script.now c.in-Draw.id.0 c.body.result.takes c.args.worker.now c.drew.new.self = record {
      stage = c.drew.ensures.stage;
      fits = c.drew.ensures.fits;
      number = c.drew.ensures.number;
      tick = c.drew.ensures.tick;
      turns = c.drew.ensures.turns;
      told = c.drew.ensures.told;
      takes = c.drew.ensures.takes;
    } in
    turned-draw c.args.script.now g es c.args.entry.now c.in-Draw.id old c.args.floor.now c.args.worker.now c.drew.new.self c.body.result.takes c.in-Draw.is h next made same c.body.ensures.takes it

pub returns-in_default : goal.returns-in_default
returns-in_default c =
    let none = undrawn-call c.args.entry.now.call c.in_default.not-Draw in
    record {
      number = c.heard.ensures.number;
      turned = λ g es old h next made same.
          let asks = stage-asked c.args.script.now g es old c.args.worker.now c.args.entry.now h next same none in
          let it : Heard c.args.script.now c.args.entry.now c.args.worker.now c.heard.new.self = record {
            stage = c.heard.ensures.stage;
            fits = c.heard.ensures.fits;
            number = c.heard.ensures.number;
            tick = c.heard.ensures.tick;
            turns = c.heard.ensures.turns;
            takes = c.heard.ensures.takes c.args.entry.now.call asks;
            book = c.heard.ensures.book;
          } in
          turning-heard c.args.script.now g es c.args.entry.now old c.args.floor.now c.args.worker.now c.heard.new.self h next made same none it;
    }
