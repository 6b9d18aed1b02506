use Rattle.std.proofs.Common.{refl, false}
use Rattle.thread_loop.specs.declared.plant.Plant.{Plant}
use Rattle.thread_loop.proofs.PlantBegun.{opens, ready-first}
use Rattle.thread_loop.proofs.plant.Plant.new.Goals as goal

pub returns-clause-opening : goal.returns-clause-opening
returns-clause-opening c =
    let p : Plant = record { workers = c.in_ok-workers_of.field-0; injector = c.in_ok-new.field-0; queue = c.in_ok-queue_of.field-0; words = c.in_ok-words_of.field-0; homes = c.in_ok-homes_of.field-0; holders = c.in_ok-holders_of.field-0; nexts = c.in_ok-of.field-0; logs = c.in_ok-logs_of.field-0; tick = c.start.result; ended = 0; ran = false } in
    opens c.args.script.now p (record { sound = c.start.ensures.sound; stands = c.in_ok-words_of.ensures; homes = c.in_ok-homes_of.ensures; holders = c.in_ok-holders_of.ensures; nexts = c.in_ok-of.ensures; count = c.in_ok-workers_of.ensures.count; books = c.in_ok-workers_of.ensures.books; idle = c.in_ok-workers_of.ensures.idle; queue = c.in_ok-queue_of.ensures; logs = c.in_ok-logs_of.ensures; tick = c.start.ensures.same; ended = refl; ran = refl })

pub returns-clause-ready : goal.returns-clause-ready
returns-clause-ready c =
    let p : Plant = record { workers = c.in_ok-workers_of.field-0; injector = c.in_ok-new.field-0; queue = c.in_ok-queue_of.field-0; words = c.in_ok-words_of.field-0; homes = c.in_ok-homes_of.field-0; holders = c.in_ok-holders_of.field-0; nexts = c.in_ok-of.field-0; logs = c.in_ok-logs_of.field-0; tick = c.start.result; ended = 0; ran = false } in
    ready-first c.args.script.now p (record { sound = c.start.ensures.sound; stands = c.in_ok-words_of.ensures; homes = c.in_ok-homes_of.ensures; holders = c.in_ok-holders_of.ensures; nexts = c.in_ok-of.ensures; count = c.in_ok-workers_of.ensures.count; books = c.in_ok-workers_of.ensures.books; idle = c.in_ok-workers_of.ensures.idle; queue = c.in_ok-queue_of.ensures; logs = c.in_ok-logs_of.ensures; tick = c.start.ensures.same; ended = refl; ran = refl })
