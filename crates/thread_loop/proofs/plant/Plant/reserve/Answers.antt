use Rattle.std.proofs.Common.{refl}
use Rattle.thread_loop.specs.declared.plant.Plant.{Plant}
use Rattle.thread_loop.proofs.PlantBegun.{ready-like, standing-like}
use Rattle.thread_loop.proofs.plant.Plant.reserve.Goals as goal

pub returns-in_err-reserve_turns-clause-ready : goal.returns-in_err-reserve_turns-clause-ready
returns-in_err-reserve_turns-clause-ready c =
    let p = c.args.self.now in
    let q : Plant = record p { workers = c.reserve_turns.new.workers } in
    ready-like c.args.script.now c.args.round p q (record { count = c.reserve_turns.ensures.count; same = c.reserve_turns.ensures.same; words = refl; homes = refl; holders = refl; nexts = refl; queue = refl; logs = refl; tick = refl; ended = refl; ran = refl }) c.requires.ready

pub returns-in_err-reserve_turns-clause-standing : goal.returns-in_err-reserve_turns-clause-standing
returns-in_err-reserve_turns-clause-standing c =
    let p = c.args.self.now in
    let q : Plant = record p { workers = c.reserve_turns.new.workers } in
    standing-like p q (record { count = c.reserve_turns.ensures.count; same = c.reserve_turns.ensures.same; words = refl; homes = refl; holders = refl; nexts = refl; queue = refl; logs = refl; tick = refl; ended = refl; ran = refl })

pub returns-clause-ready : goal.returns-clause-ready
returns-clause-ready c =
    let p = c.args.self.now in
    let q : Plant = record p { workers = c.reserve_turns.new.workers; injector = c.reserve_round.new.self } in
    ready-like c.args.script.now c.args.round p q (record { count = c.reserve_turns.ensures.count; same = c.reserve_turns.ensures.same; words = refl; homes = refl; holders = refl; nexts = refl; queue = refl; logs = refl; tick = refl; ended = refl; ran = refl }) c.requires.ready

pub returns-clause-standing : goal.returns-clause-standing
returns-clause-standing c =
    let p = c.args.self.now in
    let q : Plant = record p { workers = c.reserve_turns.new.workers; injector = c.reserve_round.new.self } in
    standing-like p q (record { count = c.reserve_turns.ensures.count; same = c.reserve_turns.ensures.same; words = refl; homes = refl; holders = refl; nexts = refl; queue = refl; logs = refl; tick = refl; ended = refl; ran = refl })
