use Rattle.std.proofs.Common.{◌≡◌, ℕ, List, subst, sym}
use Rattle.task_machine.specs.Logged.{Logged}
use Rattle.run_model.specs.Standing.{next_tick}
use Rattle.thread_loop.specs.Crews.{kept_logs, Grows}
use Rattle.thread_loop.specs.Plants.{next_round, standing_of}
use Rattle.thread_loop.proofs.PlayedRounds.{made}
use Rattle.thread_loop.proofs.plant.Plant.play.Goals as goal

pub returns : goal.returns
returns g c =
    let p0 = c.args.self.now in
    let p1 = c.begin_round.new.self in
    let p3 = c.end_round.new.self in
    let ended = c.end_round.ensures.ended (next_round c.args.round p1) c.round.ensures.run in
    record {
      made = made c.args.script.now c.args.round p0 p1 p3 c.requires.ready c.requires.more ended c.begin_round.ensures.standing c.begin_round.ensures.tick;
      next = subst (λ (T : ℕ). p3.tick ≡ next_tick c.args.script.now c.args.round T (standing_of p3)) c.begin_round.ensures.tick ended.tick;
      ready = ended.ready;
      grown = subst (λ (ls : List Logged). Grows (g.C.Crew.told c.args.crew.now) (g.C.Crew.told c.round.new.self) (kept_logs c.args.round ls)) (sym c.end_round.ensures.logs) c.round.ensures.told;
    }
