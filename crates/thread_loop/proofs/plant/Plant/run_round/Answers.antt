use Rattle.std.proofs.Common.{◌≡◌, List, length, refl, sym, ap, subst, ◌∙◌, arith}
use Rattle.std.specs.Vec.{with_items}
use Rattle.std.proofs.lemmas.List.{with_items_is}
use Rattle.wake_board.specs.Seen.{Held}
use Rattle.wake_board.specs.Ends.{fresh}
use Rattle.thread_loop.specs.Rounds.{CanMake, HasMade, AreSwapped}
use Rattle.thread_loop.specs.declared.worker.Worker.{Worker}
use Rattle.thread_loop.proofs.Running.{board-of, can-make, fresh_list}
use Rattle.thread_loop.proofs.Ran.{each-turned, swapped-here, is-run}
use Rattle.thread_loop.proofs.plant.Plant.run_round.Goals as goal

pub make_round-requires-clause-board : goal.make_round-requires-clause-board
make_round-requires-clause-board g c κs within = board-of c.args.script.now c.args.round c.args.self.now c.args.hand.now c.requires

pub make_round-requires-clause-parts : goal.make_round-requires-clause-parts
make_round-requires-clause-parts g c κs within =
    let s = c.args.script.now in
    let p = c.args.self.now in
    let h = c.args.hand.now in
    let ps : List Held = fresh_list h.board 0 s.workers in
    let last : Held = fresh h.board s.workers in
    (ps, last, subst (λ (ws : List Worker). CanMake s p.tick c.args.round h.board ws p.injector h.passes ps last) (sym c.as_mut_slice.ensures.value) (can-make s c.args.round p h c.requires))

pub returns : goal.returns
returns g c =
    let s = c.args.script.now in
    let r = c.args.round in
    let p = c.args.self.now in
    let h = c.args.hand.now in
    let ps : List Held = fresh_list h.board 0 s.workers in
    let last : Held = fresh h.board s.workers in
    let vs = c.make_round.new.workers in
    let log = c.make_round.new.injector in
    let can : CanMake s p.tick r h.board c.as_mut_slice.result.now p.injector h.passes ps last = subst (λ (ws : List Worker). CanMake s p.tick r h.board ws p.injector h.passes ps last) (sym c.as_mut_slice.ensures.value) (can-make s r p h c.requires) in
    let made : HasMade s p.tick r p.workers.items ps last vs log c.make_round.new.passes = subst (λ (ws : List Worker). HasMade s p.tick r ws ps last vs log c.make_round.new.passes) c.as_mut_slice.ensures.value (c.make_round.ensures.made ps last can) in
    let swapped = c.swap_logs.ensures in
    let many : length vs ≡ length p.workers.items = (each-turned s p.tick p.workers.items ps vs made.after made.turned).workers in
    let first : (with_items p.workers vs).items ≡ vs = with_items_is p.workers vs (omega (arith, p.workers.ok.0)) in
    let here : c.as_mut_slice-2.result.now ≡ vs = c.as_mut_slice-2.ensures.value ∙ first in
    let size : length c.swap_logs.new.workers ≡ length vs = swapped.count ∙ ap (λ (ws : List Worker). length ws) here in
    let second : (with_items (with_items p.workers vs) c.swap_logs.new.workers).items ≡ c.swap_logs.new.workers = with_items_is (with_items p.workers vs) c.swap_logs.new.workers (omega (arith, p.workers.ok.0)) in
    let room : length c.swap_logs.new.logs ≡ length p.logs.items = swapped.size ∙ ap (λ ls. length ls) c.as_mut_slice-3.ensures.value in
    let third : (with_items p.logs c.swap_logs.new.logs).items ≡ c.swap_logs.new.logs = with_items_is p.logs c.swap_logs.new.logs (omega (arith, p.logs.ok.0)) in
    let logs : AreSwapped vs log p.logs.items (with_items (with_items p.workers vs) c.swap_logs.new.workers).items c.swap_logs.new.injector (with_items p.logs c.swap_logs.new.logs).items = swapped-here c.as_mut_slice-2.result.now vs log c.as_mut_slice-3.result.now p.logs.items c.swap_logs.new.workers _ c.swap_logs.new.injector c.swap_logs.new.logs _ swapped here c.as_mut_slice-3.ensures.value second third in
    is-run s r p _ h _ vs log c.requires refl made logs (record { words = refl; homes = refl; holders = refl; nexts = refl; queue = refl; tick = refl; ended = refl; ran = refl })
