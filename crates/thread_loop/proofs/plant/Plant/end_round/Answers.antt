use Rattle.std.proofs.Common.{◌≡◌, refl, ap, arith, ◌∙◌, false, ◌+◌}
use Rattle.std.specs.Vec.{with_items}
use Rattle.std.proofs.lemmas.List.{with_items_is}
use Rattle.run_model.specs.Standing.{next_tick}
use Rattle.thread_loop.specs.Plants.{standing_of}
use Rattle.thread_loop.specs.declared.plant.Plant.{Plant}
use Rattle.thread_loop.proofs.Over.{all-back, a-worker, few-ended, holds-all, IsLeft, may-end, stopped, ended}
use Rattle.thread_loop.proofs.plant.Plant.end_round.Goals as goal

pub finish-requires : goal.finish-requires
finish-requires c = let run = c.requires in all-back c.args.script.now run.0 c.args.self.now c.args.hand (a-worker c.args.script.now run.0 c.args.self.now c.args.hand run.1) run.1

pub end_turns-requires : goal.end_turns-requires
end_turns-requires c = let run = c.requires in may-end c.args.script.now run.0 c.args.self.now c.args.hand run.1

pub overflow_add-self : goal.overflow_add-self
overflow_add-self c = let run = c.requires in let few = few-ended c.args.script.now run.0 c.args.self.now c.args.hand run.1 in omega arith

pub next_tick-self-requires : goal.next_tick-self-requires
next_tick-self-requires c =
    let s = c.args.script.now in
    let p = c.args.self.now in
    let g = c.requires.0 in
    let run = c.requires.1 in
    let q : Plant = record p { workers = c.end_turns.new.workers; words = c.finish.result; holders = with_items p.holders c.hold_all.new.holders; ended = p.ended + 1; ran = false } in
    let left : IsLeft s p q = record {
      count = c.end_turns.ensures.count;
      workers = λ k d lt. c.end_turns.ensures.ended k d lt;
      logs = refl;
      homes = refl;
      nexts = refl;
      queue = refl;
      ended = refl;
      ran = refl;
      holders = holds-all s p q c.as_mut_slice.result.now c.deref.result.now c.hold_all.new.holders c.deref-2.result.now c.workers.result c.as_mut_slice.ensures.value c.deref.ensures.value c.deref-2.ensures.value c.workers.ensures.same (with_items_is p.holders c.hold_all.new.holders (c.hold_all.ensures.count ∙ c.as_mut_slice.ensures.len)) c.hold_all.ensures.own c.hold_all.ensures.others c.hold_all.ensures.count;
    } in
    stopped s g p q c.args.hand (a-worker s g p c.args.hand run) run left c.finish.ensures

pub returns-clause-ended : goal.returns-clause-ended
unfolding standing_of
returns-clause-ended c = λ g run.
    let s = c.args.script.now in
    let p = c.args.self.now in
    let q : Plant = record p { workers = c.end_turns.new.workers; words = c.finish.result; holders = with_items p.holders c.hold_all.new.holders; tick = c.next_tick-self.result; ended = p.ended + 1; ran = false } in
    let left : IsLeft s p q = record {
      count = c.end_turns.ensures.count;
      workers = λ k d lt. c.end_turns.ensures.ended k d lt;
      logs = refl;
      homes = refl;
      nexts = refl;
      queue = refl;
      ended = refl;
      ran = refl;
      holders = holds-all s p q c.as_mut_slice.result.now c.deref.result.now c.hold_all.new.holders c.deref-2.result.now c.workers.result c.as_mut_slice.ensures.value c.deref.ensures.value c.deref-2.ensures.value c.workers.ensures.same (with_items_is p.holders c.hold_all.new.holders (c.hold_all.ensures.count ∙ c.as_mut_slice.ensures.len)) c.hold_all.ensures.own c.hold_all.ensures.others c.hold_all.ensures.count;
    } in
    let tick : q.tick ≡ next_tick s g.round g.tick (standing_of q) = c.next_tick-self.ensures g.round (ap (λ n. n + 1) run.ended) ∙ ap (λ T. next_tick s g.round T (standing_of q)) run.tick in
    ended s g p q c.args.hand (a-worker s g p c.args.hand run) run left c.finish.ensures tick
