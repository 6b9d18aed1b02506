use Rattle.std.proofs.Common.{◌≡◌, ℕ, ◌+◌, ◌∙◌, List, Some, ◌∷◌, ◌++◌, [], map, sym, ap, subst, arith}
use Rattle.std.proofs.lemmas.List.{with_items_is}
use Rattle.wake_board.specs.Seen.{Held}
use Rattle.thread_loop.specs.Plants.{AllCanTurn, AllTurned}
use Rattle.thread_loop.specs.Rounds.{HasInjected, AreNumbered, AllIdle}
use Rattle.thread_loop.proofs.Opened.{few_workers}
use Rattle.thread_loop.proofs.Made.{caller-count, caller-back, taken-out, as-turned, numbered-after, idle-after, who-after, has-made}
use Rattle.thread_loop.proofs.round.make_round.Goals as goal

pub overflow_add-workers : goal.overflow_add-workers
overflow_add-workers g c = let few = few_workers c.args.script.now c.workers.ensures.sound in omega (arith, few.1, c.workers.ensures.same)

pub take_out-requires-clause-count : goal.take_out-requires-clause-count
take_out-requires-clause-count g c = caller-count c.args.script.now c.args.tick c.args.round c.args.board.now c.args.workers.now c.args.injector.now c.args.passes.now c.requires.parts.0 c.requires.parts.1 c.requires.parts.2 ∙ ap (λ (n : ℕ). n + 1) (sym c.workers.ensures.same)

pub take_out-requires-clause-back : goal.take_out-requires-clause-back
take_out-requires-clause-back g c = λ k lt. caller-back c.args.script.now c.args.tick c.args.round c.args.board.now c.args.workers.now c.args.injector.now c.args.passes.now c.requires.parts.0 c.requires.parts.1 k c.requires.parts.2 (omega (arith, c.workers.ensures.same))

pub all_calls-requires-clause-can_turn : goal.all_calls-requires-clause-can_turn
all_calls-requires-clause-can_turn g c κs within =
    let can = c.requires.parts.2 in
    let took = taken-out c.args.passes.now c.take_out.new.out.items c.pop.new.self.items c.in-Some.last c.requires.parts.0 c.requires.parts.1 c.take_out.ensures.out can.places_are c.in-Some.ensures.items in
    subst (λ (xs : List Held). AllCanTurn c.args.script.now c.args.tick c.args.board.now c.args.workers.now xs) (sym (c.as_mut_slice.ensures.value ∙ took.0)) can.turns

pub put_back-requires-clause-numbers : goal.put_back-requires-clause-numbers
put_back-requires-clause-numbers g c =
    let s = c.args.script.now in
    let T = c.args.tick in
    let r = c.args.round in
    let ws = c.args.workers.now in
    let vs = c.all_calls.new.workers in
    let ps = c.requires.parts.0 in
    let p = c.requires.parts.1 in
    let can = c.requires.parts.2 in
    let after = c.all_calls.new.passes in
    let last = c.all_calls.new.last in
    let took = taken-out c.args.passes.now c.take_out.new.out.items c.pop.new.self.items c.in-Some.last ps p c.take_out.ensures.out can.places_are c.in-Some.ensures.items in
    let turned : AllTurned s T ws ps vs after = subst (λ (xs : List Held). AllTurned s T ws xs vs after) (c.as_mut_slice.ensures.value ∙ took.0) c.all_calls.ensures.turned in
    let injected : HasInjected s r p c.all_calls.new.injector last = subst (λ (x : Held). HasInjected s r x c.all_calls.new.injector last) took.1 c.all_calls.ensures.injected in
    let size = as-turned s T ws c.as_mut_slice.result.now vs after c.all_calls.ensures.turned ∙ c.as_mut_slice.ensures.len in
    let items : c.push_reserved.new.self.items ≡ after ++ last ∷ [] = c.push_reserved.ensures.items ∙ ap (λ (xs : List Held). xs ++ last ∷ []) (with_items_is c.pop.new.self after size) in
    subst (λ (xs : List Held). AreNumbered 0 xs) (sym items) (numbered-after s T 0 ws ps vs after p last can.numbers turned (who-after s r p last c.all_calls.new.injector injected))

pub put_back-requires-clause-idle : goal.put_back-requires-clause-idle
put_back-requires-clause-idle g c =
    let s = c.args.script.now in
    let T = c.args.tick in
    let r = c.args.round in
    let b = c.args.board.now in
    let ws = c.args.workers.now in
    let vs = c.all_calls.new.workers in
    let ps = c.requires.parts.0 in
    let p = c.requires.parts.1 in
    let can = c.requires.parts.2 in
    let after = c.all_calls.new.passes in
    let last = c.all_calls.new.last in
    let took = taken-out c.args.passes.now c.take_out.new.out.items c.pop.new.self.items c.in-Some.last ps p c.take_out.ensures.out can.places_are c.in-Some.ensures.items in
    let turned : AllTurned s T ws ps vs after = subst (λ (xs : List Held). AllTurned s T ws xs vs after) (c.as_mut_slice.ensures.value ∙ took.0) c.all_calls.ensures.turned in
    let injected : HasInjected s r p c.all_calls.new.injector last = subst (λ (x : Held). HasInjected s r x c.all_calls.new.injector last) took.1 c.all_calls.ensures.injected in
    let size = as-turned s T ws c.as_mut_slice.result.now vs after c.all_calls.ensures.turned ∙ c.as_mut_slice.ensures.len in
    let items : c.push_reserved.new.self.items ≡ after ++ last ∷ [] = c.push_reserved.ensures.items ∙ ap (λ (xs : List Held). xs ++ last ∷ []) (with_items_is c.pop.new.self after size) in
    subst (λ (xs : List Held). AllIdle xs) (sym items) (idle-after s T r b ws ps vs after c.args.injector.now c.all_calls.new.injector p last can.turns turned can.injects injected)

pub returns-clause-made : goal.returns-clause-made
returns-clause-made g c = λ ps p can.
    let s = c.args.script.now in
    let T = c.args.tick in
    let r = c.args.round in
    let ws = c.args.workers.now in
    let vs = c.all_calls.new.workers in
    let after = c.all_calls.new.passes in
    let last = c.all_calls.new.last in
    let took = taken-out c.args.passes.now c.take_out.new.out.items c.pop.new.self.items c.in-Some.last ps p c.take_out.ensures.out can.places_are c.in-Some.ensures.items in
    let size = as-turned s T ws c.as_mut_slice.result.now vs after c.all_calls.ensures.turned ∙ c.as_mut_slice.ensures.len in
    let items : c.push_reserved.new.self.items ≡ after ++ last ∷ [] = c.push_reserved.ensures.items ∙ ap (λ (xs : List Held). xs ++ last ∷ []) (with_items_is c.pop.new.self after size) in
    has-made s T r ws ps p c.as_mut_slice.result.now c.in-Some.last vs after last c.all_calls.new.injector c.put_back.new.passes (c.as_mut_slice.ensures.value ∙ took.0) took.1 c.all_calls.ensures.turned c.all_calls.ensures.injected (c.put_back.ensures.places ∙ ap (λ (xs : List Held). map Some xs) items)
