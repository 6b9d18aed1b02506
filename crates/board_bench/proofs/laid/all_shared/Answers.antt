use Rattle.std.proofs.Common.{◌≡◌, ◌≤◌, ◌<◌, ◌∙◌, ℕ, List, replicate, length, get_or, sym, ap, subst, arith}
use Rattle.board_bench.proofs.Pairs.{all_two, laid_fresh, laid_tasks}
use Rattle.board_bench.proofs.laid.all_shared.Goals as goal

pub laid-requires-clause-boxes : goal.laid-requires-clause-boxes
laid-requires-clause-boxes c =
    let homes : c.deref.result.now ≡ replicate c.args.tasks 2 = c.deref.ensures.value ∙ c.in_ok-homes.ensures.items_if_clones_equal (λ y h. h) in
    λ i l. (let two = all_two c.deref.result.now c.args.tasks i homes l in omega arith)

pub returns-clause-fresh : goal.returns-clause-fresh
returns-clause-fresh c = laid_fresh _ 2 _ _ _ (omega arith) c.in_ok-made.ensures.laid

pub returns-clause-tasks : goal.returns-clause-tasks
returns-clause-tasks c =
    let homes : c.deref.result.now ≡ replicate c.args.tasks 2 = c.deref.ensures.value ∙ c.in_ok-homes.ensures.items_if_clones_equal (λ y h. h) in
    λ i l. laid_tasks c.args.tasks c.deref.result.now _ _ homes c.in_ok-made.ensures.laid i l
