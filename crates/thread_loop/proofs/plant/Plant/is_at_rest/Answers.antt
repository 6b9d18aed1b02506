use Rattle.thread_loop.proofs.plant.Plant.is_at_rest.Goals as goal

pub is_still-requires : goal.is_still-requires
is_still-requires c = (c.args.script.now, c.requires.holds)
