use Rattle.std.proofs.Common.{◌<◌}
use Rattle.history_weave.proofs.Tables.{place_at-set_same, place_at-set_other}
use Rattle.history_weave.proofs.places.Places.set.Goals as goal

pub returns-clause-same : goal.returns-clause-same
returns-clause-same c =
    let row : c.args.row < c.self.inside.rows = rw (← c.self.view_is) at c.requires.row in
    let column : c.args.column < c.self.inside.columns = rw (← c.self.view_is) at c.requires.column in
    place_at-set_same c.self.inside.rows c.self.inside.columns c.self.inside.cells.items c.args.row c.args.column c.args.place c.self.invariant row column

pub returns-clause-others : goal.returns-clause-others
returns-clause-others c = λ r d row column ne.
    let here : c.args.column < c.self.inside.columns = rw (← c.self.view_is) at c.requires.column in
    let there : d < c.self.inside.columns = rw (← c.self.view_is) at column in
    rw (← c.self.view_is) (place_at-set_other c.self.inside.rows c.self.inside.columns c.self.inside.cells.items c.args.row c.args.column c.args.place r d here there ne)
