use Rattle.std.proofs.Common.{◌<◌}
use Rattle.history_weave.proofs.Tables.{place_at-read}
use Rattle.history_weave.proofs.places.Places.at.Goals as goal

pub returns : goal.returns
returns c =
    let row : c.args.row < c.self.inside.rows = rw (← c.self.view_is) at c.requires.row in
    let column : c.args.column < c.self.inside.columns = rw (← c.self.view_is) at c.requires.column in
    rw (← c.self.view_is) (place_at-read c.self.inside.rows c.self.inside.columns c.self.inside.cells.items c.args.row c.args.column c.index.result.now c.self.invariant row column c.index.ensures)
