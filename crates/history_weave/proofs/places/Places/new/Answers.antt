use Rattle.std.proofs.Common.{◌*◌, vec_len}
use Rattle.history_weave.proofs.Tables.{place_at-none, filled}
use Rattle.history_weave.proofs.places.Places.new.Goals as goal

pub returns-clause-empty : goal.returns-clause-empty
returns-clause-empty c =
    let n = c.args.rows * c.args.columns in
    let full = filled n (vec_len c.new-cells.result) c.new-cells.result.items c.resize.new.self.items c.new-cells.ensures.items c.new-cells.ensures.len c.in_ok-resize.ensures.items in
    λ r d row column. place_at-none c.args.rows c.args.columns c.resize.new.self.items r d full row column
