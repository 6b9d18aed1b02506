use Rattle.std.proofs.Common.{◌∙◌, ◌/◌, ap}
use Rattle.eb_arena.proofs.Halves.{counted, has_room}
use Rattle.eb_arena.proofs.arena.Arena.entries.Goals as goal

pub returns-clause-count : goal.returns-clause-count
returns-clause-count c = ap (λ n. n / 2) (c.len.ensures ∙ c.self.inside.marks.ok.0) ∙ counted _ _ _ c.args.self.now c.self.view_is

pub returns-clause-room : goal.returns-clause-room
returns-clause-room c = has_room _ _ _ c.args.self.now c.self.view_is c.self.invariant
