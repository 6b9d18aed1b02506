use Rattle.std.proofs.Common.{◌≢◌, sym, ◌∙◌}
use Rattle.history_weave.specs.Places.{place_at, none}
use Rattle.history_weave.proofs.Lookups.{at-read, look-within, tells-sound, tells-complete, tells-none}
use Rattle.history_weave.proofs.index.Index.is_drawn_first.Goals as goal

pub entry_at-requires-clause-within : goal.entry_at-requires-clause-within
entry_at-requires-clause-within c =
    let x = c.args.self.now in
    let ne : place_at x.looks c.args.task c.args.k ≢ none = λ e. c.if-place.true (c.at-place.ensures ∙ e) in
    rw c.at-place.ensures (look-within c.args.logs.now x c.args.task c.args.k c.requires.indexed c.requires.task c.requires.caller ne)

pub returns-then-place-clause-sound : goal.returns-then-place-clause-sound
returns-then-place-clause-sound c =
    let x = c.args.self.now in
    let logs = c.args.logs.now in
    let e = c.entry_at.result.now in
    let p = place_at x.looks c.args.task c.args.k in
    let ne : p ≢ none = λ q. c.if-place.true (c.at-place.ensures ∙ q) in
    let at = at-read logs c.args.k c.at-place.result p e c.at-place.ensures c.entry_at.ensures in
    λ t. tells-sound logs x c.args.task c.args.k c.args.seen.now e c.requires.indexed c.requires.task c.requires.caller ne at (c.saw_takes.ensures.0 t)

pub returns-then-place-clause-complete : goal.returns-then-place-clause-complete
returns-then-place-clause-complete c =
    let x = c.args.self.now in
    let logs = c.args.logs.now in
    let e = c.entry_at.result.now in
    let p = place_at x.looks c.args.task c.args.k in
    let ne : p ≢ none = λ q. c.if-place.true (c.at-place.ensures ∙ q) in
    let at = at-read logs c.args.k c.at-place.result p e c.at-place.ensures c.entry_at.ensures in
    λ m saw tells. c.saw_takes.ensures.1 (tells-complete logs x c.args.task c.args.k m c.args.seen.now e c.requires.indexed c.requires.task c.requires.caller ne at saw tells)

pub returns-else-place-clause-complete : goal.returns-else-place-clause-complete
returns-else-place-clause-complete c = λ m saw tells.
    absurd (tells-none c.args.logs.now c.args.self.now c.args.task c.args.k m c.requires.indexed c.requires.task c.requires.caller (sym c.at-place.ensures ∙ c.if-place.false) tells)
