use Rattle.std.proofs.Common.{◌≢◌, Bool, true, false, not, IsTrue, refl, sym, ◌∙◌}
use Rattle.history_weave.specs.Places.{place_at, none}
use Rattle.history_weave.proofs.Lookups.{at-read, look-within, lets-none, lets-found, lets-refuted}
use Rattle.history_weave.proofs.index.Index.lets_next.Goals as goal

pub entry_at-requires-clause-within : goal.entry_at-requires-clause-within
entry_at-requires-clause-within c =
    let x = c.args.self.now in
    let ne : place_at x.looks c.args.task c.args.k ≢ none = λ e. c.if-place.false (c.at-place.ensures ∙ e) in
    rw c.at-place.ensures (look-within c.args.logs.now x c.args.task c.args.k c.requires.indexed c.requires.task c.requires.caller ne)

pub returns-then-place : goal.returns-then-place
returns-then-place c =
    let e = lets-none c.args.logs.now c.args.self.now c.args.task c.args.k c.args.seen.now c.requires.indexed c.requires.task c.requires.caller (sym c.at-place.ensures ∙ c.if-place.true) in
    (λ t. e, λ l. refl)

not_both : (b : Bool) → IsTrue (not b) → IsTrue b → ⊥
not_both true h g = cc
not_both false h g = cc

is_not : (b : Bool) → (IsTrue b → ⊥) → IsTrue (not b)
is_not true h = absurd (h refl)
is_not false h = refl

pub returns : goal.returns
returns c =
    let x = c.args.self.now in
    let logs = c.args.logs.now in
    let e = c.entry_at.result.now in
    let b = c.looks_quietly.result in
    let ne : place_at x.looks c.args.task c.args.k ≢ none = λ q. c.if-place.false (c.at-place.ensures ∙ q) in
    let at = at-read logs c.args.k c.at-place.result (place_at x.looks c.args.task c.args.k) e c.at-place.ensures c.entry_at.ensures in (
      λ t. lets-found logs x c.args.task c.args.k c.args.seen.now e c.requires.indexed c.requires.task c.requires.caller ne at (λ quiet. not_both b t (c.looks_quietly.ensures.1 quiet)),
      λ lets. is_not b (λ t. lets-refuted logs x c.args.task c.args.k c.args.seen.now e c.requires.indexed c.requires.task c.requires.caller ne at (c.looks_quietly.ensures.0 t) lets),
    )
