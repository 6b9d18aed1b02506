use Rattle.std.proofs.Common.{◌≢◌, ◌/◌, sym, ◌∙◌, eq-eqb}
use Rattle.history_weave.specs.Places.{place_at, none}
use Rattle.history_weave.specs.Indexed.{tasks_of}
use Rattle.history_weave.proofs.Entering.{task_group-lt}
use Rattle.history_weave.proofs.Lookups.{at-read, get-within, holds-none, holds-found, found-holds}
use Rattle.history_weave.proofs.index.Index.is_held.Goals as goal

pub entry_at-requires-clause-within : goal.entry_at-requires-clause-within
entry_at-requires-clause-within c =
    let x = c.args.self.now in
    let i = c.args.task in
    let lt = task_group-lt i (tasks_of x) c.requires.task in
    let ne : place_at x.gets (i / 64) c.args.boxno ≢ none = λ e. c.if-place.false (c.at-place.ensures ∙ e) in
    rw c.at-place.ensures (get-within c.args.logs.now x i c.args.boxno c.requires.indexed lt c.requires.box_exists ne)

pub returns-then-place : goal.returns-then-place
returns-then-place c =
    let x = c.args.self.now in
    let i = c.args.task in
    let lt = task_group-lt i (tasks_of x) c.requires.task in
    let holds = holds-none c.args.logs.now x i c.args.boxno c.requires.indexed lt c.requires.box_exists (sym c.at-place.ensures ∙ c.if-place.true) in
    (λ t. holds, λ h. eq-eqb c.at-place.result none c.if-place.true)

pub returns-else-place : goal.returns-else-place
returns-else-place c =
    let x = c.args.self.now in
    let logs = c.args.logs.now in
    let i = c.args.task in
    let e = c.entry_at.result.now in
    let lt = task_group-lt i (tasks_of x) c.requires.task in
    let p = place_at x.gets (i / 64) c.args.boxno in
    let ne : p ≢ none = λ q. c.if-place.false (c.at-place.ensures ∙ q) in
    let at = at-read logs c.args.boxno c.at-place.result p e c.at-place.ensures c.entry_at.ensures in (
      λ t. holds-found logs x i c.args.boxno e c.requires.indexed lt c.requires.box_exists ne at (c.holds_task.ensures.0 t),
      λ h. c.holds_task.ensures.1 (found-holds logs x i c.args.boxno e c.requires.indexed lt c.requires.box_exists ne at h),
    )
