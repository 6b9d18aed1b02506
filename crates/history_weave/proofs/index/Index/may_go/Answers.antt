use Rattle.std.proofs.Common.{◌<◌, inl, inr}
use Rattle.task_machine.specs.Step.{task_at}
use Rattle.history_weave.specs.declared.kinds.Kind.TheVariants as kinds
use Rattle.history_weave.specs.Rule.{SawTakes}
use Rattle.history_weave.specs.Kinds.{KindSeen, KindGoes}
use Rattle.history_weave.specs.Places.{left_of}
use Rattle.history_weave.specs.Indexed.{tasks_of, IsNextKind}
use Rattle.history_weave.proofs.Lookups.{last-sound, last-complete, saw-boxed}
use Rattle.history_weave.proofs.index.Index.may_go.Goals as goal

pub returns-then-index-eq1-clause-sound : goal.returns-then-index-eq1-clause-sound
returns-then-index-eq1-clause-sound c =
    let x = c.args.self.now in
    let logs = c.args.logs.now in
    let t = c.in-Draw.task in
    let lt : t < tasks_of x = rw c.in-Draw.is at c.requires.named in
    let first : IsNextKind logs x.next.items c.args.k (kinds.Draw t) = rw c.in-Draw.is at c.requires.next in
    λ h. rw c.in-Draw.is (inr (last-sound logs x c.args.k t c.index.result.now c.requires.indexed lt c.requires.caller first c.index.ensures c.if-index-eq1.true))

pub returns-else-index-eq1-clause-complete : goal.returns-else-index-eq1-clause-complete
returns-else-index-eq1-clause-complete c = λ seen goes.
    let x = c.args.self.now in
    let logs = c.args.logs.now in
    let s = c.args.machine.now in
    let t = c.in-Draw.task in
    let lt : t < tasks_of x = rw c.in-Draw.is at c.requires.named in
    let boxed : KindSeen s (kinds.Draw t) = rw c.in-Draw.is at seen in
    let ways : KindGoes (left_of logs x.next.items) s c.args.k (kinds.Draw t) = rw c.in-Draw.is at goes in
    let saw : SawTakes (task_at s t).takes c.seen-else-index-eq1.result = rw c.seen-else-index-eq1.ensures (saw-boxed (task_at s t) s.workers boxed) in
    elim ways [
      | inl tells ↦ c.is_drawn_first.ensures.complete (task_at s t).takes saw tells
      | inr last ↦ absurd (c.if-index-eq1.false (last-complete logs x c.args.k t c.index.result.now c.requires.indexed lt c.requires.caller c.index.ensures last))
    ]
