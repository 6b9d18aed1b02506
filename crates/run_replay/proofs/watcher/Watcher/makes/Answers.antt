use Rattle.std.proofs.Common.{ℕ, arith, refl, subst}
use Rattle.task_machine.specs.Step.{Allowed}
use Rattle.run_replay.specs.Floors.{after_all}
use Rattle.run_replay.specs.SharedBoxes.{Counts}
use Rattle.run_replay.specs.Watching.{AsksNext}
use Rattle.run_replay.proofs.Facts.{the-fact}
use Rattle.run_replay.proofs.Making.{room-making, tasks-making, workers-making}
use Rattle.run_replay.proofs.Watching.{makes-injector, makes-worker, may-enter, next-of, works-at}
use Rattle.run_replay.proofs.watcher.Watcher.makes.Goals as goal

pub make-requires-clause-room : goal.make-requires-clause-room
make-requires-clause-room c = room-making c.args.script.now c.requires.0 c.requires.1 c.args.self.now.floor c.requires.2.making

pub note-requires-clause-counts : goal.note-requires-clause-counts
note-requires-clause-counts c =
    let s = c.args.script.now in
    let g = c.requires.0 in
    let es = c.requires.1 in
    let w = c.args.self.now in
    let h = c.requires.2 in (
      g.old.state,
      w.floor.machine,
      es,
      subst (λ (n : ℕ). Counts s n g.old.state w.floor.machine es w.shared) c.requires.3 h.shared,
      the-fact c.make.result (Allowed w.floor.machine c.args.entry.now) c.if-not-make.false c.make.ensures.allowed,
      workers-making s g es w.floor h.making,
      tasks-making s g es w.floor h.making,
    )

pub hear-requires : goal.hear-requires
hear-requires c =
    let s = c.args.script.now in
    let g = c.requires.0 in
    let es = c.requires.1 in
    let w = c.args.self.now in
    let e = c.args.entry.now in
    let h = c.requires.2 in
    let asks = the-fact c.asks.result (AsksNext s (after_all s g es) e) c.if-not-asks.false (c.asks.ensures g es h c.requires.3) in
    let allowed = the-fact c.make.result (Allowed w.floor.machine e) c.if-not-make.false c.make.ensures.allowed in
    let next = next-of s g es w e h (may-enter s g es w e h asks allowed) in
    let below = c.if-number-len.true in
    let len = c.len.ensures in
    let works = works-at s g es w c.index_mut.result.now e.caller.0 h (omega arith) c.index_mut.ensures.value in
    (g, es, w.floor, works.0, next, c.if-not-make.ensures.made, works.1)

pub returns-then-number-len-clause-made : goal.returns-then-number-len-clause-made
returns-then-number-len-clause-made c = λ g es h same.
    let s = c.args.script.now in
    let w = c.args.self.now in
    let e = c.args.entry.now in
    let asks = the-fact c.asks.result (AsksNext s (after_all s g es) e) c.if-not-asks.false (c.asks.ensures g es h same) in
    let allowed = the-fact c.make.result (Allowed w.floor.machine e) c.if-not-make.false c.make.ensures.allowed in
    let made = c.if-not-make.ensures.made in
    let below = c.if-number-len.true in
    let len = c.len.ensures in
    makes-worker s g es e c.args.round w _ c.index_mut.result.now c.hear.new.worker h same asks allowed made c.note.ensures (omega arith) c.index_mut.ensures.value c.hear.ensures.number (λ works next number. c.hear.ensures.turned g es w.floor works next made number) refl refl

pub returns-else-number-len-clause-made : goal.returns-else-number-len-clause-made
returns-else-number-len-clause-made c = λ g es h same.
    let s = c.args.script.now in
    let w = c.args.self.now in
    let e = c.args.entry.now in
    let asks = the-fact c.asks.result (AsksNext s (after_all s g es) e) c.if-not-asks.false (c.asks.ensures g es h same) in
    let allowed = the-fact c.make.result (Allowed w.floor.machine e) c.if-not-make.false c.make.ensures.allowed in
    let made = c.if-not-make.ensures.made in
    let above = c.if-number-len.false in
    let len = c.len.ensures in
    makes-injector s g es e c.args.round w _ h same asks allowed made c.note.ensures (omega arith) refl c.heard.ensures.events c.heard.ensures.stage
