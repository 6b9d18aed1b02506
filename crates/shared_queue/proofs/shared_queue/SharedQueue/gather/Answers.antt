use Rattle.std.proofs.Common.{◌+◌, ℕ, subst, sym, rules, w32, SFits, pos, get_or}
use Rattle.std.proofs.lemmas.Int.{to_z-of_z}
use Rattle.shared_queue.specs.Sharing.{Sharing}
use Rattle.shared_queue.proofs.Gathers.{AreGathered, gathers_none, gathers_past, gathers_more, boxed_by, unboxed_by}
use Rattle.shared_queue.proofs.shared_queue.SharedQueue.gather.Goals as goal
use Rattle.shared_queue.proofs.shared_queue.SharedQueue.gather.Goals.{then-word-id-eq1, else-word-id-eq1}

pub loop-i-init : goal.loop-i-init
loop-i-init g c = gathers_none c.args.nice.now c.args.words.now c.args.self.now

pub loop-i-preserved : goal.loop-i-preserved
loop-i-preserved g c =
    let nice = c.args.nice.now in
    let ws = c.args.words.now in
    let i : ℕ = c.loop-i.i in
    let old : Sharing = c.args.self.now in
    let mid : Sharing = c.loop-i.self in
    elim c.if-word-id-eq1.branch [
      | then-word-id-eq1 w ↦
          (let there = boxed_by ws i c.box_word-word.result c.workers.result c.box_word-word.ensures c.workers.ensures w.if-word-id-eq1.true in
          let low = c.requires.nices.low i in
          let high = c.requires.nices.high i in
          let fits' : SFits w32 (get_or nice i (pos 0)) = search rules in
          let said = simp to_z-of_z at w.join.ensures.list in
          subst (AreGathered nice ws (i + 1) old) (sym w.self-is) (gathers_more nice ws i old mid w.join.new.self there c.loop-i.invariant said w.join.ensures.moves))
      | else-word-id-eq1 w ↦
          (let out = unboxed_by ws i c.box_word-word.result c.workers.result c.box_word-word.ensures c.workers.ensures w.if-word-id-eq1.false in
          subst (AreGathered nice ws (i + 1) old) (sym w.self-is) (gathers_past nice ws i old mid out c.loop-i.invariant))
    ]
