use Rattle.std.proofs.Common.{◌+◌, ℕ, get_or, ◌∙◌}
use Rattle.wake_board.specs.Rows.{row_seated}
use Rattle.shared_queue.proofs.Crowding.{crowding_none, crowding_more, crowding_at, crowding_stands, crowded}
use Rattle.shared_queue.proofs.boards.crowd.Goals as goal
use Rattle.shared_queue.proofs.boards.crowd.Goals.{then-id-next+then-id-tasks, else-id-next}

pub loop-id-init : goal.loop-id-init
loop-id-init c = crowding_none c.in_ok-words.words c.args.tasks c.new_words_stand.ensures c.in_ok-words.ensures

pub seat_init-requires-clause-untouched : goal.seat_init-requires-clause-untouched
seat_init-requires-clause-untouched c =
    let i : ℕ = get_or c.args.boxed.now c.loop-id.id-index 0 in
    (crowding_more c.loop-id.words c.args.tasks c.loop-id.next i c.seated_words_stand.ensures c.loop-id.invariant c.if-id-next.true c.if-id-tasks.true).word

pub loop-id-preserved : goal.loop-id-preserved
loop-id-preserved c =
    let i : ℕ = get_or c.args.boxed.now c.loop-id.id-index 0 in
    let ws = c.loop-id.words in
    elim c.if-id-next.branch [
      | then-id-next+then-id-tasks w ↦
          (let seated = (crowding_more ws c.args.tasks c.loop-id.next i c.seated_words_stand.ensures c.loop-id.invariant w.if-id-next.true w.if-id-tasks.true).next in
          crowding_at (row_seated ws i 2) c.if-id-next.words c.args.tasks (i + 1) c.if-id-next.next seated (w.words-is ∙ w.seat_init.ensures) w.next-is)
      | else-id-next w ↦ crowding_at ws c.if-id-next.words c.args.tasks c.loop-id.next c.if-id-next.next c.loop-id.invariant w.words-is w.next-is
    ]

pub from_words-requires : goal.from_words-requires
from_words-requires c =
    crowding_stands c.loop-id.words c.args.tasks c.loop-id.next c.deref.result.now c.deref-2.result.now c.none.result c.loop-id.invariant (c.deref.ensures.value ∙ c.in_ok-homes.ensures.items_if_clones_equal (λ y h. h)) (c.deref-2.ensures.value ∙ c.in_ok-holders.ensures.items_if_clones_equal (λ y h. h))

pub returns : goal.returns
returns c =
    crowded c.loop-id.words c.args.tasks c.loop-id.next c.deref.result.now c.deref-2.result.now c.none.result c.in_ok-made.made.0 c.in_ok-made.made.1 c.loop-id.invariant c.in_ok-made.ensures
