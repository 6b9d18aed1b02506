use Rattle.std.proofs.Common.{suc, [], ap, ◌∙◌, arith}
use Rattle.wake_board.specs.Rows.{WordRow}
use Rattle.board_bench.proofs.Callers.{shared_stands, few_shared, has_shared}
use Rattle.board_bench.proofs.laid.shared.Goals as goal

pub seat_init-requires-clause-untouched : goal.seat_init-requires-clause-untouched
seat_init-requires-clause-untouched c =
    (shared_stands c.in_ok-words.words c.in_ok-words.words [] c.new_words_stand.ensures c.seated_words_stand.ensures c.in_ok-words.ensures).0

pub from_words-requires : goal.from_words-requires
from_words-requires c =
    let s = shared_stands c.in_ok-words.words c.seat_init.new.self c.args.nexts.now c.new_words_stand.ensures c.seated_words_stand.ensures c.in_ok-words.ensures in
    (_, s.1 c.seat_init.ensures, few_shared)

pub returns-clause-shared : goal.returns-clause-shared
returns-clause-shared c =
    let made = c.in_ok-made.ensures in
    let s = shared_stands c.in_ok-words.words c.seat_init.new.self c.args.nexts.now c.new_words_stand.ensures c.seated_words_stand.ensures c.in_ok-words.ensures in
    let state = c.words_stand_for_one_state.ensures c.seat_init.new.self _ _ c.args.nexts.now _ _ made.stands (s.1 c.seat_init.ensures) in
    let workers = ap (λ (w : WordRow). w.workers) c.seat_init.ensures ∙ ap (λ (w : WordRow). w.workers) c.in_ok-words.ensures in
    has_shared c.in_ok-made.made.0 c.in_ok-made.made.1 made.homes_are state (made.count ∙ ap suc workers) (λ k l. made.each k (omega arith))
