use Rattle.std.proofs.Common.{length, ◌∙◌}
use Rattle.board_bench.proofs.Callers.{all_rest, words_stand, few_takes, is_laid}
use Rattle.board_bench.proofs.laid.laid.Goals as goal

pub from_words-requires : goal.from_words-requires
from_words-requires c =
    let homes = c.args.homes.now in
    (all_rest (length homes) c.args.workers, words_stand c.in_ok-words.words (length homes) c.args.workers homes c.deref.result.now c.args.nexts.now c.new_words_stand.ensures c.in_ok-words.ensures (c.deref.ensures.value ∙ c.in_ok-holders.ensures.items_if_clones_equal (λ y h. h)) c.requires.few_workers c.requires.boxes, few_takes homes (length homes) c.args.workers)

pub returns-clause-laid : goal.returns-clause-laid
returns-clause-laid c =
    let homes = c.args.homes.now in
    is_laid c.in_ok-words.words (length homes) c.args.workers homes c.deref.result.now c.args.nexts.now _ _ c.words_stand_for_one_state.ensures (words_stand c.in_ok-words.words (length homes) c.args.workers homes c.deref.result.now c.args.nexts.now c.new_words_stand.ensures c.in_ok-words.ensures (c.deref.ensures.value ∙ c.in_ok-holders.ensures.items_if_clones_equal (λ y h. h)) c.requires.few_workers c.requires.boxes) c.in_ok-words.ensures c.in_ok-made.ensures

pub returns-clause-nexts : goal.returns-clause-nexts
returns-clause-nexts c = c.in_ok-made.ensures.nexts_are
