use Rattle.std.proofs.Common.{◌≡◌, ◌∙◌, ℕ, get_or, set, subst, sym, inl, inr, arith}
use Rattle.std.proofs.lemmas.Bool.{cases_eq}
use Rattle.std.proofs.lemmas.List.{same_lists, get_or_default, get_or-set_same, get_or-set_other}
use Rattle.std.specs.Mem.Slots.{slots_items}
use Rattle.wake_board.proofs.Ends.{read_at}
use Rattle.wake_board.proofs.words.copy_row.Goals as goal

pub loop-i-preserved : goal.loop-i-preserved
loop-i-preserved c =
    let row = c.loop-i.row in
    let items = slots_items c.args.closed.now.words in
    let i : ℕ = c.loop-i.i in
    let kept = c.loop-i.auto.row in
    let before = c.loop-i-test.true in
    λ k l. elim (cases_eq k i) [
      | inl same ↦ subst (λ (j : ℕ). get_or (set row i c.word.result) j 0 ≡ get_or items j 0) (sym same) (get_or-set_same row i c.word.result 0 (omega arith) ∙ sym (read_at items i c.word.result 0 c.word.ensures))
      | inr ne ↦ get_or-set_other row i k c.word.result 0 ne ∙ c.loop-i.invariant k (omega arith)
    ]

pub returns : goal.returns
returns c =
    let row = c.loop-i.row in
    let items = slots_items c.args.closed.now.words in
    let kept = c.loop-i.auto.row in
    let sized = c.requires.sized in
    let laid = c.args.closed.now.words.ok in
    same_lists row items (omega arith) (λ k d l. get_or_default row k d 0 l ∙ (c.loop-i.invariant k (omega arith) ∙ sym (get_or_default items k d 0 (omega arith))))
