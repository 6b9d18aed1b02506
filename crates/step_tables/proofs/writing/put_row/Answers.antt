use Rattle.std.proofs.Common.{◌++◌, ap, ◌∙◌}
use Rattle.std.specs.Prelude.{flat_map}
use Rattle.std.proofs.lemmas.Result.{on_ok_weaker}
use Rattle.step_tables.specs.Text.{names_of, spaced, order_words, order_said}
use Rattle.step_tables.proofs.LineTexts.{row_put}
use Rattle.step_tables.proofs.writing.put_row.Goals as goal

pub returns : goal.returns
returns c = on_ok_weaker c.put_bytes-2.result
    (row_put (names_of c.args.tasks.now) c.args.name.now c.args.number c.args.row.now c.args.out.now.items c.put_bytes.new.out.items c.put_word.new.out.items c.put_number.new.out.items
    c.put_actions.new.out.items c.put_expiry.new.out.items c.put_word-2.new.out.items c.put_number-2.new.out.items c.put_bytes-2.new.out.items
    c.in_ok-put_bytes.ensures.written c.in_ok-put_word.ensures.written c.in_ok-put_number.ensures
    (c.in_ok-put_actions.ensures ∙ ap (λ xs. c.put_number.new.out.items ++ flat_map (λ action. spaced (order_words (order_said (names_of c.args.tasks.now) action))) xs) c.as_slice.ensures)
    c.in_ok-put_expiry.ensures c.in_ok-put_word-2.ensures.written c.in_ok-put_number-2.ensures)
    c.put_bytes-2.ensures.written
