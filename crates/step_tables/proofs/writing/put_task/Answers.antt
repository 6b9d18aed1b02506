use Rattle.std.proofs.Common.{◌++◌, ◌∷◌, length, ap, ◌∙◌}
use Rattle.std.proofs.lemmas.Result.{on_ok_weaker}
use Rattle.step_tables.proofs.LineTexts.{task_put}
use Rattle.step_tables.proofs.writing.put_task.Goals as goal

pub returns : goal.returns
returns c = on_ok_weaker c.put_task_end.result
    (task_put c.args.task.now (length c.args.task.now.rows) c.args.out.now.items c.put_bytes.new.out.items c.put_word.new.out.items c.put_place.new.out.items c.put_task_end.new.out.items
    (c.in_ok-put_bytes.ensures.written ∙ ap (λ w. c.args.out.now.items ++ w) c.first_word.ensures) (c.in_ok-put_word.ensures.written ∙ ap (λ w. c.put_bytes.new.out.items ++ 32 ∷ w) c.as_slice.ensures) c.in_ok-put_place.ensures)
    c.put_task_end.ensures
