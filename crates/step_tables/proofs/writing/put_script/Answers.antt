use Rattle.std.proofs.Common.{◌++◌, length, ap, ◌∙◌}
use Rattle.std.specs.Prelude.{flat_map}
use Rattle.std.proofs.lemmas.Result.{on_ok_weaker}
use Rattle.step_tables.specs.Text.{names_of, task_said, rows_said, event_said, said_words, line_text, lines_text}
use Rattle.step_tables.proofs.LineTexts.{script_put}
use Rattle.step_tables.proofs.writing.put_script.Goals as goal

pub returns : goal.returns
returns c = on_ok_weaker c.put_bytes.result
    (script_put c.args.script.now c.args.out.now.items c.put_head.new.out.items c.put_tasks.new.out.items c.put_all_rows.new.out.items c.put_events.new.out.items c.put_bytes.new.out.items
    c.in_ok-put_head.ensures
    (c.in_ok-put_tasks.ensures ∙ ap (λ ts. c.put_head.new.out.items ++ flat_map (λ t. line_text (said_words (task_said t (length t.rows)))) ts) c.tasks-tasks.ensures.same)
    (c.in_ok-put_all_rows.ensures ∙ ap (λ ts. c.put_tasks.new.out.items ++ flat_map (λ t. lines_text (rows_said (names_of ts) t.name 0 t.rows)) ts) c.tasks-tasks.ensures.same)
    (c.in_ok-put_events.ensures
    ∙ ap (λ ts. c.put_all_rows.new.out.items ++ flat_map (λ e. line_text (said_words (event_said (names_of ts) e))) c.events.result.now) c.tasks-tasks.ensures.same
    ∙ ap (λ es. c.put_all_rows.new.out.items ++ flat_map (λ e. line_text (said_words (event_said (names_of c.args.script.now.tasks) e))) es) c.events.ensures.same))
    c.put_bytes.ensures.written
