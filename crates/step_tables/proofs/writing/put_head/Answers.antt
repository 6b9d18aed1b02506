use Rattle.std.proofs.Common.{◌++◌, ap, ◌∙◌, append_assoc}
use Rattle.std.specs.Prelude.{decimal, ◌∷◌, []}
use Rattle.std.proofs.lemmas.Result.{on_ok_weaker}
use Rattle.step_tables.specs.declared.shapes.Setting.TheVariants.{Workers, Depth, Start, Step, Rounds}
use Rattle.step_tables.specs.Shapes.{sets}
use Rattle.step_tables.specs.Text.{header_of, line_text, said_words}
use Rattle.step_tables.proofs.LineTexts.{head_put}
use Rattle.step_tables.proofs.writing.put_head.Goals as goal

pub returns : goal.returns
returns c = on_ok_weaker c.put_setting-5.result
    (λ last. (head_put (line_text (said_words (sets Workers (decimal c.args.script.now.workers)))) (line_text (said_words (sets Depth (decimal c.args.script.now.depth))))
    (line_text (said_words (sets Start (decimal c.args.script.now.start)))) (line_text (said_words (sets Step (decimal c.args.script.now.step)))) (line_text (said_words (sets Rounds (decimal c.args.script.now.rounds))))
    c.args.out.now.items c.put_header.new.out.items c.put_setting.new.out.items c.put_setting-2.new.out.items c.put_setting-3.new.out.items c.put_setting-4.new.out.items c.put_setting-5.new.out.items (header_of c.args.script.now.version ++ 10 ∷ [])
    c.in_ok-put_header.ensures
    (c.in_ok-put_setting.ensures ∙ ap (λ n. c.put_header.new.out.items ++ line_text (said_words (sets Workers (decimal n)))) c.workers.ensures.same)
    (c.in_ok-put_setting-2.ensures ∙ ap (λ n. c.put_setting.new.out.items ++ line_text (said_words (sets Depth (decimal n)))) c.depth.ensures.same)
    (c.in_ok-put_setting-3.ensures ∙ ap (λ n. c.put_setting-2.new.out.items ++ line_text (said_words (sets Start (decimal n)))) c.start.ensures.same)
    (c.in_ok-put_setting-4.ensures ∙ ap (λ n. c.put_setting-3.new.out.items ++ line_text (said_words (sets Step (decimal n)))) c.step.ensures.same)
    (last ∙ ap (λ n. c.put_setting-4.new.out.items ++ line_text (said_words (sets Rounds (decimal n)))) c.rounds.ensures.same)) ∙ ap (λ r. c.args.out.now.items ++ r) (append_assoc (header_of c.args.script.now.version) (10 ∷ []) _))
    c.put_setting-5.ensures
