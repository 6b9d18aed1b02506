-- The first word, the others and the line feed.
use Rattle.std.proofs.lemmas.Result.{on_ok_weaker}
use Rattle.text_lines.specs.Slots.{slots_of, values_of}
use Rattle.text_lines.specs.Shapes.{words}
use Rattle.text_lines.proofs.Spaces.{line_written}
use Rattle.text_lines.proofs.shapes.put_line.Goals as goal

pub returns-clause-written : goal.returns-clause-written
returns-clause-written c =
    on_ok_weaker c.put_bytes-2.result (line_written c.args.row.now.name.now (words (slots_of c.args.row.now.slots.now) (values_of c.args.values.now)) _ _ _ _ c.in_ok-put_bytes.ensures.written c.in_ok-put_slots.ensures.written) c.put_bytes-2.ensures.written
