use Rattle.std.proofs.lemmas.Result.{on_ok_weaker}
use Rattle.step_tables.specs.Text.{names_of}
use Rattle.step_tables.proofs.LineTexts.{event_put}
use Rattle.step_tables.proofs.writing.put_event.Goals as goal

pub returns : goal.returns
returns c = on_ok_weaker c.put_bytes-2.result
    (event_put (names_of c.args.tasks.now) c.args.event.now c.args.out.now.items c.put_bytes.new.out.items c.put_number.new.out.items c.put_action.new.out.items c.put_bytes-2.new.out.items
    c.in_ok-put_bytes.ensures.written c.in_ok-put_number.ensures c.in_ok-put_action.ensures)
    c.put_bytes-2.ensures.written
