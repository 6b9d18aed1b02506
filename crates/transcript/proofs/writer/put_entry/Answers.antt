-- The parts of an entry, one after another.
use Rattle.std.proofs.Common.{◌∙◌, ◌++◌, ap, decimal}
use Rattle.std.proofs.lemmas.Result.{on_ok_weaker}
use Rattle.transcript.proofs.Written.{entry_written}
use Rattle.transcript.proofs.writer.put_entry.Goals as goal

pub returns-clause-written : goal.returns-clause-written
returns-clause-written c =
    on_ok_weaker c.put_bytes-2.result (entry_written c.args.entry.now _ _ _ _ _ _ c.in_ok-put_bytes.ensures.written (c.in_ok-put_number.ensures.written ∙ ap (λ n. c.put_bytes.new.out.items ++ decimal n) c.from.ensures) c.in_ok-put_call.ensures.written c.in_ok-put_reply.ensures.written) c.put_bytes-2.ensures.written
