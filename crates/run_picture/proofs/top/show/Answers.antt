-- What was read is what the source had, as far as it is read.
use Rattle.run_picture.proofs.Answered.{answers_cut}
use Rattle.run_picture.proofs.top.show.Goals as goal

pub returns-in-Ok-read_all-clause-answers : goal.returns-in-Ok-read_all-clause-answers
returns-in-Ok-read_all-clause-answers g c =
    answers_cut _ c.in-Ok.request _ c.in-Ok-read_all.bytes.items c.deref.result.now _ _ _ c.in-Ok.ensures c.in-Ok-read_all.ensures.read c.deref.ensures.value c.show_bytes.ensures.answers
