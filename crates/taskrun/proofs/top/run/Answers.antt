use Rattle.taskrun.proofs.Answered.{answers_along, answers_cut, ended_by, expected_by}
use Rattle.taskrun.proofs.top.run.Goals as goal

pub returns-in-Ok-clause-answers : goal.returns-in-Ok-clause-answers
returns-in-Ok-clause-answers g c =
    answers_cut _ _ _ _ _ _ _ c.in-Ok.ensures.read (answers_along _ _ _ _ _ _ _ c.deref.ensures.value c.run_bytes.ensures.answers)

pub returns-in-Ok-clause-ended : goal.returns-in-Ok-clause-ended
returns-in-Ok-clause-ended g c =
    ended_by _ _ _ _ _ _ _ _ c.in-Ok.ensures.end (answers_along _ _ _ _ _ _ _ c.deref.ensures.value c.run_bytes.ensures.answers)

pub returns-in-Ok-clause-complete : goal.returns-in-Ok-clause-complete
returns-in-Ok-clause-complete g c = λ no_read no_write.
    expected_by _ _ _ _ _ _ _ c.in-Ok.ensures.read (answers_along _ _ _ _ _ _ _ c.deref.ensures.value c.run_bytes.ensures.answers) c.run_bytes.ensures.running
    (λ e. no_write (c.run_bytes.ensures.write_fault e))
