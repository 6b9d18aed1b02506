use Rattle.taskrun.proofs.Replayed.{replays_along, replays_cut, replay_ended, replay_expected}
use Rattle.taskrun.proofs.replays.replay.Goals as goal

pub returns-in-Ok-clause-answers : goal.returns-in-Ok-clause-answers
returns-in-Ok-clause-answers g c =
    replays_cut _ _ _ _ _ c.in-Ok.ensures.read (replays_along _ _ _ _ _ c.deref.ensures.value c.replay_bytes.ensures.answers)

pub returns-in-Ok-clause-ended : goal.returns-in-Ok-clause-ended
returns-in-Ok-clause-ended g c =
    replay_ended _ _ _ _ _ _ c.in-Ok.ensures.end (replays_along _ _ _ _ _ c.deref.ensures.value c.replay_bytes.ensures.answers)

pub returns-in-Ok-clause-complete : goal.returns-in-Ok-clause-complete
returns-in-Ok-clause-complete g c = λ no_read no_write.
    replay_expected _ _ _ _ _ c.in-Ok.ensures.read (replays_along _ _ _ _ _ c.deref.ensures.value c.replay_bytes.ensures.answers) c.replay_bytes.ensures.replaying
    (λ e. no_write (c.replay_bytes.ensures.write_fault e))
