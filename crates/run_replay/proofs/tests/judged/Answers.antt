use Rattle.run_replay.proofs.ReadLines.{read-goes}
use Rattle.run_replay.proofs.tests.judged.Goals as goal

pub judge-requires : goal.judge-requires
judge-requires c = read-goes c.as_bytes-2.result.now c.in-Ok-read.transcript c.in-Ok-read.ensures.given
