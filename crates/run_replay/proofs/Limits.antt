-- What a sound script has.
use Rattle.std.proofs.Common.{◌≤◌, IsTrue, length}
use Rattle.std.proofs.lemmas.Bool.{leb-true}
use Rattle.step_tables.specs.declared.tables.Script.{Script}
use Rattle.step_tables.specs.Sound.{is_sound}
use Rattle.turn_steps.proofs.Fit.{sound_parts, within-parts}

pub few_tasks : (s : Script) → IsTrue (is_sound s) → length s.tasks ≤ 4096
few_tasks s h = leb-true (length s.tasks) 4096 (sound_parts s h).tasks

pub few_rounds : (s : Script) → IsTrue (is_sound s) → s.rounds ≤ 100000
few_rounds s h = (within-parts 1 100000 s.rounds (sound_parts s h).rounds).1

pub few_workers : (s : Script) → IsTrue (is_sound s) → s.workers ≤ 16
few_workers s h = (within-parts 1 16 s.workers (sound_parts s h).workers).1
