use Rattle.script_gen.proofs.Sound.{script_is_sound}
use Rattle.script_gen.proofs.laws.generated_is_sound.Goals as goal

pub returns : goal.returns
returns c = script_is_sound
