-- The exit status of each answer (docs/PICTURES.md, "Answers").
use Rattle.std.specs.Prelude.{ℕ}
use Rattle.run_picture.specs.declared.status.Status.{Status}
use Rattle.run_picture.specs.declared.status.Status.TheVariants.{Done, Usage, ReadFault, WriteFault, NoMemory, Refused}

abbrev pub code_of : Status → ℕ
code_of Done = 0
code_of Usage = 2
code_of ReadFault = 3
code_of WriteFault = 4
code_of NoMemory = 5
code_of (Refused refusal) = 7
