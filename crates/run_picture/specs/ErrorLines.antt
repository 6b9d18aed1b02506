-- What is written to standard error (docs/PICTURES.md, "Answers").
use Rattle.std.specs.Prelude.{ℕ, List, [], codes}
use Rattle.program_edges.specs.ErrorLines.{script_fault_line, text_fault_line}
use Rattle.run_picture.specs.declared.inputs.Refusal.{Refusal}
use Rattle.run_picture.specs.declared.inputs.Refusal.TheVariants.{Script, Transcript}
use Rattle.run_picture.specs.declared.status.Status.{Status}
use Rattle.run_picture.specs.declared.status.Status.TheVariants.{Done, Usage, ReadFault, WriteFault, NoMemory, Refused}

-- the line that names a refusal: where, and by the name of the fault
abbrev pub refusal_line : Refusal → List ℕ
refusal_line (Script fault) = script_fault_line fault.line fault.kind
refusal_line (Transcript fault) = text_fault_line fault.line fault.kind

-- the one line that an answer other than Done puts on standard error
unfoldable pub error_line : Status → List ℕ
error_line Done = []
error_line Usage = codes "usage: taskpicture [--from R] [--to R] [--text]\n"
error_line ReadFault = codes "read fault\n"
error_line WriteFault = codes "write fault\n"
error_line NoMemory = codes "want of memory\n"
error_line (Refused refusal) = refusal_line refusal
