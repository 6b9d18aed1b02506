-- What is written to standard error (docs/MODEL.md, "Answers").
use Prim.Native.String.{String}
use Rattle.std.specs.Prelude.{ℕ, ◌==◌, List, [], ◌++◌, codes, decimal, if◌then◌else◌}
use Rattle.taskrun.specs.declared.status.Status.{Status}
use Rattle.taskrun.specs.declared.status.Status.TheVariants.{Done, ScriptRefused, Usage, ReadFault, WriteFault, NoMemory, NotLawful, TextRefused}

-- the name of a kind of fault of a script, by its number from 1 to 9
abbrev pub script_fault_name : ℕ → List ℕ
script_fault_name kind =
    if kind == 1 then codes "Header" else (if kind == 2 then codes "Word" else (if kind == 3 then codes "Number" else (if kind == 4 then codes "UnknownTask"
    else (if kind == 5 then codes "TwiceNamed" else (if kind == 6 then codes "RowTarget" else (if kind == 7 then codes "ExpiryBarred" else (if kind == 8 then codes "LimitPassed" else codes "Truncated")))))))

-- the name of a kind of fault of a transcript, by its number from 1 to 4
abbrev pub text_fault_name : ℕ → List ℕ
text_fault_name kind = if kind == 1 then codes "Line" else (if kind == 2 then codes "Order" else (if kind == 3 then codes "Truncated" else codes "LimitPassed"))

-- some words, the number of the line of a fault, and its name
abbrev pub fault_line : String → ℕ → List ℕ → List ℕ
fault_line before line name = codes before ++ (decimal line ++ (codes ": " ++ (name ++ codes "\n")))

-- the one line that an answer other than Done puts on standard error
unfoldable pub error_line : Status → List ℕ
error_line Done = []
error_line (ScriptRefused fault) = fault_line "script: line " fault.line (script_fault_name fault.kind)
error_line Usage = codes "usage: taskrun run, taskrun replay or taskrun gen SEED SIZE\n"
error_line ReadFault = codes "read fault\n"
error_line WriteFault = codes "write fault\n"
error_line NoMemory = codes "want of memory\n"
error_line (NotLawful line) = codes "not lawful: line " ++ (decimal line ++ codes "\n")
error_line (TextRefused fault) = fault_line "transcript: line " fault.line (text_fault_name fault.kind)
