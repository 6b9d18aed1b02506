-- The lines on standard error that tell of the first fault of a text (docs/MODEL.md, "Answers").
use Prim.Native.String.{String}
use Rattle.std.specs.Prelude.{ℕ, ◌==◌, List, ◌++◌, codes, decimal, if◌then◌else◌}

-- the name of a kind of fault of a script, by its number from 1 to 9
abbrev pub script_fault_name : ℕ → List ℕ
script_fault_name kind =
    if kind == 1 then codes "Header" else (if kind == 2 then codes "Word" else (if kind == 3 then codes "Number" else (if kind == 4 then codes "UnknownTask"
    else (if kind == 5 then codes "TwiceNamed" else (if kind == 6 then codes "RowTarget" else (if kind == 7 then codes "ExpiryBarred" else (if kind == 8 then codes "LimitPassed" else codes "Truncated")))))))

-- the name of a kind of fault of a transcript, by its number from 1 to 4
abbrev pub text_fault_name : ℕ → List ℕ
text_fault_name kind = if kind == 1 then codes "Line" else (if kind == 2 then codes "Order" else (if kind == 3 then codes "Truncated" else codes "LimitPassed"))

-- some words, the number of the line of a fault, and its name
abbrev pub fault_line : String → ℕ → List ℕ → List ℕ
fault_line before line name = codes before ++ (decimal line ++ (codes ": " ++ (name ++ codes "\n")))

-- the line that tells of a fault of a script
unfoldable pub script_fault_line : ℕ → ℕ → List ℕ
script_fault_line line kind = fault_line "script: line " line (script_fault_name kind)

-- the line that tells of a fault of a transcript
unfoldable pub text_fault_line : ℕ → ℕ → List ℕ
text_fault_line line kind = fault_line "transcript: line " line (text_fault_name kind)
