-- The kinds of fault, by their numbers: docs/SCRIPT.md, "Faults".
use Rattle.std.specs.Prelude.{ℕ}
use Rattle.step_tables.specs.declared.faults.FaultKind.{FaultKind}
use Rattle.step_tables.specs.declared.faults.FaultKind.TheVariants as kinds

-- the number of a kind
abbrev pub number_of_kind : FaultKind → ℕ
number_of_kind kinds.Header = 1
number_of_kind kinds.Word = 2
number_of_kind kinds.Number = 3
number_of_kind kinds.UnknownTask = 4
number_of_kind kinds.TwiceNamed = 5
number_of_kind kinds.RowTarget = 6
number_of_kind kinds.ExpiryBarred = 7
number_of_kind kinds.LimitPassed = 8
number_of_kind kinds.Truncated = 9
