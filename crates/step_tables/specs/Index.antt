-- An index of tasks by their names: what a map from names to numbers says of a list of tasks.
use Rattle.std.specs.Prelude.{◌≡◌, ℕ, List, position, bytes_eq}
use Rattle.std.specs.Global.{Vec}
use Rattle.std.specs.Ordering.{nat_cmp}
use Rattle.std.specs.Cmp.Lexicographic.{slice_cmp}
use Rattle.std.specs.BTreeMap.{BTreeMap, get_by}
use Rattle.step_tables.specs.declared.tables.TaskDef.{TaskDef}
use Rattle.step_tables.specs.Words.{Word}

-- what is found in the map under a name is the number of the first task of this name
abbrev pub IsIndex : List TaskDef → BTreeMap (Vec ℕ) ℕ → Type 0
IsIndex tasks numbers = (name : Word) → get_by (λ key. slice_cmp nat_cmp name key.items) numbers ≡ position (λ task. bytes_eq task.name name) tasks
