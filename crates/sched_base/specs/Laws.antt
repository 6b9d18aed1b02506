-- Laws of keyed lists (docs/MODEL.md, "Keyed lists").
use Rattle.std.specs.Prelude.{◌≡◌, ℕ, false}
use Rattle.sched_base.specs.KeyedList.{KeyedList, IsKeyed, holds, with_entry, without_entry}

-- an insertion of an entry that the root does not hold leaves its keys rising and each entry there once
abbrev pub InsertionsKeepKeyed : Type 0
InsertionsKeepKeyed = (key entry : ℕ) (l : KeyedList) → IsKeyed l → holds entry l ≡ false → IsKeyed (with_entry key entry l)

-- and so does a deletion
abbrev pub DeletionsKeepKeyed : Type 0
DeletionsKeepKeyed = (entry : ℕ) (l : KeyedList) → IsKeyed l → IsKeyed (without_entry entry l)
