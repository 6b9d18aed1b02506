-- Which of two ticks comes first, and optional delays (docs/MODEL.md, "Ticks").
use Rattle.std.specs.Prelude.{ℕ, ◌==◌, pos, int_le, int_lt, Bool, if◌then◌else◌}
use Rattle.queue_model.specs.Ticks.{distance, later}

-- whether a lies before b
abbrev pub is_before : ℕ → ℕ → Bool
is_before a b = int_lt (distance a b) (pos 0)

-- the earlier one of two ticks; an unset one counts only where both are
abbrev pub earlier : ℕ → ℕ → ℕ
earlier a b = if a == 0 then b else if b == 0 then a else if int_le (distance a b) (pos 0) then a else b

-- the tick d after now; unset where d is 0
abbrev pub later_if_set : ℕ → ℕ → ℕ
later_if_set now d = if d == 0 then 0 else later now d
