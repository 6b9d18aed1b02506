-- Ticks: milliseconds that wrap at 2^32, where 0 stands for never (docs/MODEL.md, "Ticks").
use Rattle.std.specs.Prelude.{ℕ, ◌+◌, ◌-◌, ◌%◌, ◌^◌, ◌==◌, ℤ, pos, int_le, Bool, false, not, if◌then◌else◌}
use Rattle.std.specs.Int.{w32, cast_signed}

-- how far t lies ahead of now: the wrapped difference, read as a signed number of 32 bits
abbrev pub distance : ℕ → ℕ → ℤ
distance t now = cast_signed w32 ((t + (2 ^ 32 - now)) % 2 ^ 32)

-- whether a tick is set at all
abbrev pub is_set : ℕ → Bool
is_set t = not (t == 0)

-- whether a tick is set and now has reached it
abbrev pub is_expired : ℕ → ℕ → Bool
is_expired t now = if t == 0 then false else int_le (distance t now) (pos 0)

-- the tick d after now, which steps over 0
abbrev pub later : ℕ → ℕ → ℕ
later now d = let n = (now + d) % 2 ^ 32 in if n == 0 then 1 else n
