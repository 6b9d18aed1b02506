-- Numbers drawn from a seed: docs/SCRIPT.md, "Generated scripts".
use Rattle.std.specs.Prelude.{ℕ, zero, suc, ◌+◌, ◌*◌, ◌/◌, ◌%◌, ◌^◌, ◌==◌, ℤ, pos, negsuc, ◌+ℤ◌, if◌then◌else◌}
use Rattle.script_gen.specs.declared.drawing.Drawn.{Drawn}

-- the state after one draw more
unfoldable pub next_state : ℕ → ℕ
next_state x = (x * 6364136223846793005 + 1442695040888963407) % 2 ^ 64

-- what the next draw gives
abbrev pub next_draw : ℕ → ℕ
next_draw x = next_state x / 2 ^ 33

-- the state after four draws more
abbrev pub after_four : ℕ → ℕ
after_four x = next_state (next_state (next_state (next_state x)))

-- how many of the numbers below size are a home when divided by 4: the tasks of that home
unfoldable pub homed : ℕ → ℕ → ℕ
homed zero home = 0
homed (suc n) home = homed n home + (if n % 4 == home then 1 else 0)

-- what four numbers that were drawn say of a task
abbrev pub drawn_by : ℕ → ℕ → ℕ → ℕ → ℕ → ℕ → Drawn
drawn_by size i v1 v2 v3 v4 = record {
  delay = 1 + v1 % 500;
  timeout = 100 + v2 % 400;
  friend = 4 * (v3 % homed size (i % 4)) + i % 4;
  nice = pos (v4 % 2049) +ℤ negsuc 1023;
}

-- what the next four draws say of a task
abbrev pub drawn_at : ℕ → ℕ → ℕ → Drawn
drawn_at size i x = drawn_by size i (next_draw x) (next_draw (next_state x)) (next_draw (next_state (next_state x))) (next_draw (next_state (next_state (next_state x))))
