-- What a script's limits give: it has a round, and no run takes a task too often.
use Rattle.std.proofs.Common.{ℕ, ◌+◌, ◌*◌, ◌^◌, ◌<◌, ◌≤◌, IsTrue, arith}
use Rattle.std.proofs.Math.Nat.{mul-le-mul_left, mul-le-mul_right}
use Rattle.step_tables.specs.declared.tables.Script.{Script}
use Rattle.step_tables.specs.Sound.{is_sound}
use Rattle.turn_steps.proofs.Fit.{sound_parts, within-parts}
use Rattle.standing.specs.Between.{round_takes}

bounded : (a b c : ℕ) → a ≤ 100000 → b ≤ 17 → c ≤ 2003 → a * (b * c) ≤ 100000 * (17 * 2003)
bounded a b c h g f =
    let inner : b * c ≤ 17 * c = mul-le-mul_right c g in
    let most : b * c ≤ 17 * 2003 = omega arith in
    let outer : a * (b * c) ≤ a * (17 * 2003) = mul-le-mul_left a most in
    omega arith

pub takes-sound : (s : Script) → IsTrue (is_sound s) → (0 < s.rounds) × (s.rounds * round_takes s < 2 ^ 48)
takes-sound s h =
    let parts = sound_parts s h in
    let workers = within-parts 1 16 s.workers parts.workers in
    let depth = within-parts 1 1000 s.depth parts.depth in
    let rounds = within-parts 1 100000 s.rounds parts.rounds in
    (omega (arith, rounds.0), omega (arith, bounded s.rounds (s.workers + 1) (2 * s.depth + 3) rounds.1 (omega (arith, workers.1)) (omega (arith, depth.1))))
