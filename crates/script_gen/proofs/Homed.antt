-- How many tasks have a home, and that a task's friend is one of them.
use Rattle.std.proofs.Common.{◌≡◌, ◌≢◌, ℕ, suc, zero, ◌+◌, ◌*◌, ◌-◌, ◌/◌, ◌%◌, ◌<◌, ◌≤◌, ◌==◌, Bool, true, false, if◌then◌else◌, refl, ap, ◌∙◌, sym, arith, eqb-true}
use Rattle.std.proofs.lemmas.Bool.{eqb-false}
use Rattle.script_gen.specs.Draws.{homed}

pub homed_is : (size home : ℕ) → home < 4 → homed size home ≡ (size + 3 - home) / 4
unfolding homed
homed_is zero home low = omega arith
homed_is (suc n) home low = by_test (n % 4 == home) refl (homed_is n home low)
  where
    by_test : (b : Bool) → (n % 4 == home) ≡ b → homed n home ≡ (n + 3 - home) / 4 → homed n home + (if b then 1 else 0) ≡ (suc n + 3 - home) / 4
    by_test true e before =
        let same : n % 4 ≡ home = eqb-true _ _ e in
        omega arith
    by_test false e before =
        let other : n % 4 ≢ home = eqb-false _ _ e in
        omega arith

pub some_homed : (size home : ℕ) → home < 4 → home < size → 1 ≤ homed size home
some_homed size home low within = let is = homed_is size home low in omega arith

-- a number drawn below the count of a home's tasks names one of them
pub friend_within : (size home draw : ℕ) → home < 4 → home < size → 4 * (draw % homed size home) + home < size
friend_within size home draw low within =
    let is = homed_is size home low in
    let some = some_homed size home low within in
    let below : draw % homed size home < homed size home = grind arith in
    omega arith

pub friend_home : (k home : ℕ) → home < 4 → (4 * k + home) % 4 ≡ home
friend_home k home low = omega arith
