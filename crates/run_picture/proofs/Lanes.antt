-- How long stretches are.
use Rattle.std.proofs.Common.{ℕ, ◌+◌, ◌≤◌, Bool, true, false, if◌then◌else◌, arith}
use Rattle.run_picture.specs.declared.stretches.Stretch.{Stretch}
use Rattle.run_picture.specs.declared.steps.Step.{Step}
use Rattle.run_picture.specs.declared.steps.Step.TheVariants.{Takes, Raises, Drops, Retires, Goes}
use Rattle.run_picture.specs.Bars.{stretch_by}

-- a stretch grows by at most one entry
pub grows : (step : Step) (s : Stretch) (n : ℕ) → s.entries ≤ n → (stretch_by step s).entries ≤ n + 1
grows (Takes i) s n le = omega arith
grows Drops s n le = omega arith
grows Retires s n le = omega arith
grows (Raises i) s n le = omega arith
grows Goes s n le = omega arith

pub if_few : (b : Bool) (x y : Stretch) (n : ℕ) → x.entries ≤ n → y.entries ≤ n → (if b then x else y).entries ≤ n
if_few true x y n p q = p
if_few false x y n p q = q
