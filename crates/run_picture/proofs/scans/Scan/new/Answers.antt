-- No line was passed.
use Rattle.std.proofs.Common.{◌≡◌, ℕ, ◌<◌, ◌≤◌, arith, refl, get_or, replicate, sym, subst}
use Rattle.std.proofs.lemmas.List.{get_or-replicate}
use Rattle.run_picture.proofs.scans.Scan.new.Goals as goal

zeros : (k : ℕ) → k < 18 → get_or {A = ℕ} (replicate 18 0) k 0 ≡ 0
zeros k lt = get_or-replicate {A = ℕ} 18 k 0 0 lt

pub returns : goal.returns
returns c =
    let n : ℕ = 0 in
    record {
      passed = refl;
      round = refl;
      slots = zeros;
      few = λ k lt. subst (λ (m : ℕ). m ≤ n) (sym (zeros k lt)) (omega arith);
      tasks = c.in_ok-nothing_raised.ensures.length;
      raised = λ i lt. c.in_ok-nothing_raised.ensures.none i;
    }
