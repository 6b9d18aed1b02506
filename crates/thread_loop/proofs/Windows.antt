-- Timers between rounds.
use Rattle.std.proofs.Common.{◌≡◌, ℕ, ◌+◌, ◌^◌, ◌%◌, ◌<◌, arith, subst}
use Rattle.queue_model.specs.Clock.{Window, behind, ahead}
use Rattle.queue_model.proofs.ClockMoved.{window-next}
use Rattle.run_model.specs.Book.{Book}

pub window_now : (T : ℕ) (b : Book) → T < 2 ^ 32 → Window ahead T b.wait → Window behind T b.wait
window_now T b lt w =
    let same : (T + 0) % 2 ^ 32 ≡ T = omega arith in
    subst (λ (U : ℕ). Window behind U b.wait) same (window-next T 0 b.wait lt (omega arith) w)
