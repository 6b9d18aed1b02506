use Rattle.std.proofs.Common.{◌≡◌, ℕ, ◌<◌, ◌≤◌, ◌==◌, if◌then◌else◌, length, get_or}
use Rattle.std.specs.Int.{bit_at}
use Rattle.board_bench.specs.declared.has.Has.TheVariants as kinds
use Rattle.board_bench.proofs.caller.gather.Given as given

-- the tasks below i are gathered, and the others are as before
pub record IsGathered (l : given.Live-loop-i) : Type 0 where
  pub count : length l.has.items ≡ length l.fn.has.items
  pub done : (k : ℕ) → k < l.i → get_or l.has.items k kinds.Nothing ≡ (if bit_at l.word k == 1 then kinds.Hands else get_or l.fn.has.items k kinds.Nothing)
  pub left : (k : ℕ) → l.i ≤ k → get_or l.has.items k kinds.Nothing ≡ get_or l.fn.has.items k kinds.Nothing

abbrev pub invariant-loop-i : given.invariant-loop-i
invariant-loop-i l = IsGathered l
