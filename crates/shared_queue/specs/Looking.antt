-- What was seen of the shared box, and the first of the tasks that were seen there (docs/SHARED.md, "Draws").
use Rattle.std.specs.Prelude.{◌≡◌, ℕ, ◌/◌, ◌%◌, ◌<◌, ℤ, List, length, slice_index}
use Rattle.std.specs.Int.{bit_at}
use Rattle.wake_board.specs.Seen.{Held, with_misses}
use Rattle.shared_queue.specs.Drawing.{IsAmong, ComesBefore, WereAbsent}

-- the bit of task i in the words of all groups
abbrev pub seen_bit : List ℕ → ℕ → ℕ
seen_bit words i = bit_at (slice_index words (i / 64)) (i % 64)

-- the new misses of the pass are, of n tasks, just those of the first g groups whose bits are clear in the words
pub record Looked (n g : ℕ) (words : List ℕ) (old new : Held) : Type 0 where
  pub tasks : List ℕ
  pub noted : new ≡ with_misses old tasks
  pub absent : WereAbsent old tasks
  pub clear : (i : ℕ) → i < n → i / 64 < g → seen_bit words i ≡ 0 → IsAmong tasks i
  pub only : (i : ℕ) → IsAmong tasks i → (i < n) × (i / 64 < g) × (seen_bit words i ≡ 0)

-- task r is set in the words, and no task comes before it that is set too
pub record IsFirst (ranks : List ℤ) (words : List ℕ) (r : ℕ) : Type 0 where
  pub exists : r < length ranks
  pub set : seen_bit words r ≡ 1
  pub first : (j : ℕ) → j < length ranks → seen_bit words j ≡ 1 → ComesBefore ranks j r → ⊥

-- no task is set in the words
abbrev pub NoneSet : List ℤ → List ℕ → Type 0
NoneSet ranks words = (j : ℕ) → j < length ranks → seen_bit words j ≡ 1 → ⊥
