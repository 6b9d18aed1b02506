-- Spans of tasks, and the first task that is set in them (docs/SHARED.md, "Draws").
use Rattle.std.specs.Prelude.{◌≡◌, ℕ, ◌-◌, ◌*◌, ◌/◌, ◌%◌, ◌^◌, ◌<◌, ◌≤◌, ◌⊎◌, ℤ, pos, ◌<ℤ◌, List, [], ◌∷◌, ◌++◌, length, slice_index_or, slice_set}
use Rattle.std.specs.Int.{bit_at}
use Rattle.std.specs.Int.Bits.{bit_or}
use Rattle.std.specs.declared.cmp.Ordering.{Ordering}
use Rattle.std.specs.Ordering.{ordering_then, int_cmp, nat_cmp}
use Rattle.shared_queue.specs.declared.spans.Span.{Span}
use Rattle.shared_queue.specs.Dealing.{nice_in}
use Rattle.shared_queue.specs.Looking.{seen_bit}

-- a task's nice and number are compared by nice, and at the same nice by number
abbrev pub by_nice : ℤ × ℕ → ℤ × ℕ → Ordering
by_nice x y = ordering_then (int_cmp x.0 y.0) (nat_cmp x.1 y.1)

-- the nice and number at place q
abbrev pub place_at : List (ℤ × ℕ) → ℕ → ℤ × ℕ
place_at order q = slice_index_or order q (pos 0, 0)

-- no task
abbrev pub no_span : Span
no_span = record { nice = pos 0; group = 0; mask = 0 }

-- span k
abbrev pub span_at : List Span → ℕ → Span
span_at spans k = slice_index_or spans k no_span

-- the last span
abbrev pub last_of : List Span → Span
last_of spans = span_at spans (length spans - 1)

-- task i is one of span s
pub record IsOf (s : Span) (i : ℕ) : Type 0 where
  pub group : i / 64 ≡ s.group
  pub set : bit_at s.mask (i % 64) ≡ 1

-- a task's nice and number stand in span k
pub record StandsAt (spans : List Span) (k : ℕ) (rank : ℤ) (i : ℕ) : Type 0 where
  pub exists : k < length spans
  pub nice : (span_at spans k).nice ≡ rank
  pub of : IsOf (span_at spans k) i

-- span s is tried before span t: by nice, and at the same nice by group
abbrev pub GoesFirst : Span → Span → Type 0
GoesFirst s t = (s.nice <ℤ t.nice) ⊎ ((s.nice ≡ t.nice) × (s.group < t.group))

-- each span goes before those behind it
abbrev pub AreOrdered : List Span → Type 0
AreOrdered spans = (k l : ℕ) → k < l → l < length spans → GoesFirst (span_at spans k) (span_at spans l)

-- the spans have just the tasks, each at its nice, and are no more than tasks
pub record AreSpans (ranks : List ℤ) (spans : List Span) : Type 0 where
  pub each : (i : ℕ) → i < length ranks → (k : ℕ) × StandsAt spans k (nice_in ranks i) i
  pub tasks : (k i : ℕ) → k < length spans → IsOf (span_at spans k) i → (i < length ranks) × (nice_in ranks i ≡ (span_at spans k).nice)
  pub within : (k : ℕ) → k < length spans → 64 * (span_at spans k).group < length ranks
  pub few : length spans ≤ length ranks
  pub ordered : AreOrdered spans

-- the spans have just the tasks at the first p places
pub record AreLaid (p : ℕ) (order : List (ℤ × ℕ)) (spans : List Span) : Type 0 where
  pub each : (q : ℕ) → q < p → (k : ℕ) × StandsAt spans k (place_at order q).0 (place_at order q).1
  pub tasks : (k i : ℕ) → k < length spans → IsOf (span_at spans k) i → (q : ℕ) × (q < p) × ((place_at order q).0 ≡ (span_at spans k).nice) × ((place_at order q).1 ≡ i)
  pub heads : (k : ℕ) → k < length spans → (q : ℕ) × (q < p) × ((place_at order q).0 ≡ (span_at spans k).nice) × ((place_at order q).1 / 64 ≡ (span_at spans k).group)
  pub few : length spans ≤ p
  pub ordered : AreOrdered spans

-- the bit of a task in its group
abbrev pub task_bit : ℕ → ℕ
task_bit i = 1 * 2 ^ (i % 64) % 2 ^ 64

-- a span with one more task
abbrev pub with_task : Span → ℕ → Span
with_task s i = record s { mask = bit_or s.mask (task_bit i) }

-- task i of this nice went into the last span, which is of its nice and group
pub record Joins (old : List Span) (rank : ℤ) (i : ℕ) (spans : List Span) : Type 0 where
  pub some : 0 < length old
  pub nice : (last_of old).nice ≡ rank
  pub group : (last_of old).group ≡ i / 64
  pub new : spans ≡ slice_set old (length old - 1) (with_task (last_of old) i)

-- it has a span of its own behind all others, of which the last is of another nice or group
pub record Opens (old : List Span) (rank : ℤ) (i : ℕ) (spans : List Span) : Type 0 where
  pub apart : 0 < length old → (last_of old).nice ≡ rank → (last_of old).group ≡ i / 64 → ⊥
  pub new : spans ≡ old ++ record { nice = rank; group = i / 64; mask = task_bit i } ∷ []

-- task r is set in the words, and each other that is set is behind it
pub record IsFirstIn (spans : List Span) (words : List ℕ) (r : ℕ) : Type 0 where
  pub span : ℕ
  pub exists : span < length spans
  pub of : IsOf (span_at spans span) r
  pub set : seen_bit words r ≡ 1
  pub first : (l i : ℕ) → l < length spans → IsOf (span_at spans l) i → seen_bit words i ≡ 1 → (span < l) ⊎ ((span ≡ l) × (r ≤ i))

-- no task of the spans is set in the words
abbrev pub NoneIn : List Span → List ℕ → Type 0
NoneIn spans words = (k i : ℕ) → k < length spans → IsOf (span_at spans k) i → seen_bit words i ≡ 1 → ⊥
