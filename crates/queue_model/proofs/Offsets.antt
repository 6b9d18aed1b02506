-- Ticks by their distance from a tick, counted from half the circle before it on.
use Rattle.std.proofs.Common.{◌≡◌, ◌≢◌, ℕ, ◌+◌, ◌-◌, ◌%◌, ◌^◌, ◌<◌, ◌≤◌, Bool, true, false, ◌==◌, if◌then◌else◌, arith, refl, ◌≤ℤ◌, ◌<ℤ◌, pos, negsuc, ◌+ℤ◌, eqb-true, ne_eqb}
use Rattle.std.specs.Prelude.{ℤ, int_le, int_lt}
use Rattle.std.proofs.lemmas.Bool.{eqb-false}
use Rattle.std.proofs.lemmas.Int.{ints}
use Rattle.queue_model.specs.Ticks.{distance, is_expired, later}
use Rattle.queue_model.specs.Window.{IsNear}
use Rattle.queue_model.specs.Clock.{off, IsWithin, behind, ahead}
use Rattle.queue_model.proofs.Settles.{off_is}
use Rattle.queue_model.proofs.SweepSteps.{int_le-fails}

-- seen from a later tick a tick that is not passed by is nearer by as much
pub off-moved : (T t d U : ℕ) → T < 2 ^ 32 → t < 2 ^ 32 → d ≤ off t T → U ≡ (T + d) % 2 ^ 32 → off t U + d ≡ off t T
off-moved T t d U h g le e = omega arith

pub off-lt : (t now : ℕ) → off t now < 2 ^ 32
off-lt t now = omega arith

-- a tick that is set and not yet reached lies ahead
expired_if : (zero : Bool) (late : Bool) → (if zero then false else late) ≡ false → zero ≡ false → late ≡ false
expired_if true late h z = cc
expired_if false late h z = h

pub not_expired : (t now : ℕ) → t ≢ 0 → is_expired t now ≡ false → ahead ≤ off t now
not_expired t now set h =
    let zero : (t == 0) ≡ false = ne_eqb t 0 set in
    let late : int_le (distance t now) (pos 0) ≡ false = expired_if (t == 0) (int_le (distance t now) (pos 0)) h zero in
    let lt = int_le-fails (distance t now) (pos 0) late in
    beyond (distance t now) (off t now) lt (off_is t now)
  where
    beyond : (x : ℤ) (n : ℕ) → pos 0 <ℤ x → x +ℤ pos (2 ^ 31) ≡ pos n → 2 ^ 31 + 1 ≤ n
    beyond x n lt e = omega (arith, ints)

-- a delay from now on leads to a tick ahead
later_if : (T d n : ℕ) → T < 2 ^ 32 → 1 ≤ d → d ≤ 2 ^ 30 → n ≡ (T + d) % 2 ^ 32 → (zero : Bool) → (n == 0) ≡ zero → IsWithin ahead T (if zero then 1 else n)
later_if T d n h one most e true z =
    let none : n ≡ 0 = eqb-true n 0 z in
    (omega arith, omega arith, omega arith, omega arith)
later_if T d n h one most e false z =
    let some : n ≢ 0 = eqb-false n 0 z in
    (some, omega arith, omega arith, omega arith)

pub later-within : (T d : ℕ) → T < 2 ^ 32 → 1 ≤ d → d ≤ 2 ^ 30 → IsWithin ahead T (later T d)
later-within T d h one most = later_if T d ((T + d) % 2 ^ 32) h one most refl ((T + d) % 2 ^ 32 == 0) refl

-- of two ticks ahead the one that is not the earlier by distance does not come earlier
int_lt-fails : (x y : ℤ) → int_lt x y ≡ false → y ≤ℤ x
int_lt-fails x y h = grind (arith, ints)

no_earlier : (T a b : ℕ) → T < 2 ^ 32 → a < 2 ^ 32 → b < 2 ^ 32 → ahead ≤ off a T → off a T ≤ 2 ^ 31 + 2 ^ 30 + 1 → ahead ≤ off b T → off b T ≤ 2 ^ 31 + 2 ^ 30 + 1 → 2 ^ 31 ≤ off a b → off b T ≤ off a T
no_earlier T a b h ha hb la ma lb mb le = omega arith

pub covers : (T t key : ℕ) → T < 2 ^ 32 → IsWithin ahead T t → IsWithin ahead T key → int_lt (distance t key) (pos 0) ≡ false → off key T ≤ off t T
covers T t key h a b e =
    let ge = int_lt-fails (distance t key) (pos 0) e in
    no_earlier T t key h a.1 b.1 a.2 a.3 b.2 b.3 (half (distance t key) (off t key) ge (off_is t key))
  where
    half : (x : ℤ) (n : ℕ) → pos 0 ≤ℤ x → x +ℤ pos (2 ^ 31) ≡ pos n → 2 ^ 31 ≤ n
    half x n le e = omega (arith, ints)

-- what lies within the window of a tick is near it
pub near-within : (now t : ℕ) → IsWithin behind now t → IsNear now t
near-within now t h = near (distance t now) (off t now) (off_is t now) h.2 h.3
  where
    near : (x : ℤ) (n : ℕ) → x +ℤ pos (2 ^ 31) ≡ pos n → 2 ^ 31 - 2 ^ 20 ≤ n → n ≤ 2 ^ 31 + 2 ^ 30 + 1 → (negsuc (2 ^ 20 - 1) ≤ℤ x) × (x ≤ℤ pos (2 ^ 30 + 1))
    near x n e low high = (omega (arith, ints), omega (arith, ints))
