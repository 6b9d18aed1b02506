-- What the bits of a word are, and what the steps make of them.
use Rattle.std.proofs.Common.{◌≡◌, ◌≢◌, ℕ, ◌+◌, ◌-◌, ◌*◌, ◌/◌, ◌%◌, ◌^◌, ◌<◌, Bool, true, false, not, ◌||◌, ◌==◌, if◌then◌else◌, bit_or, bit_and, refl, sym, ap, subst, ◌∙◌, arith, ne_eqb}
use Rattle.std.proofs.lemmas.Nat.{or_block, and_block, and_mask, or_lt, or_shifted, le_or_r}
use Rattle.std.proofs.lemmas.Nat.Bits.{bit_at_or}
use Rattle.std.proofs.Math.Nat.{mod-eq_of_lt}
use Rattle.std.specs.Int.Bits.{or_zero_r}
use Rattle.std.specs.Int.{bit_at}
use Rattle.sched_base.specs.declared.names.CallerId.{CallerId}
use Rattle.task_machine.specs.declared.task.Place.{Place}
use Rattle.task_machine.specs.declared.task.Place.TheVariants as places
use Rattle.task_machine.specs.declared.task.Stand.{Stand}
use Rattle.task_machine.specs.declared.task.Stand.TheVariants as stands
use Rattle.task_machine.specs.declared.task.Seen.{Seen}
use Rattle.task_machine.specs.declared.task.Seen.TheVariants as views
use Rattle.task_machine.specs.declared.task.TaskState.{TaskState}
use Rattle.task_machine.specs.Task.{is_busy, live, put, seen_of, seen_at, woken, flagged, dropped}
use Rattle.task_machine.specs.Step.{bit}
use Rattle.task_word.specs.Word.{is_running, is_queued, flags_with, word_with, word_of, word_takes, seen_in, HasWord, StandsFor, Follows, wake_bits, kill_bits, drop_mask}

bit_below : (b : Bool) → bit b < 2
bit_below true = omega arith
bit_below false = omega arith

bit_test : (b : Bool) → (bit b == 1) ≡ b
bit_test true = refl
bit_test false = refl

-- the parts of a word
pub record Parts (w : ℕ) (r q b : Bool) (n m : ℕ) : Type 0 where
  pub run : bit_at w 0 ≡ bit r
  pub queue : bit_at w 1 ≡ bit q
  pub kill : bit_at w 2 ≡ bit b
  pub end : bit_at w 3 ≡ 0
  pub reasons : w / 2 ^ 8 % 2 ^ 7 ≡ n
  pub takes : w / 2 ^ 16 ≡ m

pub parts_of : (r q b : Bool) (n m : ℕ) → n < 2 ^ 7 → Parts (word_with r q b n m) r q b n m
parts_of true true true n m h = record { run = omega arith; queue = omega arith; kill = omega arith; end = omega arith; reasons = omega arith; takes = omega arith }
parts_of true true false n m h = record { run = omega arith; queue = omega arith; kill = omega arith; end = omega arith; reasons = omega arith; takes = omega arith }
parts_of true false true n m h = record { run = omega arith; queue = omega arith; kill = omega arith; end = omega arith; reasons = omega arith; takes = omega arith }
parts_of true false false n m h = record { run = omega arith; queue = omega arith; kill = omega arith; end = omega arith; reasons = omega arith; takes = omega arith }
parts_of false true true n m h = record { run = omega arith; queue = omega arith; kill = omega arith; end = omega arith; reasons = omega arith; takes = omega arith }
parts_of false true false n m h = record { run = omega arith; queue = omega arith; kill = omega arith; end = omega arith; reasons = omega arith; takes = omega arith }
parts_of false false true n m h = record { run = omega arith; queue = omega arith; kill = omega arith; end = omega arith; reasons = omega arith; takes = omega arith }
parts_of false false false n m h = record { run = omega arith; queue = omega arith; kill = omega arith; end = omega arith; reasons = omega arith; takes = omega arith }

-- the stand by the two low bits
abbrev stand_by : Bool → Bool → Stand
stand_by r q = if r then stands.Runs else (if q then stands.Queued else stands.Rest)

stand_by-of : (st : Stand) (n : ℕ) (b : Bool) → stand_by (is_running st) (is_queued st n b) ≡ st
stand_by-of stands.Rest n b = refl
stand_by-of stands.Queued n b = refl
stand_by-of stands.Runs n b = refl

seen_in-parts : (w : ℕ) (r q b : Bool) (n m : ℕ) → Parts w r q b n m → seen_in w ≡ views.Live (stand_by r q) n b m
seen_in-parts w r q b n m p =
    rw (p.end, p.run, p.queue, p.kill, p.reasons, p.takes, bit_test r, bit_test q, bit_test b) refl

pub seen_in-word_of : (s : Seen) → HasWord s → seen_in (word_of s) ≡ s
seen_in-word_of views.Gone h = refl
seen_in-word_of (views.Live st n b m) h =
    seen_in-parts (word_of (views.Live st n b m)) (is_running st) (is_queued st n b) b n m (parts_of (is_running st) (is_queued st n b) b n m h.0) ∙ ap (λ (x : Stand). views.Live x n b m) (stand_by-of st n b)

-- what a word stands for is what is seen by it
pub seen_in-stands : (w : ℕ) (s : Seen) → StandsFor w s → seen_in w ≡ s
seen_in-stands w views.Gone h = rw h refl
seen_in-stands w (views.Live st n b m) h = rw h.0 (seen_in-word_of (views.Live st n b m) h.1)

-- so are the takes of a task that is not gone
pub word_takes-stands : (w : ℕ) (st : Stand) (n m : ℕ) (b : Bool) → StandsFor w (views.Live st n b m) → word_takes w ≡ m
word_takes-stands w st n m b h =
    ap word_takes h.0 ∙ (parts_of (is_running st) (is_queued st n b) b n m h.1.0).takes

pub StandsFor-word_of : (s : Seen) → HasWord s → StandsFor (word_of s) s
StandsFor-word_of views.Gone h = refl
StandsFor-word_of (views.Live st n b m) h = (refl, h)

flags_below : (r q b : Bool) → flags_with r q b < 8
flags_below true true true = omega arith
flags_below true true false = omega arith
flags_below true false true = omega arith
flags_below true false false = omega arith
flags_below false true true = omega arith
flags_below false true false = omega arith
flags_below false false true = omega arith
flags_below false false false = omega arith

-- the parts put together
pub word_from_parts : (m n l : ℕ) → m < 2 ^ 48 → n < 2 ^ 7 → l < 8 → bit_or (bit_or (m * 65536 % 18446744073709551616) (n * 256 % 18446744073709551616)) l ≡ m * 2 ^ 16 + (n * 2 ^ 8 + l)
word_from_parts m n l hm hn hl =
    let high : m * 65536 % 18446744073709551616 ≡ m * 2 ^ 16 = omega arith in
    let mid : n * 256 % 18446744073709551616 ≡ n * 2 ^ 8 = omega arith in
    let low : n * 2 ^ 8 < 2 ^ 16 = omega arith in
    let both : m * 2 ^ 16 + n * 2 ^ 8 ≡ (m * 2 ^ 8 + n) * 2 ^ 8 = omega arith in
    let end : (m * 2 ^ 8 + n) * 2 ^ 8 + l ≡ m * 2 ^ 16 + (n * 2 ^ 8 + l) = omega arith in
    rw (high, mid, or_shifted m 16 (n * 2 ^ 8) low, both, or_shifted (m * 2 ^ 8 + n) 8 l (omega arith)) end

-- a step that sets the bits of reasons f and flags l
or_word : (r q b : Bool) (n m f l : ℕ) → n < 2 ^ 7 → f < 2 ^ 7 → l < 8 → bit_or (word_with r q b n m) (f * 2 ^ 8 + l) ≡ m * 2 ^ 16 + (bit_or n f * 2 ^ 8 + bit_or (flags_with r q b) l)
or_word r q b n m f l hn hf hl =
    let low = flags_below r q b in
    let x : ℕ = n * 2 ^ 8 + flags_with r q b in
    let y : ℕ = f * 2 ^ 8 + l in
    let top : bit_or (m * 2 ^ 16 + x) (0 * 2 ^ 16 + y) ≡ bit_or m 0 * 2 ^ 16 + bit_or x y = or_block 16 m 0 x y (omega arith) (omega arith) in
    let same : 0 * 2 ^ 16 + y ≡ y = omega arith in
    let mid : bit_or x y ≡ bit_or n f * 2 ^ 8 + bit_or (flags_with r q b) l = or_block 8 n f (flags_with r q b) l (omega arith) (omega arith) in
    ap (λ z. bit_or (m * 2 ^ 16 + x) z) (sym same) ∙ (top ∙ (ap (λ z. z * 2 ^ 16 + bit_or x y) (or_zero_r m) ∙ ap (λ z. m * 2 ^ 16 + z) mid))

flags_woken : (r q b : Bool) → bit_or (flags_with r q b) 2 ≡ flags_with r true b
flags_woken true true true = refl
flags_woken true true false = refl
flags_woken true false true = refl
flags_woken true false false = refl
flags_woken false true true = refl
flags_woken false true false = refl
flags_woken false false true = refl
flags_woken false false false = refl

flags_killed : (r q b : Bool) → bit_or (flags_with r q b) 6 ≡ flags_with r true true
flags_killed true true true = refl
flags_killed true true false = refl
flags_killed true false true = refl
flags_killed true false false = refl
flags_killed false true true = refl
flags_killed false true false = refl
flags_killed false false true = refl
flags_killed false false false = refl

flags_dropped : (r q b : Bool) → bit_and (flags_with r q b) 254 ≡ flags_with false q b
flags_dropped true true true = refl
flags_dropped true true false = refl
flags_dropped true false true = refl
flags_dropped true false false = refl
flags_dropped false true true = refl
flags_dropped false true false = refl
flags_dropped false false true = refl
flags_dropped false false false = refl

-- a wake, a kill and the end of a run, on the parts
pub woken_word : (r q b : Bool) (n m f : ℕ) → n < 2 ^ 7 → f < 2 ^ 7 → bit_or (word_with r q b n m) (wake_bits f) ≡ word_with r true b (bit_or n f) m
woken_word r q b n m f hn hf = or_word r q b n m f 2 hn hf (omega arith) ∙ ap (λ z. m * 2 ^ 16 + (bit_or n f * 2 ^ 8 + z)) (flags_woken r q b)

pub killed_word : (r q b : Bool) (n m : ℕ) → n < 2 ^ 7 → bit_or (word_with r q b n m) kill_bits ≡ word_with r true true n m
killed_word r q b n m hn =
    or_word r q b n m 0 6 hn (omega arith) (omega arith) ∙ (ap (λ z. m * 2 ^ 16 + (z * 2 ^ 8 + bit_or (flags_with r q b) 6)) (or_zero_r n) ∙ ap (λ z. m * 2 ^ 16 + (n * 2 ^ 8 + z)) (flags_killed r q b))

pub dropped_word : (r q b : Bool) (n m : ℕ) → n < 2 ^ 7 → m < 2 ^ 48 → bit_and (word_with r q b n m) drop_mask ≡ word_with false q b n m
dropped_word r q b n m hn hm =
    let low = flags_below r q b in
    let x : ℕ = n * 2 ^ 8 + flags_with r q b in
    let top : bit_and (m * 2 ^ 16 + x) ((2 ^ 48 - 1) * 2 ^ 16 + (2 ^ 16 - 2)) ≡ bit_and m (2 ^ 48 - 1) * 2 ^ 16 + bit_and x (2 ^ 16 - 2) = and_block 16 m (2 ^ 48 - 1) x (2 ^ 16 - 2) (omega arith) (omega arith) in
    let mid : bit_and x ((2 ^ 8 - 1) * 2 ^ 8 + 254) ≡ bit_and n (2 ^ 8 - 1) * 2 ^ 8 + bit_and (flags_with r q b) 254 = and_block 8 n (2 ^ 8 - 1) (flags_with r q b) 254 (omega arith) (omega arith) in
    let takes : bit_and m (2 ^ 48 - 1) ≡ m = and_mask m 48 ∙ mod-eq_of_lt hm in
    let reasons : bit_and n (2 ^ 8 - 1) ≡ n = and_mask n 8 ∙ mod-eq_of_lt {n = n} {m = 2 ^ 8} (omega arith) in
    top ∙ (ap (λ z. z * 2 ^ 16 + bit_and x (2 ^ 16 - 2)) takes ∙ ap (λ z. m * 2 ^ 16 + z) (mid ∙ (ap (λ z. z * 2 ^ 8 + bit_and (flags_with r q b) 254) reasons ∙ ap (λ z. n * 2 ^ 8 + z) (flags_dropped r q b))))

-- a word with bit 3 keeps it
bit_3_stays : (w x : ℕ) → bit_at w 3 ≡ 1 → bit_at x 3 ≡ 0 → bit_at (bit_or w x) 3 ≡ 1
bit_3_stays w x h g = rw (bit_at_or w x 3, h, g) refl

-- reasons make a task busy
busy_woken : (n f : ℕ) (b : Bool) → f ≢ 0 → (not (bit_or n f == 0) || b) ≡ true
busy_woken n f b h = let ne : bit_or n f ≢ 0 = omega (arith, le_or_r n f) in rw (ne_eqb (bit_or n f) 0 ne) refl

or_true : (x : Bool) → (x || true) ≡ true
or_true true = refl
or_true false = refl

-- a task with these parts
abbrev at : Place → ℕ → Bool → ℕ → TaskState
at p n b m = record { place = p; pending = n; killed = b; takes = m }

woken_at : (k : CallerId) (f : ℕ) (p : Place) (n : ℕ) (b : Bool) (m w : ℕ) → f ≢ 0 → f < 2 ^ 7 → StandsFor w (seen_of (at p n b m)) → StandsFor (bit_or w (wake_bits f)) (seen_of (woken k f (at p n b m)))
woken_at k f places.Rest n b m w h hf s =
    (ap (λ z. bit_or z (wake_bits f)) s.0 ∙ woken_word false false b n m f s.1.0 hf, (or_lt 7 n f s.1.0 hf, s.1.1))
woken_at k f (places.Runs j) n b m w h hf s = (
  ap (λ z. bit_or z (wake_bits f)) s.0 ∙ (woken_word true (not (n == 0) || b) b n m f s.1.0 hf ∙ ap (λ q. word_with true q b (bit_or n f) m) (sym (busy_woken n f b h))),
  (or_lt 7 n f s.1.0 hf, s.1.1),
)
woken_at k f places.Gone n b m w h hf s = bit_3_stays w (wake_bits f) s (omega arith)
woken_at k f _ n b m w h hf s =
    (ap (λ z. bit_or z (wake_bits f)) s.0 ∙ woken_word false true b n m f s.1.0 hf, (or_lt 7 n f s.1.0 hf, s.1.1))

pub woken_follows : (k : CallerId) (f w : ℕ) → f ≢ 0 → f < 2 ^ 7 → Follows (woken k f) w (bit_or w (wake_bits f))
woken_follows k f w h hf t v s = woken_at k f t.place t.pending t.killed t.takes w h hf s

flagged_at : (k : CallerId) (p : Place) (n : ℕ) (b : Bool) (m w : ℕ) → StandsFor w (seen_of (at p n b m)) → StandsFor (bit_or w kill_bits) (seen_of (flagged k (at p n b m)))
flagged_at k places.Rest n b m w s = (ap (λ z. bit_or z kill_bits) s.0 ∙ killed_word false false b n m s.1.0, s.1)
flagged_at k (places.Runs j) n b m w s =
    (ap (λ z. bit_or z kill_bits) s.0 ∙ (killed_word true (not (n == 0) || b) b n m s.1.0 ∙ ap (λ q. word_with true q true n m) (sym (or_true (not (n == 0))))), s.1)
flagged_at k places.Gone n b m w s = bit_3_stays w kill_bits s refl
flagged_at k _ n b m w s = (ap (λ z. bit_or z kill_bits) s.0 ∙ killed_word false true b n m s.1.0, s.1)

pub flagged_follows : (k : CallerId) (w : ℕ) → Follows (flagged k) w (bit_or w kill_bits)
flagged_follows k w t v s = flagged_at k t.place t.pending t.killed t.takes w s

dropped_by : (k : CallerId) (t : TaskState) (busy : Bool) (w : ℕ) → is_busy t ≡ busy → StandsFor w (live stands.Runs t) → StandsFor (bit_and w drop_mask) (seen_of (put (if busy then places.Hands k else places.Rest) t))
dropped_by k t true w e s =
    (ap (λ z. bit_and z drop_mask) s.0 ∙ (dropped_word true (is_busy t) t.killed t.pending t.takes s.1.0 s.1.1 ∙ ap (λ q. word_with false q t.killed t.pending t.takes) e), s.1)
dropped_by k t false w e s =
    (ap (λ z. bit_and z drop_mask) s.0 ∙ (dropped_word true (is_busy t) t.killed t.pending t.takes s.1.0 s.1.1 ∙ ap (λ q. word_with false q t.killed t.pending t.takes) e), s.1)

pub dropped_follows : (k : CallerId) (t : TaskState) (w : ℕ) → t.place ≡ places.Runs k → StandsFor w (seen_of t) → StandsFor (bit_and w drop_mask) (seen_of (dropped k t))
dropped_follows k t w e s =
    let runs : StandsFor w (live stands.Runs t) = subst (λ (p : Place). StandsFor w (seen_at p t)) e s in
    dropped_by k t (is_busy t) w refl runs

-- what the code of a live task computes is its word
pub word_of-live : (s : Seen) (st : Stand) (n : ℕ) (b : Bool) (m p l : ℕ) → s ≡ views.Live st n b m → HasWord s → p ≡ n → l ≡ flags_with (is_running st) (is_queued st n b) b → bit_or (bit_or (m * 65536 % 18446744073709551616) (p * 256 % 18446744073709551616)) l ≡ word_of s
word_of-live s st n b m p l is h same low =
    let parts : HasWord (views.Live st n b m) = subst HasWord is h in
    let below = flags_below (is_running st) (is_queued st n b) b in
    rw (is, same, low) (word_from_parts m n (flags_with (is_running st) (is_queued st n b) b) parts.1 parts.0 below)
