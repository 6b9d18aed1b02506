-- Each call has one right reply, and a refused entry is not allowed.
use Rattle.std.proofs.Common.{◌≡◌, ℕ, zero, suc, ◌+◌, ◌*◌, ◌/◌, ◌%◌, ◌^◌, ◌<◌, Bool, true, false, refl, sym, ap, ◌∙◌, arith}
use Rattle.std.proofs.lemmas.Nat.Bits.{bit_at_lowest, bit_at-suc, same_from_bits_below}
use Rattle.std.specs.Int.{bit_at}
use Rattle.sched_base.specs.declared.names.CallerId.{CallerId}
use Rattle.task_machine.specs.declared.calls.Call.{Call}
use Rattle.task_machine.specs.declared.calls.Call.TheVariants as calls
use Rattle.task_machine.specs.declared.calls.Reply.{Reply}
use Rattle.task_machine.specs.declared.calls.Reply.TheVariants as replies
use Rattle.task_machine.specs.declared.calls.Entry.{Entry}
use Rattle.task_machine.specs.declared.calls.NotLegal.{NotLegal}
use Rattle.task_machine.specs.declared.calls.NotLegal.TheVariants as causes
use Rattle.task_machine.specs.Task.{is_boxed}
use Rattle.task_machine.specs.Step.{State, task_at, subject, is_named, fits, Roomy, bit, IsBox, IsReply, Allowed, mask_of, reply_of}
use Rattle.task_machine.specs.Refusal.{Refused}

-- bit j of n is that of task i + j, for the first m of them
abbrev IsMask : State → ℕ → ℕ → ℕ → ℕ → Type 0
IsMask s b i m n =
    (n < 2 ^ m) × ((j : ℕ) → j < m → bit_at n j ≡ bit (is_boxed b (task_at s (i + j)).place))

bit-lt : (b : Bool) → bit b < 2
bit-lt true = omega arith
bit-lt false = omega arith

halves : (b n : ℕ) → b < 2 → ((b + 2 * n) % 2 ≡ b) × ((b + 2 * n) / 2 ≡ n)
halves b n h = (omega arith, omega arith)

next_bit : (s : State) (b i m n : ℕ) → IsMask s b (suc i) m n → (j : ℕ) → j < suc m → bit_at (bit (is_boxed b (task_at s i).place) + 2 * n) j ≡ bit (is_boxed b (task_at s (i + j)).place)
next_bit s b i m n h zero l =
    let here : i + 0 ≡ i = omega arith in
    rw (bit_at_lowest (bit (is_boxed b (task_at s i).place) + 2 * n), here) (halves (bit (is_boxed b (task_at s i).place)) n (bit-lt (is_boxed b (task_at s i).place))).0
next_bit s b i m n h (suc j) l =
    let here : i + suc j ≡ suc i + j = omega arith in
    rw (bit_at-suc (bit (is_boxed b (task_at s i).place) + 2 * n) j, (halves (bit (is_boxed b (task_at s i).place)) n (bit-lt (is_boxed b (task_at s i).place))).1, here) (h.1 j (omega arith))

IsMask-next : (s : State) (b i m n : ℕ) → IsMask s b (suc i) m n → IsMask s b i (suc m) (bit (is_boxed b (task_at s i).place) + 2 * n)
IsMask-next s b i m n h =
    (let small = bit-lt (is_boxed b (task_at s i).place) in grind arith, next_bit s b i m n h)

IsMask-mask_of : (s : State) (b i m : ℕ) → IsMask s b i m (mask_of s b i m)
unfolding mask_of
IsMask-mask_of s b i zero = (omega arith, λ j l. absurd (omega arith))
IsMask-mask_of s b i (suc m) = IsMask-next s b i m (mask_of s b (suc i) m) (IsMask-mask_of s b (suc i) m)

pub IsBox-mask_of : (s : State) (b g : ℕ) → IsBox s b g (mask_of s b (64 * g) 64)
IsBox-mask_of s b g = IsMask-mask_of s b (64 * g) 64

pub IsBox-unique : (s : State) (b g m n : ℕ) → IsBox s b g m → IsBox s b g n → m ≡ n
IsBox-unique s b g m n h k = same_from_bits_below 64 m n h.0 k.0 (λ j l. h.1 j l ∙ sym (k.1 j l))

pub IsReply-reply_of : (s : State) (k : CallerId) (c : Call) → IsReply s k c (reply_of s k c)
IsReply-reply_of s k (calls.Wake i f) = refl
IsReply-reply_of s k (calls.Kill i) = refl
IsReply-reply_of s k (calls.Post i b) = refl
IsReply-reply_of s k (calls.Get g) = (mask_of s k.0 (64 * g) 64, refl, IsBox-mask_of s k.0 g)
IsReply-reply_of s k (calls.Draw i) = refl
IsReply-reply_of s k (calls.Take i) = refl
IsReply-reply_of s k (calls.DropRun i) = refl
IsReply-reply_of s k (calls.Retire i) = refl

pub IsReply-unique : (s : State) (k : CallerId) (c : Call) (r : Reply) → IsReply s k c r → r ≡ reply_of s k c
IsReply-unique s k (calls.Wake i f) r h = h
IsReply-unique s k (calls.Kill i) r h = h
IsReply-unique s k (calls.Post i b) r h = h
IsReply-unique s k (calls.Get g) r h = h.1 ∙ ap replies.Group (IsBox-unique s k.0 g h.0 (mask_of s k.0 (64 * g) 64) h.2 (IsBox-mask_of s k.0 g))
IsReply-unique s k (calls.Draw i) r h = h
IsReply-unique s k (calls.Take i) r h = h
IsReply-unique s k (calls.DropRun i) r h = h
IsReply-unique s k (calls.Retire i) r h = h

-- the right reply is allowed where the names are there, the task is where it must be, and has room
pub Allowed-reply_of : (s : State) (k : CallerId) (c : Call) → is_named s k c ≡ true → fits s k c ≡ true → Roomy c (task_at s (subject c)) → Allowed s (record { caller = k; call = c; reply = reply_of s k c })
Allowed-reply_of s k c named fit room =
    record { named = named; fit = fit; room = room; reply = IsReply-reply_of s k c }

pub Refused-not_allowed : (s : State) (e : Entry) (n : NotLegal) → Refused s e n → Allowed s e → ⊥
Refused-not_allowed s e causes.Name r a = let h = a.named in cc
Refused-not_allowed s e (causes.Place p) r a = let h = a.fit in let g = r.1 in cc
Refused-not_allowed s e (causes.Reply q) r a =
    r.3 (IsReply-unique s e.caller e.call e.reply a.reply ∙ sym (IsReply-unique s e.caller e.call q r.2))

pub Refused-one_cause : (s : State) (e : Entry) (m n : NotLegal) → Refused s e m → Refused s e n → m ≡ n
Refused-one_cause s e causes.Name causes.Name q r = refl
Refused-one_cause s e causes.Name (causes.Place p) q r = let h = r.0 in cc
Refused-one_cause s e causes.Name (causes.Reply x) q r = let h = r.0 in cc
Refused-one_cause s e (causes.Place p) causes.Name q r = let h = q.0 in cc
Refused-one_cause s e (causes.Place o) (causes.Place p) q r = ap causes.Place (q.2 ∙ sym r.2)
Refused-one_cause s e (causes.Place p) (causes.Reply x) q r = let h = q.1 in let g = r.1 in cc
Refused-one_cause s e (causes.Reply x) causes.Name q r = let h = q.0 in cc
Refused-one_cause s e (causes.Reply x) (causes.Place p) q r = let h = q.1 in let g = r.1 in cc
Refused-one_cause s e (causes.Reply x) (causes.Reply y) q r =
    ap causes.Reply (IsReply-unique s e.caller e.call x q.2 ∙ sym (IsReply-unique s e.caller e.call y r.2))
