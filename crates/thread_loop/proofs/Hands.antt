-- What an entry makes of the holders.
use Rattle.std.proofs.Common.{◌≡◌, ◌≢◌, ℕ, suc, ◌+◌, ◌*◌, ◌/◌, ◌%◌, ◌<◌, ◌≤◌, Bool, ◌==◌, if◌then◌else◌, List, [], ◌∷◌, length, drop, get_or, refl, sym, ap, subst, ◌∙◌, inl, inr, arith, eq-eqb, ne_eqb}
use Rattle.std.proofs.lemmas.Bool.{cases_eq}
use Rattle.std.specs.Int.{bit_at}
use Rattle.std.proofs.lemmas.Nat.Bits.{bit_at-zero}
use Rattle.std.proofs.Math.Seq.{drop-cons, drop-length}
use Rattle.task_machine.specs.declared.calls.Call.TheVariants as calls
use Rattle.task_machine.specs.declared.calls.Call.{Call}
use Rattle.task_machine.specs.declared.calls.Reply.{Reply}
use Rattle.task_machine.specs.declared.calls.Reply.TheVariants as replies
use Rattle.task_machine.specs.declared.calls.Entry.{Entry}
use Rattle.task_machine.specs.Logged.{Logged}
use Rattle.task_machine.specs.Own.{Own, own_next, own_of}
use Rattle.task_machine.specs.Event.{apart, gets, misses, event_at, event_of, gathers}
use Rattle.task_machine.specs.Step.{is_about}
use Rattle.wake_board.specs.Start.{no_holder}
use Rattle.thread_loop.specs.Holders.{holder_by, mask_in, Gives, Holds, Moves, Stays, Grouped}

-- an entry that moves one task
pub holds-moved : (k i holder : ℕ) (held : Bool) (e : Entry) (homes old new : List ℕ) → Moves i held e → holder ≡ (if held then k else no_holder) → Gives k i holder homes old new → Holds k e homes old new
holds-moved k i holder held e homes old new moves is gives = record {
  own = λ j o lt home before. elim (cases_eq j i) [
    | inl same ↦ rw same (gives.given (subst (λ (x : ℕ). x < length old) same lt) (ap (λ x. get_or homes x 0) (sym same) ∙ home) ∙ is ∙ sym (moves.here k o))
    | inr ne ↦ gives.others j ne ∙ before ∙ sym (ap (λ v. holder_by k (own_next o v)) (moves.others j ne))
  ];
  others = λ j ne. elim (cases_eq j i) [
    | inl same ↦ rw same (gives.foreign (λ home. ne (ap (λ x. get_or homes x 0) same ∙ home)))
    | inr differs ↦ gives.others j differs
  ];
  count = gives.count;
}

-- an entry that moves none
pub holds-same : (k : ℕ) (e : Entry) (homes old new : List ℕ) → Stays e → new ≡ old → Holds k e homes old new
holds-same k e homes old new stays same = rw same (record {
  own = λ i o lt home before. before ∙ sym (stays k i o);
  others = λ i ne. refl;
  count = refl;
})

-- the tasks of a mask's bits that are done are held by caller k, where they are its own; the rest is not done
pub record GroupedBut (k g mask rest : ℕ) (homes old new : List ℕ) : Type 0 where
  pub among : (b : ℕ) → b < 64 → bit_at rest b ≡ 1 → bit_at mask b ≡ 1
  pub taken : (b : ℕ) → b < 64 → bit_at mask b ≡ 1 → bit_at rest b ≢ 1 → 64 * g + b < length old → get_or homes (64 * g + b) 0 ≡ k → get_or new (64 * g + b) 0 ≡ k
  pub left : (b : ℕ) → b < 64 → bit_at mask b ≢ 1 → get_or new (64 * g + b) 0 ≡ get_or old (64 * g + b) 0
  pub others : (i : ℕ) → ((b : ℕ) → b < 64 → i ≢ 64 * g + b) → get_or new i 0 ≡ get_or old i 0
  pub foreign : (i : ℕ) → get_or homes i 0 ≢ k → get_or new i 0 ≡ get_or old i 0
  pub count : length new ≡ length old

-- at first nothing is done
pub grouped-first : (k g mask : ℕ) (homes old : List ℕ) → GroupedBut k g mask mask homes old old
grouped-first k g mask homes old = record {
  among = λ b lt one. one;
  taken = λ b lt one not_one. absurd (not_one one);
  left = λ b lt none. refl;
  others = λ i ne. refl;
  foreign = λ i ne. refl;
  count = refl;
}

-- at the end all is done
pub grouped-all : (k g mask : ℕ) (homes old new : List ℕ) → GroupedBut k g mask 0 homes old new → Grouped k g mask 64 homes old new
grouped-all k g mask homes old new h = record {
  taken = λ b lt one. h.taken b lt one (λ some. let z = bit_at-zero b in omega arith);
  left = h.left;
  others = h.others;
  foreign = h.foreign;
  count = h.count;
}

-- the task of one bit more
module _ (k g mask rest less n : ℕ) (set : bit_at rest n ≡ 1) (within : n < 64) (same_bit : bit_at less n ≡ 0) (other_bits : (b : ℕ) → b < 64 → b ≢ n → bit_at less b ≡ bit_at rest b) where
  pub grouped-next : (task : ℕ) (homes old now new : List ℕ) → task ≡ 64 * g + n → Gives k task k homes now new → GroupedBut k g mask rest homes old now → GroupedBut k g mask less homes old new
  grouped-next task homes old now new at gives h = record {
    among = λ b lt one. elim (cases_eq b n) [
      | inl same ↦ (let clear : bit_at less b ≡ 0 = ap (bit_at less) same ∙ same_bit in absurd (omega arith))
      | inr ne ↦ h.among b lt (sym (other_bits b lt ne) ∙ one)
    ];
    taken = λ b lt one done exists home. elim (cases_eq b n) [
      | inl same ↦ (let here : 64 * g + b ≡ task = omega arith in rw here (gives.given (subst (λ (x : ℕ). x < length now) here (omega (arith, h.count))) (ap (λ x. get_or homes x 0) (sym here) ∙ home)))
      | inr ne ↦ (let far : 64 * g + b ≢ task = λ e. omega arith in gives.others (64 * g + b) far ∙ h.taken b lt one (λ still. done (other_bits b lt ne ∙ still)) exists home)
    ];
    left = λ b lt none. elim (cases_eq b n) [
      | inl same ↦ absurd (none (h.among b lt (ap (bit_at rest) same ∙ set)))
      | inr ne ↦ (let far : 64 * g + b ≢ task = λ e. omega arith in gives.others (64 * g + b) far ∙ h.left b lt none)
    ];
    others = λ i ne. (let far : i ≢ task = λ e. ne n within (e ∙ at) in gives.others i far ∙ h.others i ne);
    foreign = λ i ne. elim (cases_eq i task) [
      | inl same ↦ rw same (gives.foreign (λ home. ne (ap (λ x. get_or homes x 0) same ∙ home)) ∙ h.foreign task (λ home. ne (ap (λ x. get_or homes x 0) same ∙ home)))
      | inr far ↦ gives.others i far ∙ h.foreign i ne
    ];
    count = gives.count ∙ h.count;
  }

-- what a caller has after some entries goes on from what it has after the first of them
pub record Follows (k : ℕ) (entries : List Entry) (n : ℕ) (homes old now : List ℕ) : Type 0 where
  pub own : (i : ℕ) (o : Own) → i < length old → get_or homes i 0 ≡ k → get_or old i 0 ≡ holder_by k o → (p : Own) × (get_or now i 0 ≡ holder_by k p) × (own_of i p (drop n entries) ≡ own_of i o entries)
  pub others : (i : ℕ) → get_or homes i 0 ≢ k → get_or now i 0 ≡ get_or old i 0
  pub count : length now ≡ length old

pub follows-first : (k : ℕ) (entries : List Entry) (homes old : List ℕ) → Follows k entries 0 homes old old
follows-first k entries homes old = record {
  own = λ i o lt home before. (o, before, refl);
  others = λ i ne. refl;
  count = refl;
}

pub follows-more : (k : ℕ) (entries : List Entry) (n : ℕ) (e : Entry) (homes old now new : List ℕ) → n < length entries → get_or entries n e ≡ e → Holds k e homes now new → Follows k entries n homes old now → Follows k entries (n + 1) homes old new
follows-more k entries n e homes old now new lt at holds h = record {
  own = λ i o less home before.
      let x = h.own i o less home before in
      let split : drop n entries ≡ e ∷ drop (n + 1) entries = drop-cons entries n e lt ∙ ap (λ (y : Entry). y ∷ drop (suc n) entries) at ∙ ap (λ m. e ∷ drop m entries) (next n) in
      let after = holds.own i x.0 (omega (arith, h.count)) home x.1 in
      (own_next x.0 (event_at i e), after, sym (ap (own_of i x.0) split) ∙ x.2);
  others = λ i ne. holds.others i ne ∙ h.others i ne;
  count = holds.count ∙ h.count;
}
  where
    next : (n : ℕ) → suc n ≡ n + 1
    next n = omega arith

pub follows-all : (k : ℕ) (entries : List Entry) (n : ℕ) (homes old now : List ℕ) → n ≡ length entries → Follows k entries n homes old now → (i : ℕ) (o : Own) → i < length old → get_or homes i 0 ≡ k → get_or old i 0 ≡ holder_by k o → get_or now i 0 ≡ holder_by k (own_of i o entries)
follows-all k entries n homes old now all h i o lt home before =
    let x = h.own i o lt home before in
    let none : drop n entries ≡ [] = ap (λ m. drop m entries) all ∙ drop-length entries in
    let same : x.0 ≡ own_of i o entries = sym (ap (own_of i x.0) none) ∙ x.2 in
    x.1 ∙ ap (holder_by k) same

-- what a get's reply is for a task of its group
got-set : (k i : ℕ) (o : Own) (r : Reply) → bit_at (mask_in r) (i % 64) ≡ 1 → holder_by k (own_next o (gathers i r)) ≡ k
got-set k i o (replies.Group n) set = ap (λ (b : Bool). holder_by k (own_next o (if b then gets else misses))) (eq-eqb (bit_at n (i % 64)) 1 set)
got-set k i o (replies.Task x) set = let zero_bit = bit_at-zero (i % 64) in absurd (omega arith)
got-set k i o replies.Done set = let zero_bit = bit_at-zero (i % 64) in absurd (omega arith)

got-clear : (k i : ℕ) (o : Own) (r : Reply) → bit_at (mask_in r) (i % 64) ≢ 1 → holder_by k (own_next o (gathers i r)) ≡ holder_by k o
got-clear k i o (replies.Group n) clear = ap (λ (b : Bool). holder_by k (own_next o (if b then gets else misses))) (ne_eqb (bit_at n (i % 64)) 1 clear)
got-clear k i o (replies.Task x) clear = refl
got-clear k i o replies.Done clear = refl

get-event : (i g : ℕ) (e : Entry) → e.call ≡ calls.Get g → event_at i e ≡ (if i / 64 == g then gathers i e.reply else apart)
get-event i g e call = ap (λ (c : Call). if is_about i c then event_of i c e.reply else apart) call

here-event : (i g : ℕ) (e : Entry) → e.call ≡ calls.Get g → i / 64 ≡ g → event_at i e ≡ gathers i e.reply
here-event i g e call here = get-event i g e call ∙ ap (λ (b : Bool). if b then gathers i e.reply else apart) (eq-eqb (i / 64) g here)

far-event : (i g : ℕ) (e : Entry) → e.call ≡ calls.Get g → i / 64 ≢ g → event_at i e ≡ apart
far-event i g e call far = get-event i g e call ∙ ap (λ (b : Bool). if b then gathers i e.reply else apart) (ne_eqb (i / 64) g far)

-- a get takes the tasks of its mask
pub holds-group : (k g : ℕ) (e : Entry) (homes old new : List ℕ) → e.call ≡ calls.Get g → Grouped k g (mask_in e.reply) 64 homes old new → Holds k e homes old new
holds-group k g e homes old new call h = record {
  own = λ i o lt home before. elim (cases_eq (i / 64) g) [
    | inl here ↦
        (let at : i ≡ 64 * g + i % 64 = omega arith in
        let event = ap (λ v. holder_by k (own_next o v)) (here-event i g e call here) in
        elim (cases_eq (bit_at (mask_in e.reply) (i % 64)) 1) [
          | inl set ↦ ap (λ x. get_or new x 0) at ∙ h.taken (i % 64) (omega arith) set (subst (λ (x : ℕ). x < length old) at lt) (ap (λ x. get_or homes x 0) (sym at) ∙ home) ∙ sym (event ∙ got-set k i o e.reply set)
          | inr clear ↦ ap (λ x. get_or new x 0) at ∙ h.left (i % 64) (omega arith) clear ∙ ap (λ x. get_or old x 0) (sym at) ∙ before ∙ sym (event ∙ got-clear k i o e.reply clear)
        ])
    | inr far ↦ h.others i (λ b lt_b same. far (omega arith)) ∙ before ∙ sym (ap (λ v. holder_by k (own_next o v)) (far-event i g e call far))
  ];
  others = h.foreign;
  count = h.count;
}

-- the callers below n went on with their logs
pub record HeldAll (n : ℕ) (homes : List ℕ) (logs : List Logged) (old now : List ℕ) : Type 0 where
  pub own : (k i : ℕ) (o : Own) (d : Logged) → k < n → i < length old → get_or homes i 0 ≡ k → get_or old i 0 ≡ holder_by k o → get_or now i 0 ≡ holder_by k (own_of i o (get_or logs k d).entries)
  pub others : (i : ℕ) → n ≤ get_or homes i 0 → get_or now i 0 ≡ get_or old i 0
  pub count : length now ≡ length old

pub held-first : (homes : List ℕ) (logs : List Logged) (old : List ℕ) → HeldAll 0 homes logs old old
held-first homes logs old = record {
  own = λ k i o d lt. absurd (omega arith);
  others = λ i le. refl;
  count = refl;
}

pub held-more : (n : ℕ) (homes : List ℕ) (logs : List Logged) (entries : List Entry) (old now new : List ℕ) → ((d : Logged) → (get_or logs n d).entries ≡ entries) → ((i : ℕ) (o : Own) → i < length now → get_or homes i 0 ≡ n → get_or now i 0 ≡ holder_by n o → get_or new i 0 ≡ holder_by n (own_of i o entries)) → ((i : ℕ) → get_or homes i 0 ≢ n → get_or new i 0 ≡ get_or now i 0) → length new ≡ length now → HeldAll n homes logs old now → HeldAll (n + 1) homes logs old new
held-more n homes logs entries old now new log own others count h = record {
  own = λ k i o d lt less home before. elim (cases_eq k n) [
    | inl same ↦
        (let here : get_or homes i 0 ≡ n = home ∙ same in
        let first : get_or now i 0 ≡ holder_by n o = h.others i (omega arith) ∙ before ∙ ap (λ x. holder_by x o) same in
        own i o (omega (arith, h.count)) here first ∙ ap (λ es. holder_by n (own_of i o es)) (sym (log d)) ∙ ap (λ x. holder_by x (own_of i o (get_or logs x d).entries)) (sym same))
    | inr ne ↦ others i (λ e. ne (sym home ∙ e)) ∙ h.own k i o d (omega arith) less home before
  ];
  others = λ i le. others i (λ e. omega arith) ∙ h.others i (omega arith);
  count = count ∙ h.count;
}
