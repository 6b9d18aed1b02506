-- What looks and tries make of what was seen of the shared box.
use Rattle.std.proofs.Common.{◌≡◌, ◌≢◌, ℕ, ◌+◌, ◌*◌, ◌/◌, ◌%◌, ◌^◌, ◌<◌, ◌≤◌, List, [], ◌∷◌, ◌++◌, length, get_or, set, refl, sym, ap, subst, ◌∙◌, inl, inr, ⊎_elim, arith, append-nil, append_assoc, get_or-set_same, get_or-set_other, w64}
use Rattle.std.specs.Prelude.{ℤ, bit_and}
use Rattle.std.specs.Int.{bit_at, bit_not}
use Rattle.std.specs.List.{sum_by}
use Rattle.std.proofs.lemmas.Bool.{cases_eq}
use Rattle.std.proofs.lemmas.Nat.{and_le_l}
use Rattle.std.proofs.lemmas.Nat.Bits.{bit_at-lt, bit_at_clear_same, bit_at_clear_other}
use Rattle.std.proofs.lemmas.List.Sums.{sum_by-set}
use mathlib.Core.Option.{some}
use Rattle.task_machine.specs.declared.calls.Entry.{Entry}
use Rattle.task_machine.specs.declared.calls.Call.TheVariants as calls
use Rattle.task_machine.specs.declared.calls.Reply.TheVariants as replies
use Rattle.wake_board.specs.Start.{Start}
use Rattle.wake_board.specs.Rows.{groups}
use Rattle.wake_board.specs.Seen.{Held, Laid, IsPassOf, AreAbsent, Misses, Calls, with_misses, clear_in}
use Rattle.wake_board.proofs.Tables.{at_single}
use Rattle.shared_queue.specs.Drawing.{IsAmong, WereAbsent, FindsNone, Draws}
use Rattle.shared_queue.specs.Looking.{seen_bit, Looked, IsFirst, NoneSet}
use Rattle.shared_queue.proofs.Among.{among_front, among_behind, among_either, among_one, among_none, clear_has, clear_of}

with_misses-none : (p : Held) → p ≡ with_misses p []
with_misses-none p = ap (λ (ms : List ℕ). record p { misses = ms }) (sym (append-nil p.misses))

with_misses-more : (p : Held) (xs ys : List ℕ) → with_misses (with_misses p xs) ys ≡ with_misses p (xs ++ ys)
with_misses-more p xs ys = ap (λ (ms : List ℕ). record p { misses = ms }) (append_assoc p.misses xs ys)

-- one of some tasks that are absent
absent_one : (o : Start) (k : ℕ) (es : List Entry) (tasks : List ℕ) (i : ℕ) → AreAbsent o k es tasks → IsAmong tasks i → AreAbsent o k es (i ∷ [])
absent_one o k es tasks i r a =
    (r.0, r.1, r.2, λ j x at. r.3 a.0 x (a.1 ∙ ap some (at_single i x j at).1))

absent_more : (p new : Held) (xs ys : List ℕ) → WereAbsent p xs → Misses (with_misses p xs) ys new → WereAbsent p (xs ++ ys)
absent_more p new xs ys were r i a =
    ⊎_elim (were i) (λ b. absent_one p.start p.who p.entries ys i r.absent b) (among_either xs ys i a)

-- a pass with more misses is of the same board
pub board_missed : (b : Laid) (p new : Held) (tasks : List ℕ) → IsPassOf b p → Misses p tasks new → IsPassOf b new
board_missed b p new tasks of m =
    let there : IsPassOf b (with_misses p tasks) = record { board = of.board; start = of.start } in
    subst (IsPassOf b) (sym m.noted) there

-- before the first look
pub looked_none : (n : ℕ) (words : List ℕ) (p : Held) → Looked n 0 words p p
looked_none n words p = record {
  tasks = [];
  noted = with_misses-none p;
  absent = λ i a. absurd (among_none i a);
  clear = λ i l g e. absurd (omega arith);
  only = λ i a. absurd (among_none i a);
}

-- the bit of a task in the words with the word of its group written, and of the other tasks
bit_written : (words : List ℕ) (g word i : ℕ) → g < length words → i / 64 ≡ g → seen_bit (set words g word) i ≡ bit_at word (i % 64)
bit_written words g word i l e =
    ap (λ (x : ℕ). bit_at (get_or (set words g word) x 0) (i % 64)) e ∙ ap (λ (x : ℕ). bit_at x (i % 64)) (get_or-set_same words g word 0 l)

bit_kept : (words : List ℕ) (g word i : ℕ) → i / 64 ≢ g → seen_bit (set words g word) i ≡ seen_bit words i
bit_kept words g word i ne = ap (λ (x : ℕ). bit_at x (i % 64)) (get_or-set_other words g (i / 64) word 0 ne)

-- one more look
pub looked_more : (n g word : ℕ) (words : List ℕ) (p mid new : Held) → g < length words → Looked n g words p mid → Misses mid (clear_in n g word) new → Looked n (g + 1) (set words g word) p new
looked_more n g word words p mid new l r m =
    let cs : List ℕ = clear_in n g word in
    let misses : Misses (with_misses p r.tasks) cs new = subst (λ (h : Held). Misses h cs new) r.noted m in
    record {
      tasks = r.tasks ++ cs;
      noted = misses.noted ∙ with_misses-more p r.tasks cs;
      absent = absent_more p new r.tasks cs r.absent misses;
      clear = λ i within below bit. elim (cases_eq (i / 64) g) [
        | inl same ↦
            (let whole : 64 * g + i % 64 ≡ i = omega arith in
            let low : bit_at word (i % 64) ≡ 0 = sym (bit_written words g word i l same) ∙ bit in
            among_behind r.tasks cs i (subst (IsAmong cs) whole (clear_has n g word 64 0 (i % 64) (omega arith) (omega arith) (omega arith) low)))
        | inr ne ↦ among_front r.tasks cs i (r.clear i within (omega arith) (sym (bit_kept words g word i ne) ∙ bit))
      ];
      only = λ i a. ⊎_elim (before i) (behind i) (among_either r.tasks cs i a);
    }
  where
    before : (i : ℕ) → IsAmong r.tasks i → (i < n) × (i / 64 < g + 1) × (seen_bit (set words g word) i ≡ 0)
    before i a =
        let old = r.only i a in
        let below = old.1 in
        (old.0, omega arith, bit_kept words g word i (omega arith) ∙ old.2)

    behind : (i : ℕ) → IsAmong (clear_in n g word) i → (i < n) × (i / 64 < g + 1) × (seen_bit (set words g word) i ≡ 0)
    behind i a =
        let c = clear_of n g word 64 0 i a in
        let is = c.is in
        let high = c.high in
        let group : i / 64 ≡ g = omega arith in
        let at : i % 64 ≡ c.bit = omega arith in
        (c.exists, omega arith, bit_written words g word i l group ∙ (ap (bit_at word) at ∙ c.clear))

-- a word without the bit of a task
abbrev pub cleared : ℕ → ℕ → ℕ
cleared word bit = bit_and word (bit_not w64 (1 * 2 ^ bit % 2 ^ 64))

-- the words with the bit of a task cleared
abbrev pub without : List ℕ → ℕ → List ℕ
without words i = set words (i / 64) (cleared (get_or words (i / 64) 0) (i % 64))

without_own : (words : List ℕ) (i : ℕ) → i / 64 < length words → seen_bit (without words i) i ≡ 0
without_own words i l =
    bit_written words (i / 64) (cleared (get_or words (i / 64) 0) (i % 64)) i l refl ∙ bit_at_clear_same w64 (get_or words (i / 64) 0) (i % 64) (omega arith)

without_other : (words : List ℕ) (i j : ℕ) → i / 64 < length words → j ≢ i → seen_bit (without words i) j ≡ seen_bit words j
without_other words i j l ne =
    elim (cases_eq (j / 64) (i / 64)) [
      | inl same ↦
          (bit_written words (i / 64) (cleared (get_or words (i / 64) 0) (i % 64)) j l same
          ∙ (bit_at_clear_other w64 (get_or words (i / 64) 0) (i % 64) (omega arith) (j % 64) (omega arith) (omega arith)
          ∙ ap (λ (x : ℕ). bit_at (get_or words x 0) (j % 64)) (sym same)))
      | inr far ↦ bit_kept words (i / 64) (cleared (get_or words (i / 64) 0) (i % 64)) j far
    ]

-- one more try that did not find its task
pub tried_more : (n g i : ℕ) (words : List ℕ) (p mid new : Held) → g ≡ length words → i < n → i / 64 < g → Looked n g words p mid → Misses mid (i ∷ []) new → Looked n g (without words i) p new
tried_more n g i words p mid new long within low r m =
    let misses : Misses (with_misses p r.tasks) (i ∷ []) new = subst (λ (h : Held). Misses h (i ∷ []) new) r.noted m in
    let l : i / 64 < length words = omega arith in
    record {
      tasks = r.tasks ++ i ∷ [];
      noted = misses.noted ∙ with_misses-more p r.tasks (i ∷ []);
      absent = absent_more p new r.tasks (i ∷ []) r.absent misses;
      clear = λ j exists below bit. elim (cases_eq j i) [
        | inl same ↦ among_behind r.tasks (i ∷ []) j (0, ap some (sym same))
        | inr ne ↦ among_front r.tasks (i ∷ []) j (r.clear j exists below (sym (without_other words i j l ne) ∙ bit))
      ];
      only = λ j a. elim (cases_eq j i) [
        | inl same ↦ subst (λ (x : ℕ). (x < n) × (x / 64 < g) × (seen_bit (without words i) x ≡ 0)) (sym same) (within, low, without_own words i l)
        | inr ne ↦ ⊎_elim (kept l j ne) (λ b. absurd (ne (sym (among_one i j b)))) (among_either r.tasks (i ∷ []) j a)
      ];
    }
  where
    kept : i / 64 < length words → (j : ℕ) → j ≢ i → IsAmong r.tasks j → (j < n) × (j / 64 < g) × (seen_bit (without words i) j ≡ 0)
    kept l j ne a =
        let old = r.only j a in
        (old.0, old.1, without_other words i j l ne ∙ old.2)

-- nothing is left to try
pub looked_all : (ranks : List ℤ) (g : ℕ) (words : List ℕ) (p new : Held) → g ≡ groups (length ranks) → Looked (length ranks) g words p new → NoneSet ranks words → FindsNone ranks p new
looked_all ranks g words p new sized r none = record {
  tasks = r.tasks;
  noted = r.noted;
  absent = r.absent;
  every = λ i l. elim (cases_eq (seen_bit words i) 1) [
    | inl set' ↦ absurd (none i l set')
    | inr clear ↦ r.clear i l (omega arith) (let b = bit_at-lt (get_or words (i / 64) 0) (i % 64) in omega arith)
  ];
}

-- the first task that was seen was drawn
pub looked_drawn : (ranks : List ℤ) (g : ℕ) (words : List ℕ) (i : ℕ) (p mid new : Held) → g ≡ groups (length ranks) → Looked (length ranks) g words p mid → IsFirst ranks words i → Calls mid (calls.Draw (record { 0 = i })) replies.Done new → Draws ranks p i new
looked_drawn ranks g words i p mid new sized r f m =
    let c : Calls (with_misses p r.tasks) (calls.Draw (record { 0 = i })) replies.Done new = subst (λ (h : Held). Calls h (calls.Draw (record { 0 = i })) replies.Done new) r.noted m in
    record {
      tasks = r.tasks;
      exists = f.exists;
      gained = c.entry;
      attested = c.attested;
      absent = r.absent;
      seen = λ a. let clear : seen_bit words i ≡ 0 = (r.only i a).2 in let set' : seen_bit words i ≡ 1 = f.set in absurd (omega arith);
      first = λ j l before. elim (cases_eq (seen_bit words j) 1) [
        | inl set' ↦ absurd (f.first j l set' before)
        | inr clear ↦ r.clear j l (omega arith) (let b = bit_at-lt (get_or words (j / 64) 0) (j % 64) in omega arith)
      ];
    }

-- a word without a bit that it had is less
pub cleared_less : (word bit : ℕ) → bit < 64 → bit_at word bit ≡ 1 → cleared word bit < word
cleared_less word bit l set' =
    let most : cleared word bit ≤ word = and_le_l word (bit_not w64 (1 * 2 ^ bit % 2 ^ 64)) in
    let gone : bit_at (cleared word bit) bit ≡ 0 = bit_at_clear_same w64 word bit l in
    elim (cases_eq (cleared word bit) word) [
      | inl same ↦ (let two : bit_at (cleared word bit) bit ≡ 1 = ap (λ (x : ℕ). bit_at x bit) same ∙ set' in absurd (omega arith))
      | inr ne ↦ omega arith
    ]

-- and so is the sum of all words
pub without_less : (words : List ℕ) (i : ℕ) → i / 64 < length words → seen_bit words i ≡ 1 → sum_by (λ (x : ℕ). x) (without words i) < sum_by (λ (x : ℕ). x) words
without_less words i l set' =
    let less : cleared (get_or words (i / 64) 0) (i % 64) < get_or words (i / 64) 0 = cleared_less (get_or words (i / 64) 0) (i % 64) (omega arith) set' in
    let sums = sum_by-set (λ (x : ℕ). x) words (i / 64) (cleared (get_or words (i / 64) 0) (i % 64)) 0 l in
    omega arith
