-- Insertions and deletions keep a root keyed.
use Rattle.std.proofs.Common.{◌≡◌, ℕ, ◌<◌, true, false, not, leb, length, refl, sym, ap, subst, ◌∙◌, inl, inr}
use Rattle.std.proofs.lemmas.Bool.{cases_Bool, cases_eq, false≢true}
use Rattle.std.proofs.lemmas.List.{get_or-set_same, get_or-set_other, length-set}
use Rattle.sched_base.specs.KeyedList.{KeyedItem, KeyedList, KeyedRoots, IsKeyed, AreKeyed, StandsIn, holds, is_entry, with_entry, without_entry, deleted_from, root_at, with_root, blank}
use Rattle.sched_base.proofs.Inserted.{rising-inserted, rising-filter}
use Rattle.sched_base.proofs.Once.{once-inserted, once-filter, held-filter}

pub keyed-inserted : (key entry : ℕ) (l : KeyedList) → IsKeyed l → holds entry l ≡ false → IsKeyed (with_entry key entry l)
keyed-inserted key entry l keyed free = record {
  rising = rising-inserted key (record { key = key; entry = entry }) l.items refl keyed.rising;
  once = once-inserted (λ (y : KeyedItem). leb y.key key) (record { key = key; entry = entry }) l.items free keyed.once;
}

pub keyed-deleted : (entry : ℕ) (l : KeyedList) → IsKeyed l → IsKeyed (without_entry entry l)
keyed-deleted entry l keyed = record {
  rising = rising-filter (λ (y : KeyedItem). not (is_entry entry y)) l.items keyed.rising;
  once = once-filter (λ (y : KeyedItem). not (is_entry entry y)) l.items keyed.once;
}

-- ---- all roots

-- the list of the root that changed
pub at_root : (root : ℕ) (l : KeyedList) (s : KeyedRoots) → root < length s.roots → root_at root (with_root root l s) ≡ l
at_root root l s lt = get_or-set_same s.roots root l blank lt

-- and of another one
pub at_other : (root other : ℕ) (l : KeyedList) (s : KeyedRoots) → (other ≡ root → ⊥) → root_at other (with_root root l s) ≡ root_at other s
at_other root other l s ne = get_or-set_other s.roots root other l blank ne

pub keyed_roots-deleted : (root entry : ℕ) (s : KeyedRoots) → root < length s.roots → AreKeyed s → AreKeyed (deleted_from root entry s)
keyed_roots-deleted root entry s exists k =
    let l : KeyedList = without_entry entry (root_at root s) in
    let long : length (with_root root l s).roots ≡ length s.roots = length-set s.roots root l in
    let stood : (e r : ℕ) → StandsIn r e (with_root root l s) → StandsIn r e s = λ e r h.
    let lt : r < length s.roots = subst (λ n. r < n) long h.exists in
    elim (cases_eq r root) [
      | inl same ↦ record { exists = lt; held = held-gone e r lt (ap (λ q. holds e (root_at q (with_root root l s))) (sym same) ∙ h.held) same }
      | inr ne ↦ record { exists = lt; held = ap (holds e) (sym (at_other root r l s ne)) ∙ h.held }
    ] in
    record {
      keyed = λ r lt. elim (cases_eq r root) [
        | inl same ↦ rw (same, at_root root l s exists) (keyed-deleted entry (root_at root s) (k.keyed root exists))
        | inr ne ↦ rw (at_other root r l s ne) (k.keyed r (subst (λ n. r < n) long lt))
      ];
      one = λ e r q h g. k.one e r q (stood e r h) (stood e q g);
    }
  where
    held-gone : (e r : ℕ) → r < length s.roots → holds e (root_at root (with_root root (without_entry entry (root_at root s)) s)) ≡ true → r ≡ root → holds e (root_at r s) ≡ true
    held-gone e r lt h same =
        elim (cases_Bool (holds e (root_at r s))) [
          | inl t ↦ t
          | inr f ↦
              let none : holds e (root_at root s) ≡ false = ap (λ q. holds e (root_at q s)) (sym same) ∙ f in
              absurd (false≢true (sym (held-filter (is_entry e) (λ (y : KeyedItem). not (is_entry entry y)) (root_at root s).items none) ∙ sym (ap (holds e) (at_root root (without_entry entry (root_at root s)) s exists)) ∙ h))
        ]
