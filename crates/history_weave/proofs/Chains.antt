-- A chain of places, when an entry is entered into the index or leaves it.
use Rattle.std.proofs.Common.{◌≡◌, ◌≢◌, ℕ, suc, ◌+◌, ◌<◌, ◌≤◌, Bool, true, false, List, length, get_or, set, sym, ap, ◌∙◌, inl, inr, arith}
use Rattle.std.proofs.lemmas.Bool.{cases_eq}
use Rattle.std.proofs.lemmas.List.{get_or-set_same, get_or-set_other, get_or_default}
use Rattle.task_machine.specs.declared.calls.Entry.{Entry}
use Rattle.task_machine.specs.Logged.{Logged}
use Rattle.history_weave.specs.Places.{entry_at, PlaceTable, place_at, next_place, log_at}
use Rattle.history_weave.specs.Indexed.{IsChain}
use Rattle.history_weave.proofs.NextPlaces.{next_place-here, next_place-skip}

-- entry e stands at place p of log k
pub record Stands (callers : ℕ) (logs : List Logged) (k p : ℕ) (e : Entry) : Type 0 where
  pub caller : k < callers
  pub within : p < length (log_at logs k)
  pub entry : entry_at logs k p e ≡ e

-- the test of row r passes the entry, and no other does; or no test passes it
abbrev pub Passes_one : (ℕ → Entry → Bool) → ℕ → Entry → Type 0
Passes_one f r e = (f r e ≡ true) × ((s : ℕ) → s ≢ r → f s e ≡ false)

abbrev pub Passes_none : (ℕ → Entry → Bool) → Entry → Type 0
Passes_none f e = (s : ℕ) → f s e ≡ false

-- table u is t with this place in a cell
pub record Put (rows callers : ℕ) (t u : PlaceTable) (r k p : ℕ) : Type 0 where
  pub same : place_at u r k ≡ p
  pub others : (s c : ℕ) → s < rows → c < callers → (s ≡ r → c ≡ k → ⊥) → place_at u s c ≡ place_at t s c

-- the link of each other entry stands elsewhere
abbrev pub Links_apart : ℕ → List Logged → List ℕ → ℕ → ℕ → Type 0
Links_apart callers logs starts k p =
    (j q : ℕ) → j < callers → q < length (log_at logs j) → (j ≡ k → q ≡ p → ⊥) → get_or starts j 0 + q ≢ get_or starts k 0 + p

pub entry_any : (callers : ℕ) (logs : List Logged) (k p : ℕ) (e d : Entry) → Stands callers logs k p e → entry_at logs k p d ≡ e
entry_any callers logs k p e d s = get_or_default (log_at logs k) p d e s.within ∙ s.entry

here : (f : Entry → Bool) (callers : ℕ) (logs : List Logged) (k p : ℕ) (e : Entry) → Stands callers logs k p e → f e ≡ true → next_place f (log_at logs k) p ≡ p
here f callers logs k p e s h = next_place-here f (log_at logs k) p e s.within (ap f s.entry ∙ h)

skip : (f : Entry → Bool) (callers : ℕ) (logs : List Logged) (k p : ℕ) (e : Entry) → Stands callers logs k p e → f e ≡ false → next_place f (log_at logs k) p ≡ next_place f (log_at logs k) (suc p)
skip f callers logs k p e s h = next_place-skip f (log_at logs k) p e s.within (ap f s.entry ∙ h)

-- the links that stand behind the entries that are left, when one more is left
linked-enter : (f : ℕ → Entry → Bool) (rows callers : ℕ) (logs : List Logged) (next starts : List ℕ) (t : PlaceTable) (links ls : List ℕ) (k p : ℕ) (e : Entry) → IsChain f rows callers logs next starts t links → Stands callers logs k p e → length next ≡ callers → get_or next k 0 ≡ suc p → ((j q : ℕ) → j < callers → q < length (log_at logs j) → (j ≡ k → q ≡ p → ⊥) → get_or ls (get_or starts j 0 + q) 0 ≡ get_or links (get_or starts j 0 + q) 0) → ((r : ℕ) → r < rows → f r e ≡ true → get_or ls (get_or starts k 0 + p) 0 ≡ next_place (f r) (log_at logs k) (suc p)) → (r j q : ℕ) (d : Entry) → r < rows → j < callers → get_or (set next k p) j 0 ≤ q → q < length (log_at logs j) → f r (entry_at logs j q d) ≡ true → get_or ls (get_or starts j 0 + q) 0 ≡ next_place (f r) (log_at logs j) (suc q)
linked-enter f rows callers logs next starts t links ls k p e c s n m kept here r j q d lr lj from lq hit =
    elim (cases_eq j k) [
      | inl same ↦ elim (cases_eq q p) [
        | inl place ↦
            let lt : p < length (log_at logs k) = s.within in
            let passes : f r e ≡ true = sym (ap (f r) (entry_any callers logs k p e d s)) ∙ (rw (same, place) at hit) in
            rw (same, place) (here r lr passes)
        | inr away ↦
            let first : get_or (set next k p) k 0 ≡ p = get_or-set_same next k p 0 (let l = s.caller in omega arith) in
            let low : get_or (set next k p) k 0 ≤ q = rw same at from in
            let on : get_or next j 0 ≤ q = rw (same, m) (omega arith) in
            kept j q lj lq (λ a b. away b) ∙ c.linked r j q d lr lj on lq hit
      ]
      | inr other ↦
          let on : get_or next j 0 ≤ q = rw (get_or-set_other next k j p 0 other) at from in
          kept j q lj lq (λ a b. other a) ∙ c.linked r j q d lr lj on lq hit
    ]

firsts-other : (f : ℕ → Entry → Bool) (rows callers : ℕ) (logs : List Logged) (next starts : List ℕ) (t : PlaceTable) (links : List ℕ) (k p r j : ℕ) → IsChain f rows callers logs next starts t links → r < rows → j < callers → j ≢ k → place_at t r j ≡ next_place (f r) (log_at logs j) (get_or (set next k p) j 0)
firsts-other f rows callers logs next starts t links k p r j c lr lj other =
    c.firsts r j lr lj ∙ ap (next_place (f r) (log_at logs j)) (sym (get_or-set_other next k j p 0 other))

at_new : (callers : ℕ) (logs : List Logged) (next : List ℕ) (k p : ℕ) (e : Entry) → Stands callers logs k p e → length next ≡ callers → (q : ℕ) → get_or (set next k q) k 0 ≡ q
at_new callers logs next k p e s n q = get_or-set_same next k q 0 (let l = s.caller in omega arith)

-- an entry is entered that a test passes
pub enter-hit : (f : ℕ → Entry → Bool) (rows callers : ℕ) (logs : List Logged) (next starts : List ℕ) (t u : PlaceTable) (links : List ℕ) (k p r : ℕ) (e : Entry) → IsChain f rows callers logs next starts t links → Stands callers logs k p e → length next ≡ callers → get_or next k 0 ≡ suc p → r < rows → Passes_one f r e → Put rows callers t u r k p → Links_apart callers logs starts k p → get_or starts k 0 + p < length links → IsChain f rows callers logs (set next k p) starts u (set links (get_or starts k 0 + p) (place_at t r k))
enter-hit f rows callers logs next starts t u links k p r e c s n m lr one put apart within =
    record {
      firsts = λ i j li lj. elim (cases_eq j k) [
        | inl same ↦ elim (cases_eq i r) [
          | inl row ↦ rw (same, row, at_new callers logs next k p e s n p) (put.same ∙ sym (here (f r) callers logs k p e s one.0))
          | inr away ↦
              rw (same, at_new callers logs next k p e s n p) (put.others i k li s.caller (λ a b. away a) ∙ c.firsts i k li s.caller ∙ ap (next_place (f i) (log_at logs k)) m ∙ sym (skip (f i) callers logs k p e s (one.1 i away)))
        ]
        | inr other ↦
            put.others i j li lj (λ a b. other b) ∙ firsts-other f rows callers logs next starts t links k p i j c li lj other
      ];
      linked = linked-enter f rows callers logs next starts t links (set links (get_or starts k 0 + p) (place_at t r k)) k p e c s n m (λ j q lj lq ne. get_or-set_other links (get_or starts k 0 + p) (get_or starts j 0 + q) (place_at t r k) 0 (apart j q lj lq ne)) (λ i li hit.
          get_or-set_same links (get_or starts k 0 + p) (place_at t r k) 0 within ∙ elim (cases_eq i r) [
            | inl row ↦ rw row (c.firsts r k lr s.caller ∙ ap (next_place (f r) (log_at logs k)) m)
            | inr away ↦ absurd (let miss = one.1 i away in cc)
          ]);
    }

-- an entry is entered that no test passes; its link may be any
pub enter-miss : (f : ℕ → Entry → Bool) (rows callers : ℕ) (logs : List Logged) (next starts : List ℕ) (t : PlaceTable) (links ls : List ℕ) (k p : ℕ) (e : Entry) → IsChain f rows callers logs next starts t links → Stands callers logs k p e → length next ≡ callers → get_or next k 0 ≡ suc p → Passes_none f e → ((j q : ℕ) → j < callers → q < length (log_at logs j) → (j ≡ k → q ≡ p → ⊥) → get_or ls (get_or starts j 0 + q) 0 ≡ get_or links (get_or starts j 0 + q) 0) → IsChain f rows callers logs (set next k p) starts t ls
enter-miss f rows callers logs next starts t links ls k p e c s n m miss kept =
    record {
      firsts = λ i j li lj. elim (cases_eq j k) [
        | inl same ↦
            rw (same, at_new callers logs next k p e s n p) (c.firsts i k li s.caller ∙ ap (next_place (f i) (log_at logs k)) m ∙ sym (skip (f i) callers logs k p e s (miss i)))
        | inr other ↦ firsts-other f rows callers logs next starts t links k p i j c li lj other
      ];
      linked = linked-enter f rows callers logs next starts t links ls k p e c s n m kept (λ i li hit. absurd (let none_passes = miss i in cc));
    }

-- the links of another entry are as they were
pub links_kept : (callers : ℕ) (logs : List Logged) (starts links : List ℕ) (k p v : ℕ) → Links_apart callers logs starts k p → (j q : ℕ) → j < callers → q < length (log_at logs j) → (j ≡ k → q ≡ p → ⊥) → get_or (set links (get_or starts k 0 + p) v) (get_or starts j 0 + q) 0 ≡ get_or links (get_or starts j 0 + q) 0
links_kept callers logs starts links k p v apart j q lj lq ne =
    get_or-set_other links (get_or starts k 0 + p) (get_or starts j 0 + q) v 0 (apart j q lj lq ne)

-- the links that stand behind the entries that are left, when one less is left
linked-leave : (f : ℕ → Entry → Bool) (rows callers : ℕ) (logs : List Logged) (next starts : List ℕ) (t : PlaceTable) (links : List ℕ) (k p : ℕ) (e : Entry) → IsChain f rows callers logs next starts t links → Stands callers logs k p e → length next ≡ callers → get_or next k 0 ≡ p → (r j q : ℕ) (d : Entry) → r < rows → j < callers → get_or (set next k (suc p)) j 0 ≤ q → q < length (log_at logs j) → f r (entry_at logs j q d) ≡ true → get_or links (get_or starts j 0 + q) 0 ≡ next_place (f r) (log_at logs j) (suc q)
linked-leave f rows callers logs next starts t links k p e c s n m r j q d lr lj from lq hit =
    elim (cases_eq j k) [
      | inl same ↦
          let low : get_or (set next k (suc p)) k 0 ≤ q = rw same at from in
          let first = at_new callers logs next k p e s n (suc p) in
          let on : get_or next j 0 ≤ q = rw (same, m) (omega arith) in c.linked r j q d lr lj on lq hit
      | inr other ↦
          let on : get_or next j 0 ≤ q = rw (get_or-set_other next k j (suc p) 0 other) at from in
          c.linked r j q d lr lj on lq hit
    ]

-- an entry leaves that a test passes: its link comes in its place
pub leave-hit : (f : ℕ → Entry → Bool) (rows callers : ℕ) (logs : List Logged) (next starts : List ℕ) (t u : PlaceTable) (links : List ℕ) (k p r : ℕ) (e : Entry) → IsChain f rows callers logs next starts t links → Stands callers logs k p e → length next ≡ callers → get_or next k 0 ≡ p → r < rows → Passes_one f r e → Put rows callers t u r k (get_or links (get_or starts k 0 + p) 0) → IsChain f rows callers logs (set next k (suc p)) starts u links
leave-hit f rows callers logs next starts t u links k p r e c s n m lr one put =
    record {
      firsts = λ i j li lj. elim (cases_eq j k) [
        | inl same ↦ elim (cases_eq i r) [
          | inl row ↦
              rw (same, row, at_new callers logs next k p e s n (suc p)) (put.same ∙ c.linked r k p e lr s.caller (let le : p ≤ p = omega arith in rw m le) s.within (ap (f r) s.entry ∙ one.0))
          | inr away ↦
              rw (same, at_new callers logs next k p e s n (suc p)) (put.others i k li s.caller (λ a b. away a) ∙ c.firsts i k li s.caller ∙ ap (next_place (f i) (log_at logs k)) m ∙ skip (f i) callers logs k p e s (one.1 i away))
        ]
        | inr other ↦
            put.others i j li lj (λ a b. other b) ∙ firsts-other f rows callers logs next starts t links k (suc p) i j c li lj other
      ];
      linked = linked-leave f rows callers logs next starts t links k p e c s n m;
    }

-- an entry leaves that no test passes
pub leave-miss : (f : ℕ → Entry → Bool) (rows callers : ℕ) (logs : List Logged) (next starts : List ℕ) (t : PlaceTable) (links : List ℕ) (k p : ℕ) (e : Entry) → IsChain f rows callers logs next starts t links → Stands callers logs k p e → length next ≡ callers → get_or next k 0 ≡ p → Passes_none f e → IsChain f rows callers logs (set next k (suc p)) starts t links
leave-miss f rows callers logs next starts t links k p e c s n m miss =
    record {
      firsts = λ i j li lj. elim (cases_eq j k) [
        | inl same ↦
            rw (same, at_new callers logs next k p e s n (suc p)) (c.firsts i k li s.caller ∙ ap (next_place (f i) (log_at logs k)) m ∙ skip (f i) callers logs k p e s (miss i))
        | inr other ↦ firsts-other f rows callers logs next starts t links k (suc p) i j c li lj other
      ];
      linked = linked-leave f rows callers logs next starts t links k p e c s n m;
    }
