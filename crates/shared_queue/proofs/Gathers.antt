-- What arrivals make of the shared run list.
use Rattle.std.proofs.Common.{◌≡◌, ◌≢◌, ℕ, ◌+◌, ◌/◌, ◌%◌, ◌^◌, ◌≤◌, Bool, true, false, not, eqb, List, [], ◌∷◌, ◌++◌, Option, None, Some, refl, sym, ap, subst, ◌∙◌, inl, inr, arith, append-nil, eq-eqb}
use Rattle.std.specs.Prelude.{ℤ, ◌||◌, if◌then◌else◌, IfSome, bit_and}
use Rattle.std.specs.Int.{bit_at}
use Rattle.std.specs.List.{filter, fold, list_any, range_with_len}
use Rattle.std.specs.Option.{is_some}
use Rattle.std.proofs.lemmas.Bool.{cases_Bool, cases_eq, ne_eqb, false≢true}
use Rattle.std.proofs.lemmas.Nat.Bits.{shr_and_one}
use Rattle.std.proofs.lemmas.List.{map-id}
use Rattle.std.proofs.lemmas.List.FromFn.{map-range_with_len_more}
use Rattle.std.proofs.lemmas.List.Elements.{filter-append}
use Rattle.std.proofs.lemmas.List.Sums.{fold-append}
use Rattle.sched_base.specs.KeyedList.{KeyedRoots, inserted, StandsIn}
use Rattle.queue_model.specs.RunList.{RunItem, RunList, arrived, is_listed, gathered}
use Rattle.run_queue.specs.Runners.{Runners, entry_of, run_list, Fits}
use Rattle.run_queue.proofs.Meaning.{free_task}
use Rattle.wake_board.specs.Rows.{WordRow, box_word}
use Rattle.shared_queue.specs.Sharing.{Sharing, shared_list, Moves}
use Rattle.shared_queue.specs.Dealing.{is_boxed, boxed_below, AreBoxed, nice_in}
use Rattle.shared_queue.proofs.Moved.{moves_none, moves_more}

any-inserted : (p s : RunItem → Bool) (x : RunItem) (xs : List RunItem) → p x ≡ false → list_any p (inserted s x xs) ≡ list_any p xs
any-inserted p s x [] h = rw h refl
any-inserted p s x (y ∷ ys) h =
    elim (cases_Bool (s y)) [ inl k ↦ rw k (ap (λ (b : Bool). p y || b) (any-inserted p s x ys h)) | inr k ↦ rw (k, h) refl ]

-- the arrival of one task leaves whether another one waits
pub listed_arrived : (depth i j : ℕ) (nice : ℤ) (l : RunList) → i ≢ j → is_listed j (arrived depth i nice l) ≡ is_listed j l
listed_arrived depth i j nice l ne =
    any-inserted (λ (y : RunItem). eqb y.task j) _ _ l.items (ne_eqb i j ne)

-- ---- one more task

range_more : (n : ℕ) → range_with_len 0 (n + 1) ≡ range_with_len 0 n ++ n ∷ []
range_more n =
    sym (map-id (range_with_len 0 (n + 1))) ∙ (map-range_with_len_more (λ (x : ℕ). x) 0 n n (omega arith) ∙ ap (λ (xs : List ℕ). xs ++ n ∷ []) (map-id (range_with_len 0 n)))

boxed_more : (ws : WordRow) (n : ℕ) → boxed_below (n + 1) ws ≡ boxed_below n ws ++ filter (is_boxed ws) (n ∷ [])
boxed_more ws n =
    ap (filter (is_boxed ws)) (range_more n) ∙ filter-append (is_boxed ws) (range_with_len 0 n) (n ∷ [])

pub gathered_less : (depth n : ℕ) (nice : ℕ → ℤ) (ws : WordRow) (l : RunList) → is_boxed ws n ≡ false → gathered depth nice (boxed_below (n + 1) ws) l ≡ gathered depth nice (boxed_below n ws) l
gathered_less depth n nice ws l out =
    let none : filter (is_boxed ws) (n ∷ []) ≡ [] = rw out refl in
    ap (λ (ids : List ℕ). gathered depth nice ids l) (boxed_more ws n ∙ (ap (λ (xs : List ℕ). boxed_below n ws ++ xs) none ∙ append-nil (boxed_below n ws)))

-- a run list into which a task comes where it does not wait there
abbrev pub joined : ℕ → ℕ → ℤ → RunList → RunList
joined depth i nice l = if is_listed i l then l else arrived depth i nice l

pub gathered_more : (depth n : ℕ) (nice : ℕ → ℤ) (ws : WordRow) (l : RunList) → is_boxed ws n ≡ true → is_listed n (gathered depth nice (boxed_below n ws) l) ≡ is_listed n l → gathered depth nice (boxed_below (n + 1) ws) l ≡ joined depth n (nice n) (gathered depth nice (boxed_below n ws) l)
gathered_more depth n nice ws l «in» same =
    let waits : ℕ → Bool = λ i. not (is_listed i l) in
    let step : RunList → ℕ → RunList = λ m i. arrived depth i (nice i) m in
    let bs : List ℕ = boxed_below n ws in
    let one : filter (is_boxed ws) (n ∷ []) ≡ n ∷ [] = rw «in» refl in
    let ids : boxed_below (n + 1) ws ≡ bs ++ n ∷ [] = boxed_more ws n ∙ ap (λ (xs : List ℕ). bs ++ xs) one in
    let whole : gathered depth nice (boxed_below (n + 1) ws) l ≡ fold step (fold step l (filter waits bs)) (filter waits (n ∷ [])) =
    ap (λ (xs : List ℕ). gathered depth nice xs l) ids ∙ (ap (fold step l) (filter-append waits bs (n ∷ [])) ∙ fold-append step l (filter waits bs) (filter waits (n ∷ []))) in
    elim (cases_Bool (is_listed n l)) [
      | inl k ↦ whole ∙ (let none : filter waits (n ∷ []) ≡ [] = rw k refl in ap (fold step (fold step l (filter waits bs))) none ∙ sym (cond_true (is_listed n (gathered depth nice bs l)) (gathered depth nice bs l) (step (gathered depth nice bs l) n) (same ∙ k)))
      | inr k ↦ whole ∙ (let some' : filter waits (n ∷ []) ≡ n ∷ [] = rw k refl in ap (fold step (fold step l (filter waits bs))) some' ∙ sym (cond_false (is_listed n (gathered depth nice bs l)) (gathered depth nice bs l) (step (gathered depth nice bs l) n) (same ∙ k)))
    ]
  where
    cond_true : (b : Bool) (x y : RunList) → b ≡ true → (if b then x else y) ≡ x
    cond_true b x y e = rw e refl

    cond_false : (b : Bool) (x y : RunList) → b ≡ false → (if b then x else y) ≡ y
    cond_false b x y e = rw e refl

pub joined_same : (depth i : ℕ) (nice : ℤ) (l : RunList) → is_listed i l ≡ true → l ≡ joined depth i nice l
joined_same depth i nice l e = rw e refl

pub joined_new : (depth i : ℕ) (nice : ℤ) (l : RunList) → is_listed i l ≡ false → arrived depth i nice l ≡ joined depth i nice l
joined_new depth i nice l e = rw e refl

-- the count rises by one at most
pub joined_count : (depth i : ℕ) (nice : ℤ) (l : RunList) → (joined depth i nice l).count ≤ l.count + 1
joined_count depth i nice l =
    elim (cases_Bool (is_listed i l)) [ inl k ↦ rw k (omega arith) | inr k ↦ rw k (omega arith) ]

-- each task is still in the shared box after one of it came
pub joined_boxed : (depth i : ℕ) (nice : ℤ) (l : RunList) (ws : WordRow) → is_boxed ws i ≡ true → AreBoxed l ws → AreBoxed (joined depth i nice l) ws
joined_boxed depth i nice l ws there all j waits =
    elim (cases_Bool (is_listed i l)) [
      | inl k ↦ all j (rw k at waits)
      | inr k ↦ elim (cases_eq i j) [
        | inl same ↦ subst (λ (x : ℕ). is_boxed ws x ≡ true) same there
        | inr ne ↦ all j (sym (listed_arrived depth i j nice l ne) ∙ arrives k)
      ]
    ]
  where
    arrives : is_listed i l ≡ false → is_listed j (arrived depth i nice l) ≡ true
    arrives k = ap (is_listed j) (joined_new depth i nice l k) ∙ waits

-- whether later tasks wait stays
pub later_joined : (depth n : ℕ) (nice : ℤ) (l m : RunList) → ((j : ℕ) → n ≤ j → is_listed j m ≡ is_listed j l) → (j : ℕ) → n + 1 ≤ j → is_listed j (joined depth n nice m) ≡ is_listed j l
later_joined depth n nice l m later j le =
    elim (cases_Bool (is_listed n m)) [
      | inl k ↦ rw k (later j (omega arith))
      | inr k ↦ rw k (listed_arrived depth n j nice m (omega arith) ∙ later j (omega arith))
    ]

-- ---- by the lists

-- a task waits where its entry stands in a root
pub listed_there : (i root : ℕ) (q : Runners) (s : KeyedRoots) → Fits q s → StandsIn root (entry_of i) s → is_listed i (run_list q s) ≡ true
listed_there i root q s f there =
    elim (cases_Bool (is_listed i (run_list q s))) [
      | inl k ↦ k
      | inr k ↦ absurd (false≢true (sym (free_task i q s f k root there.exists) ∙ there.held))
    ]

pub some_there : (P : ℕ → Type 0) (r : Option ℕ) → is_some r ≡ true → IfSome r P → (x : ℕ) × P x
some_there P None h k = cc
some_there P (Some x) h k = (x, k)

-- ---- the gathering as far as it has come

-- the tasks below n that are in the shared box are gathered
pub record AreGathered (nice : List ℤ) (ws : WordRow) (n : ℕ) (old new : Sharing) : Type 0 where
  pub list : shared_list new ≡ gathered old.queue.depth (nice_in nice) (boxed_below n ws) (shared_list old)
  pub later : (j : ℕ) → n ≤ j → is_listed j (shared_list new) ≡ is_listed j (shared_list old)
  pub few : new.queue.count ≤ old.queue.count + n
  pub boxed : AreBoxed (shared_list old) ws → AreBoxed (shared_list new) ws
  pub moves : Moves old new

pub gathers_none : (nice : List ℤ) (ws : WordRow) (q : Sharing) → AreGathered nice ws 0 q q
gathers_none nice ws q = record {
  list = refl;
  later = λ j l. refl;
  few = omega arith;
  boxed = λ all. all;
  moves = moves_none q;
}

-- a task that is not in the box
pub gathers_past : (nice : List ℤ) (ws : WordRow) (n : ℕ) (old new : Sharing) → is_boxed ws n ≡ false → AreGathered nice ws n old new → AreGathered nice ws (n + 1) old new
gathers_past nice ws n old new out r =
    let few = r.few in
    record {
      list = r.list ∙ sym (gathered_less old.queue.depth n (nice_in nice) ws (shared_list old) out);
      later = λ j l. r.later j (omega arith);
      few = omega arith;
      boxed = r.boxed;
      moves = r.moves;
    }

-- a task that is
pub gathers_more : (nice : List ℤ) (ws : WordRow) (n : ℕ) (old mid new : Sharing) → is_boxed ws n ≡ true → AreGathered nice ws n old mid → shared_list new ≡ joined mid.queue.depth n (nice_in nice n) (shared_list mid) → Moves mid new → AreGathered nice ws (n + 1) old new
gathers_more nice ws n old mid new there r list moved =
    let depth : ℕ = old.queue.depth in
    let before : RunList = gathered depth (nice_in nice) (boxed_below n ws) (shared_list old) in
    let by_depth : shared_list new ≡ joined depth n (nice_in nice n) (shared_list mid) = list ∙ ap (λ (d : ℕ). joined d n (nice_in nice n) (shared_list mid)) r.moves.depth in
    let same : is_listed n before ≡ is_listed n (shared_list old) = ap (is_listed n) (sym r.list) ∙ r.later n (omega arith) in
    let count : new.queue.count ≤ mid.queue.count + 1 = subst (λ (l : RunList). l.count ≤ mid.queue.count + 1) (sym by_depth) (joined_count depth n (nice_in nice n) (shared_list mid)) in
    let few = r.few in
    record {
      list = by_depth ∙ (ap (joined depth n (nice_in nice n)) r.list ∙ sym (gathered_more depth n (nice_in nice) ws (shared_list old) there same));
      later = λ j l. ap (is_listed j) by_depth ∙ later_joined depth n (nice_in nice n) (shared_list old) (shared_list mid) r.later j l;
      few = omega arith;
      boxed = λ all. subst (λ (l : RunList). AreBoxed l ws) (sym by_depth) (joined_boxed depth n (nice_in nice n) (shared_list mid) ws there (r.boxed all));
      moves = moves_more old mid new r.moves moved;
    }

-- the test of a task's bit
pub boxed_by : (ws : WordRow) (i word workers : ℕ) → word ≡ box_word ws workers (i / 64) → workers ≡ ws.workers → bit_and (word / 2 ^ (i % 64)) 1 ≡ 1 → is_boxed ws i ≡ true
boxed_by ws i word workers is own e =
    eq-eqb (bit_at (box_word ws ws.workers (i / 64)) (i % 64)) 1 (ap (λ (x : ℕ). bit_at x (i % 64)) (ap (λ (w : ℕ). box_word ws w (i / 64)) (sym own) ∙ sym is) ∙ (sym (shr_and_one word (i % 64)) ∙ e))

pub unboxed_by : (ws : WordRow) (i word workers : ℕ) → word ≡ box_word ws workers (i / 64) → workers ≡ ws.workers → (bit_and (word / 2 ^ (i % 64)) 1 ≡ 1 → ⊥) → is_boxed ws i ≡ false
unboxed_by ws i word workers is own ne =
    ne_eqb (bit_at (box_word ws ws.workers (i / 64)) (i % 64)) 1 (λ e. ne (shr_and_one word (i % 64) ∙ (ap (λ (x : ℕ). bit_at x (i % 64)) (is ∙ ap (λ (w : ℕ). box_word ws w (i / 64)) own) ∙ e)))
