-- Whether a run is over: no timer is left, and all tasks rest or are gone.
use Rattle.std.proofs.Common.{◌≡◌, ℕ, zero, suc, ◌+◌, ◌-◌, ◌<◌, ◌≤◌, ◌==◌, Bool, true, false, List, [], ◌∷◌, map, length, get_or, Option, is_some, refl, sym, ap, ◌∙◌, arith, inl, inr, eq-eqb, ne_eqb}
use Rattle.std.specs.List.{list_all}
use Rattle.std.proofs.lemmas.Bool.{cases_Bool, cases_eq}
use Rattle.std.proofs.lemmas.List.{length-map, get_or-map, get_or_default}
use Rattle.run_model.specs.Book.{Book}
use Rattle.queue_model.specs.WaitList.{WaitItem}
use Rattle.wait_queue.specs.Timers.{first_key}
use Rattle.thread_loop.specs.Idle.{book_now}
use Rattle.thread_loop.specs.declared.worker.Worker.{Worker}

-- a test of all items, by place
pub all_hold : {X : Type 0} (p : X → Bool) (xs : List X) (d : X) → ((k : ℕ) → k < length xs → p (get_or xs k d) ≡ true) → list_all p xs ≡ true
all_hold p [] d h = refl
all_hold p (x ∷ xs) d h =
    let here : p x ≡ true = h 0 (omega arith) in
    rw here (all_hold p xs d (λ k lt. h (suc k) (omega arith)))

pub one_fails : {X : Type 0} (p : X → Bool) (xs : List X) (d : X) (k : ℕ) → k < length xs → p (get_or xs k d) ≡ false → list_all p xs ≡ false
one_fails p [] d k lt h = absurd (omega arith)
one_fails p (x ∷ xs) d zero lt h = rw h refl
one_fails p (x ∷ xs) d (suc k) lt h =
    elim (cases_Bool (p x)) [
      | inl holds ↦ rw holds (one_fails p xs d k (omega arith) h)
      | inr fails ↦ rw fails refl
    ]

-- ---- timers

keys_some : (items : List WaitItem) → is_some (first_key items) ≡ true → (length items == 0) ≡ false
keys_some [] h = cc
keys_some (y ∷ ys) h = ne_eqb (length (y ∷ ys)) 0 (λ e. omega arith)

keys_none : (items : List WaitItem) → is_some (first_key items) ≡ false → length items ≡ 0
keys_none [] h = refl
keys_none (y ∷ ys) h = cc

-- whether a book has no timer
abbrev pub is_untimed : Book → Bool
is_untimed b = length b.wait.items == 0

-- worker k has a timer
pub timer_left : (ws : List Worker) (k : ℕ) (w : Worker) (o : Option ℕ) → k < length ws → w ≡ get_or ws k w → o ≡ first_key (book_now w).wait.items → is_some o ≡ true → list_all is_untimed (map book_now ws) ≡ false
timer_left ws k w o lt is keys some =
    let at : get_or (map book_now ws) k (book_now w) ≡ book_now w = get_or-map book_now ws k w (book_now w) lt ∙ ap book_now (sym is) in
    let has = keys_some (book_now w).wait.items (ap is_some (sym keys) ∙ some) in
    one_fails is_untimed (map book_now ws) (book_now w) k (omega (arith, length-map ws book_now)) (ap is_untimed at ∙ has)

-- and one that has none
pub untimed_more : (ws : List Worker) (n : ℕ) (w : Worker) (o : Option ℕ) → ((k : ℕ) (d : Worker) → k < n → length (book_now (get_or ws k d)).wait.items ≡ 0) → n < length ws → w ≡ get_or ws n w → o ≡ first_key (book_now w).wait.items → is_some o ≡ false → (k : ℕ) (d : Worker) → k < n + 1 → length (book_now (get_or ws k d)).wait.items ≡ 0
untimed_more ws n w o h lt is keys none k d below =
    elim (cases_eq k n) [
      | inl e ↦ (let at : get_or ws k d ≡ w = ap (λ (j : ℕ). get_or ws j d) e ∙ get_or_default ws n d w lt ∙ sym is in
          ap (λ (v : Worker). length (book_now v).wait.items) at ∙ keys_none (book_now w).wait.items (ap is_some (sym keys) ∙ none))
      | inr differs ↦ h k d (omega arith)
    ]

pub untimed_all : (ws : List Worker) (n : ℕ) → ((k : ℕ) (d : Worker) → k < n → length (book_now (get_or ws k d)).wait.items ≡ 0) → length ws ≤ n → list_all is_untimed (map book_now ws) ≡ true
untimed_all [] n h le = refl
untimed_all (w ∷ ws) n h le =
    let here : is_untimed (book_now w) ≡ true = eq-eqb (length (book_now w).wait.items) 0 (h 0 w (omega arith)) in
    rw here (untimed_all ws (n - 1) (λ k d lt. h (suc k) d (omega arith)) (omega arith))

-- ---- all three
