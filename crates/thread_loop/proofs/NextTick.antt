-- The tick of the next round.
use Rattle.std.proofs.Common.{◌≡◌, ℕ, ◌+◌, ◌%◌, ◌^◌, ◌<◌, ◌≤◌, ◌==◌, ◌&&◌, Bool, true, false, not, if◌then◌else◌, List, [], ◌∷◌, ◌++◌, map, take, filter, fold, length, get_or, Option, None, Some, refl, sym, ap, ◌∙◌, arith, inl, inr, ne_eqb, append_assoc}
use Rattle.std.specs.List.{flat_map, list_any}
use Rattle.std.specs.Option.{unwrap_or}
use Rattle.std.proofs.lemmas.Bool.{cases_Bool}
use Rattle.std.proofs.lemmas.List.{append-nil, length-map, take_all, take_more}
use Rattle.queue_model.specs.WaitList.{WaitItem}
use Rattle.step_tables.specs.declared.tables.Event.{Event}
use Rattle.step_tables.specs.declared.tables.Script.{Script}
use Rattle.run_model.specs.Book.{Book}
use Rattle.run_model.specs.Standing.{Standing, first_key, first_keys, earlier_of, earliest, has_event, is_still, jumps, next_tick}
use Rattle.run_model.specs.Tables.{actions_in}
use Rattle.run_model.specs.Versions.{is_second}
use Rattle.wait_queue.specs.Timers as timers
use Rattle.thread_loop.specs.Events.{actions_all}
use Rattle.thread_loop.specs.Idle.{book_now}
use Rattle.thread_loop.specs.declared.worker.Worker.{Worker}
use Rattle.thread_loop.specs.Plants.{jump_of, earlier_in}

-- ---- the first timer of all

fold-push : (T x k : ℕ) (xs : List ℕ) → fold (earlier_of T) x (xs ++ k ∷ []) ≡ earlier_of T (fold (earlier_of T) x xs) k
fold-push T x k [] = refl
fold-push T x k (y ∷ ys) = fold-push T (earlier_of T x y) k ys

earliest-push : (T k : ℕ) (xs : List ℕ) → earliest T (xs ++ k ∷ []) ≡ earlier_in T (earliest T xs) (Some k)
earliest-push T k [] = refl
earliest-push T k (x ∷ xs) = ap Some (fold-push T x k xs)

earlier-none : (T : ℕ) (o : Option ℕ) → earlier_in T o None ≡ o
earlier-none T None = refl
earlier-none T (Some t) = refl

earliest-more : (T : ℕ) (xs : List ℕ) (items : List WaitItem) → earliest T (xs ++ map (λ y. y.key) (take 1 items)) ≡ earlier_in T (earliest T xs) (timers.first_key items)
earliest-more T xs [] = ap (earliest T) (append-nil xs) ∙ sym (earlier-none T (earliest T xs))
earliest-more T xs (y ∷ ys) = earliest-push T y.key xs

flat-append : (bs cs : List Book) → flat_map first_key (bs ++ cs) ≡ flat_map first_key bs ++ flat_map first_key cs
flat-append [] cs = refl
flat-append (b ∷ bs) cs = ap (λ ks. first_key b ++ ks) (flat-append bs cs) ∙ sym (append_assoc (first_key b) (flat_map first_key bs) (flat_map first_key cs))

-- one book more
pub earliest-book : (T : ℕ) (bs : List Book) (b : Book) (first key : Option ℕ) → first ≡ earliest T (flat_map first_key bs) → key ≡ timers.first_key b.wait.items → earlier_in T first key ≡ earliest T (flat_map first_key (bs ++ b ∷ []))
earliest-book T bs b first key h k =
    ap (λ o. earlier_in T o key) h
    ∙ ap (λ o. earlier_in T (earliest T (flat_map first_key bs)) o) k
    ∙ sym (earliest-more T (flat_map first_key bs) b.wait.items)
    ∙ ap (λ ks. earliest T (flat_map first_key bs ++ ks)) (sym (append-nil (first_key b)))
    ∙ ap (earliest T) (sym (flat-append bs (b ∷ [])))

-- the same of workers
books_push : (ws : List Worker) (w : Worker) → map book_now (ws ++ w ∷ []) ≡ map book_now ws ++ book_now w ∷ []
books_push [] w = refl
books_push (v ∷ ws) w = ap (λ bs. book_now v ∷ bs) (books_push ws w)

pub first-more : (T i : ℕ) (ws : List Worker) (w : Worker) (first key next : Option ℕ) → i < length ws → w ≡ get_or ws i w → first ≡ earliest T (flat_map first_key (map book_now (take i ws))) → key ≡ timers.first_key (book_now w).wait.items → next ≡ earlier_in T first key → next ≡ earliest T (flat_map first_key (map book_now (take (i + 1) ws)))
first-more T i ws w first key next lt is far keys moves =
    let front : take (i + 1) ws ≡ take i ws ++ w ∷ [] = take_more ws i w lt ∙ ap (λ (v : Worker). take i ws ++ v ∷ []) (sym is) in
    moves
    ∙ earliest-book T (map book_now (take i ws)) (book_now w) first key far keys
    ∙ ap (λ bs. earliest T (flat_map first_key bs)) (sym (books_push (take i ws) w))
    ∙ ap (λ (vs : List Worker). earliest T (flat_map first_key (map book_now vs))) (sym front)

pub first-all : (T i : ℕ) (ws : List Worker) (first : Option ℕ) → length ws ≤ i → first ≡ earliest T (flat_map first_key (map book_now (take i ws))) → first ≡ earliest T (flat_map first_key (map book_now ws))
first-all T i ws first le far = far ∙ ap (λ (vs : List Worker). earliest T (flat_map first_key (map book_now vs))) (take_all i ws le)

-- ---- events

any-filter : (p : Event → Bool) (es : List Event) → not (length (filter p es) == 0) ≡ list_any p es
any-filter p [] = refl
any-filter p (e ∷ es) =
    elim (cases_Bool (p e)) [
      | inl k ↦ rw (k, ne_eqb (length (e ∷ filter p es)) 0 (λ z. omega arith)) refl
      | inr k ↦ rw k (any-filter p es)
    ]

pub event-by : (s : Script) (n : ℕ) (es : List Event) → actions_all es ≡ actions_in s n → not (length es == 0) ≡ has_event s n
event-by s n es h =
    let long : length es ≡ length (filter (λ (e : Event). e.round == n) s.events) = sym (length-map es (λ (e : Event). e.action)) ∙ ap length h ∙ length-map (filter (λ (e : Event). e.round == n) s.events) (λ (e : Event). e.action) in
    ap (λ k. not (k == 0)) long ∙ any-filter (λ (e : Event). e.round == n) s.events

-- ---- the jump

pub jump_first : (s : Script) (r T : ℕ) (st : Standing) → is_second s ≡ false → None ≡ jump_of s r T st
jump_first s r T st h = rw h refl

pub jump_event : (s : Script) (r T : ℕ) (st : Standing) → has_event s (r + 1) ≡ true → None ≡ jump_of s r T st
jump_event s r T st h = by (is_second s) (is_still st) (has_event s (r + 1)) h
  where
    by : (a b e : Bool) → e ≡ true → None ≡ (if a && (b && not e) then earliest T (first_keys st) else None)
    by true true true h = refl
    by true false true h = refl
    by false b true h = refl
    by a b false h = cc

pub jump_busy : (s : Script) (r T : ℕ) (st : Standing) → is_still st ≡ false → None ≡ jump_of s r T st
jump_busy s r T st h = by (is_second s) (is_still st) (has_event s (r + 1)) h
  where
    by : (a b e : Bool) → b ≡ false → None ≡ (if a && (b && not e) then earliest T (first_keys st) else None)
    by true false e h = refl
    by false b e h = refl
    by true true e h = cc

pub jump_none : (s : Script) (r T : ℕ) (st : Standing) → earliest T (first_keys st) ≡ None → None ≡ jump_of s r T st
jump_none s r T st h = by (jumps s r st)
  where
    by : (b : Bool) → None ≡ (if b then earliest T (first_keys st) else None)
    by true = sym h
    by false = refl

pub jump_some : (s : Script) (r T : ℕ) (st : Standing) → is_second s ≡ true → has_event s (r + 1) ≡ false → is_still st ≡ true → earliest T (first_keys st) ≡ jump_of s r T st
jump_some s r T st second none still = rw (second, none, still) refl

pub next_jump : (s : Script) (r T t : ℕ) (st : Standing) → Some t ≡ jump_of s r T st → t ≡ next_tick s r T st
next_jump s r T t st h = ap (λ o. unwrap_or o ((T + s.step) % 2 ^ 32)) h

pub next_step : (s : Script) (r T : ℕ) (st : Standing) → None ≡ jump_of s r T st → (T + s.step) % 2 ^ 32 ≡ next_tick s r T st
next_step s r T st h = ap (λ o. unwrap_or o ((T + s.step) % 2 ^ 32)) h
