-- A line without a fault is made of words.
use Rattle.std.proofs.Common.{◌≡◌, ℕ, Bool, true, false, cond, List, [], ◌∷◌, ◌++◌, refl, ap, sym, ◌∙◌, append_assoc, append-nil}
use Rattle.std.specs.Prelude.{Option, Some, None, option_map, is_none, not, ◌==◌, codes, flat_map, pos}
use Rattle.std.proofs.lemmas.Bool.{and_from, or_parts, eqb-true}
use Rattle.step_tables.specs.declared.progress.Progress.{Progress}
use Rattle.step_tables.specs.Words.{Word, ◌>>=◌, is_empty, number_of}
use Rattle.text_lines.specs.Numbers.{below_zero, signed}
use Rattle.step_tables.specs.Shapes.{Order, wakes, kills, Delay, keeps, after, never, Place, pinned, shared, tasklet, Said, sets, task, row, event, ends}
use Rattle.step_tables.specs.Text.{order_words, delay_words, init_words, place_words, task_word, said_words}
use Rattle.step_tables.specs.Judging.{value, no_number, no_signed, place_no_number, delay_no_number, first_fault, tests}
use Rattle.step_tables.proofs.RowsOf.{second_of_both}
use Rattle.step_tables.proofs.Back.{IsOrder, AreOrders, IsBody}
use Rattle.step_tables.proofs.Good.{good_task, good_row, good_event}
use Rattle.step_tables.proofs.WordsBack.{value_back, value_small}
use Rattle.step_tables.proofs.WordsAgain.{is_word, are_words, number_is_word, name_is_word, reasons_is_word, class_is_word}

number_fine : (w : Word) → no_number w ≡ false → is_word w ≡ true
number_fine w e = ap is_word (value_back w e) ∙ number_is_word (value w) (value_small w e)

signed_fine : (w : Word) → no_signed w ≡ false → is_word w ≡ true
unfolding no_signed signed no_number
signed_fine [] e = absurd (cc)
signed_fine (c ∷ ds) e = go (c == 45) refl e
  where
    below : (o : Option ℕ) → number_of ds ≡ o → is_none (o >>= below_zero) ≡ false → is_none (number_of ds) ≡ false
    below None h k = absurd (cc)
    below (Some n) h k = ap is_none h

    above : (o : Option ℕ) → number_of (c ∷ ds) ≡ o → is_none (option_map pos o) ≡ false → is_none (number_of (c ∷ ds)) ≡ false
    above None h k = absurd (cc)
    above (Some n) h k = ap is_none h

    go : (b : Bool) → (c == 45) ≡ b → is_none (cond b (number_of ds >>= below_zero) (option_map pos (number_of (c ∷ ds)))) ≡ false → is_word (c ∷ ds) ≡ true
    go true h k = ap (λ a. is_word (a ∷ ds)) (eqb-true c 45 h) ∙ second_of_both (not (is_empty ds)) _ (number_fine ds (below (number_of ds) refl k))
    go false h k = number_fine (c ∷ ds) (above (number_of (c ∷ ds)) refl k)

-- each part of a line, in front of words
place_fine : (place : Place) (ws : List Word) → place_no_number place ≡ false → are_words ws ≡ true → are_words (place_words place ++ ws) ≡ true
unfolding place_no_number
place_fine (pinned home nice) ws e more = let (a, b) = or_parts _ _ e in and_from _ _ (number_fine home a) (and_from _ _ (signed_fine nice b) more)
place_fine (shared nice) ws e more = and_from _ _ (signed_fine nice e) more
place_fine (tasklet home class) ws e more = and_from _ _ (number_fine home e) (and_from _ _ (class_is_word class) more)

delay_fine : (delay : Delay) (ws : List Word) → delay_no_number delay ≡ false → are_words ws ≡ true → are_words (delay_words delay ++ ws) ≡ true
unfolding delay_no_number
delay_fine keeps ws e more = more
delay_fine (after w) ws e more = and_from _ _ (number_fine w e) more
delay_fine never ws e more = more

order_fine : (o : Order) (ws : List Word) → IsOrder o → are_words ws ≡ true → are_words (order_words o ++ ws) ≡ true
order_fine (wakes name f) ws is more = and_from _ _ (name_is_word name is.0) (and_from _ _ (reasons_is_word f is.1 is.2) more)
order_fine (kills name) ws is more = and_from _ _ (name_is_word name is) more

orders_fine : (os : List Order) (ws : List Word) → AreOrders os → are_words ws ≡ true → are_words (flat_map order_words os ++ ws) ≡ true
orders_fine [] ws are more = more
orders_fine (o ∷ os) ws are more = ap are_words (append_assoc (order_words o) (flat_map order_words os) ws) ∙ order_fine o (flat_map order_words os ++ ws) are.0 (orders_fine os ws are.1 more)

pub words_fine : (p : Progress) (x : Said) → IsBody x → first_fault (tests p x) ≡ None → are_words (said_words x) ≡ true
words_fine p (sets setting w) body good = absurd body
words_fine p (task line) body good =
    let (place, rows) = or_parts _ _ (good_task p line good).numbers in
    and_from _ _ (first line.place) (and_from _ _ (name_is_word line.name body) (place_fine line.place (codes "rows" ∷ line.rows ∷ init_words line.init) place (and_from _ _ (number_fine line.rows rows) (init line.init))))
  where
    first : (place : Place) → is_word (task_word place) ≡ true
    first (pinned home nice) = refl
    first place = refl

    init : (b : Bool) → are_words (init_words b) ≡ true
    init true = refl
    init false = refl
words_fine p (row line) body good =
    let (number, more) = or_parts _ _ (good_row p line good).numbers in
    let (delay, next) = or_parts _ _ more in
    let last : List Word = codes "next" ∷ line.next ∷ [] in
    and_from _ _ (name_is_word line.name body.0) (and_from _ _ (number_fine line.number number) (orders_fine line.orders (delay_words line.delay ++ last) body.1 (delay_fine line.delay last delay (and_from _ true (number_fine line.next next) refl))))
words_fine p (event line) body good =
    and_from _ _ (number_fine line.round (good_event p line good).number) (ap are_words (sym (append-nil (order_words line.order))) ∙ order_fine line.order [] body refl)
words_fine p ends body good = refl
