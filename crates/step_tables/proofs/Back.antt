-- What is read of words is what the words say: from a shape back to its words.
use Rattle.std.proofs.Common.{◌≡◌, ℕ, suc, zero, ◌<◌, Bool, true, List, [], ◌∷◌, ◌++◌, length, refl, ap, sym, ◌∙◌, ⊎_elim, subst, append_assoc, append-nil, arith}
use Rattle.std.specs.Prelude.{Option, Some, None, option_map, flat_map, bytes_eq, codes}
use Rattle.std.proofs.lemmas.Slice.Eq.{bytes_eq-Decides}
use Rattle.step_tables.specs.declared.shapes.Setting.{Setting}
use Rattle.text_lines.specs.Slots.{Slot, Value, of_text, of_reasons, of_index, text_at, reasons_at}
use Rattle.text_lines.specs.Shapes.{front, whole, words, Fits}
use Rattle.text_lines.proofs.Steps.{bind_some, only_some, or_some, map_some, some_same}
use Rattle.text_lines.proofs.FrontBack.{front_back, whole_back}
use Rattle.step_tables.specs.Words.{Word, is_empty, is_name}
use Rattle.step_tables.specs.Shapes.{Order, wakes, kills, Delay, keeps, after, never, TaskLine, Said, sets, task, row, event, ends, setting_slots, pinned_slots, shared_slots, tasklet_slots, init_slots, row_slots, wake_slots, kill_slots, keeps_slots, after_slots, never_slots, event_slots, end_slots, init_at, task_at, pinned_line, shared_line, tasklet_line, task_line, order_at, and_more, orders_at, closing, row_said, event_said, end_said, setting_line, body_line}
use Rattle.step_tables.specs.Text.{order_words, delay_words, init_words, said_words}

-- equal bytes are the same word
pub bytes_same : (v w : Word) → bytes_eq v w ≡ true → v ≡ w
bytes_same v w e = (bytes_eq-Decides v w).0 e

-- an action that a line can have: its task's name is one, and it has reasons
abbrev pub IsOrder : Order → Type 0
IsOrder (wakes name f) = (is_name name ≡ true) × (0 < f) × (f < 128)
IsOrder (kills name) = is_name name ≡ true

-- actions that a line can have
abbrev pub AreOrders : List Order → Type 0
AreOrders [] = Unit {0}
AreOrders (o ∷ os) = IsOrder o × AreOrders os

-- what a line after the settings can say
abbrev pub IsBody : Said → Type 0
IsBody (sets setting w) = ⊥
IsBody (task line) = is_name line.name ≡ true
IsBody (row line) = (is_name line.name ≡ true) × AreOrders line.orders
IsBody (event line) = IsOrder line.order
IsBody ends = Unit {0}

-- what a line says, and its words
abbrev SaidBack : List Word → Said → Type 0
SaidBack ws x = IsBody x × (ws ≡ said_words x)

none_left : {A : Type 0} (xs : List A) → is_empty xs ≡ true → xs ≡ []
none_left [] e = refl
none_left (x ∷ xs) e = absurd (cc)

init_back : (ws : List Word) (b : Bool) → init_at ws ≡ Some b → ws ≡ init_words b
unfolding init_at words
init_back [] b e = ap init_words (some_same e)
init_back (w ∷ ws) b e =
    let (vs, is, same) = map_some (λ vs. true) (whole init_slots (w ∷ ws)) b e in
    (whole_back init_slots (w ∷ ws) vs is).0 ∙ ap init_words same

-- the words of a task's line
abbrev LineBack : List Word → TaskLine → Type 0
LineBack ws line = (is_name line.name ≡ true) × (ws ≡ said_words (task line))

-- what the values of a task's line say
abbrev TaskBack : List Slot → (List Value → Bool → TaskLine) → Type 0
TaskBack slots line = (vs : List Value) (init : Bool) → Fits slots vs → LineBack (words slots vs ++ init_words init) (line vs init)

pinned_back : TaskBack pinned_slots pinned_line
unfolding words
pinned_back (of_text n ∷ of_text h ∷ of_text c ∷ of_text r ∷ []) init fits = (fits.1.0, refl)
pinned_back vs init fits = absurd (assumption fits)

shared_back : TaskBack shared_slots shared_line
unfolding words
shared_back (of_text n ∷ of_text c ∷ of_text r ∷ []) init fits = (fits.1.0, refl)
shared_back vs init fits = absurd (assumption fits)

tasklet_back : TaskBack tasklet_slots tasklet_line
unfolding words
tasklet_back (of_text n ∷ of_text h ∷ of_index zero ∷ of_text r ∷ []) init fits = (fits.1.0, refl)
tasklet_back (of_text n ∷ of_text h ∷ of_index (suc zero) ∷ of_text r ∷ []) init fits = (fits.1.0, refl)
tasklet_back (of_text n ∷ of_text h ∷ of_index (suc (suc zero)) ∷ of_text r ∷ []) init fits = (fits.1.0, refl)
tasklet_back (of_text n ∷ of_text h ∷ of_index (suc (suc (suc zero))) ∷ of_text r ∷ []) init fits = (fits.1.0, refl)
tasklet_back (of_text n ∷ of_text h ∷ of_index (suc (suc (suc (suc i)))) ∷ of_text r ∷ []) init fits = absurd (let few = fits.1.1.1.1.1.0 in omega arith)
tasklet_back vs init fits = absurd (assumption fits)

task_at_back : (slots : List Slot) (line : List Value → Bool → TaskLine) (ws : List Word) (x : TaskLine) → TaskBack slots line → option_map (λ r. line r.0 r.1) (task_at slots ws) ≡ Some x → LineBack ws x
unfolding task_at
task_at_back slots line ws x back e =
    let (r, is, same) = map_some (λ r. line r.0 r.1) (task_at slots ws) x e in
    let (q, found, more) = bind_some (front slots ws) _ r is in
    let (init, init_is, both) = bind_some (init_at q.1) _ r more in
    let (ws_is, fits) = front_back slots ws q found in
    let says = back q.0 init fits in
    subst (LineBack ws) (ap (λ r. line r.0 r.1) (some_same both) ∙ same) (says.0, ws_is ∙ ap (λ rest. words slots q.0 ++ rest) (init_back q.1 init init_is) ∙ says.1)

task_line_back : (ws : List Word) (x : TaskLine) → task_line ws ≡ Some x → LineBack ws x
unfolding task_line
task_line_back ws x e =
    ⊎_elim (task_at_back pinned_slots pinned_line ws x pinned_back)
    (λ h. ⊎_elim (task_at_back shared_slots shared_line ws x shared_back) (task_at_back tasklet_slots tasklet_line ws x tasklet_back) (or_some _ _ x h))
    (or_some _ _ x e)

task_back : (ws : List Word) (x : Said) → option_map task (task_line ws) ≡ Some x → SaidBack ws x
task_back ws x e =
    let (line, is, same) = map_some task (task_line ws) x e in
    subst (SaidBack ws) same (task_line_back ws line is)

-- an action is what its words say
abbrev OrderBack : List Word → Order × List Word → Type 0
OrderBack ws x = IsOrder x.0 × (ws ≡ order_words x.0 ++ x.1)

front_order : (slots : List Slot) (make : List Value → Order) (ws : List Word) (x : Order × List Word) → ((vs : List Value) → Fits slots vs → IsOrder (make vs) × (words slots vs ≡ order_words (make vs)))
    → option_map (λ r. (make r.0, r.1)) (front slots ws) ≡ Some x → OrderBack ws x
front_order slots make ws x back e =
    let (r, is, same) = map_some (λ r. (make r.0, r.1)) (front slots ws) x e in
    let (ws_is, fits) = front_back slots ws r is in
    let says = back r.0 fits in
    subst (OrderBack ws) same (says.0, ws_is ∙ ap (λ front. front ++ r.1) says.1)

pub order_back : (ws : List Word) (x : Order × List Word) → order_at ws ≡ Some x → OrderBack ws x
unfolding order_at words
order_back ws x e = ⊎_elim (front_order wake_slots _ ws x wake) (front_order kill_slots _ ws x kill) (or_some _ _ x e)
  where
    wake : (vs : List Value) → Fits wake_slots vs → IsOrder (wakes (text_at vs 0) (reasons_at vs 1)) × (words wake_slots vs ≡ order_words (wakes (text_at vs 0) (reasons_at vs 1)))
    wake (of_text n ∷ of_reasons f ∷ []) fits = ((fits.1.0, fits.1.1.0.0, fits.1.1.0.1), refl)
    wake vs fits = absurd (assumption fits)

    kill : (vs : List Value) → Fits kill_slots vs → IsOrder (kills (text_at vs 0)) × (words kill_slots vs ≡ order_words (kills (text_at vs 0)))
    kill (of_text n ∷ []) fits = (fits.1.0, refl)
    kill vs fits = absurd (assumption fits)

orders_back : (most : ℕ) (ws : List Word) → AreOrders (orders_at most ws).0 × (ws ≡ flat_map order_words (orders_at most ws).0 ++ (orders_at most ws).1)
unfolding orders_at
orders_back zero ws = (tt, refl)
orders_back (suc most) ws = go (λ rest. orders_back most rest) (order_at ws) refl
  where
    go : ((rest : List Word) → AreOrders (orders_at most rest).0 × (rest ≡ flat_map order_words (orders_at most rest).0 ++ (orders_at most rest).1))
        → (o : Option (Order × List Word)) → order_at ws ≡ o → AreOrders (and_more ws o (orders_at most)).0 × (ws ≡ flat_map order_words (and_more ws o (orders_at most)).0 ++ (and_more ws o (orders_at most)).1)
    go before None e = (tt, refl)
    go before (Some x) e =
        let (is_order, ws_is) = order_back ws x e in
        let (are, rest_is) = before x.1 in
        ((is_order, are), ws_is ∙ ap (λ r. order_words x.0 ++ r) rest_is ∙ sym (append_assoc (order_words x.0) (flat_map order_words (orders_at most x.1).0) (orders_at most x.1).1))

-- the end of a row is what its words say
abbrev ClosingBack : List Word → Delay × Word → Type 0
ClosingBack ws x = ws ≡ delay_words x.0 ++ codes "next" ∷ x.1 ∷ []

whole_closing : (slots : List Slot) (make : List Value → Delay × Word) (ws : List Word) (x : Delay × Word) → ((vs : List Value) → Fits slots vs → ClosingBack (words slots vs) (make vs)) → option_map make (whole slots ws) ≡ Some x → ClosingBack ws x
whole_closing slots make ws x back e =
    let (vs, is, same) = map_some make (whole slots ws) x e in
    let (ws_is, fits) = whole_back slots ws vs is in
    subst (ClosingBack ws) same (ws_is ∙ back vs fits)

closing_back : (ws : List Word) (x : Delay × Word) → closing ws ≡ Some x → ClosingBack ws x
unfolding closing words
closing_back ws x e =
    ⊎_elim (whole_closing keeps_slots _ ws x keep) (λ h. ⊎_elim (whole_closing after_slots _ ws x later) (whole_closing never_slots _ ws x no) (or_some _ _ x h)) (or_some _ _ x e)
  where
    keep : (vs : List Value) → Fits keeps_slots vs → ClosingBack (words keeps_slots vs) (keeps, text_at vs 0)
    keep (of_text n ∷ []) fits = refl
    keep vs fits = absurd (assumption fits)

    later : (vs : List Value) → Fits after_slots vs → ClosingBack (words after_slots vs) (after (text_at vs 0), text_at vs 1)
    later (of_text t ∷ of_text n ∷ []) fits = refl
    later vs fits = absurd (assumption fits)

    no : (vs : List Value) → Fits never_slots vs → ClosingBack (words never_slots vs) (never, text_at vs 0)
    no (of_text n ∷ []) fits = refl
    no vs fits = absurd (assumption fits)

row_back : (ws : List Word) (x : Said) → row_said ws ≡ Some x → SaidBack ws x
unfolding row_said words
row_back ws x e =
    let (start, found, more) = bind_some (front row_slots ws) _ x e in
    let (close, close_is, same) = bind_some (closing (orders_at (length start.1) start.1).1) _ x more in
    let (ws_is, fits) = front_back row_slots ws start found in
    let (are, orders_are) = orders_back (length start.1) start.1 in
    let rest_is : start.1 ≡ flat_map order_words (orders_at (length start.1) start.1).0 ++ (delay_words close.0 ++ codes "next" ∷ close.1 ∷ []) = orders_are ∙ ap (λ r. flat_map order_words (orders_at (length start.1) start.1).0 ++ r) (closing_back _ close close_is) in
    subst (SaidBack ws) (some_same same) (made start.0 _ close fits are (ws_is ∙ ap (λ r. words row_slots start.0 ++ r) rest_is))
  where
    made : (vs : List Value) (os : List Order) (close : Delay × Word) → Fits row_slots vs → AreOrders os → ws ≡ words row_slots vs ++ (flat_map order_words os ++ (delay_words close.0 ++ codes "next" ∷ close.1 ∷ []))
        → SaidBack ws (row (record { name = text_at vs 0; number = text_at vs 1; orders = os; delay = close.0; next = close.1 }))
    made (of_text n ∷ of_text k ∷ []) os close fits are is = ((fits.1.0, are), is)
    made vs os close fits are is = absurd (assumption fits)

event_back : (ws : List Word) (x : Said) → event_said ws ≡ Some x → SaidBack ws x
unfolding event_said words
event_back ws x e =
    let (start, found, more) = bind_some (front event_slots ws) _ x e in
    let (order, order_is, last) = bind_some (order_at start.1) _ x more in
    let (none, same) = only_some _ _ x last in
    let (ws_is, fits) = front_back event_slots ws start found in
    let (is_order, rest_is) = order_back start.1 order order_is in
    let rest : start.1 ≡ order_words order.0 = rest_is ∙ ap (λ r. order_words order.0 ++ r) (none_left order.1 none) ∙ append-nil (order_words order.0) in
    subst (SaidBack ws) same (made start.0 order.0 fits is_order (ws_is ∙ ap (λ r. words event_slots start.0 ++ r) rest))
  where
    made : (vs : List Value) (o : Order) → Fits event_slots vs → IsOrder o → ws ≡ words event_slots vs ++ order_words o → SaidBack ws (event (record { round = text_at vs 0; order = o }))
    made (of_text r ∷ []) o fits is_order is = (is_order, is)
    made vs o fits is_order is = absurd (assumption fits)

end_back : (ws : List Word) (x : Said) → end_said ws ≡ Some x → SaidBack ws x
unfolding end_said words
end_back ws x e =
    let (vs, is, same) = map_some (λ vs. ends) (whole end_slots ws) x e in
    subst (SaidBack ws) same (tt, (whole_back end_slots ws vs is).0)

-- a line after the settings is what its words say
pub body_back : (ws : List Word) (x : Said) → body_line ws ≡ Some x → IsBody x × (ws ≡ said_words x)
unfolding body_line
body_back ws x e =
    ⊎_elim (row_back ws x) (λ h. ⊎_elim (task_back ws x) (λ k. ⊎_elim (event_back ws x) (end_back ws x) (or_some _ _ x k)) (or_some _ _ x h)) (or_some _ _ x e)

-- a setting's line is what its words say
pub setting_back : (setting : Setting) (ws : List Word) (x : Said) → setting_line setting ws ≡ Some x → (w : Word) × (x ≡ sets setting w) × (ws ≡ said_words x)
unfolding setting_line words
setting_back setting ws x e =
    let (vs, is, same) = map_some (λ vs. sets setting (text_at vs 0)) (whole (setting_slots setting) ws) x e in
    let (ws_is, fits) = whole_back (setting_slots setting) ws vs is in
    (text_at vs 0, sym same, ws_is ∙ made vs fits ∙ ap said_words same)
  where
    made : (vs : List Value) → Fits (setting_slots setting) vs → words (setting_slots setting) vs ≡ said_words (sets setting (text_at vs 0))
    made (of_text w ∷ []) fits = refl
    made vs fits = absurd (assumption fits)
