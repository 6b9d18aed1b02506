-- What words say is what was said: from a shape to its words and back to the shape.
use Rattle.std.proofs.Common.{◌≡◌, ℕ, suc, zero, ◌+◌, ◌≤◌, ◌<◌, Bool, true, false, List, [], ◌∷◌, ◌++◌, length, refl, ap, sym, ◌∙◌, arith, append_assoc, append-nil, length-append, subst, lit<}
use Rattle.std.specs.List.{list_all}
use Rattle.std.specs.Prelude.{Option, Some, None, option_map, codes, flat_map, slice_index_or}
use Rattle.step_tables.specs.Types.{Class, Urgent, Normal, Bulk, Heavy, Setting, Workers, Depth, Start, Step, Rounds}
use Rattle.text_lines.specs.Slots.{Slot, Value, of_text, of_reasons, of_index, text_at, reasons_at}
use Rattle.text_lines.specs.Shapes.{Front, front, whole, words, Fits, is_sound_slot}
use Rattle.text_lines.proofs.FrontAgain.{front_again}
use Rattle.text_lines.proofs.FrontApart.{apart, front_apart}
use Rattle.step_tables.specs.Words.{Word, ◌>>=◌, ◌or_else◌, only_if, is_empty, is_name}
use Rattle.step_tables.specs.Shapes.{Order, wakes, kills, Delay, keeps, after, never, Place, pinned, shared, tasklet, TaskLine, RowLine, EventLine, Said, sets, task, row, event, ends, class_names, class_at, pinned_slots, shared_slots, tasklet_slots, row_slots, wake_slots, kill_slots, init_at, task_at, pinned_line, shared_line, tasklet_line, task_line, order_at, and_more, orders_at, closing, row_said, event_said, end_said, setting_line, body_line}
use Rattle.step_tables.specs.Text.{class_name, order_words, delay_words, init_words, place_words, task_word, said_words}
use Rattle.step_tables.proofs.Back.{IsOrder, AreOrders, IsBody}
use Rattle.step_tables.proofs.Orders.{order_length}

init_again : (b : Bool) → init_at (init_words b) ≡ Some b
unfolding init_at whole front
init_again true = refl
init_again false = refl

-- a task's line by its own slots, and by others
task_at_again : (slots : List Slot) (vs : List Value) (init : Bool) → list_all is_sound_slot slots ≡ true → Fits slots vs → task_at slots (words slots vs ++ init_words init) ≡ Some (vs, init)
unfolding task_at
task_at_again slots vs init sound fits =
    ap (λ o. o >>= λ r. init_at r.1 >>= λ b. Some (r.0, b)) (front_again slots vs (init_words init) sound fits) ∙ ap (λ o. o >>= λ b. Some (vs, b)) (init_again init)

task_at_apart : (slots others : List Slot) (vs : List Value) (ws : List Word) → apart slots others ≡ true → task_at slots (words others vs ++ ws) ≡ None
unfolding task_at
task_at_apart slots others vs ws e = ap (λ o. o >>= λ r. init_at r.1 >>= λ b. Some (r.0, b)) (front_apart slots others vs ws e)

-- a class is one of the names
class_again : (c : Class) → (i : ℕ) × (i < 4) × (slice_index_or class_names i [] ≡ class_name c) × (class_at i ≡ c)
class_again Urgent = (0, lit< tt, refl, refl)
class_again Normal = (1, lit< tt, refl, refl)
class_again Bulk = (2, lit< tt, refl, refl)
class_again Heavy = (3, lit< tt, refl, refl)

-- what the three shapes of a task's line make
abbrev of_three : Option (List Value × Bool) → Option (List Value × Bool) → Option (List Value × Bool) → Option TaskLine
of_three a b c = option_map (λ r. pinned_line r.0 r.1) a or_else option_map (λ r. shared_line r.0 r.1) b or_else option_map (λ r. tasklet_line r.0 r.1) c

task_again : (line : TaskLine) → is_name line.name ≡ true → task_line (said_words (task line)) ≡ Some line
unfolding task_line words
task_again line e = go line.place
  where
    go : (place : Place) → task_line (said_words (task (record line { place = place }))) ≡ Some (record line { place = place })
    go (pinned home nice) =
        let vs : List Value = of_text line.name ∷ of_text home ∷ of_text nice ∷ of_text line.rows ∷ [] in
        let ws = said_words (task (record line { place = pinned home nice })) in
        ap (λ a. of_three a (task_at shared_slots ws) (task_at tasklet_slots ws)) (task_at_again pinned_slots vs line.init refl (tt, (e, (tt, (tt, (tt, (tt, (tt, (tt, tt)))))))))
    go (shared nice) =
        let vs : List Value = of_text line.name ∷ of_text nice ∷ of_text line.rows ∷ [] in
        let ws = said_words (task (record line { place = shared nice })) in
        λ i. of_three (task_at_apart pinned_slots shared_slots vs (init_words line.init) refl i) (task_at_again shared_slots vs line.init refl (tt, (e, (tt, (tt, (tt, (tt, (tt, tt))))))) i) (task_at tasklet_slots ws)
    go (tasklet home class) =
        let (k, few, named, same) = class_again class in
        let vs : List Value = of_text line.name ∷ of_text home ∷ of_index k ∷ of_text line.rows ∷ [] in
        subst (λ w. task_line (codes "tasklet" ∷ line.name ∷ codes "home" ∷ home ∷ codes "class" ∷ w ∷ codes "rows" ∷ line.rows ∷ init_words line.init) ≡ Some (record line { place = tasklet home class })) named
        ((λ i. of_three (task_at_apart pinned_slots tasklet_slots vs (init_words line.init) refl i) (task_at_apart shared_slots tasklet_slots vs (init_words line.init) refl i) (task_at_again tasklet_slots vs line.init refl (tt, (e, (tt, (tt, (tt, (few, (tt, (tt, tt)))))))) i))
        ∙ ap (λ c. Some (record line { place = tasklet home c })) same)

-- what the two shapes of an action make
abbrev of_two : Option Front → Option Front → Option (Order × List Word)
of_two a b = option_map (λ r. (wakes (text_at r.0 0) (reasons_at r.0 1), r.1)) a or_else option_map (λ r. (kills (text_at r.0 0), r.1)) b

order_again : (o : Order) (ws : List Word) → IsOrder o → order_at (order_words o ++ ws) ≡ Some (o, ws)
unfolding order_at words
order_again (wakes name f) ws is = ap (λ a. of_two a (front kill_slots (order_words (wakes name f) ++ ws))) (front_again wake_slots (of_text name ∷ of_reasons f ∷ []) ws refl (tt, (is.0, ((is.1, is.2), tt))))
order_again (kills name) ws is =
    let vs : List Value = of_text name ∷ [] in
    λ i. of_two (front_apart wake_slots kill_slots vs ws refl i) (front_again kill_slots vs ws refl (tt, (is, tt)) i)

-- actions, as far as they go
orders_again : (most : ℕ) (os : List Order) (ws : List Word) → AreOrders os → order_at ws ≡ None → length os ≤ most → orders_at most (flat_map order_words os ++ ws) ≡ (os, ws)
unfolding orders_at
orders_again zero [] ws are none few = refl
orders_again zero (o ∷ os) ws are none few = absurd (omega arith)
orders_again (suc most) [] ws are none few = ap (λ o. and_more ws o (orders_at most)) none
orders_again (suc most) (o ∷ os) ws are none few =
    ap (λ r. and_more r (order_at r) (orders_at most)) (append_assoc (order_words o) (flat_map order_words os) ws)
    ∙ ap (λ x. and_more (order_words o ++ (flat_map order_words os ++ ws)) x (orders_at most)) (order_again o (flat_map order_words os ++ ws) are.0)
    ∙ ap (λ x. (o ∷ x.0, x.1)) (orders_again most os ws are.1 none (omega arith))

-- no action stands before an expiry or `next`
no_order : (delay : Delay) (next : Word) → order_at (delay_words delay ++ codes "next" ∷ next ∷ []) ≡ None
unfolding order_at front
no_order keeps next = refl
no_order (after ticks) next = refl
no_order never next = refl

closing_again : (delay : Delay) (next : Word) → closing (delay_words delay ++ codes "next" ∷ next ∷ []) ≡ Some (delay, next)
unfolding closing whole front
closing_again keeps next = refl
closing_again (after ticks) next = refl
closing_again never next = refl

few_orders : (os : List Order) (ws : List Word) → length os ≤ length (flat_map order_words os ++ ws)
few_orders [] ws = omega arith
few_orders (o ∷ os) ws =
    let sum : length ((order_words o ++ flat_map order_words os) ++ ws) ≡ length (order_words o) + length (flat_map order_words os ++ ws) =
    ap length (append_assoc (order_words o) (flat_map order_words os) ws) ∙ length-append (order_words o) (flat_map order_words os ++ ws) in
    let some : 1 ≤ length (order_words o) = order_length o in
    let more = few_orders os ws in
    omega arith

-- a row
row_again : (line : RowLine) → is_name line.name ≡ true → AreOrders line.orders → row_said (said_words (row line)) ≡ Some (row line)
unfolding row_said words
row_again line e are =
    let last : List Word = delay_words line.delay ++ codes "next" ∷ line.next ∷ [] in
    let behind : List Word = flat_map order_words line.orders ++ last in
    let vs : List Value = of_text line.name ∷ of_text line.number ∷ [] in
    let made : List Value → List Order → Delay × Word → Said = λ vs os close. row (record { name = text_at vs 0; number = text_at vs 1; orders = os; delay = close.0; next = close.1 }) in
    ap (λ o. o >>= λ r. closing (orders_at (length r.1) r.1).1 >>= λ close. Some (made r.0 (orders_at (length r.1) r.1).0 close)) (front_again row_slots vs behind refl (tt, (e, (tt, tt))))
    ∙ ap (λ x. closing x.1 >>= λ close. Some (made vs x.0 close)) (orders_again (length behind) line.orders last are (no_order line.delay line.next) (few_orders line.orders last))
    ∙ ap (λ o. o >>= λ close. Some (made vs line.orders close)) (closing_again line.delay line.next)

-- an event
event_again : (line : EventLine) → IsOrder line.order → event_said (said_words (event line)) ≡ Some (event line)
unfolding event_said front
event_again line is =
    ap (λ o. o >>= λ order. only_if (is_empty order.1) (event (record { round = line.round; order = order.0 }))) (ap order_at (sym (append-nil (order_words line.order))) ∙ order_again line.order [] is)

-- a setting
pub setting_again : (setting : Setting) (w : Word) → setting_line setting (said_words (sets setting w)) ≡ Some (sets setting w)
unfolding setting_line whole front
setting_again Workers w = refl
setting_again Depth w = refl
setting_again Start w = refl
setting_again Step w = refl
setting_again Rounds w = refl

-- the line of a task is none of a row
not_row : (place : Place) (ws : List Word) → row_said (task_word place ∷ ws) ≡ None
unfolding row_said front
not_row (pinned home nice) ws = refl
not_row (shared nice) ws = refl
not_row (tasklet home class) ws = refl

-- a line behind the settings
pub body_again : (x : Said) → IsBody x → body_line (said_words x) ≡ Some x
unfolding body_line task_line task_at row_said event_said end_said whole front
body_again (sets setting w) body = absurd body
body_again (task line) body =
    let ws = said_words (task line) in
    let more = event_said ws or_else end_said ws in
    ap (λ o. o or_else (option_map task (task_line ws) or_else more)) (not_row line.place (line.name ∷ (place_words line.place ++ codes "rows" ∷ line.rows ∷ init_words line.init))) ∙ ap (λ o. option_map task o or_else more) (task_again line body)
body_again (row line) body = ap (λ o. o or_else (option_map task (task_line (said_words (row line))) or_else (event_said (said_words (row line)) or_else end_said (said_words (row line))))) (row_again line body.0 body.1)
body_again (event line) body = ap (λ o. o or_else end_said (said_words (event line))) (event_again line body)
body_again ends body = refl
