-- The row lines of a script in range pass.
use Rattle.std.proofs.lemmas.Bool.{or_parts, or_from, ltb-true, lt-ltb}
use Rattle.std.proofs.Common.{◌≡◌, ℕ, suc, zero, ◌+◌, ◌^◌, ◌<◌, Bool, true, false, cond, List, [], ◌∷◌, map, length, refl, ap, ◌∙◌, arith}
use Rattle.std.specs.Prelude.{Some, None, is_none, unwrap_or, bytes_eq, ◌&&◌, not, nat_lt, nat_le, decimal}
use Rattle.std.specs.List.{list_all, list_any, position_or_len}
use Rattle.std.proofs.lemmas.Bool.Decides.{nat_tests}
use Rattle.std.proofs.lemmas.List.{length-map}
use Rattle.step_tables.specs.Types.{Action, Wake, Kill, Expiry, Keep, After, Never, Kind, Pinned, Shared, Tasklet, Row, TaskDef}
use Rattle.step_tables.specs.Words.{Word, is_name}
use Rattle.step_tables.specs.Shapes.{RowLine}
use Rattle.step_tables.specs.Text.{name_at, order_said, delay_said, names_of}
use Rattle.step_tables.specs.Sound.{within, is_sound_action, is_sound_expiry, is_sound_row, distinct_names}
use Rattle.step_tables.specs.Limits.{most_actions, most_delay}
use Rattle.step_tables.specs.Judging.{outside, delay_no_number, delay_outside, named, unknown, number_named, order_name, action_of, expiry_of, row_of, is_timerless, is_expiry}
use Rattle.std.proofs.lemmas.Slice.Eq.{bytes_eq-Decides}
use Rattle.step_tables.proofs.RowsOf.{first_of_both, second_of_both}
use Rattle.step_tables.proofs.Back.{IsOrder, AreOrders}
use Rattle.step_tables.proofs.WordsAgain.{is_number, value_again}
use Rattle.step_tables.proofs.Bounds.{within_outside, delay_small}

pub same_word : (w : Word) → bytes_eq w w ≡ true
same_word w = (bytes_eq-Decides w w).1 refl

pub no_other : (a : Bool) → not a ≡ true → a ≡ false
no_other true k = absurd (cc)
no_other false k = refl

-- an element of a list of which none passes
pub none_at : (test : Word → Bool) (ws : List Word) (i : ℕ) → list_any test ws ≡ false → i < length ws → test (name_at ws i) ≡ false
none_at test [] i e h = absurd (omega arith)
none_at test (w ∷ ws) zero e h = (or_parts (test w) _ e).0
none_at test (w ∷ ws) (suc i) e h = none_at test ws i (or_parts (test w) _ e).1 (omega arith)

-- an element of a list of which each passes
pub all_at : (test : Word → Bool) (ws : List Word) (i : ℕ) → list_all test ws ≡ true → i < length ws → test (name_at ws i) ≡ true
all_at test [] i e h = absurd (omega arith)
all_at test (w ∷ ws) zero e h = first_of_both (test w) _ e
all_at test (w ∷ ws) (suc i) e h = all_at test ws i (second_of_both (test w) _ e) (omega arith)

-- the number of a name in a list of distinct names
first_at : (tasks : List TaskDef) (i : ℕ) → distinct_names (names_of tasks) ≡ true → i < length tasks → position_or_len (λ t. bytes_eq t.name (name_at (names_of tasks) i)) tasks ≡ i
first_at [] i d h = absurd (omega arith)
first_at (t ∷ ts) zero d h = go (bytes_eq t.name t.name) (same_word t.name)
  where
    go : (b : Bool) → b ≡ true → cond (not b) (1 + position_or_len (λ u. bytes_eq u.name t.name) ts) 0 ≡ 0
    go true e = refl
    go false e = absurd (cc)
first_at (t ∷ ts) (suc i) d h =
    go (bytes_eq t.name (name_at (names_of ts) i)) (none_at (λ o. bytes_eq t.name o) (names_of ts) i (no_other _ (first_of_both _ _ d)) (short (omega arith)))
    (first_at ts i (second_of_both (not (list_any (λ o. bytes_eq t.name o) (names_of ts))) _ d) (omega arith))
  where
    short : i < length ts → i < length (names_of ts)
    short k = let same = length-map ts (λ u. u.name) in omega arith

    go : (b : Bool) → b ≡ false → position_or_len (λ u. bytes_eq u.name (name_at (names_of ts) i)) ts ≡ i → cond (not b) (1 + position_or_len (λ u. bytes_eq u.name (name_at (names_of ts) i)) ts) 0 ≡ suc i
    go true e k = absurd (cc)
    go false e k = omega arith

pub chosen_then : {A : Type 0} (b : Bool) (x y : A) → b ≡ true → cond b x y ≡ x
chosen_then true x y e = refl
chosen_then false x y e = absurd (cc)

named_again : (tasks : List TaskDef) (i : ℕ) → distinct_names (names_of tasks) ≡ true → i < length tasks → named tasks (name_at (names_of tasks) i) ≡ Some i
unfolding named
named_again tasks i d h =
    ap (λ k. cond (nat_lt k (length tasks)) (Some k) None) (first_at tasks i d h) ∙ chosen_then (nat_lt i (length tasks)) (Some i) None (lt-ltb i (length tasks) h)

pub known_again : (tasks : List TaskDef) (i : ℕ) → distinct_names (names_of tasks) ≡ true → i < length tasks → unknown tasks (name_at (names_of tasks) i) ≡ false
unfolding unknown
known_again tasks i d h = ap is_none (named_again tasks i d h)

-- an action in range is read as it was written
pub action_again : (tasks : List TaskDef) (a : Action) → distinct_names (names_of tasks) ≡ true → is_sound_action (length tasks) a ≡ true → action_of tasks (order_said (names_of tasks) a) ≡ a
unfolding action_of order_said number_named
action_again tasks (Wake i reasons) d e = λ j. Wake (record { 0 = unwrap_or (named_again tasks i.0 d (ltb-true i.0 (length tasks) (first_of_both (nat_lt i.0 (length tasks)) _ e)) j) 0 }) reasons
action_again tasks (Kill i) d e = λ j. Kill (record { 0 = unwrap_or (named_again tasks i.0 d (ltb-true i.0 (length tasks) e) j) 0 })

within_reasons : (k : ℕ) → within 1 127 k ≡ true → (0 < k) × (k < 128)
within_reasons k f = grind (arith, nat_tests)

-- the name at a task's number is one
pub name_fine : (tasks : List TaskDef) (i : ℕ) → list_all is_name (names_of tasks) ≡ true → i < length tasks → is_name (name_at (names_of tasks) i) ≡ true
name_fine tasks i fine h = let same = length-map tasks (λ t. t.name) in all_at is_name (names_of tasks) i fine (omega arith)

pub order_fine : (tasks : List TaskDef) (a : Action) → list_all is_name (names_of tasks) ≡ true → is_sound_action (length tasks) a ≡ true → IsOrder (order_said (names_of tasks) a)
unfolding order_said
order_fine tasks (Wake i reasons) fine e =
    let range = within_reasons reasons (second_of_both (nat_lt i.0 (length tasks)) _ e) in
    (name_fine tasks i.0 fine (ltb-true i.0 (length tasks) (first_of_both (nat_lt i.0 (length tasks)) _ e)), range.0, range.1)
order_fine tasks (Kill i) fine e = name_fine tasks i.0 fine (ltb-true i.0 (length tasks) e)

pub order_known : (tasks : List TaskDef) (a : Action) → distinct_names (names_of tasks) ≡ true → is_sound_action (length tasks) a ≡ true → unknown tasks (order_name (order_said (names_of tasks) a)) ≡ false
unfolding order_said
order_known tasks (Wake i reasons) d e = known_again tasks i.0 d (ltb-true i.0 (length tasks) (first_of_both (nat_lt i.0 (length tasks)) _ e))
order_known tasks (Kill i) d e = known_again tasks i.0 d (ltb-true i.0 (length tasks) e)

pub actions_again : (tasks : List TaskDef) (as_ : List Action) → distinct_names (names_of tasks) ≡ true → list_all (is_sound_action (length tasks)) as_ ≡ true → map (action_of tasks) (map (order_said (names_of tasks)) as_) ≡ as_
actions_again tasks [] d e = refl
actions_again tasks (a ∷ as_) d e = λ i. action_again tasks a d (first_of_both _ _ e) i ∷ actions_again tasks as_ d (second_of_both (is_sound_action (length tasks) a) _ e) i

pub orders_fine : (tasks : List TaskDef) (as_ : List Action) → list_all is_name (names_of tasks) ≡ true → list_all (is_sound_action (length tasks)) as_ ≡ true → AreOrders (map (order_said (names_of tasks)) as_)
orders_fine tasks [] fine e = tt
orders_fine tasks (a ∷ as_) fine e = (order_fine tasks a fine (first_of_both _ _ e), orders_fine tasks as_ fine (second_of_both (is_sound_action (length tasks) a) _ e))

pub orders_known : (tasks : List TaskDef) (as_ : List Action) → distinct_names (names_of tasks) ≡ true → list_all (is_sound_action (length tasks)) as_ ≡ true → list_any (λ o. unknown tasks (order_name o)) (map (order_said (names_of tasks)) as_) ≡ false
orders_known tasks [] d e = refl
orders_known tasks (a ∷ as_) d e =
    or_from (unknown tasks (order_name (order_said (names_of tasks) a))) _ (order_known tasks a d (first_of_both _ _ e)) (orders_known tasks as_ d (second_of_both (is_sound_action (length tasks) a) _ e))

-- an expiry in range
pub delay_number : (kind : Kind) (e : Expiry) → is_sound_expiry kind e ≡ true → delay_no_number (delay_said e) ≡ false
unfolding delay_no_number delay_said
delay_number kind Keep h = refl
delay_number (Pinned home nice) (After ticks) h = is_number ticks (delay_small ticks h)
delay_number (Shared nice) (After ticks) h = absurd (cc)
delay_number (Tasklet home class) (After ticks) h = absurd (cc)
delay_number kind Never h = refl

pub delay_inside : (kind : Kind) (e : Expiry) → is_sound_expiry kind e ≡ true → delay_outside (delay_said e) ≡ false
unfolding delay_outside delay_said
delay_inside kind Keep h = refl
delay_inside (Pinned home nice) (After ticks) h = ap (outside 1 most_delay) (value_again ticks (delay_small ticks h)) ∙ within_outside 1 most_delay ticks h
delay_inside (Shared nice) (After ticks) h = absurd (cc)
delay_inside (Tasklet home class) (After ticks) h = absurd (cc)
delay_inside kind Never h = refl

pub delay_allowed : (kind : Kind) (e : Expiry) → is_sound_expiry kind e ≡ true → (is_timerless kind && is_expiry (delay_said e)) ≡ false
unfolding delay_said
delay_allowed (Pinned home nice) e h = refl
delay_allowed (Shared nice) Keep h = refl
delay_allowed (Tasklet home class) Keep h = refl
delay_allowed (Shared nice) (After ticks) h = absurd (cc)
delay_allowed (Tasklet home class) (After ticks) h = absurd (cc)
delay_allowed (Shared nice) Never h = absurd (cc)
delay_allowed (Tasklet home class) Never h = absurd (cc)

pub expiry_again : (kind : Kind) (e : Expiry) → is_sound_expiry kind e ≡ true → expiry_of (delay_said e) ≡ e
unfolding expiry_of delay_said
expiry_again kind Keep h = refl
expiry_again (Pinned home nice) (After ticks) h = ap After (value_again ticks (delay_small ticks h))
expiry_again (Shared nice) (After ticks) h = absurd (cc)
expiry_again (Tasklet home class) (After ticks) h = absurd (cc)
expiry_again kind Never h = refl

-- a row's line
abbrev pub row_line_of : List Word → Word → ℕ → Row → RowLine
row_line_of names name k r = record { name = name; number = decimal k; orders = map (order_said names) r.actions; delay = delay_said r.expiry; next = decimal r.next }

pub row_again_of : (tasks : List TaskDef) (kind : Kind) (rows : ℕ) (name : Word) (k : ℕ) (r : Row) → distinct_names (names_of tasks) ≡ true → rows < 10 ^ 10 → is_sound_row (length tasks) kind rows r ≡ true
    → row_of tasks (row_line_of (names_of tasks) name k r) ≡ r
unfolding row_of
row_again_of tasks kind rows name k r d few e =
    let e_2 = second_of_both (nat_le (length r.actions) most_actions) _ e in
    let e_3 = second_of_both (list_all (is_sound_action (length tasks)) r.actions) _ e_2 in
    let next : r.next < rows = ltb-true r.next rows (second_of_both (is_sound_expiry kind r.expiry) _ e_3) in
    λ i. record {
      actions = actions_again tasks r.actions d (first_of_both (list_all (is_sound_action (length tasks)) r.actions) _ e_2) i;
      expiry = expiry_again kind r.expiry (first_of_both (is_sound_expiry kind r.expiry) _ e_3) i;
      next = value_again r.next (small rows few r.next next) i;
    }
  where
    small : (a : ℕ) → a < 10 ^ 10 → (b : ℕ) → b < a → b < 10 ^ 10
    small a h b l = omega arith
