-- The text of a line, word by word.
use Rattle.std.proofs.Common.{◌≡◌, ℕ, suc, zero, ◌+◌, List, [], ◌∷◌, ◌++◌, map, length, take, refl, ap, sym, ◌∙◌, arith, append_assoc, append-nil}
use Rattle.std.specs.Prelude.{Some, codes, decimal, flat_map, slice_get}
use Rattle.std.proofs.lemmas.Option.{none-some}
use Rattle.std.specs.List.{join_with_byte}
use Rattle.step_tables.specs.Types.{Action, Row, TaskDef, Event}
use Rattle.step_tables.specs.declared.tables.Script.{Script}
use Rattle.step_tables.specs.Words.{Word}
use Rattle.step_tables.specs.Shapes.{Said, ends}
use Rattle.step_tables.specs.Text.{header_of, order_words, delay_words, init_words, place_words, task_word, said_words, order_said, delay_said, place_said, task_said, row_said, rows_said, event_said, names_of, settings_said, body_said, spaced, line_text, lines_text, script_text}
use Rattle.step_tables.proofs.NameAt.{spaced-append}

-- a line is its first word and the others behind spaces
joined : (w : Word) (ws : List Word) → join_with_byte 32 (w ∷ ws) ≡ w ++ spaced ws
joined w [] = sym (append-nil w)
joined w (v ∷ ws) = ap (λ r. w ++ 32 ∷ r) (joined v ws)

pub line_start : (w : Word) (ws : List Word) → line_text (w ∷ ws) ≡ w ++ (spaced ws ++ 10 ∷ [])
line_start w ws = ap (λ r. r ++ 10 ∷ []) (joined w ws) ∙ append_assoc w (spaced ws) (10 ∷ [])

pub task_text : (t : TaskDef) (n : ℕ) → line_text (said_words (task_said t n))
    ≡ task_word (place_said t.kind) ++ (32 ∷ (t.name ++ (spaced (place_words (place_said t.kind)) ++ (spaced (codes "rows" ∷ decimal n ∷ init_words t.init) ++ 10 ∷ []))))
unfolding task_said
task_text t n =
    line_start (task_word (place_said t.kind)) (t.name ∷ (place_words (place_said t.kind) ++ codes "rows" ∷ decimal n ∷ init_words t.init))
    ∙ ap (λ r. task_word (place_said t.kind) ++ 32 ∷ r)
    (append_assoc t.name (spaced (place_words (place_said t.kind) ++ codes "rows" ∷ decimal n ∷ init_words t.init)) (10 ∷ [])
    ∙ ap (λ r. t.name ++ r) (ap (λ r. r ++ 10 ∷ []) (spaced-append (place_words (place_said t.kind)) (codes "rows" ∷ decimal n ∷ init_words t.init))
    ∙ append_assoc (spaced (place_words (place_said t.kind))) (spaced (codes "rows" ∷ decimal n ∷ init_words t.init)) (10 ∷ [])))

spaced_actions : (names : List Word) (actions : List Action) → spaced (flat_map order_words (map (order_said names) actions)) ≡ flat_map (λ action. spaced (order_words (order_said names action))) actions
spaced_actions names [] = refl
spaced_actions names (a ∷ actions) = spaced-append (order_words (order_said names a)) (flat_map order_words (map (order_said names) actions)) ∙ ap (λ r. spaced (order_words (order_said names a)) ++ r) (spaced_actions names actions)

pub row_text : (names : List Word) (name : Word) (number : ℕ) (r : Row) → line_text (said_words (row_said names name number r))
    ≡ codes "row" ++ (32 ∷ (name ++ (32 ∷ (decimal number ++ (flat_map (λ action. spaced (order_words (order_said names action))) r.actions ++ (spaced (delay_words (delay_said r.expiry)) ++ (32 ∷ (codes "next" ++ (32 ∷ (decimal r.next ++ 10 ∷ []))))))))))
unfolding row_said
row_text names name number r =
    let orders = flat_map order_words (map (order_said names) r.actions) in
    let delay = delay_words (delay_said r.expiry) in
    let last : List Word = codes "next" ∷ decimal r.next ∷ [] in
    let behind : spaced (orders ++ (delay ++ last)) ++ 10 ∷ [] ≡ flat_map (λ action. spaced (order_words (order_said names action))) r.actions ++ (spaced delay ++ (32 ∷ (codes "next" ++ (32 ∷ (decimal r.next ++ 10 ∷ []))))) =
    ap (λ x. x ++ 10 ∷ []) (spaced-append orders (delay ++ last) ∙ (λ i. spaced_actions names r.actions i ++ spaced-append delay last i))
    ∙ append_assoc (flat_map (λ action. spaced (order_words (order_said names action))) r.actions) (spaced delay ++ spaced last) (10 ∷ [])
    ∙ ap (λ x. flat_map (λ action. spaced (order_words (order_said names action))) r.actions ++ x) (append_assoc (spaced delay) (spaced last) (10 ∷ []) ∙ ap (λ x. spaced delay ++ x) (last_text (decimal r.next))) in
    line_start (codes "row") (name ∷ decimal number ∷ (orders ++ (delay ++ last)))
    ∙ ap (λ x. codes "row" ++ 32 ∷ x)
    (append_assoc name (32 ∷ (decimal number ++ spaced (orders ++ (delay ++ last)))) (10 ∷ [])
    ∙ ap (λ x. name ++ 32 ∷ x) (append_assoc (decimal number) (spaced (orders ++ (delay ++ last))) (10 ∷ []) ∙ ap (λ x. decimal number ++ x) behind))
  where
    last_text : (w : Word) → spaced (codes "next" ∷ w ∷ []) ++ 10 ∷ [] ≡ 32 ∷ (codes "next" ++ (32 ∷ (w ++ 10 ∷ [])))
    last_text w = ap (λ x. 32 ∷ (codes "next" ++ (32 ∷ (x ++ 10 ∷ [])))) (append-nil w)

pub event_text : (names : List Word) (e : Event) → line_text (said_words (event_said names e)) ≡ codes "event" ++ (32 ∷ (decimal e.round ++ (spaced (order_words (order_said names e.action)) ++ 10 ∷ [])))
unfolding event_said
event_text names e = line_start (codes "event") (decimal e.round ∷ order_words (order_said names e.action)) ∙ ap (λ x. codes "event" ++ 32 ∷ x) (append_assoc (decimal e.round) (spaced (order_words (order_said names e.action))) (10 ∷ []))

-- one piece behind another
pub then_put : (o m n a b : List ℕ) → m ≡ o ++ a → n ≡ m ++ b → n ≡ o ++ (a ++ b)
then_put o m n a b e f = f ∙ ap (λ r. r ++ b) e ∙ append_assoc o a b

-- the pieces of an event's line, one behind another
pub event_put : (names : List Word) (e : Event) (o o1 o2 o3 o4 : List ℕ)
    → o1 ≡ o ++ codes "event" → o2 ≡ o1 ++ 32 ∷ decimal e.round → o3 ≡ o2 ++ spaced (order_words (order_said names e.action)) → o4 ≡ o3 ++ 10 ∷ []
    → o4 ≡ o ++ line_text (said_words (event_said names e))
event_put names e o o1 o2 o3 o4 h1 h2 h3 h4 =
    then_put o o1 o4 (codes "event") (32 ∷ (decimal e.round ++ (spaced (order_words (order_said names e.action)) ++ 10 ∷ []))) h1
    (then_put o1 o2 o4 (32 ∷ decimal e.round) (spaced (order_words (order_said names e.action)) ++ 10 ∷ []) h2
    (then_put o2 o3 o4 (spaced (order_words (order_said names e.action))) (10 ∷ []) h3 h4))
    ∙ ap (λ r. o ++ r) (sym (event_text names e))

-- those of a task's line
pub task_put : (t : TaskDef) (n : ℕ) (o o1 o2 o3 o4 : List ℕ)
    → o1 ≡ o ++ task_word (place_said t.kind) → o2 ≡ o1 ++ 32 ∷ t.name → o3 ≡ o2 ++ spaced (place_words (place_said t.kind))
    → o4 ≡ o3 ++ (spaced (codes "rows" ∷ decimal n ∷ init_words t.init) ++ 10 ∷ [])
    → o4 ≡ o ++ line_text (said_words (task_said t n))
task_put t n o o1 o2 o3 o4 h1 h2 h3 h4 =
    let last = spaced (codes "rows" ∷ decimal n ∷ init_words t.init) ++ 10 ∷ [] in
    let place = spaced (place_words (place_said t.kind)) in
    then_put o o1 o4 (task_word (place_said t.kind)) (32 ∷ (t.name ++ (place ++ last))) h1
    (then_put o1 o2 o4 (32 ∷ t.name) (place ++ last) h2 (then_put o2 o3 o4 place last h3 h4))
    ∙ ap (λ r. o ++ r) (sym (task_text t n))

-- those of a row's line
pub row_put : (names : List Word) (name : Word) (number : ℕ) (r : Row) (o o1 o2 o3 o4 o5 o6 o7 o8 : List ℕ)
    → o1 ≡ o ++ codes "row" → o2 ≡ o1 ++ 32 ∷ name → o3 ≡ o2 ++ 32 ∷ decimal number
    → o4 ≡ o3 ++ flat_map (λ action. spaced (order_words (order_said names action))) r.actions
    → o5 ≡ o4 ++ spaced (delay_words (delay_said r.expiry)) → o6 ≡ o5 ++ 32 ∷ codes "next" → o7 ≡ o6 ++ 32 ∷ decimal r.next → o8 ≡ o7 ++ 10 ∷ []
    → o8 ≡ o ++ line_text (said_words (row_said names name number r))
row_put names name number r o o1 o2 o3 o4 o5 o6 o7 o8 h1 h2 h3 h4 h5 h6 h7 h8 =
    let actions = flat_map (λ action. spaced (order_words (order_said names action))) r.actions in
    let delay = spaced (delay_words (delay_said r.expiry)) in
    let e7 : List ℕ = 32 ∷ (decimal r.next ++ 10 ∷ []) in
    let e6 : List ℕ = 32 ∷ (codes "next" ++ e7) in
    then_put o o1 o8 (codes "row") (32 ∷ (name ++ (32 ∷ (decimal number ++ (actions ++ (delay ++ e6)))))) h1
    (then_put o1 o2 o8 (32 ∷ name) (32 ∷ (decimal number ++ (actions ++ (delay ++ e6)))) h2
    (then_put o2 o3 o8 (32 ∷ decimal number) (actions ++ (delay ++ e6)) h3
    (then_put o3 o4 o8 actions (delay ++ e6) h4
    (then_put o4 o5 o8 delay e6 h5
    (then_put o5 o6 o8 (32 ∷ codes "next") e7 h6
    (then_put o6 o7 o8 (32 ∷ decimal r.next) (10 ∷ []) h7 h8))))))
    ∙ ap (λ x. o ++ x) (sym (row_text names name number r))

-- the lines of one row more
rows_more : (names : List Word) (name : Word) (k : ℕ) (rs : List Row) (i : ℕ) (r : Row) → slice_get rs i ≡ Some r
    → lines_text (rows_said names name k (take (i + 1) rs)) ≡ lines_text (rows_said names name k (take i rs)) ++ line_text (said_words (row_said names name (k + i) r))
unfolding rows_said
rows_more names name k [] i r e = absurd (none-some r e)
rows_more names name k (s ∷ rs) zero r e =
    let same : s ≡ r = cc in
    let start : k ≡ k + 0 = omega arith in
    append-nil (line_text (said_words (row_said names name k s))) ∙ (λ j. line_text (said_words (row_said names name (start j) (same j))))
rows_more names name k (s ∷ rs) (suc i) r e =
    let front : suc i + 1 ≡ suc (i + 1) = omega arith in
    let index : k + 1 + i ≡ k + suc i = omega arith in
    ap (λ n. lines_text (rows_said names name k (take n (s ∷ rs)))) front
    ∙ ap (λ x. line_text (said_words (row_said names name k s)) ++ x) (rows_more names name (k + 1) rs i r e)
    ∙ sym (append_assoc (line_text (said_words (row_said names name k s))) (lines_text (rows_said names name (k + 1) (take i rs))) (line_text (said_words (row_said names name (k + 1 + i) r))))
    ∙ ap (λ n. (line_text (said_words (row_said names name k s)) ++ lines_text (rows_said names name (k + 1) (take i rs))) ++ line_text (said_words (row_said names name n r))) index

pub rows_put : (names : List Word) (name : Word) (rs : List Row) (i : ℕ) (r : Row) (o m n : List ℕ) → slice_get rs i ≡ Some r
    → m ≡ o ++ lines_text (rows_said names name 0 (take i rs)) → n ≡ m ++ line_text (said_words (row_said names name i r))
    → n ≡ o ++ lines_text (rows_said names name 0 (take (i + 1) rs))
rows_put names name rs i r o m n at e f =
    let index : 0 + i ≡ i = omega arith in
    then_put o m n (lines_text (rows_said names name 0 (take i rs))) (line_text (said_words (row_said names name i r))) e f
    ∙ ap (λ x. o ++ x) (sym (rows_more names name 0 rs i r at ∙ ap (λ k. lines_text (rows_said names name 0 (take i rs)) ++ line_text (said_words (row_said names name k r))) index))

pub rows_none : (names : List Word) (name : Word) (rs : List Row) → lines_text (rows_said names name 0 (take 0 rs)) ≡ []
unfolding rows_said
rows_none names name rs = refl

lines-append : (xs ys : List Said) → lines_text (xs ++ ys) ≡ lines_text xs ++ lines_text ys
lines-append [] ys = refl
lines-append (x ∷ xs) ys = ap (λ r. line_text (said_words x) ++ r) (lines-append xs ys) ∙ sym (append_assoc (line_text (said_words x)) (lines_text xs) (lines_text ys))

lines-map : {A : Type 0} (f : A → Said) (xs : List A) → lines_text (map f xs) ≡ flat_map (λ x. line_text (said_words (f x))) xs
lines-map f [] = refl
lines-map f (x ∷ xs) = ap (λ r. line_text (said_words (f x)) ++ r) (lines-map f xs)

lines-flat_map : {A : Type 0} (f : A → List Said) (xs : List A) → lines_text (flat_map f xs) ≡ flat_map (λ x. lines_text (f x)) xs
lines-flat_map f [] = refl
lines-flat_map f (x ∷ xs) = lines-append (f x) (flat_map f xs) ∙ ap (λ r. lines_text (f x) ++ r) (lines-flat_map f xs)

-- the parts of a script's text, one behind another
pub script_parts : (s : Script) → script_text s ≡
    (header_of s.version ++ 10 ∷ lines_text (settings_said s))
    ++ (flat_map (λ t. line_text (said_words (task_said t (length t.rows)))) s.tasks
    ++ (flat_map (λ t. lines_text (rows_said (names_of s.tasks) t.name 0 t.rows)) s.tasks
    ++ (flat_map (λ e. line_text (said_words (event_said (names_of s.tasks) e))) s.events
    ++ codes "end\n")))
unfolding script_text body_said
script_parts s =
    let names = names_of s.tasks in
    let tasks = map (λ t. task_said t (length t.rows)) s.tasks in
    let rows = flat_map (λ t. rows_said (names_of s.tasks) t.name 0 t.rows) s.tasks in
    let events = map (event_said (names_of s.tasks)) s.events in
    let last : List Said = ends ∷ [] in
    ap (λ r. header_of s.version ++ 10 ∷ r)
    (lines-append (settings_said s) (tasks ++ (rows ++ (events ++ last)))
    ∙ ap (λ r. lines_text (settings_said s) ++ r) (lines-append tasks (rows ++ (events ++ last))
    ∙ (λ i. lines-map (λ t. task_said t (length t.rows)) s.tasks i ++ (lines-append rows (events ++ last)
    ∙ (λ j. lines-flat_map (λ t. rows_said (names_of s.tasks) t.name 0 t.rows) s.tasks j ++ (lines-append events last
    ∙ (λ k. lines-map (event_said (names_of s.tasks)) s.events k ++ lines_text last)) j)) i)))
    ∙ sym (append_assoc (header_of s.version) (10 ∷ lines_text (settings_said s)) _)

-- the pieces of the text
pub script_put : (s : Script) (o o1 o2 o3 o4 o5 : List ℕ)
    → o1 ≡ o ++ (header_of s.version ++ 10 ∷ lines_text (settings_said s))
    → o2 ≡ o1 ++ flat_map (λ t. line_text (said_words (task_said t (length t.rows)))) s.tasks
    → o3 ≡ o2 ++ flat_map (λ t. lines_text (rows_said (names_of s.tasks) t.name 0 t.rows)) s.tasks
    → o4 ≡ o3 ++ flat_map (λ e. line_text (said_words (event_said (names_of s.tasks) e))) s.events
    → o5 ≡ o4 ++ codes "end\n"
    → o5 ≡ o ++ script_text s
script_put s o o1 o2 o3 o4 o5 h1 h2 h3 h4 h5 =
    let tasks = flat_map (λ t. line_text (said_words (task_said t (length t.rows)))) s.tasks in
    let rows = flat_map (λ t. lines_text (rows_said (names_of s.tasks) t.name 0 t.rows)) s.tasks in
    let events = flat_map (λ e. line_text (said_words (event_said (names_of s.tasks) e))) s.events in
    then_put o o1 o5 (header_of s.version ++ 10 ∷ lines_text (settings_said s)) (tasks ++ (rows ++ (events ++ codes "end\n"))) h1
    (then_put o1 o2 o5 tasks (rows ++ (events ++ codes "end\n")) h2 (then_put o2 o3 o5 rows (events ++ codes "end\n") h3 (then_put o3 o4 o5 events (codes "end\n") h4 h5)))
    ∙ ap (λ r. o ++ r) (sym (script_parts s))

-- the pieces of the head
pub head_put : (a b c d e : List ℕ) (o o1 o2 o3 o4 o5 o6 : List ℕ) (first : List ℕ)
    → o1 ≡ o ++ first → o2 ≡ o1 ++ a → o3 ≡ o2 ++ b → o4 ≡ o3 ++ c → o5 ≡ o4 ++ d → o6 ≡ o5 ++ e
    → o6 ≡ o ++ (first ++ (a ++ (b ++ (c ++ (d ++ (e ++ []))))))
head_put a b c d e o o1 o2 o3 o4 o5 o6 first h1 h2 h3 h4 h5 h6 =
    then_put o o1 o6 first (a ++ (b ++ (c ++ (d ++ (e ++ []))))) h1 (then_put o1 o2 o6 a (b ++ (c ++ (d ++ (e ++ [])))) h2 (then_put o2 o3 o6 b (c ++ (d ++ (e ++ []))) h3 (then_put o3 o4 o6 c (d ++ (e ++ [])) h4 (then_put o4 o5 o6 d (e ++ []) h5
    (h6 ∙ ap (λ r. o5 ++ r) (sym (append-nil e)))))))
