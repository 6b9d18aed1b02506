-- What the lines so far have said, told from what was read of them.
use Rattle.std.proofs.lemmas.Bool.{or_parts}
use Rattle.std.proofs.Common.{◌≡◌, ℕ, suc, zero, ◌+◌, ◌<◌, Bool, true, false, cond, List, [], ◌∷◌, ◌++◌, map, length, set, refl, ap, sym, ◌∙◌, arith, subst, append_assoc, append-nil}
use Rattle.std.specs.Prelude.{Some, None, is_none, unwrap_or, bytes_eq, not, nat_lt, decimal, slice_get, flat_map}
use Rattle.std.specs.List.{list_any, position_or_len}
use Rattle.std.proofs.lemmas.Bool.Decides.{nat_tests}
use Rattle.std.proofs.lemmas.Option.{none-some}
use Rattle.step_tables.specs.Types.{Row, TaskDef}
use Rattle.step_tables.specs.declared.progress.Progress.{Progress}
use Rattle.step_tables.specs.Words.{Word}
use Rattle.step_tables.specs.Shapes.{Order, wakes, kills, Delay, keeps, after, never, Place, pinned, shared, tasklet, TaskLine, RowLine, EventLine, Said, task, row, event, ends}
use Rattle.step_tables.specs.Text.{name_at, order_said, delay_said, place_said, task_said, row_said, rows_said, event_said, names_of, body_said}
use Rattle.step_tables.specs.Judging.{value, no_number, no_signed, place_no_number, delay_no_number, unknown, named, number_named, order_name, action_of, expiry_of, kind_of, task_of, row_of, event_of, with_row_at_end}
use Rattle.step_tables.proofs.Back.{IsOrder, AreOrders, bytes_same}
use Rattle.step_tables.proofs.Good.{GoodRow, GoodEvent, GoodTask}
use Rattle.step_tables.proofs.RowsOf.{Fresh, Filled}
use Rattle.step_tables.proofs.Valid.{Valid}
use Rattle.step_tables.proofs.WordsBack.{value_back, signed_value_back}

-- the lines of tasks, with the rows that they promised
abbrev pub tasks_so_far : List TaskDef → List ℕ → List Said
tasks_so_far [] cs = []
tasks_so_far (t ∷ ts) [] = []
tasks_so_far (t ∷ ts) (c ∷ cs) = task_said t c ∷ tasks_so_far ts cs

-- the lines of rows
abbrev pub rows_so_far : List Word → List TaskDef → List Said
rows_so_far names tasks = flat_map (λ t. rows_said names t.name 0 t.rows) tasks

abbrev pub end_so_far : Bool → List Said
end_so_far true = ends ∷ []
end_so_far false = []

-- the lines behind the settings
abbrev pub so_far : Progress → List Said
so_far p = tasks_so_far p.tasks p.counts ++ (rows_so_far (names_of p.tasks) p.tasks ++ (map (event_said (names_of p.tasks)) p.events ++ end_so_far p.ended))

-- the words of a place are what is written of its kind
place_back : (place : Place) → place_no_number place ≡ false → place_said (kind_of place) ≡ place
unfolding place_said kind_of place_no_number
place_back (pinned home nice) e = let (a, b) = or_parts (no_number home) (no_signed nice) e in λ i. pinned (sym (value_back home a) i) (sym (signed_value_back nice b) i)
place_back (shared nice) e = ap shared (sym (signed_value_back nice e))
place_back (tasklet home class) e = ap (λ w. tasklet w class) (sym (value_back home e))

delay_back : (delay : Delay) → delay_no_number delay ≡ false → delay_said (expiry_of delay) ≡ delay
unfolding delay_said expiry_of delay_no_number
delay_back keeps e = refl
delay_back (after w) e = ap after (sym (value_back w e))
delay_back never e = refl

-- a known name is that of the task with its number
named_at : (tasks : List TaskDef) (name : Word) → position_or_len (λ t. bytes_eq t.name name) tasks < length tasks → name_at (names_of tasks) (position_or_len (λ t. bytes_eq t.name name) tasks) ≡ name
named_at [] name h = absurd (omega arith)
named_at (t ∷ ts) name h = go (bytes_eq t.name name) refl h (λ k. named_at ts name k)
  where
    go : (b : Bool) → bytes_eq t.name name ≡ b → cond (not b) (1 + position_or_len (λ u. bytes_eq u.name name) ts) 0 < suc (length ts)
        → (position_or_len (λ u. bytes_eq u.name name) ts < length ts → name_at (names_of ts) (position_or_len (λ u. bytes_eq u.name name) ts) ≡ name)
        → name_at (t.name ∷ names_of ts) (cond (not b) (1 + position_or_len (λ u. bytes_eq u.name name) ts) 0) ≡ name
    go true is k others = bytes_same t.name name is
    go false is k others =
        let index : 1 + position_or_len (λ u. bytes_eq u.name name) ts ≡ suc (position_or_len (λ u. bytes_eq u.name name) ts) = omega arith in
        ap (name_at (t.name ∷ names_of ts)) index ∙ others (omega arith)

name_back_at : (tasks : List TaskDef) (name : Word) → unknown tasks name ≡ false → name_at (names_of tasks) (number_named tasks name) ≡ name
unfolding unknown number_named named
name_back_at tasks name e = go (nat_lt (position_or_len (λ t. bytes_eq t.name name) tasks) (length tasks)) (position_or_len (λ t. bytes_eq t.name name) tasks) refl refl e
  where
    go : (b : Bool) (i : ℕ) → position_or_len (λ t. bytes_eq t.name name) tasks ≡ i → nat_lt i (length tasks) ≡ b → is_none (cond b (Some i) None) ≡ false
        → name_at (names_of tasks) (unwrap_or (cond b (Some i) None) 0) ≡ name
    go true i at h f = ap (name_at (names_of tasks)) (sym at) ∙ named_at tasks name (subst (λ k. k < length tasks) (sym at) (less i (length tasks) h))
      where
        less : (a b : ℕ) → nat_lt a b ≡ true → a < b
        less a b k = grind (arith, nat_tests)
    go false i at h f = absurd (cc)

order_back : (tasks : List TaskDef) (o : Order) → IsOrder o → unknown tasks (order_name o) ≡ false → order_said (names_of tasks) (action_of tasks o) ≡ o
unfolding order_said action_of
order_back tasks (wakes name f) is known = ap (λ n. wakes n f) (name_back_at tasks name known)
order_back tasks (kills name) is known = ap kills (name_back_at tasks name known)

orders_back : (tasks : List TaskDef) (os : List Order) → AreOrders os → list_any (λ o. unknown tasks (order_name o)) os ≡ false → map (order_said (names_of tasks)) (map (action_of tasks) os) ≡ os
orders_back tasks [] are known = refl
orders_back tasks (o ∷ os) are known = let (first, others) = or_parts _ _ known in λ i. order_back tasks o are.0 first i ∷ orders_back tasks os are.1 others i

-- what a good line says is what is written of what it adds
pub task_line_back : (p : Progress) (line : TaskLine) → GoodTask p line → task_said (task_of line) (value line.rows) ≡ task line
unfolding task_said task_of
task_line_back p line good =
    let (place, rows) = or_parts _ _ good.numbers in
    λ i. task (record { name = line.name; place = place_back line.place place i; rows = sym (value_back line.rows rows) i; init = line.init })

pub row_line_back : (p : Progress) (line : RowLine) (good : GoodRow p line) → AreOrders line.orders → row_said (names_of p.tasks) good.task.name (length good.task.rows) (row_of p.tasks line) ≡ row line
unfolding row_said row_of
row_line_back p line good are =
    let (number, more) = or_parts _ _ good.numbers in
    let (delay, next) = or_parts _ _ more in
    λ i. row (record {
      name = bytes_same good.task.name line.name good.target.name i;
      number = (ap decimal (sym good.target.number) ∙ sym (value_back line.number number)) i;
      orders = orders_back p.tasks line.orders are good.known i;
      delay = delay_back line.delay delay i;
      next = sym (value_back line.next next) i;
    })

pub event_line_back : (p : Progress) (line : EventLine) → GoodEvent p line → IsOrder line.order → event_said (names_of p.tasks) (event_of p.tasks line) ≡ event line
unfolding event_said event_of
event_line_back p line good is = λ i. event (record { round = sym (value_back line.round good.number) i; order = order_back p.tasks line.order is good.known i })

-- one task more
pub tasks_more : (workers : ℕ) (ts : List TaskDef) (cs : List ℕ) (t : TaskDef) (c : ℕ) → Fresh workers ts cs → tasks_so_far (ts ++ t ∷ []) (cs ++ c ∷ []) ≡ tasks_so_far ts cs ++ task_said t c ∷ []
tasks_more workers [] [] t c f = refl
tasks_more workers [] (d ∷ cs) t c f = absurd f
tasks_more workers (u ∷ ts) [] t c f = absurd f
tasks_more workers (u ∷ ts) (d ∷ cs) t c f = ap (λ xs. task_said u d ∷ xs) (tasks_more workers ts cs t c f.2)

-- tasks with no row say no row line
pub no_rows_so_far : (workers : ℕ) (names : List Word) (ts : List TaskDef) (cs : List ℕ) → Fresh workers ts cs → rows_so_far names ts ≡ []
unfolding rows_said
no_rows_so_far workers names [] cs f = refl
no_rows_so_far workers names (t ∷ ts) [] f = absurd f
no_rows_so_far workers names (t ∷ ts) (c ∷ cs) f = λ i. rows_said names t.name 0 (f.1 i) ++ no_rows_so_far workers names ts cs f.2 i

pub no_rows_more : (workers : ℕ) (names : List Word) (ts : List TaskDef) (cs : List ℕ) (t : TaskDef) → Fresh workers ts cs → t.rows ≡ [] → rows_so_far names (ts ++ t ∷ []) ≡ []
unfolding rows_said
no_rows_more workers names [] cs t f none = λ i. rows_said names t.name 0 (none i) ++ []
no_rows_more workers names (u ∷ ts) [] t f none = absurd f
no_rows_more workers names (u ∷ ts) (c ∷ cs) t f none = λ i. rows_said names u.name 0 (f.1 i) ++ no_rows_more workers names ts cs t f.2 none i

-- one row more
rows_said_more : (names : List Word) (name : Word) (k : ℕ) (rs : List Row) (r : Row) → rows_said names name k (rs ++ r ∷ []) ≡ rows_said names name k rs ++ row_said names name (k + length rs) r ∷ []
unfolding rows_said
rows_said_more names name k [] r = let z : k ≡ k + 0 = omega arith in ap (λ n. row_said names name n r ∷ []) z
rows_said_more names name k (s ∷ rs) r =
    let next : k + 1 + length rs ≡ k + suc (length rs) = omega arith in
    ap (λ xs. row_said names name k s ∷ xs) (rows_said_more names name (k + 1) rs r ∙ ap (λ n. rows_said names name (k + 1) rs ++ row_said names name n r ∷ []) next)

with_row_said : (names : List Word) (t : TaskDef) (r : Row) → rows_said names (with_row_at_end t r).name 0 (with_row_at_end t r).rows ≡ rows_said names t.name 0 t.rows ++ row_said names t.name (length t.rows) r ∷ []
unfolding with_row_at_end
with_row_said names t r = let z : 0 + length t.rows ≡ length t.rows = omega arith in rows_said_more names t.name 0 t.rows r ∙ ap (λ n. rows_said names t.name 0 t.rows ++ row_said names t.name n r ∷ []) z

pub rows_more_so_far : (workers n at : ℕ) (names : List Word) (ts : List TaskDef) (cs : List ℕ) (t : TaskDef) (r : Row) → Filled workers n at ts cs → slice_get ts at ≡ Some t
    → rows_so_far names (set ts at (with_row_at_end t r)) ≡ rows_so_far names ts ++ row_said names t.name (length t.rows) r ∷ []
rows_more_so_far workers n zero names [] cs t r f e = absurd (none-some t e)
rows_more_so_far workers n zero names (u ∷ ts) [] t r f e = absurd f
rows_more_so_far workers n zero names (u ∷ ts) (c ∷ cs) t r f e =
    let same : u ≡ t = cc in
    let none = no_rows_so_far workers names ts cs f.3 in
    (λ i. with_row_said names t r i ++ none i)
    ∙ append-nil (rows_said names t.name 0 t.rows ++ row_said names t.name (length t.rows) r ∷ [])
    ∙ ap (λ xs. xs ++ row_said names t.name (length t.rows) r ∷ []) (sym ((λ i. rows_said names (same i).name 0 (same i).rows ++ none i) ∙ append-nil (rows_said names t.name 0 t.rows)))
rows_more_so_far workers n (suc at) names [] cs t r f e = absurd f
rows_more_so_far workers n (suc at) names (u ∷ ts) [] t r f e = absurd f
rows_more_so_far workers n (suc at) names (u ∷ ts) (c ∷ cs) t r f e =
    ap (λ xs. rows_said names u.name 0 u.rows ++ xs) (rows_more_so_far workers n at names ts cs t r f.3 e)
    ∙ sym (append_assoc (rows_said names u.name 0 u.rows) (rows_so_far names ts) (row_said names t.name (length t.rows) r ∷ []))

same_task_said : (t : TaskDef) (r : Row) (c : ℕ) → task_said (with_row_at_end t r) c ≡ task_said t c
unfolding task_said with_row_at_end
same_task_said t r c = refl

pub tasks_same : (ts : List TaskDef) (cs : List ℕ) (at : ℕ) (t : TaskDef) (r : Row) → slice_get ts at ≡ Some t → tasks_so_far (set ts at (with_row_at_end t r)) cs ≡ tasks_so_far ts cs
tasks_same [] cs at t r e = refl
tasks_same (u ∷ ts) [] zero t r e = refl
tasks_same (u ∷ ts) (c ∷ cs) zero t r e = let same : u ≡ t = cc in ap (λ x. x ∷ tasks_so_far ts cs) (same_task_said t r c ∙ ap (λ v. task_said v c) (sym same))
tasks_same (u ∷ ts) [] (suc at) t r e = refl
tasks_same (u ∷ ts) (c ∷ cs) (suc at) t r e = ap (λ xs. task_said u c ∷ xs) (tasks_same ts cs at t r e)

-- where all rows have come, each task line promised what came
tasks_whole : (workers n at : ℕ) (ts : List TaskDef) (cs : List ℕ) → Filled workers n at ts cs → at ≡ length ts → tasks_so_far ts cs ≡ map (λ t. task_said t (length t.rows)) ts
tasks_whole workers n zero [] cs f e = refl
tasks_whole workers n zero (t ∷ ts) cs f e = absurd (omega arith)
tasks_whole workers n (suc at) [] cs f e = absurd f
tasks_whole workers n (suc at) (t ∷ ts) [] f e = absurd f
tasks_whole workers n (suc at) (t ∷ ts) (c ∷ cs) f e = λ i. task_said t (sym f.2 i) ∷ tasks_whole workers n at ts cs f.3 (omega arith) i

-- the whole script is what its lines have said
pub so_far_whole : (p : Progress) → Valid p → p.ended ≡ true → so_far p ≡ body_said p.tasks p.events
unfolding body_said
so_far_whole p v ended =
    λ i. tasks_whole p.workers (length p.tasks) p.at p.tasks p.counts v.tables (v.done ended) i
    ++ (rows_so_far (names_of p.tasks) p.tasks ++ (map (event_said (names_of p.tasks)) p.events ++ end_so_far (ended i)))
