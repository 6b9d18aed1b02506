-- What is known of a line without a fault.
use Rattle.std.proofs.Common.{◌≡◌, ℕ, ◌≤◌, ◌<◌, Bool, true, false, cond, length, refl, sym}
use Rattle.std.specs.Prelude.{Option, Some, None, is_none, bytes_eq, ◌||◌, nat_lt, nat_le}
use Rattle.std.specs.List.{list_any}
use Rattle.std.proofs.lemmas.Option.{none-some}
use Rattle.std.proofs.lemmas.Bool.{ltb-false, eqb-true, or_parts, not-false, leb-false}
use Rattle.step_tables.specs.declared.tables.TaskDef.{TaskDef}
use Rattle.step_tables.specs.declared.progress.Progress.{Progress}
use Rattle.step_tables.specs.Limits.{limits_of, most_rows, most_actions}
use Rattle.step_tables.specs.Shapes.{TaskLine, RowLine, EventLine}
use Rattle.step_tables.specs.Judging.{no_number, delay_no_number, place_no_number, first_fault, task_tests, row_tests, event_tests, place_outside, delay_outside, outside, value, unknown, named, order_name, due, promised, wrong_target, barred, last_round}

-- no kind was found, so the first test does not hold, and no kind is found behind it
pub passes : {K : Type 0} (b : Bool) (kind : K) (rest : Option K) → cond b (Some kind) rest ≡ None → (b ≡ false) × (rest ≡ None)
passes true kind rest e = absurd (none-some kind (sym e))
passes false kind rest e = (refl, e)

-- and no kind is found where no test holds
pub no_kind : {K : Type 0} (b : Bool) (kind : K) (rest : Option K) → b ≡ false → rest ≡ None → cond b (Some kind) rest ≡ None
no_kind true kind rest e f = absurd (cc)
no_kind false kind rest e f = f

-- the row that must come next
pub record Target (p : Progress) (line : RowLine) (task : TaskDef) : Type 0 where
  pub is_due : due p ≡ Some task
  pub name : bytes_eq task.name line.name ≡ true
  pub number : value line.number ≡ length task.rows
  pub next : value line.next < promised p

target : (p : Progress) (line : RowLine) (d : Option TaskDef) → due p ≡ d → wrong_target p d line ≡ false → (task : TaskDef) × Target p line task
target p line None is_due e = absurd (cc)
target p line (Some task) is_due e =
    let (name, more) = or_parts _ _ e in
    let (number, next) = or_parts _ _ more in
    (task, record { is_due = is_due; name = not-false _ name; number = eqb-true _ _ (not-false _ number); next = leb-false _ _ next })

-- a good row
pub record GoodRow (p : Progress) (line : RowLine) : Type 0 where
  pub numbers : (no_number line.number || (delay_no_number line.delay || no_number line.next)) ≡ false
  pub task : TaskDef
  pub target : Target p line task
  pub known : list_any (λ order. unknown p.tasks (order_name order)) line.orders ≡ false
  pub expiry : barred (due p) line.delay ≡ false
  pub few : nat_lt most_actions (length line.orders) ≡ false
  pub ticks : delay_outside line.delay ≡ false

pub good_row : (p : Progress) (line : RowLine) → first_fault (row_tests p line) ≡ None → GoodRow p line
good_row p line e =
    let (numbers, e_2) = passes _ _ _ e in
    let (names, e_3) = passes _ _ _ e_2 in
    let (row, e_4) = passes _ _ _ e_3 in
    let (expiry, e_5) = passes _ _ _ e_4 in
    let (ranges, e_6) = passes _ _ _ e_5 in
    let (task, is_target) = target p line (due p) refl row in
    record { numbers = numbers; task = task; target = is_target; known = (or_parts _ _ names).1; expiry = expiry; few = (or_parts _ _ ranges).0; ticks = (or_parts _ _ ranges).1 }

-- a good event
pub record GoodEvent (p : Progress) (line : EventLine) : Type 0 where
  pub number : no_number line.round ≡ false
  pub known : unknown p.tasks (order_name line.order) ≡ false
  pub round : value line.round < p.rounds
  pub few : nat_le (limits_of p.version).events (length p.events) ≡ false
  pub rising : last_round p.events ≤ value line.round

pub good_event : (p : Progress) (line : EventLine) → first_fault (event_tests p line) ≡ None → GoodEvent p line
good_event p line e =
    let (numbers, e_2) = passes _ _ _ e in
    let (names, e_3) = passes _ _ _ e_2 in
    let (ranges, e_4) = passes _ _ _ e_3 in
    let (round, more) = or_parts _ _ ranges in
    let (few, rising) = or_parts _ _ more in
    record { number = numbers; known = names; round = leb-false _ _ round; few = few; rising = ltb-false _ _ rising }

-- a good task line
pub record GoodTask (p : Progress) (line : TaskLine) : Type 0 where
  pub numbers : (place_no_number line.place || no_number line.rows) ≡ false
  pub new : unknown p.tasks line.name ≡ true
  pub place : place_outside p.workers line.place ≡ false
  pub rows : outside 1 most_rows (value line.rows) ≡ false
  pub few : nat_le (limits_of p.version).tasks (length p.tasks) ≡ false

pub good_task : (p : Progress) (line : TaskLine) → first_fault (task_tests p line) ≡ None → GoodTask p line
good_task p line e =
    let (numbers, e_2) = passes _ _ _ e in
    let (names, e_3) = passes _ _ _ e_2 in
    let (ranges, e_4) = passes _ _ _ e_3 in
    let (place, more) = or_parts _ _ ranges in
    let (rows, few) = or_parts _ _ more in
    record { numbers = numbers; new = not-false _ names; place = place; rows = rows; few = few }

-- the name of a good task line is that of no task
pub good_name : (p : Progress) (line : TaskLine) → first_fault (task_tests p line) ≡ None → named p.tasks line.name ≡ None
unfolding unknown
good_name p line e = missing (named p.tasks line.name) (good_task p line e).new
  where
    missing : (found : Option ℕ) → is_none found ≡ true → found ≡ None
    missing None h = refl
    missing (Some i) h = absurd (cc)
