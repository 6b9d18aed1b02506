-- What stands between two rounds, how a run opens, whether the shared box was served, and rest (docs/MODEL.md, "Rounds").
use Rattle.std.specs.Prelude.{ℕ, ◌+◌, ◌*◌, ◌%◌, ◌^◌, ◌==◌, ◌&&◌, ◌||◌, Bool, true, false, nat_le, List, [], ◌∷◌, map, filter, fold, take, not, int_le, Option, None, Some, unwrap_or, length, replicate, slice_index_or, if◌then◌else◌}
use Rattle.std.specs.List.{list_all, list_any, flat_map, range_with_len}
use Rattle.queue_model.specs.RunList.{RunList}
use Rattle.step_tables.specs.declared.tables.Script.{Script}
use Rattle.step_tables.specs.declared.tables.TaskDef.{TaskDef}
use Rattle.task_machine.specs.declared.task.Place.{Place}
use Rattle.task_machine.specs.declared.task.Place.TheVariants.{Rest, Hands, Boxed, Drawn, Runs, Gone}
use Rattle.task_machine.specs.declared.task.TaskState.{TaskState}
use Rattle.task_machine.specs.Task.{resting, seated, is_boxed}
use Rattle.task_machine.specs.Step.{State, task_at}
use Rattle.task_machine.specs.History.{calls_of}
use Rattle.task_machine.specs.declared.calls.Call.{Call}
use Rattle.task_machine.specs.declared.calls.Call.TheVariants.{Draw}
use Rattle.task_machine.specs.declared.calls.Entry.{Entry}
use Rattle.queue_model.specs.Ticks.{distance}
use Rattle.queue_model.specs.Settle.{settled}
use Rattle.run_model.specs.Versions.{is_second}
use Rattle.run_model.specs.Tables.{home_in}
use Rattle.run_model.specs.Book.{Book}

-- the state of all tasks, and each worker's book
pub record Standing : Type 0 where
  pub state : State
  pub books : List Book

-- an empty run list
abbrev pub no_run : RunList
no_run = record { count = 0; items = [] }

-- the book of a worker at the start, with n tasks in the script
abbrev pub blank_book : ℕ → Book
blank_book n = record {
  wait = record { items = []; expiries = replicate n 0 };
  run = no_run;
  lists = record { urgent = []; normal = []; bulk = []; heavy = [] };
}

-- a task at the start: in the box of its home with the reason init, or at rest
abbrev pub opened : Script → TaskDef → TaskState
opened s d = if d.init then seated (home_in s d.kind) resting else resting

-- what stands before round 0
abbrev pub opening : Script → Standing
opening s = record {
  state = record { workers = s.workers; tasks = map (opened s) s.tasks };
  books = replicate s.workers (blank_book (length s.tasks));
}

-- the tasks in the shared box, in ascending order
abbrev pub in_shared : Script → State → List ℕ
in_shared s state = filter (λ i. is_boxed s.workers (task_at state i).place) (range_with_len 0 (length state.tasks))

-- the book of worker w
abbrev pub book_at : Standing → ℕ → Book
book_at st w = slice_index_or st.books w (blank_book 0)

-- whether a call draws task i, and whether it draws any task
abbrev pub is_draw_of : ℕ → Call → Bool
is_draw_of i (Draw j) = i == j.0
is_draw_of i c = false

abbrev pub is_draw : Call → Bool
is_draw (Draw j) = true
is_draw c = false

-- whether task i was drawn, and how many draws caller k made
abbrev pub was_drawn : ℕ → List Entry → Bool
was_drawn i es = list_any (λ e. is_draw_of i e.call) es

abbrev pub draws_of : ℕ → List Entry → ℕ
draws_of k es = length (filter (λ e. is_draw e.call) (calls_of k es))

-- whether the shared box was served in a round: each task that was in it at the begin was drawn, or each worker made as many
-- draws as it may
abbrev pub is_served : Script → State → List Entry → Bool
is_served s state es =
    list_all (λ i. was_drawn i es) (in_shared s state) || list_all (λ w. draws_of w es == s.depth) (range_with_len 0 s.workers)

-- whether a task at this place has nothing more to do
abbrev pub is_still_at : Place → Bool
is_still_at Rest = true
is_still_at Gone = true
is_still_at (Hands k) = false
is_still_at (Boxed b) = false
is_still_at (Drawn k) = false
is_still_at (Runs k) = false

-- whether all tasks rest or are gone
abbrev pub is_still : Standing → Bool
is_still st = list_all (λ t. is_still_at t.place) st.state.tasks

-- whether no event comes after round r
abbrev pub no_later : Script → ℕ → Bool
no_later s r = list_all (λ e. nat_le e.round r) s.events

-- whether all wait lists are empty
abbrev pub no_timer : Standing → Bool
no_timer st = list_all (λ b. length b.wait.items == 0) st.books

-- whether a run that stands so after round r is over
abbrev pub is_at_rest : Script → ℕ → Standing → Bool
is_at_rest s r st = is_still st && (no_later s r && no_timer st)

-- the first keys of the wait lists
abbrev pub first_key : Book → List ℕ
first_key b = map (λ y. y.key) (take 1 b.wait.items)

abbrev pub first_keys : Standing → List ℕ
first_keys st = flat_map first_key st.books

-- the earlier of two ticks from T on
abbrev pub earlier_of : ℕ → ℕ → ℕ → ℕ
earlier_of T t u = if int_le (distance t T) (distance u T) then t else u

abbrev pub earliest : ℕ → List ℕ → Option ℕ
earliest T [] = None
earliest T (t ∷ ts) = Some (fold (earlier_of T) t ts)

-- whether round n has an event
abbrev pub has_event : Script → ℕ → Bool
has_event s n = list_any (λ e. e.round == n) s.events

-- whether the tick after round r jumps to the first timer: there is nothing else to wait for
abbrev pub jumps : Script → ℕ → Standing → Bool
jumps s r st = is_second s && (is_still st && not (has_event s (r + 1)))

-- the tick of the round after round r at tick T, by what stands after that
abbrev pub next_tick : Script → ℕ → ℕ → Standing → ℕ
next_tick s r T st = unwrap_or (if jumps s r st then earliest T (first_keys st) else None) ((T + s.step) % 2 ^ 32)

-- a book after a turn at tick T: its wait list settled, from version 2 on
abbrev pub turn_ended : Script → ℕ → Book → Book
turn_ended s T b = if is_second s then record b { wait = settled T b.wait } else b
