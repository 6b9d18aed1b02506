-- Worked runs, by computation: whole transcripts that are lawful, and damaged ones that are not.
use Rattle.std.specs.Prelude.{◌≡◌, ℕ, ◌+◌, Bool, true, false, List, [], ◌∷◌, ◌++◌, ℤ, pos, negsuc, refl}
use Rattle.std.specs.List.{list_all, flat_map}
use Rattle.sched_base.specs.ReasonNames.{init, timer, io, other}
use Rattle.sched_base.specs.declared.names.Class.TheVariants.{Urgent}
use Rattle.step_tables.specs.declared.tables.Action.{Action}
use Rattle.step_tables.specs.declared.tables.Action.TheVariants.{Wake as Wakes, Kill as Kills}
use Rattle.step_tables.specs.declared.tables.Expiry.{Expiry}
use Rattle.step_tables.specs.declared.tables.Expiry.TheVariants.{Keep, After}
use Rattle.step_tables.specs.declared.tables.Kind.{Kind}
use Rattle.step_tables.specs.declared.tables.Kind.TheVariants.{Pinned, Shared, Tasklet}
use Rattle.step_tables.specs.declared.tables.Row.{Row}
use Rattle.step_tables.specs.declared.tables.TaskDef.{TaskDef}
use Rattle.step_tables.specs.declared.tables.Script.{Script}
use Rattle.task_machine.specs.declared.task.Stand.{Stand}
use Rattle.task_machine.specs.declared.task.Stand.TheVariants.{Rest, Queued, Runs}
use Rattle.task_machine.specs.declared.task.Seen.TheVariants.{Live}
use Rattle.task_machine.specs.declared.calls.Call.{Call}
use Rattle.task_machine.specs.declared.calls.Call.TheVariants.{Wake, Kill, Post, Get, Draw, Take, DropRun, Retire}
use Rattle.task_machine.specs.declared.calls.Reply.{Reply}
use Rattle.task_machine.specs.declared.calls.Reply.TheVariants.{Task, Group, Done}
use Rattle.task_machine.specs.declared.calls.Entry.{Entry}
use Rattle.task_machine.specs.Step.{mask_of}
use Rattle.run_model.specs.Run.{Round, Run}
use Rattle.run_model.specs.IsLawful.{is_lawful}

-- ---- short forms

abbrev script_of : ℕ → ℕ → ℕ → ℕ → ℕ → List TaskDef → Script
script_of workers depth start step rounds tasks =
    record { version = 1; workers = workers; depth = depth; start = start; step = step; rounds = rounds; tasks = tasks; events = [] }

abbrev task : Kind → Bool → List Row → TaskDef
task kind init rows = record { name = 97 ∷ []; kind = kind; init = init; rows = rows }

abbrev row : List Action → Expiry → ℕ → Row
row actions expiry next = record { actions = actions; expiry = expiry; next = next }

abbrev wakes : ℕ → ℕ → Action
wakes i reasons = Wakes (record { 0 = i }) reasons

abbrev kills : ℕ → Action
kills i = Kills (record { 0 = i })

abbrev entry : ℕ → Call → Reply → Entry
entry k call reply = record { caller = record { 0 = k }; call = call; reply = reply }

abbrev get : ℕ → ℕ → ℕ → Entry
get k g mask = entry k (Get g) (Group mask)

-- what a call saw: the stand, the reasons, the flag and the takes
abbrev saw : Stand → ℕ → Bool → ℕ → Reply
saw stand reasons killed takes = Task (Live stand reasons killed takes)

abbrev wake : ℕ → ℕ → ℕ → Reply → Entry
wake k i reasons seen = entry k (Wake (record { 0 = i }) reasons) seen

abbrev kill : ℕ → ℕ → Reply → Entry
kill k i seen = entry k (Kill (record { 0 = i })) seen

abbrev take : ℕ → ℕ → Reply → Entry
take k i seen = entry k (Take (record { 0 = i })) seen

abbrev drop_run : ℕ → ℕ → Reply → Entry
drop_run k i seen = entry k (DropRun (record { 0 = i })) seen

abbrev retire : ℕ → ℕ → Reply → Entry
retire k i seen = entry k (Retire (record { 0 = i })) seen

abbrev round : ℕ → List Entry → Round
round tick entries = record { tick = tick; entries = entries }

abbrev rests : List Round → Run
rests rounds = record { rounds = rounds; rest = true }

abbrev stops : List Round → Run
stops rounds = record { rounds = rounds; rest = false }

-- ---- no task at all: one empty round

abbrev no_task : Script
no_task = script_of 1 200 0 1 5 []

pub no_task_rests : is_lawful no_task (rests (round 0 [] ∷ [])) ≡ true
unfolding mask_of
no_task_rests = refl

pub no_task_goes_no_further : is_lawful no_task (rests (round 0 [] ∷ round 1 [] ∷ [])) ≡ false
unfolding mask_of
no_task_goes_no_further = refl

pub no_task_does_not_stop : is_lawful no_task (stops (round 0 [] ∷ [])) ≡ false
unfolding mask_of
no_task_does_not_stop = refl

-- ---- one task that kills itself

abbrev one_task : Script
one_task = script_of 1 200 0 1 5 (task (Pinned 0 (pos 0)) true (row (kills 0 ∷ []) Keep 0 ∷ []) ∷ [])

abbrev one_task_turn : List Entry
one_task_turn =
    get 0 0 1 ∷ take 0 0 (saw Queued init false 0) ∷ kill 0 0 (saw Runs 0 false 1) ∷ drop_run 0 0 (saw Runs 0 true 1) ∷
    retire 0 0 (saw Queued 0 true 1) ∷ []

pub one_task_runs : is_lawful one_task (rests (round 0 one_task_turn ∷ [])) ≡ true
unfolding mask_of
one_task_runs = refl

-- ---- a timer past the wrap of ticks

abbrev wrapping : Script
wrapping = script_of 1 200 4294967290 4 10
    (task (Pinned 0 (pos 0)) true (row [] (After 10) 1 ∷ row (kills 0 ∷ []) Keep 1 ∷ []) ∷ [])

abbrev wrapping_rounds : ℕ → List Round
wrapping_rounds reasons =
    round 4294967290 (get 0 0 1 ∷ take 0 0 (saw Queued init false 0) ∷ drop_run 0 0 (saw Runs 0 false 1) ∷ []) ∷
    round 4294967294 (get 0 0 0 ∷ []) ∷
    round 2 (get 0 0 0 ∷ []) ∷
    round 6 (get 0 0 0 ∷ wake 0 0 reasons (saw Rest 0 false 1) ∷ take 0 0 (saw Queued timer false 1) ∷ kill 0 0 (saw Runs 0 false 2) ∷
    drop_run 0 0 (saw Runs 0 true 2) ∷ retire 0 0 (saw Queued 0 true 2) ∷ []) ∷ []

pub wrapping_runs : is_lawful wrapping (rests (wrapping_rounds timer)) ≡ true
unfolding mask_of
wrapping_runs = refl

pub wrapping_wakes_for_the_timer : is_lawful wrapping (rests (wrapping_rounds io)) ≡ false
unfolding mask_of
wrapping_wakes_for_the_timer = refl

-- in version 2 the tick jumps to the timer
abbrev second : Script → Script
second s = record s { version = 2 }

abbrev jumping_rounds : ℕ → List Round
jumping_rounds tick =
    round 4294967290 (get 0 0 1 ∷ take 0 0 (saw Queued init false 0) ∷ drop_run 0 0 (saw Runs 0 false 1) ∷ []) ∷
    round tick (get 0 0 0 ∷ wake 0 0 timer (saw Rest 0 false 1) ∷ take 0 0 (saw Queued timer false 1) ∷ kill 0 0 (saw Runs 0 false 2) ∷
    drop_run 0 0 (saw Runs 0 true 2) ∷ retire 0 0 (saw Queued 0 true 2) ∷ []) ∷ []

pub jumping_runs : is_lawful (second wrapping) (rests (jumping_rounds 4)) ≡ true
unfolding mask_of
jumping_runs = refl

pub jumping_no_further : is_lawful (second wrapping) (rests (jumping_rounds 6)) ≡ false
unfolding mask_of
jumping_no_further = refl

pub jumping_in_version_2 : is_lawful wrapping (rests (jumping_rounds 4)) ≡ false
unfolding mask_of
jumping_in_version_2 = refl

pub wrapping_in_version_1 : is_lawful (second wrapping) (rests (wrapping_rounds timer)) ≡ false
unfolding mask_of
wrapping_in_version_1 = refl

-- a timer that fires a round too early, a call left out, a call made twice
abbrev wrapping_opens : List Round
wrapping_opens = round 4294967290 (get 0 0 1 ∷ take 0 0 (saw Queued init false 0) ∷ drop_run 0 0 (saw Runs 0 false 1) ∷ []) ∷ []

pub wrapping_waits_on : is_lawful wrapping (rests wrapping_opens) ≡ false
unfolding mask_of
wrapping_waits_on = refl

pub wrapping_fires_no_earlier : is_lawful wrapping (rests (wrapping_opens ++ (round 4294967294 (get 0 0 0 ∷ wake 0 0 timer (saw Rest 0 false 1) ∷ []) ∷ []))) ≡ false
unfolding mask_of
wrapping_fires_no_earlier = refl

pub one_task_is_retired : is_lawful one_task (rests (round 0 (get 0 0 1 ∷ take 0 0 (saw Queued init false 0) ∷ kill 0 0 (saw Runs 0 false 1) ∷ drop_run 0 0 (saw Runs 0 true 1) ∷ []) ∷ [])) ≡ false
unfolding mask_of
one_task_is_retired = refl

pub one_task_gets_once : is_lawful one_task (rests (round 0 (one_task_turn ++ (get 0 0 0 ∷ [])) ∷ [])) ≡ false
unfolding mask_of
one_task_gets_once = refl

pub one_task_sees_what_is : is_lawful one_task (rests (round 0 (get 0 0 1 ∷ take 0 0 (saw Queued init false 0) ∷ kill 0 0 (saw Runs 0 false 1) ∷ drop_run 0 0 (saw Runs 0 true 1) ∷ retire 0 0 (saw Runs 0 true 1) ∷ []) ∷ [])) ≡ false
unfolding mask_of
one_task_sees_what_is = refl

-- ---- a task that wakes itself at each run, up to the last round

abbrev self_waking : Script
self_waking = script_of 1 200 1 1 3 (task (Pinned 0 (pos 0)) true (row (wakes 0 other ∷ []) Keep 0 ∷ []) ∷ [])

abbrev self_waking_turn : ℕ → ℕ → ℕ → List Entry
self_waking_turn mask reasons takes =
    get 0 0 mask ∷ take 0 0 (saw Queued reasons false takes) ∷ wake 0 0 other (saw Runs 0 false (takes + 1)) ∷
    drop_run 0 0 (saw Runs other false (takes + 1)) ∷ []

abbrev self_waking_rounds : List Round
self_waking_rounds =
    round 1 (self_waking_turn 1 init 0) ∷ round 2 (self_waking_turn 0 other 1) ∷ round 3 (self_waking_turn 0 other 2) ∷ []

pub self_waking_stops : is_lawful self_waking (stops self_waking_rounds) ≡ true
unfolding mask_of
self_waking_stops = refl

pub self_waking_does_not_rest : is_lawful self_waking (rests self_waking_rounds) ≡ false
unfolding mask_of
self_waking_does_not_rest = refl

-- ---- a check with a timer, and an urgent tasklet

abbrev checked : Script
checked = script_of 1 200 1000 10 20
    (task (Pinned 0 (pos 0)) true (row (wakes 1 io ∷ []) (After 20) 1 ∷ row (kills 1 ∷ kills 0 ∷ []) Keep 1 ∷ []) ∷
    task (Tasklet 0 Urgent) false (row [] Keep 0 ∷ []) ∷ [])

abbrev checked_rounds : List Round
checked_rounds =
    round 1000 (get 0 0 1 ∷ take 0 0 (saw Queued init false 0) ∷ wake 0 1 io (saw Rest 0 false 0) ∷ drop_run 0 0 (saw Runs 0 false 1) ∷ []) ∷
    round 1010 (get 0 0 0 ∷ take 0 1 (saw Queued io false 0) ∷ drop_run 0 1 (saw Runs 0 false 1) ∷ []) ∷
    round 1020 (get 0 0 0 ∷ wake 0 0 timer (saw Rest 0 false 1) ∷ take 0 0 (saw Queued timer false 1) ∷ kill 0 1 (saw Rest 0 false 1) ∷
    kill 0 0 (saw Runs 0 false 2) ∷ drop_run 0 0 (saw Runs 0 true 2) ∷ retire 0 0 (saw Queued 0 true 2) ∷ []) ∷
    round 1030 (get 0 0 0 ∷ take 0 1 (saw Queued 0 true 1) ∷ retire 0 1 (saw Runs 0 false 2) ∷ []) ∷ []

pub checked_runs : is_lawful checked (rests checked_rounds) ≡ true
unfolding mask_of
checked_runs = refl

-- ---- three shared tasks that are drawn

abbrev shared : ℤ → ℕ → TaskDef
shared nice i = task (Shared nice) true (row (kills i ∷ []) Keep 0 ∷ [])

abbrev three_shared : ℕ → ℕ → Script
three_shared workers depth = script_of workers depth 0 1 5 (shared (pos 0) 0 ∷ shared (pos 1) 1 ∷ shared (negsuc 0) 2 ∷ [])

abbrev kills_itself : ℕ → ℕ → List Entry
kills_itself k i =
    take k i (saw Queued init false 0) ∷ kill k i (saw Runs 0 false 1) ∷ drop_run k i (saw Runs 0 true 1) ∷ retire k i (saw Queued 0 true 1) ∷ []

-- a task drawn and run
abbrev piece : ℕ → ℕ → List Entry
piece k i = entry k (Draw (record { 0 = i })) Done ∷ kills_itself k i

-- a turn that gets nothing and draws these tasks
abbrev draws : ℕ → List ℕ → List Entry
draws k ids = get k 0 0 ∷ flat_map (piece k) ids

abbrev drawn_in_one_round : List ℕ → Run
drawn_in_one_round ids = rests (round 0 (draws 0 ids) ∷ [])

pub drawn_by_nice : is_lawful (three_shared 1 200) (drawn_in_one_round (2 ∷ 0 ∷ 1 ∷ [])) ≡ true
unfolding mask_of
drawn_by_nice = refl

-- in each other order too
pub drawn_in_any_order : list_all (λ ids. is_lawful (three_shared 1 200) (drawn_in_one_round ids)) (
    (2 ∷ 1 ∷ 0 ∷ []) ∷ (0 ∷ 1 ∷ 2 ∷ []) ∷ (0 ∷ 2 ∷ 1 ∷ []) ∷ (1 ∷ 0 ∷ 2 ∷ []) ∷ (1 ∷ 2 ∷ 0 ∷ []) ∷ []
    ) ≡ true
unfolding mask_of
drawn_in_any_order = refl

-- by two workers, whose calls mix
pub drawn_by_two : is_lawful (three_shared 2 200) (rests (round 0 (draws 1 (2 ∷ []) ++ (draws 0 (0 ∷ []) ++ piece 1 1)) ∷ [])) ≡ true
unfolding mask_of
drawn_by_two = refl

-- in two rounds, where each worker has made as many draws as it may
pub drawn_in_two_rounds : is_lawful (three_shared 1 2) (rests (round 0 (draws 0 (2 ∷ 0 ∷ [])) ∷ round 1 (draws 0 (1 ∷ [])) ∷ [])) ≡ true
unfolding mask_of
drawn_in_two_rounds = refl

-- but no more draws than that, and none left out before
pub drawn_too_often : is_lawful (three_shared 1 2) (drawn_in_one_round (2 ∷ 0 ∷ 1 ∷ [])) ≡ false
unfolding mask_of
drawn_too_often = refl

pub draws_stop_early : is_lawful (three_shared 1 200) (rests (round 0 (draws 0 (2 ∷ 0 ∷ [])) ∷ round 1 (draws 0 (1 ∷ [])) ∷ [])) ≡ false
unfolding mask_of
draws_stop_early = refl

pub never_draws : is_lawful (three_shared 1 200) (stops (round 0 (draws 0 []) ∷ round 1 (draws 0 []) ∷ round 2 (draws 0 []) ∷ round 3 (draws 0 []) ∷ round 4 (draws 0 []) ∷ [])) ≡ false
unfolding mask_of
never_draws = refl

pub takes_what_it_drew : is_lawful (three_shared 1 200) (rests (round 0 (get 0 0 0 ∷ (kills_itself 0 2 ++ (piece 0 0 ++ piece 0 1))) ∷ [])) ≡ false
unfolding mask_of
takes_what_it_drew = refl

-- ---- an event for a task of one worker, whose run wakes one of the other

abbrev post : ℕ → ℕ → ℕ → Entry
post k i to = entry k (Post (record { 0 = i }) to) Done

abbrev posted : Script
posted = record {
  version = 1;
  workers = 2;
  depth = 200;
  start = 0;
  step = 1;
  rounds = 9;
  tasks = task (Pinned 0 (pos 0)) false (row (wakes 1 io ∷ []) Keep 0 ∷ []) ∷ task (Pinned 1 (pos 0)) false (row [] Keep 0 ∷ []) ∷ [];
  events = record { round = 0; action = wakes 0 io } ∷ [];
}

-- the injector posts the task that it woke, and so does the worker; each runs in the round in which it is got
abbrev posted_rounds : List Entry → List Round
posted_rounds woken =
    round 0 (wake 2 0 io (saw Rest 0 false 0) ∷ post 2 0 0 ∷ get 0 0 1 ∷ get 1 0 0 ∷ take 0 0 (saw Queued io false 0) ∷
    wake 0 1 io (saw Rest 0 false 0) ∷ (woken ++ (drop_run 0 0 (saw Runs 0 false 1) ∷ []))) ∷
    round 1 (get 1 0 2 ∷ take 1 1 (saw Queued io false 0) ∷ get 0 0 0 ∷ drop_run 1 1 (saw Runs 0 false 1) ∷ []) ∷ []

pub posted_runs : is_lawful posted (rests (posted_rounds (post 0 1 1 ∷ []))) ≡ true
unfolding mask_of
posted_runs = refl

pub posted_to_its_home : is_lawful posted (rests (posted_rounds (post 0 1 0 ∷ []))) ≡ false
unfolding mask_of
posted_to_its_home = refl

pub posted_at_once : is_lawful posted (rests (posted_rounds [])) ≡ false
unfolding mask_of
posted_at_once = refl
