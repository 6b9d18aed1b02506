-- Worked texts: each is read as its script, or has the line and the kind of its fault.
use Rattle.std.proofs.Common.{◌≡◌, refl}
use Rattle.std.specs.Prelude.{ℕ, List, [], ◌∷◌, ◌++◌, pos, negsuc, true, false, codes, map, Ok, Err}
use Rattle.step_tables.specs.Types.{Urgent, Wake, Kill, Keep, After, Pinned, Shared, Tasklet}
use Rattle.step_tables.specs.declared.tables.Script.{Script}
use Rattle.text_lines.specs.Lines.{line_over, line_taken, closed, folded}
use Rattle.text_lines.specs.Numbers.{number, plain_number, signed}
use Rattle.text_lines.specs.Names.{place_in}
use Rattle.text_lines.specs.Reasons.{reasons}
use Rattle.text_lines.specs.Shapes.{front, whole}
use Rattle.step_tables.specs.Words.{words_of, is_name}
use Rattle.step_tables.specs.Shapes.{init_at, task_at, task_line, order_at, orders_at, closing, row_said, event_said, end_said, setting_line, body_line}
use Rattle.step_tables.specs.Judging.{value, signed_value, no_number, no_signed, named, unknown, place_no_number, place_outside, delay_no_number, delay_outside, kind_of, task_of, number_named, action_of, expiry_of, row_of, event_of, with_setting, with_task, with_row_at_end, with_row, with_event, with_line, judge_tested, judge_said, setting_at, said_in, said_of, judge, judge_header, version_of, version_in, script_from, script_within, script_of}
use Rattle.step_tables.specs.Sound.{is_sound}

-- texts beside their scripts
abbrev read_texts : List (List ℕ × Script)
read_texts =
    (codes "taskscript 1\nworkers 1\ndepth 200\nstart 4294967290\nstep 4\nrounds 10\ntask a home 0 nice 0 rows 2 init\nrow a 0 after 10 next 1\nrow a 1 kill a next 1\nend\n", record { version = 1; workers = 1; depth = 200; start = 4294967290; step = 4; rounds = 10; tasks = record { name = codes "a"; kind = Pinned 0 (pos 0); init = true; rows = record { actions = []; expiry = After 10; next = 1 } ∷ record { actions = Kill (record { 0 = 0 }) ∷ []; expiry = Keep; next = 1 } ∷ [] } ∷ []; events = [] })
    ∷ (codes "taskscript 1\nworkers 1\ndepth 200\nstart 1\nstep 1\nrounds 3\ntask a home 0 nice 0 rows 1 init\nrow a 0 wake a other next 0\nend\n", record { version = 1; workers = 1; depth = 200; start = 1; step = 1; rounds = 3; tasks = record { name = codes "a"; kind = Pinned 0 (pos 0); init = true; rows = record { actions = Wake (record { 0 = 0 }) 64 ∷ []; expiry = Keep; next = 0 } ∷ [] } ∷ []; events = [] })
    ∷ (codes "taskscript 1\nworkers 1\ndepth 200\nstart 1000\nstep 10\nrounds 20\ntask check home 0 nice 0 rows 2 init\ntasklet conn home 0 class urgent rows 1\nrow check 0 wake conn io after 20 next 1\nrow check 1 kill conn kill check next 1\nrow conn 0 next 0\nend\n", record { version = 1; workers = 1; depth = 200; start = 1000; step = 10; rounds = 20; tasks = record { name = codes "check"; kind = Pinned 0 (pos 0); init = true; rows = record { actions = Wake (record { 0 = 1 }) 4 ∷ []; expiry = After 20; next = 1 } ∷ record { actions = Kill (record { 0 = 1 }) ∷ Kill (record { 0 = 0 }) ∷ []; expiry = Keep; next = 1 } ∷ [] } ∷ record { name = codes "conn"; kind = Tasklet 0 Urgent; init = false; rows = record { actions = []; expiry = Keep; next = 0 } ∷ [] } ∷ []; events = [] })
    ∷ (codes "taskscript 1\nworkers 16\ndepth 1000\nstart 0\nstep 1048576\nrounds 100000\ntask next shared nice -1024 rows 1\nrow next 0 wake next init,other kill next next 0\nevent 3 kill next\nevent 3 wake next timer,io,signal,msg,res\nevent 99999 kill next\nend\n", record { version = 1; workers = 16; depth = 1000; start = 0; step = 1048576; rounds = 100000; tasks = record { name = codes "next"; kind = Shared (negsuc 1023); init = false; rows = record { actions = Wake (record { 0 = 0 }) 65 ∷ Kill (record { 0 = 0 }) ∷ []; expiry = Keep; next = 0 } ∷ [] } ∷ []; events = record { round = 3; action = Kill (record { 0 = 0 }) } ∷ record { round = 3; action = Wake (record { 0 = 0 }) 62 } ∷ record { round = 99999; action = Kill (record { 0 = 0 }) } ∷ [] })
    ∷ (codes "taskscript 2\nworkers 1\ndepth 200\nstart 0\nstep 1\nrounds 2\nend\n", record { version = 2; workers = 1; depth = 200; start = 0; step = 1; rounds = 2; tasks = []; events = [] })
    ∷ (codes "taskscript 1\nworkers 1\ndepth 200\nstart 4294967290\nstep 4\nrounds 10\nend\n", record { version = 1; workers = 1; depth = 200; start = 4294967290; step = 4; rounds = 10; tasks = []; events = [] })
    ∷ []

read_texts-are_read : map (λ e. script_of e.0) read_texts ≡ map (λ e. Ok e.1) read_texts
unfolding words_of number plain_number signed is_name reasons place_in front whole init_at task_at task_line order_at orders_at closing row_said event_said end_said setting_line body_line value signed_value no_number no_signed named unknown place_no_number place_outside delay_no_number delay_outside kind_of task_of number_named action_of expiry_of row_of event_of with_setting with_task with_row_at_end with_row with_event with_line judge_tested judge_said setting_at said_in said_of judge judge_header version_of version_in script_from line_over line_taken closed folded script_of is_sound
read_texts-are_read = refl

read_texts-are_sound : map (λ e. is_sound e.1) read_texts ≡ true ∷ true ∷ true ∷ true ∷ true ∷ true ∷ []
unfolding words_of number plain_number signed is_name reasons place_in front whole init_at task_at task_line order_at orders_at closing row_said event_said end_said setting_line body_line value signed_value no_number no_signed named unknown place_no_number place_outside delay_no_number delay_outside kind_of task_of number_named action_of expiry_of row_of event_of with_setting with_task with_row_at_end with_row with_event with_line judge_tested judge_said setting_at said_in said_of judge judge_header version_of version_in script_from line_over line_taken closed folded script_of is_sound
read_texts-are_sound = refl

-- texts beside their faults, as line and kind
abbrev bad_texts : List (List ℕ × (ℕ × ℕ))
bad_texts =
    -- nothing is cut
    ([], (1, 9))
    ∷  -- cut text ends too early
    (codes "taskscript 1\nworkers 1\ndepth 200\nstart 4294967290\nstep 4\nrounds 10\ntask a home 0 nice 0 rows 2 init\nrow a 0 after 10 next 1\n", (9, 9))
    ∷  -- open piece is not judged
    (codes "taskscript 1\nworkers 1\ndepth 200\nstart 4294967290\nstep 4\nrounds 10\ntask a home 0 nice 0 rows 2 init\nrow a 0 after 10 next 1\n" ++ codes "nonsense", (9, 9))
    ∷  -- end is not complete
    (codes "taskscript 1\nworkers 1\ndepth 200\nstart 4294967290\nstep 4\nrounds 10\ntask a home 0 nice 0 rows 2 init\nrow a 0 after 10 next 1\nrow a 1 kill a next 1\n" ++ codes "end", (10, 9))
    ∷  -- bytes follow end
    (codes "taskscript 1\nworkers 1\ndepth 200\nstart 4294967290\nstep 4\nrounds 10\ntask a home 0 nice 0 rows 2 init\nrow a 0 after 10 next 1\nrow a 1 kill a next 1\nend\n" ++ codes " ", (11, 2))
    ∷  -- line follows end
    (codes "taskscript 1\nworkers 1\ndepth 200\nstart 4294967290\nstep 4\nrounds 10\ntask a home 0 nice 0 rows 2 init\nrow a 0 after 10 next 1\nrow a 1 kill a next 1\nend\n\n", (11, 2))
    ∷  -- other header
    (codes "taskscript 9\nworkers 1\ndepth 200\nstart 4294967290\nstep 4\nrounds 10\ntask a home 0 nice 0 rows 2 init\nrow a 0 after 10 next 1\nrow a 1 kill a next 1\nend\n", (1, 1))
    ∷  -- first of two bad lines
    (codes "taskscript 1\nworker 1\ndepth x\nstart 4294967290\nstep 4\nrounds 10\ntask a home 0 nice 0 rows 2 init\nrow a 0 after 10 next 1\nrow a 1 kill a next 1\nend\n", (2, 2))
    ∷  -- number with leading zero
    (codes "taskscript 1\nworkers 01\ndepth 200\nstart 4294967290\nstep 4\nrounds 10\ntask a home 0 nice 0 rows 2 init\nrow a 0 after 10 next 1\nrow a 1 kill a next 1\nend\n", (2, 3))
    ∷  -- number with sign
    (codes "taskscript 1\nworkers +1\ndepth 200\nstart 4294967290\nstep 4\nrounds 10\ntask a home 0 nice 0 rows 2 init\nrow a 0 after 10 next 1\nrow a 1 kill a next 1\nend\n", (2, 3))
    ∷  -- number of eleven digits
    (codes "taskscript 1\nworkers 1\ndepth 200\nstart 10000000000\nstep 4\nrounds 10\ntask a home 0 nice 0 rows 2 init\nrow a 0 after 10 next 1\nrow a 1 kill a next 1\nend\n", (4, 3))
    ∷  -- start past range
    (codes "taskscript 1\nworkers 1\ndepth 200\nstart 4294967296\nstep 4\nrounds 10\ntask a home 0 nice 0 rows 2 init\nrow a 0 after 10 next 1\nrow a 1 kill a next 1\nend\n", (4, 8))
    ∷  -- no workers
    (codes "taskscript 1\nworkers 0\ndepth 200\nstart 4294967290\nstep 4\nrounds 10\ntask a home 0 nice 0 rows 2 init\nrow a 0 after 10 next 1\nrow a 1 kill a next 1\nend\n", (2, 8))
    ∷  -- settings in other order
    (codes "taskscript 1\ndepth 200\nworkers 1\nstart 4294967290\nstep 4\nrounds 10\ntask a home 0 nice 0 rows 2 init\nrow a 0 after 10 next 1\nrow a 1 kill a next 1\nend\n", (2, 2))
    ∷  -- two spaces
    (codes "taskscript 1\nworkers  1\ndepth 200\nstart 4294967290\nstep 4\nrounds 10\ntask a home 0 nice 0 rows 2 init\nrow a 0 after 10 next 1\nrow a 1 kill a next 1\nend\n", (2, 2))
    ∷  -- space at the end
    (codes "taskscript 1\nworkers 1 \ndepth 200\nstart 4294967290\nstep 4\nrounds 10\ntask a home 0 nice 0 rows 2 init\nrow a 0 after 10 next 1\nrow a 1 kill a next 1\nend\n", (2, 2))
    ∷  -- carriage return
    (codes "taskscript 1\nworkers 1\r\ndepth 200\nstart 4294967290\nstep 4\nrounds 10\ntask a home 0 nice 0 rows 2 init\nrow a 0 after 10 next 1\nrow a 1 kill a next 1\nend\n", (2, 3))
    ∷  -- init in the place of a number
    (codes "taskscript 1\nworkers 1\ndepth 200\nstart 4294967290\nstep 4\nrounds 10\ntask a home 0 nice 0 rows init\nrow a 0 after 10 next 1\nrow a 1 kill a next 1\nend\n", (7, 3))
    ∷  -- minus zero
    (codes "taskscript 1\nworkers 1\ndepth 200\nstart 4294967290\nstep 4\nrounds 10\ntask a home 0 nice -0 rows 2\nrow a 0 after 10 next 1\nrow a 1 kill a next 1\nend\n", (7, 3))
    ∷  -- name of 17 bytes
    (codes "taskscript 1\nworkers 1\ndepth 200\nstart 4294967290\nstep 4\nrounds 10\ntask a2345678901234567 home 0 nice 0 rows 2\nrow a 0 after 10 next 1\nrow a 1 kill a next 1\nend\n", (7, 2))
    ∷  -- home of no worker
    (codes "taskscript 1\nworkers 1\ndepth 200\nstart 4294967290\nstep 4\nrounds 10\ntask a home 1 nice 0 rows 2\nrow a 0 after 10 next 1\nrow a 1 kill a next 1\nend\n", (7, 8))
    ∷  -- unknown class
    (codes "taskscript 1\nworkers 1\ndepth 200\nstart 1000\nstep 10\nrounds 20\ntask check home 0 nice 0 rows 2 init\ntasklet conn home 0 class slow rows 1\nrow check 0 wake conn io after 20 next 1\nrow check 1 kill conn kill check next 1\nrow conn 0 next 0\nend\n", (8, 2))
    ∷  -- named twice
    (codes "taskscript 1\nworkers 1\ndepth 200\nstart 1000\nstep 10\nrounds 20\ntask check home 0 nice 0 rows 2 init\ntasklet check home 9 class bulk rows 1\nrow check 0 wake conn io after 20 next 1\nrow check 1 kill conn kill check next 1\nrow conn 0 next 0\nend\n", (8, 5))
    ∷  -- row before task
    (codes "taskscript 1\nworkers 1\ndepth 200\nstart 4294967290\nstep 4\nrounds 10\nrow a 0 next 0\n", (7, 2))
    ∷  -- event before rows
    (codes "taskscript 1\nworkers 1\ndepth 200\nstart 4294967290\nstep 4\nrounds 10\ntask a home 0 nice 0 rows 2 init\nevent 0 kill a\n", (8, 2))
    ∷  -- task behind row
    (codes "taskscript 1\nworkers 1\ndepth 200\nstart 4294967290\nstep 4\nrounds 10\ntask a home 0 nice 0 rows 2 init\nrow a 0 after 10 next 1\ntask b home 0 nice 0 rows 1\n", (9, 2))
    ∷  -- row behind the last
    (codes "taskscript 1\nworkers 1\ndepth 200\nstart 4294967290\nstep 4\nrounds 10\ntask a home 0 nice 0 rows 2 init\nrow a 0 after 10 next 1\nrow a 1 kill a next 1\nrow a 2 next 0\n", (10, 2))
    ∷  -- unknown task in row
    (codes "taskscript 1\nworkers 1\ndepth 200\nstart 4294967290\nstep 4\nrounds 10\ntask a home 0 nice 0 rows 2 init\nrow a 0 kill b next 9\nrow a 1 kill a next 1\nend\n", (8, 4))
    ∷  -- next row is none
    (codes "taskscript 1\nworkers 1\ndepth 200\nstart 4294967290\nstep 4\nrounds 10\ntask a home 0 nice 0 rows 2 init\nrow a 0 next 64\nrow a 1 kill a next 1\nend\n", (8, 6))
    ∷  -- rows out of order
    (codes "taskscript 1\nworkers 1\ndepth 200\nstart 4294967290\nstep 4\nrounds 10\ntask a home 0 nice 0 rows 2 init\nrow a 1 next 0\nrow a 1 kill a next 1\nend\n", (8, 6))
    ∷  -- expiry of shared task
    (codes "taskscript 1\nworkers 1\ndepth 200\nstart 4294967290\nstep 4\nrounds 10\ntask a shared nice 0 rows 1\nrow a 0 after 10 next 0\n", (8, 7))
    ∷  -- expiry and target
    (codes "taskscript 1\nworkers 1\ndepth 200\nstart 4294967290\nstep 4\nrounds 10\ntask a shared nice 0 rows 1\nrow a 0 never next 1\n", (8, 6))
    ∷  -- seventeen actions
    (codes "taskscript 1\nworkers 1\ndepth 200\nstart 4294967290\nstep 4\nrounds 10\ntask a home 0 nice 0 rows 2 init\nrow a 0 kill a kill a kill a kill a kill a kill a kill a kill a kill a kill a kill a kill a kill a kill a kill a kill a kill a next 1\nrow a 1 kill a next 1\nend\n", (8, 8))
    ∷  -- after zero
    (codes "taskscript 1\nworkers 1\ndepth 200\nstart 4294967290\nstep 4\nrounds 10\ntask a home 0 nice 0 rows 2 init\nrow a 0 after 0 next 1\nrow a 1 kill a next 1\nend\n", (8, 8))
    ∷  -- reasons in other order
    (codes "taskscript 1\nworkers 1\ndepth 200\nstart 4294967290\nstep 4\nrounds 10\ntask a home 0 nice 0 rows 2 init\nrow a 0 wake a io,timer next 1\nrow a 1 kill a next 1\nend\n", (8, 2))
    ∷  -- no reasons
    (codes "taskscript 1\nworkers 1\ndepth 200\nstart 4294967290\nstep 4\nrounds 10\ntask a home 0 nice 0 rows 2 init\nrow a 0 wake a - next 1\nrow a 1 kill a next 1\nend\n", (8, 2))
    ∷  -- rounds fall
    (codes "taskscript 1\nworkers 1\ndepth 200\nstart 4294967290\nstep 4\nrounds 10\ntask a home 0 nice 0 rows 2 init\nrow a 0 after 10 next 1\nrow a 1 kill a next 1\nevent 3 kill a\nevent 2 kill a\nend\n", (11, 8))
    ∷  -- event past the last round
    (codes "taskscript 1\nworkers 1\ndepth 200\nstart 4294967290\nstep 4\nrounds 10\ntask a home 0 nice 0 rows 2 init\nrow a 0 after 10 next 1\nrow a 1 kill a next 1\nevent 10 kill a\nend\n", (10, 8))
    ∷ []

bad_texts-are_refused : map (λ e. script_of e.0) bad_texts ≡ map (λ e. Err (record { line = e.1.0; kind = e.1.1 })) bad_texts
unfolding words_of number plain_number signed is_name reasons place_in front whole init_at task_at task_line order_at orders_at closing row_said event_said end_said setting_line body_line value signed_value no_number no_signed named unknown place_no_number place_outside delay_no_number delay_outside kind_of task_of number_named action_of expiry_of row_of event_of with_setting with_task with_row_at_end with_row with_event with_line judge_tested judge_said setting_at said_in said_of judge judge_header version_of version_in script_from line_over line_taken closed folded script_of is_sound
bad_texts-are_refused = refl

-- a limit, a text past it, and the fault: in the line of the byte behind the limit, unless it stands behind the line `end`
abbrev long_texts : List (ℕ × List ℕ × (ℕ × ℕ))
long_texts =
    -- limit in the header
    (5, codes "taskscript 1\nworkers 1\ndepth 200\nstart 4294967290\nstep 4\nrounds 10\ntask a home 0 nice 0 rows 2 init\nrow a 0 after 10 next 1\nrow a 1 kill a next 1\nend\n", (1, 8))
    ∷  -- limit at a line feed
    (22, codes "taskscript 1\nworkers 1\ndepth 200\nstart 4294967290\nstep 4\nrounds 10\ntask a home 0 nice 0 rows 2 init\nrow a 0 after 10 next 1\nrow a 1 kill a next 1\nend\n", (2, 8))
    ∷  -- limit behind a line feed
    (23, codes "taskscript 1\nworkers 1\ndepth 200\nstart 4294967290\nstep 4\nrounds 10\ntask a home 0 nice 0 rows 2 init\nrow a 0 after 10 next 1\nrow a 1 kill a next 1\nend\n", (3, 8))
    ∷  -- limit in end
    (149, codes "taskscript 1\nworkers 1\ndepth 200\nstart 4294967290\nstep 4\nrounds 10\ntask a home 0 nice 0 rows 2 init\nrow a 0 after 10 next 1\nrow a 1 kill a next 1\nend\n", (10, 8))
    ∷  -- limit in the open piece
    (125, codes "taskscript 1\nworkers 1\ndepth 200\nstart 4294967290\nstep 4\nrounds 10\ntask a home 0 nice 0 rows 2 init\nrow a 0 after 10 next 1\n" ++ codes "ro", (9, 8))
    ∷  -- limit behind end
    (150, codes "taskscript 1\nworkers 1\ndepth 200\nstart 4294967290\nstep 4\nrounds 10\ntask a home 0 nice 0 rows 2 init\nrow a 0 after 10 next 1\nrow a 1 kill a next 1\nend\n" ++ codes "x", (11, 2))
    ∷ []

long_texts-are_refused : map (λ e. script_within e.0 e.1) long_texts ≡ map (λ e. Err (record { line = e.2.0; kind = e.2.1 })) long_texts
unfolding words_of number plain_number signed is_name reasons place_in front whole init_at task_at task_line order_at orders_at closing row_said event_said end_said setting_line body_line value signed_value no_number no_signed named unknown place_no_number place_outside delay_no_number delay_outside kind_of task_of number_named action_of expiry_of row_of event_of with_setting with_task with_row_at_end with_row with_event with_line judge_tested judge_said setting_at said_in said_of judge judge_header version_of version_in script_from line_over line_taken closed folded script_of is_sound
long_texts-are_refused = refl
