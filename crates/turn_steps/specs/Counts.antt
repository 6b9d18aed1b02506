-- How many takes, draws and calls may still come of a caller's part (docs/MODEL.md, "What is left of a turn").
use Rattle.std.specs.Prelude.{ℕ, ◌+◌, ◌*◌, Bool, true, false, length}
use Rattle.run_model.specs.TurnReader.{runs_left}
use Rattle.run_model.specs.Book.{Book}
use Rattle.turn_steps.specs.Left.{Onward, by_class, by_draw, draws_in, takes_after, Left, gets, wakes, runs, acts, posts, drops, retires, returns, drawn, injects, carries, over}

-- whether it is the injector's part
abbrev pub is_injectors : Left → Bool
is_injectors (injects a more) = true
is_injectors (carries j more) = true
is_injectors over = true
is_injectors l = false

-- at most so many takes are still to come
abbrev pub takes_left : ℕ → Left → ℕ
takes_left depth (gets g gs) = 2 * depth + 3
takes_left depth (wakes j js) = 2 * depth + 3
takes_left depth (runs q) = takes_after depth q
takes_left depth (acts a more j row q) = takes_after depth q
takes_left depth (posts k more j row q) = takes_after depth q
takes_left depth (drops j q) = takes_after depth q
takes_left depth (retires held j q) = takes_after depth q
takes_left depth (returns j q) = takes_after depth q
takes_left depth (drawn j n) = n + 1
takes_left depth l = 0

-- so many draws may still come
abbrev pub draws_ahead : ℕ → Left → ℕ
draws_ahead depth (gets g gs) = depth
draws_ahead depth (wakes i is) = depth
draws_ahead depth (runs q) = draws_in depth q
draws_ahead depth (acts a more i row q) = draws_in depth q
draws_ahead depth (posts j more i row q) = draws_in depth q
draws_ahead depth (drops i q) = draws_in depth q
draws_ahead depth (retires held i q) = draws_in depth q
draws_ahead depth (returns i q) = draws_in depth q
draws_ahead depth (drawn i n) = n
draws_ahead depth l = 0

-- at most so many calls come after a run: 35 for each further run, and one more where it is drawn
abbrev pub calls_after : ℕ → Onward → ℕ
calls_after depth (by_class q) = runs_left q * 35 + depth * 36
calls_after depth (by_draw n) = n * 36

-- at most so many calls are left of a part: a run has its take, two for each of at most 16 actions, its end, and a post
-- or a retirement
abbrev pub calls_left : ℕ → Left → Book → ℕ
calls_left depth (gets g gs) b = length gs + 1 + length b.wait.items + ((depth + 3) * 35 + depth * 36)
calls_left depth (wakes i is) b = length is + 1 + ((depth + 3) * 35 + depth * 36)
calls_left depth (runs q) b = calls_after depth q
calls_left depth (acts a more i row q) b = 2 * length more + 4 + calls_after depth q
calls_left depth (posts j more i row q) b = 2 * length more + 3 + calls_after depth q
calls_left depth (drops i q) b = 2 + calls_after depth q
calls_left depth (retires held i q) b = 1 + calls_after depth q
calls_left depth (returns i q) b = 1 + calls_after depth q
calls_left depth (drawn i n) b = n * 36 + 35
calls_left depth (injects a more) b = 2 * length more + 2
calls_left depth (carries j more) b = 2 * length more + 1
calls_left depth over b = 0
