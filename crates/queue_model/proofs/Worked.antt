-- Worked examples, by computation.
use Rattle.std.specs.Prelude.{◌≡◌, ℕ, pos, negsuc, true, false, List, [], ◌∷◌, map, None, Some, refl}
use Rattle.std.specs.Int.{w32, cast_unsigned}
use Rattle.queue_model.specs.Ticks.{is_expired, later}
use Rattle.queue_model.specs.RunList.{RunList, arrived, least, gathered, hands_out}
use Rattle.queue_model.specs.WaitList.{WaitList, with_expiry, armed}
use Rattle.queue_model.specs.Sweep.{fired, swept, forgotten}
use Rattle.queue_model.specs.Settle.{settled}
use Rattle.queue_model.specs.Classes.{Classes, quotas, next_run}
use Rattle.sched_base.specs.declared.names.Class.TheVariants.{Urgent, Heavy}

-- adding steps over 0
pub added : later 4294967290 10 ≡ 4
added = refl

pub added_over_zero : later 4294967290 6 ≡ 1
added_over_zero = refl

-- a tick before the wrap has been reached after it, and not the other way round; 0 is never reached
pub reached : is_expired 4294967295 5 ≡ true
reached = refl

pub ahead : is_expired 5 4294967295 ≡ false
ahead = refl

pub never : is_expired 0 77 ≡ false
never = refl

-- half the circle ahead counts as reached
pub opposite : is_expired 2147483648 0 ≡ true
opposite = refl

-- keys of a run list as they are kept modulo 2^32
abbrev keys : RunList → List ℕ
keys l = map (λ y. cast_unsigned w32 y.key) l.items

-- three tasks of nice 0, 1 and -1 at depth 200
abbrev by_nice : RunList
by_nice = arrived 200 2 (negsuc 0) (arrived 200 1 (pos 1) (arrived 200 0 (pos 0) (record { count = 0; items = [] })))

pub nice_keys : map (λ y. y.key) by_nice.items ≡ negsuc 196 ∷ pos 1 ∷ pos 202 ∷ []
nice_keys = refl

pub nice_stored : keys by_nice ≡ 4294967099 ∷ 1 ∷ 202 ∷ []
nice_stored = refl

pub nice_order : least 3 by_nice ≡ 2 ∷ 0 ∷ 1 ∷ []
nice_order = refl

-- a count that passes 2^32
abbrev past_the_wrap : RunList
past_the_wrap = arrived 200 2 (pos 0) (arrived 200 1 (pos 0) (arrived 200 0 (pos 0) (record { count = 4294967294; items = [] })))

pub wrapped_keys : map (λ y. y.key) past_the_wrap.items ≡ pos 4294967295 ∷ pos 4294967296 ∷ pos 4294967297 ∷ []
wrapped_keys = refl

pub wrapped_order : least 3 past_the_wrap ≡ 0 ∷ 1 ∷ 2 ∷ []
wrapped_order = refl

-- the deal of these three to two workers; a task that is listed already does not arrive again
pub dealt_out : hands_out 2 3 (gathered 200 (λ i. pos 0) (0 ∷ 2 ∷ []) by_nice) ≡ (0, 2) ∷ (1, 0) ∷ (0, 1) ∷ []
dealt_out = refl

-- a task armed at tick 1 for 20, and at tick 5 again for another tick
abbrev armed_twice : ℕ → WaitList
armed_twice t = armed 5 0 (with_expiry 0 t (armed 1 0 (with_expiry 0 20 (record { items = []; expiries = 0 ∷ [] }))))

pub stays : (armed_twice 35).items ≡ record { key = 20; task = 0 } ∷ []
stays = refl

pub moves_forward : (armed_twice 10).items ≡ record { key = 10; task = 0 } ∷ []
moves_forward = refl

-- a sweep at 22 puts it back at 35, and one at 36 fires it
pub fires_late : fired 22 (armed_twice 35) ≡ []
fires_late = refl

pub goes_back : swept 22 (armed_twice 35) ≡ record { items = record { key = 35; task = 0 } ∷ []; expiries = 35 ∷ [] }
goes_back = refl

pub fires_then : fired 36 (swept 22 (armed_twice 35)) ≡ 0 ∷ []
fires_then = refl

pub empties : swept 36 (swept 22 (armed_twice 35)) ≡ record { items = []; expiries = 0 ∷ [] }
empties = refl

-- with its expiry unset it is forgotten
pub forgets : (fired 22 (with_expiry 0 0 (armed_twice 35)) ≡ []) × (forgotten 22 (with_expiry 0 0 (armed_twice 35)) ≡ 0 ∷ [])
forgets = (refl, refl)

pub forgotten_leaves : (swept 22 (with_expiry 0 0 (armed_twice 35))).items ≡ []
forgotten_leaves = refl

-- settled, it stands at 35; with its expiry unset nothing is left
pub settles : settled 6 (armed_twice 35) ≡ record { items = record { key = 35; task = 0 } ∷ []; expiries = 35 ∷ [] }
settles = refl

pub settles_empty : settled 6 (with_expiry 0 0 (armed_twice 35)) ≡ record { items = []; expiries = 0 ∷ [] }
settles_empty = refl

-- settled lists that need no move, and one whose second item comes first then
abbrev two_timers : List ℕ → WaitList
two_timers expiries = record { items = record { key = 20; task = 0 } ∷ record { key = 30; task = 1 } ∷ []; expiries = expiries }

pub stays_settled : settled 6 (two_timers (20 ∷ 40 ∷ [])) ≡ two_timers (20 ∷ 40 ∷ [])
stays_settled = refl

pub settles_past : settled 6 (two_timers (50 ∷ 40 ∷ [])) ≡ record { items = record { key = 40; task = 1 } ∷ record { key = 50; task = 0 } ∷ []; expiries = 50 ∷ 40 ∷ [] }
settles_past = refl

-- a row of lists, by what they hold
abbrev lists : List ℕ → List ℕ → List ℕ → List ℕ → Classes (List ℕ)
lists urgent normal bulk heavy = record { urgent = urgent; normal = normal; bulk = bulk; heavy = heavy }

abbrev numbers : ℕ → ℕ → ℕ → ℕ → Classes ℕ
numbers urgent normal bulk heavy = record { urgent = urgent; normal = normal; bulk = bulk; heavy = heavy }

pub two_classes : quotas 200 (lists (7 ∷ []) (8 ∷ 9 ∷ []) [] []) ≡ numbers 115 86 0 0
two_classes = refl

pub heavy_alone : quotas 200 (lists [] [] [] (3 ∷ 4 ∷ [])) ≡ numbers 0 0 0 1
heavy_alone = refl

pub none_at_all : quotas 200 (lists [] [] [] []) ≡ numbers 0 0 0 0
none_at_all = refl

-- the most pressing class with an item and a run left is next
pub urgent_first : next_run (lists (7 ∷ []) (8 ∷ []) [] (3 ∷ [])) (numbers 1 1 0 1) ≡ Some (record { class = Urgent; task = 7 })
urgent_first = refl

pub heavy_last : next_run (lists (7 ∷ []) (8 ∷ []) [] (3 ∷ [])) (numbers 0 0 0 1) ≡ Some (record { class = Heavy; task = 3 })
heavy_last = refl

pub nothing_next : next_run (lists (7 ∷ []) (8 ∷ []) [] (3 ∷ [])) (numbers 0 0 1 0) ≡ None
nothing_next = refl
