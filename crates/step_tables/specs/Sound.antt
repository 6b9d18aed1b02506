-- Which tables are a script's: docs/SCRIPT.md, "Tables".
use Rattle.std.specs.Prelude.{ℕ, ℤ, pos, negsuc, int_lt, Bool, true, false, not, ◌&&◌, List, [], ◌∷◌, length, bytes_eq, nat_lt, nat_le, map}
use Rattle.std.specs.List.{list_all, list_any}
use Rattle.step_tables.specs.Types.{Action, Wake, Kill, Expiry, Keep, After, Never, Kind, Pinned, Shared, Tasklet, Row, TaskDef, Event}
use Rattle.step_tables.specs.declared.limits.Limits.{Limits}
use Rattle.step_tables.specs.Limits.{newest, limits_of, most_rows, most_actions, most_delay}
use Rattle.step_tables.specs.Tables.{Tables}
use Rattle.step_tables.specs.Words.{Word, is_name}

-- whether n is from low to high
abbrev pub within : ℕ → ℕ → ℕ → Bool
within low high n = nat_le low n && nat_le n high

-- whether n is a nice
abbrev pub is_nice : ℤ → Bool
is_nice n = not (int_lt n (negsuc 1023)) && not (int_lt (pos 1024) n)

-- whether the action names one of so many tasks, and a wake has a reason
abbrev pub is_sound_action : ℕ → Action → Bool
is_sound_action tasks (Wake i reasons) = nat_lt i.0 tasks && within 1 127 reasons
is_sound_action tasks (Kill i) = nat_lt i.0 tasks

-- whether such a task may have the expiry, and it is in its range
abbrev pub is_sound_expiry : Kind → Expiry → Bool
is_sound_expiry kind Keep = true
is_sound_expiry (Pinned home nice) (After ticks) = within 1 most_delay ticks
is_sound_expiry (Pinned home nice) Never = true
is_sound_expiry (Shared nice) (After ticks) = false
is_sound_expiry (Shared nice) Never = false
is_sound_expiry (Tasklet home class) (After ticks) = false
is_sound_expiry (Tasklet home class) Never = false

-- whether a row of a task with so many rows is in range, among so many tasks
abbrev pub is_sound_row : ℕ → Kind → ℕ → Row → Bool
is_sound_row tasks kind rows row = nat_le (length row.actions) most_actions && (list_all (is_sound_action tasks) row.actions && (is_sound_expiry kind row.expiry && nat_lt row.next rows))

-- whether a task's home is a worker's number and its nice is in range
abbrev pub is_sound_kind : ℕ → Kind → Bool
is_sound_kind workers (Pinned home nice) = nat_lt home workers && is_nice nice
is_sound_kind workers (Shared nice) = is_nice nice
is_sound_kind workers (Tasklet home class) = nat_lt home workers

-- whether a task is in range, among so many tasks
abbrev pub is_sound_task : ℕ → ℕ → TaskDef → Bool
is_sound_task workers tasks task = is_name task.name && (is_sound_kind workers task.kind && (within 1 most_rows (length task.rows) && list_all (is_sound_row tasks task.kind (length task.rows)) task.rows))

-- whether no two names are the same
abbrev pub distinct_names : List Word → Bool
distinct_names [] = true
distinct_names (name ∷ names) = not (list_any (λ other. bytes_eq name other) names) && distinct_names names

-- whether the events come by rising rounds, the first not before this one and each below the last
abbrev pub rising_below : ℕ → ℕ → List Event → Bool
rising_below from rounds [] = true
rising_below from rounds (event ∷ events) = nat_le from event.round && (nat_lt event.round rounds && rising_below event.round rounds events)

-- whether the tables are within these limits
abbrev pub is_within : Limits → Tables → Bool
is_within most s =
    within 1 most.workers s.workers && (within 1 most.depth s.depth && (nat_le s.start most.start && (within 1 most.step s.step && (within 1 most.rounds s.rounds
    && (nat_le (length s.tasks) most.tasks && (list_all (is_sound_task s.workers (length s.tasks)) s.tasks && (distinct_names (map (λ task. task.name) s.tasks)
    && (nat_le (length s.events) most.events && (list_all (λ event. is_sound_action (length s.tasks) event.action) s.events && rising_below 0 s.rounds s.events)))))))))

-- whether these are the tables of a script
unfoldable pub is_sound : Tables → Bool
is_sound s = within 1 newest s.version && is_within (limits_of s.version) s
