-- Worked transcripts, read and written by computation.
use Rattle.std.proofs.Common.{◌≡◌, ℕ, List, [], ◌∷◌, ◌++◌, codes, refl, Ok, Err, true, false}
use Rattle.std.specs.Fmt.{digits}
use Rattle.std.specs.List.{flat_map}
use Rattle.task_machine.specs.declared.task.Stand.TheVariants as stands
use Rattle.task_machine.specs.declared.task.Seen.TheVariants as seens
use Rattle.task_machine.specs.declared.calls.Call.TheVariants as calls
use Rattle.task_machine.specs.declared.calls.Reply.TheVariants as replies
use Rattle.transcript.specs.Types.{Line, Call, Reply}
use Rattle.transcript.specs.declared.lines.Line.TheVariants as line
use Rattle.text_lines.specs.Numbers.{plain_number, number}
use Rattle.text_lines.specs.Masks.{hex, hex_word}
use Rattle.text_lines.specs.Reasons.{reasons, reasons_word}
use Rattle.text_lines.specs.Names.{place_in}
use Rattle.text_lines.specs.Added.{spelled}
use Rattle.text_lines.specs.Shapes.{front, words, part_at}
use Rattle.text_lines.specs.Lines.{folded, line_taken, closed, line_over}
use Rattle.transcript.specs.declared.faults.FaultKind.TheVariants as kinds
use Rattle.transcript.specs.Spelling.{first_words, line_text}
use Rattle.transcript.specs.Grammar.{said}
use Rattle.transcript.specs.Judging.{lines_of, run_within, fault}

-- an entry of worker 0
abbrev entry : Call → Reply → Line
entry call reply = line.Entry (record { caller = (record { 0 = 0 }); call = call; reply = reply })

-- a timer that fires past the wrap of the ticks
abbrev wrapped_timer : List ℕ
wrapped_timer = codes "taskrun 1\nround 0 tick 4294967290\nc0 get 0 0000000000000001\nc0 take 0 queued init live 0\nc0 drop 0 runs - live 1\nround 1 tick 4294967294\nc0 get 0 0000000000000000\nround 2 tick 2\nc0 get 0 0000000000000000\nround 3 tick 6\nc0 get 0 0000000000000000\nc0 wake 0 timer rest - live 1\nc0 take 0 queued timer live 1\nc0 kill 0 runs - live 2\nc0 drop 0 runs - killed 2\nc0 retire 0 queued - killed 2\nend rest 3\n"

abbrev wrapped_timer_lines : List Line
wrapped_timer_lines = line.Round 0 4294967290 ∷ entry (calls.Get 0) (replies.Group 1) ∷ entry (calls.Take (record { 0 = 0 })) (replies.Task (seens.Live stands.Queued 1 false 0)) ∷ entry (calls.DropRun (record { 0 = 0 })) (replies.Task (seens.Live stands.Runs 0 false 1)) ∷ line.Round 1 4294967294 ∷ entry (calls.Get 0) (replies.Group 0) ∷ line.Round 2 2 ∷ entry (calls.Get 0) (replies.Group 0) ∷ line.Round 3 6 ∷ entry (calls.Get 0) (replies.Group 0) ∷ entry (calls.Wake (record { 0 = 0 }) 2) (replies.Task (seens.Live stands.Rest 0 false 1)) ∷ entry (calls.Take (record { 0 = 0 })) (replies.Task (seens.Live stands.Queued 2 false 1)) ∷ entry (calls.Kill (record { 0 = 0 })) (replies.Task (seens.Live stands.Runs 0 false 2)) ∷ entry (calls.DropRun (record { 0 = 0 })) (replies.Task (seens.Live stands.Runs 0 true 2)) ∷ entry (calls.Retire (record { 0 = 0 })) (replies.Task (seens.Live stands.Queued 0 true 2)) ∷ line.End true 3 ∷ []

wrapped_timer_read : lines_of wrapped_timer ≡ Ok wrapped_timer_lines
unfolding folded line_taken closed line_over said part_at front plain_number number hex reasons place_in
wrapped_timer_read = refl

wrapped_timer_written : spelled first_words ++ flat_map line_text wrapped_timer_lines ≡ wrapped_timer
unfolding spelled words hex_word reasons_word digits
wrapped_timer_written = refl

-- a task that wakes itself up to the last round
abbrev woken_by_itself : List ℕ
woken_by_itself = codes "taskrun 1\nround 0 tick 1\nc0 get 0 0000000000000001\nc0 take 0 queued init live 0\nc0 wake 0 other runs - live 1\nc0 drop 0 runs other live 1\nround 1 tick 2\nc0 get 0 0000000000000000\nc0 take 0 queued other live 1\nc0 wake 0 other runs - live 2\nc0 drop 0 runs other live 2\nround 2 tick 3\nc0 get 0 0000000000000000\nc0 take 0 queued other live 2\nc0 wake 0 other runs - live 3\nc0 drop 0 runs other live 3\nend limit 2\n"

abbrev woken_by_itself_lines : List Line
woken_by_itself_lines = line.Round 0 1 ∷ entry (calls.Get 0) (replies.Group 1) ∷ entry (calls.Take (record { 0 = 0 })) (replies.Task (seens.Live stands.Queued 1 false 0)) ∷ entry (calls.Wake (record { 0 = 0 }) 64) (replies.Task (seens.Live stands.Runs 0 false 1)) ∷ entry (calls.DropRun (record { 0 = 0 })) (replies.Task (seens.Live stands.Runs 64 false 1)) ∷ line.Round 1 2 ∷ entry (calls.Get 0) (replies.Group 0) ∷ entry (calls.Take (record { 0 = 0 })) (replies.Task (seens.Live stands.Queued 64 false 1)) ∷ entry (calls.Wake (record { 0 = 0 }) 64) (replies.Task (seens.Live stands.Runs 0 false 2)) ∷ entry (calls.DropRun (record { 0 = 0 })) (replies.Task (seens.Live stands.Runs 64 false 2)) ∷ line.Round 2 3 ∷ entry (calls.Get 0) (replies.Group 0) ∷ entry (calls.Take (record { 0 = 0 })) (replies.Task (seens.Live stands.Queued 64 false 2)) ∷ entry (calls.Wake (record { 0 = 0 }) 64) (replies.Task (seens.Live stands.Runs 0 false 3)) ∷ entry (calls.DropRun (record { 0 = 0 })) (replies.Task (seens.Live stands.Runs 64 false 3)) ∷ line.End false 2 ∷ []

woken_by_itself_read : lines_of woken_by_itself ≡ Ok woken_by_itself_lines
unfolding folded line_taken closed line_over said part_at front plain_number number hex reasons place_in
woken_by_itself_read = refl

woken_by_itself_written : spelled first_words ++ flat_map line_text woken_by_itself_lines ≡ woken_by_itself
unfolding spelled words hex_word reasons_word digits
woken_by_itself_written = refl

-- a tasklet that is killed before its second run
abbrev killed_tasklet : List ℕ
killed_tasklet = codes "taskrun 1\nround 0 tick 1000\nc0 get 0 0000000000000001\nc0 take 0 queued init live 0\nc0 wake 1 io rest - live 0\nc0 drop 0 runs - live 1\nround 1 tick 1010\nc0 get 0 0000000000000000\nc0 take 1 queued io live 0\nc0 drop 1 runs - live 1\nround 2 tick 1020\nc0 get 0 0000000000000000\nc0 wake 0 timer rest - live 1\nc0 take 0 queued timer live 1\nc0 kill 1 rest - live 1\nc0 kill 0 runs - live 2\nc0 drop 0 runs - killed 2\nc0 retire 0 queued - killed 2\nround 3 tick 1030\nc0 get 0 0000000000000000\nc0 take 1 queued - killed 1\nc0 retire 1 runs - live 2\nend rest 3\n"

abbrev killed_tasklet_lines : List Line
killed_tasklet_lines = line.Round 0 1000 ∷ entry (calls.Get 0) (replies.Group 1) ∷ entry (calls.Take (record { 0 = 0 })) (replies.Task (seens.Live stands.Queued 1 false 0)) ∷ entry (calls.Wake (record { 0 = 1 }) 4) (replies.Task (seens.Live stands.Rest 0 false 0)) ∷ entry (calls.DropRun (record { 0 = 0 })) (replies.Task (seens.Live stands.Runs 0 false 1)) ∷ line.Round 1 1010 ∷ entry (calls.Get 0) (replies.Group 0) ∷ entry (calls.Take (record { 0 = 1 })) (replies.Task (seens.Live stands.Queued 4 false 0)) ∷ entry (calls.DropRun (record { 0 = 1 })) (replies.Task (seens.Live stands.Runs 0 false 1)) ∷ line.Round 2 1020 ∷ entry (calls.Get 0) (replies.Group 0) ∷ entry (calls.Wake (record { 0 = 0 }) 2) (replies.Task (seens.Live stands.Rest 0 false 1)) ∷ entry (calls.Take (record { 0 = 0 })) (replies.Task (seens.Live stands.Queued 2 false 1)) ∷ entry (calls.Kill (record { 0 = 1 })) (replies.Task (seens.Live stands.Rest 0 false 1)) ∷ entry (calls.Kill (record { 0 = 0 })) (replies.Task (seens.Live stands.Runs 0 false 2)) ∷ entry (calls.DropRun (record { 0 = 0 })) (replies.Task (seens.Live stands.Runs 0 true 2)) ∷ entry (calls.Retire (record { 0 = 0 })) (replies.Task (seens.Live stands.Queued 0 true 2)) ∷ line.Round 3 1030 ∷ entry (calls.Get 0) (replies.Group 0) ∷ entry (calls.Take (record { 0 = 1 })) (replies.Task (seens.Live stands.Queued 0 true 1)) ∷ entry (calls.Retire (record { 0 = 1 })) (replies.Task (seens.Live stands.Runs 0 false 2)) ∷ line.End true 3 ∷ []

killed_tasklet_read : lines_of killed_tasklet ≡ Ok killed_tasklet_lines
unfolding folded line_taken closed line_over said part_at front plain_number number hex reasons place_in
killed_tasklet_read = refl

killed_tasklet_written : spelled first_words ++ flat_map line_text killed_tasklet_lines ≡ killed_tasklet
unfolding spelled words hex_word reasons_word digits
killed_tasklet_written = refl

no_first_line : lines_of (codes "round 0 tick 0\n") ≡ Err (fault (1, kinds.Order))
unfolding folded line_taken closed line_over said part_at front plain_number number hex reasons place_in
no_first_line = refl

upper_case_mask : lines_of (codes "taskrun 1\nround 0 tick 0\nc0 get 0 000000000000000A\n") ≡ Err (fault (3, kinds.Line))
unfolding folded line_taken closed line_over said part_at front plain_number number hex reasons place_in
upper_case_mask = refl

reasons_out_of_order : lines_of (codes "taskrun 1\nround 0 tick 0\nc0 wake 0 timer,init gone\n") ≡ Err (fault (3, kinds.Line))
unfolding folded line_taken closed line_over said part_at front plain_number number hex reasons place_in
reasons_out_of_order = refl

other_first_round : lines_of (codes "taskrun 1\nround 1 tick 0\n") ≡ Err (fault (2, kinds.Order))
unfolding folded line_taken closed line_over said part_at front plain_number number hex reasons place_in
other_first_round = refl

end_of_another_round : lines_of (codes "taskrun 1\nround 0 tick 0\nend rest 1\n") ≡ Err (fault (3, kinds.Order))
unfolding folded line_taken closed line_over said part_at front plain_number number hex reasons place_in
end_of_another_round = refl

takes_above_their_range : lines_of (codes "taskrun 1\nround 0 tick 0\nc0 take 0 rest - live 281474976710656\n") ≡ Err (fault (3, kinds.Line))
unfolding folded line_taken closed line_over said part_at front plain_number number hex reasons place_in
takes_above_their_range = refl

bytes_behind_the_end : lines_of (codes "taskrun 1\nround 0 tick 0\nend rest 0\nx") ≡ Err (fault (4, kinds.Order))
unfolding folded line_taken closed line_over said part_at front plain_number number hex reasons place_in
bytes_behind_the_end = refl

cut_off : lines_of (codes "taskrun 1\nround 0 tick 0\nend rest 0") ≡ Err (fault (3, kinds.Truncated))
unfolding folded line_taken closed line_over said part_at front plain_number number hex reasons place_in
cut_off = refl

too_long : run_within 20 (codes "taskrun 1\nround 0 tick 0\nend rest 0\n") ≡ Err (fault (2, kinds.LimitPassed))
unfolding folded line_taken closed line_over said part_at front plain_number number hex reasons place_in
too_long = refl

long_behind_the_end : run_within 36 (codes "taskrun 1\nround 0 tick 0\nend rest 0\nx") ≡ Err (fault (4, kinds.Order))
unfolding folded line_taken closed line_over said part_at front plain_number number hex reasons place_in
long_behind_the_end = refl
