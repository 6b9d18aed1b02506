-- The bars are the takes that are shown.
use Rattle.std.proofs.Common.{◌≡◌, ℕ, suc, ◌+◌, arith, Bool, true, false, if◌then◌else◌, List, [], ◌∷◌, ◌++◌, length, map, take, refl, sym, ap, ap₂, ◌∙◌}
use Rattle.sched_base.specs.declared.names.TaskId.{TaskId}
use Rattle.task_machine.specs.declared.calls.Call.{Call}
use Rattle.task_machine.specs.declared.calls.Call.TheVariants as calls
use Rattle.task_machine.specs.declared.calls.Reply.{Reply}
use Rattle.task_machine.specs.declared.calls.Entry.{Entry}
use Rattle.transcript.specs.declared.lines.Line.{Line}
use Rattle.transcript.specs.declared.lines.Line.TheVariants as line
use Rattle.run_picture.specs.declared.bars.Rounds.{Rounds}
use Rattle.run_picture.specs.declared.stretches.Stretch.{Stretch}
use Rattle.run_picture.specs.declared.steps.Step.{Step}
use Rattle.run_picture.specs.declared.steps.Step.TheVariants.{Takes, Raises, Drops, Retires, Goes}
use Rattle.run_picture.specs.Steps.{lane_of, step_by, step_of, has_seen_rest, has_seen_killed, is_shown}
use Rattle.run_picture.specs.Bars.{bar_of, bars_by, bars_from, bars_of, most_bars, round_of, stretch_of}
use Rattle.run_picture.specs.Laws.{Seat, seat_by, seat_of, takes_in, BarsAreTakes}
use Rattle.std.proofs.lemmas.List.{map-append, take-map}

shown_seat : (shown : Bool) (past : List Line) (e : Entry) (i : TaskId) (s : Stretch) → map seat_of (if shown then bar_of past e i s ∷ [] else []) ≡ (if shown then record { line = length past + 2; lane = lane_of e.caller; task = i } ∷ [] else [])
shown_seat true past e i s = refl
shown_seat false past e i s = refl

-- a wake or a kill has no bar, nor has a drop
no_raise : (rounds : Rounds) (past : List Line) (e : Entry) (s : Stretch) (i : TaskId) (b : Bool) → map seat_of (bars_by rounds past e s (if b then Raises i else Goes)) ≡ []
no_raise rounds past e s i true = refl
no_raise rounds past e s i false = refl

no_drop : (rounds : Rounds) (past : List Line) (e : Entry) (s : Stretch) (b : Bool) → map seat_of (bars_by rounds past e s (if b then Goes else Drops)) ≡ []
no_drop rounds past e s true = refl
no_drop rounds past e s false = refl

-- an entry has a bar just where it is a take that is shown
seat_here : (rounds : Rounds) (past : List Line) (e : Entry) (s : Stretch) (c : Call) (r : Reply) → map seat_of (bars_by rounds past e s (step_by c r)) ≡ seat_by (is_shown rounds (round_of past)) (length past + 2) e.caller c
seat_here rounds past e s (calls.Take i) r = shown_seat (is_shown rounds (round_of past)) past e i s
seat_here rounds past e s (calls.Wake i f) r = no_raise rounds past e s i (has_seen_rest r)
seat_here rounds past e s (calls.Kill i) r = no_raise rounds past e s i (has_seen_rest r)
seat_here rounds past e s (calls.DropRun i) r = no_drop rounds past e s (has_seen_killed r)
seat_here rounds past e s (calls.Retire i) r = refl
seat_here rounds past e s (calls.Post i box) r = refl
seat_here rounds past e s (calls.Get group) r = refl
seat_here rounds past e s (calls.Draw i) r = refl

next : (past : List Line) → suc (length past) + 2 ≡ length past + 2 + 1
next past = omega arith

seats_from : (rounds : Rounds) (past ls : List Line) → map seat_of (bars_from rounds past ls) ≡ takes_in rounds (length past + 2) (round_of past) ls
seats_from rounds past [] = refl
seats_from rounds past (line.Round number tick ∷ ls) =
    seats_from rounds (line.Round number tick ∷ past) ls ∙ ap (λ n. takes_in rounds n number ls) (next past)
seats_from rounds past (line.Entry e ∷ ls) =
    map-append seat_of (bars_by rounds past e (stretch_of (lane_of e.caller) ls) (step_of e)) _ ∙ ap₂ (λ xs ys. xs ++ ys) (seat_here rounds past e _ e.call e.reply) (seats_from rounds (line.Entry e ∷ past) ls ∙ ap (λ n. takes_in rounds n (round_of past) ls) (next past))
seats_from rounds past (line.End rest last ∷ ls) =
    seats_from rounds (line.End rest last ∷ past) ls ∙ ap (λ n. takes_in rounds n (round_of past) ls) (next past)

pub bars_are_takes : BarsAreTakes
unfolding bars_of
bars_are_takes rounds ls = sym (take-map seat_of most_bars (bars_from rounds [] ls)) ∙ ap (take most_bars) (seats_from rounds [] ls)
