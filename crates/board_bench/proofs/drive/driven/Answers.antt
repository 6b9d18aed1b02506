use Rattle.std.proofs.Common.{ℕ, ◌<◌, length, get_or, ap, sym, subst, ◌∙◌}
use Rattle.task_machine.specs.Step.{State}
use Rattle.wake_board.specs.Seen.{Held}
use Rattle.board_bench.proofs.Callers.{taken_out, first_out, second_out}
use Rattle.board_bench.proofs.drive.driven.Goals as goal

pub returns : goal.returns
returns c =
    let hs = c.args.homes.now in
    let w : ℕ = c.args.workers in
    let laid = c.in_ok-board.ensures.laid in
    let workers = ap (λ (s : State). s.workers) laid.state in
    let out = taken_out (length hs) w hs c.in_ok-board.board c.in_ok-board.passes c.take.new.self c.take-2.new.self c.requires.some_workers laid c.in-Some.ensures.out c.in-Some-take.ensures.out in
    let first = first_out (length hs) w hs c.in_ok-board.board c.in_ok-board.passes c.in-Some.first laid c.in-Some.ensures.found in
    let second = second_out (length hs) w hs c.in_ok-board.board c.in_ok-board.passes c.take.new.self c.in-Some-take.second c.requires.some_workers laid c.in-Some.ensures.out c.in-Some-take.ensures.found in (
      record {
        workers = workers;
        rest = record { tasks = ap (λ (s : State). s.tasks) laid.state };
        homes = record { homes_are = laid.homes_are; own = λ i l. subst (λ (n : ℕ). get_or hs i 0 < n) (sym workers) (c.requires.own i l) };
        first = c.in_ok-first.ensures.1;
        second = c.in_ok-second.ensures.1;
        who_first = ap (λ (p : Held). p.who) (c.in_ok-first.ensures.0 ∙ first);
        who_second = ap (λ (p : Held). p.who) (c.in_ok-second.ensures.0 ∙ second);
        count = out.count;
        out_first = out.out_first;
        out_second = out.out_second;
        others = out.others;
      },
      record { first = c.in_ok-first.ensures.0 ∙ first; second = c.in_ok-second.ensures.0 ∙ second },
    )
