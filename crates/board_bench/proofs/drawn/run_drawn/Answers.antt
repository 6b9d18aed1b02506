use Rattle.std.proofs.Common.{◌≡◌, ◌+◌, ◌∷◌, ℕ, Bool, List, if◌then◌else◌, ◌||◌, length, [], get_or, true, false, sym, ap, ◌∙◌, subst, inl, inr, arith}
use Rattle.task_machine.specs.Own.{Own, away, holding, running, saw_busy}
use Rattle.step_tables.specs.Nexts.{row_after}
use Rattle.wake_board.specs.Outs.{out_of}
use Rattle.board_bench.specs.Drawn.{HasOne}
use Rattle.board_bench.proofs.OneTask.{one_last, one_out, one_taken, one_in, one_dropped, one_woken, one_posted, may_take, out_with, row_more, moved_entries, when_true, when_false}
use Rattle.board_bench.proofs.drawn.run_drawn.Goals as goal
use Rattle.board_bench.proofs.drawn.run_drawn.Goals.{then-held, else-held}

pub take-seen-requires-clause-may : goal.take-seen-requires-clause-may
take-seen-requires-clause-may c =
    let t = c.body_out-body.result.takes in
    let o = one_out _ _ _ _ t c.requires.drawn.one c.body_out-body.ensures.out in
    let same = ap length (moved_entries c.args.pass.now c.body_out-body.new.pass (out_of c.args.id.0 t ∷ c.args.pass.now.outs) c.body_out-body.ensures.out) in
    let early = c.requires.early in
    (t, may_take _ _ _ t o (omega arith), c.body_out-body.ensures.room)

pub body_in-requires-clause-out : goal.body_in-requires-clause-out
body_in-requires-clause-out c =
    let t = c.body_out-body.result.takes in
    let o = one_out _ _ _ _ t c.requires.drawn.one c.body_out-body.ensures.out in
    let u = one_taken _ _ _ c.args.id c.take-seen.result _ o c.take-seen.ensures.calls in
    out_with _ _ _ t u

pub body_in-requires-clause-row : goal.body_in-requires-clause-row
body_in-requires-clause-row c =
    let t = c.body_out-body.result.takes in
    let rows = c.args.board.now.start.nexts in
    let i = c.args.id.0 in
    c.next_row.ensures ∙ (ap (λ (l : List (List ℕ)). get_or (get_or l i []) c.body_out-body.result.row 0) (sym c.requires.nexts) ∙ (ap (λ (n : ℕ). get_or (get_or rows i []) n 0) c.body_out-body.ensures.row ∙ row_more rows i t))

pub drop_run-dropped-requires-clause-runs : goal.drop_run-dropped-requires-clause-runs
drop_run-dropped-requires-clause-runs c =
    let t = c.body_out-body.result.takes in
    let o = one_out _ _ _ _ t c.requires.drawn.one c.body_out-body.ensures.out in
    let u = one_taken _ _ _ c.args.id c.take-seen.result _ o c.take-seen.ensures.calls in
    let v = one_in _ _ _ _ t running u c.body_in.ensures.back in
    v.has

pub post-requires-clause-held : goal.post-requires-clause-held
post-requires-clause-held c =
    let t = c.body_out-body.result.takes in
    let o = one_out _ _ _ _ t c.requires.drawn.one c.body_out-body.ensures.out in
    let u = one_taken _ _ _ c.args.id c.take-seen.result _ o c.take-seen.ensures.calls in
    let v = one_in _ _ _ _ t running u c.body_in.ensures.back in
    let d = one_dropped _ _ _ c.args.id c.drop_run-dropped.result v c.drop_run-dropped.ensures in
    let w = one_woken _ _ _ c.args.id _ c.wake-woken.result (saw_busy c.drop_run-dropped.result) d c.wake-woken.ensures in
    let test = c.if-held.true in
    let value = ap (λ (x : Bool). x || c.rests.result) c.is_busy.ensures ∙ ap (λ (x : Bool). saw_busy c.drop_run-dropped.result || x) c.rests.ensures in
    (when_true _ _ _ _ holding away (sym value ∙ test) w).has

pub returns-clause-clear : goal.returns-clause-clear
returns-clause-clear c =
    let t = c.body_out-body.result.takes in
    let o = one_out _ _ _ _ t c.requires.drawn.one c.body_out-body.ensures.out in
    let u = one_taken _ _ _ c.args.id c.take-seen.result _ o c.take-seen.ensures.calls in
    let v = one_in _ _ _ _ t running u c.body_in.ensures.back in
    let d = one_dropped _ _ _ c.args.id c.drop_run-dropped.result v c.drop_run-dropped.ensures in
    let w = one_woken _ _ _ c.args.id _ c.wake-woken.result (saw_busy c.drop_run-dropped.result) d c.wake-woken.ensures in
    let value = ap (λ (x : Bool). x || c.rests.result) c.is_busy.ensures ∙ ap (λ (x : Bool). saw_busy c.drop_run-dropped.result || x) c.rests.ensures in
    elim c.if-held.branch [
      | then-held b ↦
          let done = one_posted _ _ _ c.args.id _ (when_true _ _ _ _ holding away (sym value ∙ b.if-held.true) w) b.post.ensures in
          rw b.pass-is (one_last _ _ _ done)
      | else-held b ↦ rw b.pass-is (one_last _ _ _ (when_false _ _ _ _ holding away (sym value ∙ b.if-held.false) w))
    ]
