use Rattle.std.proofs.Common.{◌≡◌, ℕ, ◌+◌, true, false, length, refl, sym, ◌∙◌, arith}
use Rattle.sched_base.specs.declared.names.TaskId.{TaskId}
use Rattle.task_machine.specs.declared.calls.Call.{Call}
use Rattle.task_machine.specs.declared.calls.Call.TheVariants as calls
use Rattle.run_model.specs.Standing.{is_draw_of}
use Rattle.standing.proofs.Boxes.{PostsTo}
use Rattle.run_replay.specs.SharedBoxes.{is_shared_at, waits}
use Rattle.run_replay.proofs.Limits.{few_tasks, few_rounds}
use Rattle.run_replay.proofs.SharedBoxes.{stamp-at, tally-most, tally-some, counts-post, counts-elsewhere, counts-other, counts-draw, draws-boxed, waits-early, waits-late}
use Rattle.run_replay.proofs.shared_box.SharedBox.note.Goals as goal

pub overflow_add-self : goal.overflow_add-self
overflow_add-self c =
    let h = c.requires.counts in
    let most = tally-most (is_shared_at c.args.script.now h.1) (length c.args.script.now.tasks) in
    let few = few_tasks c.args.script.now c.workers.ensures.sound in
    let same = h.3.inside in
    omega arith

pub overflow_add-round : goal.overflow_add-round
overflow_add-round c =
    let few = few_rounds c.args.script.now c.workers.ensures.sound in
    let lt = c.requires.round in
    omega arith

pub overflow_sub-self : goal.overflow_sub-self
overflow_sub-self c =
    let h = c.requires.counts in
    let d = draws-boxed c.args.script.now c.args.round h.0 h.1 h.2 c.args.entry.now c.in-Draw.id c.args.self.now c.in-Draw.is h.4 h.5 h.6 h.3 in
    omega (arith, d.2)

pub overflow_sub-self-then-index-round : goal.overflow_sub-self-then-index-round
overflow_sub-self-then-index-round c =
    let h = c.requires.counts in
    let s = c.args.script.now in
    let d = draws-boxed s c.args.round h.0 h.1 h.2 c.args.entry.now c.in-Draw.id c.args.self.now c.in-Draw.is h.4 h.5 h.6 h.3 in
    let at = stamp-at c.args.self.now (length s.tasks) c.in-Draw.id.0 c.index.result.now h.3.count d.1 c.index.ensures in
    let early = c.if-index-round.true in
    let is = waits-early s c.args.round h.0 h.1 h.2 c.in-Draw.id.0 c.args.self.now d.0 (omega arith) h.3 in
    let some = tally-some (waits s h.0 h.2) (length s.tasks) c.in-Draw.id.0 d.1 is in
    let same = h.3.waiting in
    omega arith

pub returns-then-boxno-workers : goal.returns-then-boxno-workers
returns-then-boxno-workers c = λ opened state es h a w size.
    counts-post c.args.script.now c.args.round opened state es c.args.entry.now c.in-Post.id c.in-Post.boxno (c.args.round + 1) c.args.self.now _ c.in-Post.is a w size (c.if-boxno-workers.true ∙ c.workers.ensures.same) refl refl refl refl h

pub returns-else-boxno-workers : goal.returns-else-boxno-workers
returns-else-boxno-workers c = λ opened state es h a w size.
    counts-elsewhere c.args.script.now c.args.round opened state es c.args.entry.now c.in-Post.id c.in-Post.boxno c.args.self.now c.in-Post.is a w (λ same. c.if-boxno-workers.false (same ∙ sym c.workers.ensures.same)) h

pub returns-then-index-round : goal.returns-then-index-round
returns-then-index-round c = λ opened state es h a w size.
    let s = c.args.script.now in
    let d = draws-boxed s c.args.round opened state es c.args.entry.now c.in-Draw.id c.args.self.now c.in-Draw.is a w size h in
    let at = stamp-at c.args.self.now (length s.tasks) c.in-Draw.id.0 c.index.result.now h.count d.1 c.index.ensures in
    let early = c.if-index-round.true in
    let is = waits-early s c.args.round opened state es c.in-Draw.id.0 c.args.self.now d.0 (omega arith) h in
    let some = tally-some (waits s opened es) (length s.tasks) c.in-Draw.id.0 d.1 is in
    let same = h.waiting in
    let inside = d.2 in
    counts-draw s c.args.round opened state es c.args.entry.now c.in-Draw.id c.args.self.now _ true c.in-Draw.is a w size is (omega arith) (omega arith) refl h

pub returns-else-index-round : goal.returns-else-index-round
returns-else-index-round c = λ opened state es h a w size.
    let s = c.args.script.now in
    let d = draws-boxed s c.args.round opened state es c.args.entry.now c.in-Draw.id c.args.self.now c.in-Draw.is a w size h in
    let at = stamp-at c.args.self.now (length s.tasks) c.in-Draw.id.0 c.index.result.now h.count d.1 c.index.ensures in
    let late = c.if-index-round.false in
    let is = waits-late s c.args.round opened state es c.in-Draw.id.0 c.args.self.now (omega arith) h in
    let inside = d.2 in
    counts-draw s c.args.round opened state es c.args.entry.now c.in-Draw.id c.args.self.now _ false c.in-Draw.is a w size is (omega arith) (omega arith) refl h

pub returns-in_default : goal.returns-in_default
returns-in_default c = λ opened state es h a w size.
    counts-other c.args.script.now c.args.round opened state es c.args.entry.now c.args.self.now a w (λ i. undrawn c.args.entry.now.call i c.in_default.not-Draw) (λ posts. unposted c.args.entry.now.call c.args.script.now.workers posts c.in_default.not-Post) h
  where
    undrawn : (x : Call) (i : ℕ) → ((j : TaskId) → x ≡ calls.Draw j → ⊥) → is_draw_of i x ≡ false
    undrawn (calls.Wake j f) i not_draw = refl
    undrawn (calls.Kill j) i not_draw = refl
    undrawn (calls.Post j b) i not_draw = refl
    undrawn (calls.Get g) i not_draw = refl
    undrawn (calls.Draw j) i not_draw = absurd (not_draw j refl)
    undrawn (calls.Take j) i not_draw = refl
    undrawn (calls.DropRun j) i not_draw = refl
    undrawn (calls.Retire j) i not_draw = refl

    unposted : (x : Call) (b : ℕ) → PostsTo b x → ((j : TaskId) (k : ℕ) → x ≡ calls.Post j k → ⊥) → ⊥
    unposted (calls.Wake j f) b posts not_post = posts
    unposted (calls.Kill j) b posts not_post = posts
    unposted (calls.Post j k) b posts not_post = not_post j k refl
    unposted (calls.Get g) b posts not_post = posts
    unposted (calls.Draw j) b posts not_post = posts
    unposted (calls.Take j) b posts not_post = posts
    unposted (calls.DropRun j) b posts not_post = posts
    unposted (calls.Retire j) b posts not_post = posts
