use Rattle.std.proofs.Common.{◌∙◌, sym, ap, arith}
use Rattle.task_machine.specs.Task.{resting}
use Rattle.task_word.specs.Word.{seen_in}
use Rattle.run_model.specs.Standing.{is_still_at}
use Rattle.thread_loop.specs.Plants.{standing_of, is_still_seen}
use Rattle.thread_loop.proofs.PlantRests.{still-word}
use Rattle.thread_loop.proofs.Resting.{all_hold, one_fails}
use Rattle.thread_loop.proofs.plant.Plant.is_still.Goals as goal

pub returns-then-not-is_still_word : goal.returns-then-not-is_still_word
returns-then-not-is_still_word c =
    let p = c.args.self.now in
    let holds = c.requires.1 in
    let k = c.loop-number.number in
    let within = c.tasks-number-end.ensures in
    let word = sym (still-word c.requires.0 k p holds (omega (arith, c.loop-number-test.true))) ∙ ap (λ w. is_still_seen (seen_in w)) (sym c.task.ensures) ∙ sym c.is_still_word.ensures ∙ c.if-not-is_still_word.true in
    sym (one_fails (λ t. is_still_at t.place) (standing_of p).state.tasks resting k (omega (arith, c.loop-number-test.true, holds.stands.count)) word)

pub returns : goal.returns
returns c =
    let p = c.args.self.now in
    let holds = c.requires.1 in
    let within = c.tasks-number-end.ensures in
    sym (all_hold (λ t. is_still_at t.place) (standing_of p).state.tasks resting (λ k lt. sym (still-word c.requires.0 k p holds (omega (arith, holds.stands.count))) ∙ c.loop-number.invariant.still k (omega (arith, c.loop-number-test.false, holds.stands.count))))
