-- what was written so far stands behind the old text
use Rattle.std.proofs.Common.{◌≡◌, ◌++◌, take}
use Rattle.std.specs.Prelude.{flat_map}
use Rattle.step_tables.specs.Text.{spaced, order_words, order_said, names_of}
use Rattle.step_tables.proofs.writing.put_actions.Given as goal

abbrev pub invariant-loop-action : goal.invariant-loop-action
invariant-loop-action l = l.out.items ≡ l.fn.out.items ++ flat_map (λ action. spaced (order_words (order_said (names_of l.tasks) action))) (take l.action-index l.actions)
