-- what was written so far stands behind the old text
use Rattle.std.proofs.Common.{◌≡◌, ◌++◌, take}
use Rattle.std.specs.Prelude.{flat_map}
use Rattle.step_tables.specs.Text.{line_text, said_words, event_said, names_of}
use Rattle.step_tables.proofs.writing.put_events.Given as goal

abbrev pub invariant-loop-event : goal.invariant-loop-event
invariant-loop-event l = l.out.items ≡ l.fn.out.items ++ flat_map (λ event. line_text (said_words (event_said (names_of l.tasks) event))) (take l.event-index l.events)
