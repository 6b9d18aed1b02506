-- The calls first, then the others.
use Rattle.std.proofs.Common.{◌∙◌, ap, sym}
use Rattle.text_lines.specs.Steps.{◌or_else◌}
use Rattle.text_lines.specs.Shapes.{kind_named}
use Rattle.text_lines.proofs.Parts.{named_then}
use Rattle.transcript.specs.Tables.{row, calls, others}
use Rattle.transcript.proofs.phrases.named.Goals as goal

pub returns-in-Some : goal.returns-in-Some
returns-in-Some c = ap (λ o. o or_else kind_named row others c.args.word.now) c.in-Some.ensures ∙ sym (named_then row calls others c.args.word.now)

pub returns-in-None : goal.returns-in-None
returns-in-None c = c.other_named.ensures ∙ ap (λ o. o or_else kind_named row others c.args.word.now) c.in-None.ensures ∙ sym (named_then row calls others c.args.word.now)
