-- By the first word, and the slots behind it.
use Rattle.std.proofs.Common.{◌∙◌, ap}
use Rattle.text_lines.specs.Pieces.{words_in}
use Rattle.text_lines.specs.Slots.{Row}
use Rattle.text_lines.specs.Shapes.{front}
use Rattle.text_lines.proofs.PartsRead.{part_none, part_unknown, part_found}
use Rattle.transcript.specs.Tables.{row, all_names}
use Rattle.transcript.proofs.phrases.part_at.Goals as goal

pub returns-in_err-word : goal.returns-in_err-word
returns-in_err-word c =
    rw c.from_residual.ensures (part_none row all_names (words_in c.args.words) c.in_err-word.ensures)

pub returns-in_err-name : goal.returns-in_err-name
returns-in_err-name c =
    rw c.from_residual-in_err-name.ensures (part_unknown row all_names (words_in c.args.words) (c.in_ok-word.word.now, words_in c.in_ok-word.rest) c.in_ok-word.ensures c.in_err-name.ensures)

pub returns-in-Some : goal.returns-in-Some
returns-in-Some c =
    part_found row all_names (words_in c.args.words) (c.in_ok-word.word.now, words_in c.in_ok-word.rest) c.in_ok-name.name _ c.in_ok-word.ensures c.in_ok-name.ensures (c.in-Some.ensures ∙ ap (λ (found : Row). front found.slots (words_in c.in_ok-word.rest)) c.row.ensures.same)

pub returns-in-None : goal.returns-in-None
returns-in-None c =
    part_found row all_names (words_in c.args.words) (c.in_ok-word.word.now, words_in c.in_ok-word.rest) c.in_ok-name.name _ c.in_ok-word.ensures c.in_ok-name.ensures (c.in-None.ensures ∙ ap (λ (found : Row). front found.slots (words_in c.in_ok-word.rest)) c.row.ensures.same)
