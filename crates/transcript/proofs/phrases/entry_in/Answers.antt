-- By the first word.
use Rattle.std.proofs.Common.{◌∙◌, ap, sym}
use Rattle.text_lines.specs.Pieces.{words_in}
use Rattle.text_lines.specs.Steps.{◌>>=◌}
use Rattle.text_lines.proofs.FrontSteps.{word_there, no_word}
use Rattle.transcript.specs.Grammar.{entry_of, entry_in}
use Rattle.transcript.proofs.phrases.entry_in.Goals as goal

pub returns-in_err-word : goal.returns-in_err-word
returns-in_err-word c = c.from_residual.ensures ∙ sym (ap entry_in (no_word (words_in c.args.words) (sym c.in_err-word.ensures)))

pub returns-in_err-caller : goal.returns-in_err-caller
returns-in_err-caller c =
    c.from_residual-in_err-caller.ensures
    ∙ ap (λ o. o >>= (λ k. entry_of k (words_in c.in_ok-word.rest))) c.in_err-caller.ensures
    ∙ sym (ap entry_in (word_there (words_in c.args.words) (c.in_ok-word.word.now, words_in c.in_ok-word.rest) (sym c.in_ok-word.ensures)))

pub returns : goal.returns
returns c =
    c.entry_of.ensures
    ∙ ap (λ o. o >>= (λ k. entry_of k (words_in c.in_ok-word.rest))) c.in_ok-caller.ensures
    ∙ sym (ap entry_in (word_there (words_in c.args.words) (c.in_ok-word.word.now, words_in c.in_ok-word.rest) (sym c.in_ok-word.ensures)))
