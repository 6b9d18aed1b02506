-- What was found among the words is the place among their bytes.
use Rattle.std.proofs.Common.{◌∙◌, sym}
use Rattle.std.specs.Prelude.{bytes_eq}
use Rattle.text_lines.specs.Names.{place_in}
use Rattle.text_lines.proofs.ListViews.{position_mapped}
use Rattle.text_lines.proofs.naming.place_in.Goals as goal

pub returns : goal.returns
unfolding place_in
returns c =
    c.first_same.ensures ∙ sym (position_mapped (λ word. bytes_eq word c.args.word.now) (λ w. w.now) 0 c.args.words.now)
