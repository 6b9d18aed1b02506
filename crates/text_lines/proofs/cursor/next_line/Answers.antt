-- The first line feed is where the text is cut.
use Rattle.std.proofs.Common.{sym}
use Rattle.text_lines.proofs.Cuts.{cut_there, cut_nowhere}
use Rattle.text_lines.proofs.cursor.next_line.Goals as goal

pub returns-in-Some-clause-parted : goal.returns-in-Some-clause-parted
returns-in-Some-clause-parted c = cut_there 10 c.args.bytes.now c.in-Some.place (sym c.in-Some.ensures)

pub returns-in-None-clause-parted : goal.returns-in-None-clause-parted
returns-in-None-clause-parted c = cut_nowhere 10 c.args.bytes.now (sym c.in-None.ensures)
