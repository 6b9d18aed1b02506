-- One to three words of which none begins with a dash.
use Rattle.std.proofs.Common.{◌≡◌, ◌∙◌, map, length, arith}
use Rattle.std.specs.String.{string_bytes}
use Rattle.std.proofs.lemmas.List.{length-map}
use Rattle.command_line.proofs.Dashes.{may_by_count, any_along}
use Rattle.command_line.proofs.reading.may_command.Goals as goal

pub returns-in-1-to-3 : goal.returns-in-1-to-3
returns-in-1-to-3 c =
    let words = map (λ word. string_bytes word) c.args.words.now in
    let count = length-map c.args.words.now (λ word. string_bytes word) in
    let here = c.in-1-to-3 in
    may_by_count words c.any_dash.result (c.any_dash.ensures ∙ any_along (λ word. string_bytes word) c.args.words.now) (omega (arith, here, count)) (omega (arith, here, count))
