-- The words are found as the command says, or refused as it says.
use Rattle.std.proofs.Common.{◌≡◌, ◌∙◌, ap, sym, subst, map, true, List, []}
use Rattle.std.specs.String.{string_bytes}
use Rattle.clap.specs.Words.{App, HasKind, Kinds, fault_of, is_simple, is_simple_and_free, matches_of}
use Rattle.run_picture.specs.Requests.{command}
use Rattle.run_picture.proofs.Words.{command_simple, command_free, asked_fine, asked_refused}
use Rattle.run_picture.proofs.requests.read_words.Goals as goal

pub returns-in-Ok : goal.returns-in-Ok
returns-in-Ok c =
    let words = map (λ w. string_bytes w) c.args.words.now in
    let same = c.in_ok-command.ensures in
    let rows = (c.in-Ok.ensures.matches (ap is_simple same ∙ command_simple)).0 ∙ ap (λ (a : App). matches_of a words) same in
    let none = ap (λ (a : App). fault_of a words) (sym same) ∙ c.in-Ok.ensures.kinds (ap is_simple_and_free same ∙ command_free) in
    asked_fine c.request_in.result words _ rows none c.request_in.ensures

pub returns-in-Err : goal.returns-in-Err
returns-in-Err c =
    let words = map (λ w. string_bytes w) c.args.words.now in
    let same = c.in_ok-command.ensures in
    asked_refused c.error_of.result words c.in-Err.error c.error_of.ensures (subst (λ (kinds : Kinds). HasKind kinds c.in-Err.error) (ap (λ (a : App). fault_of a words) same) (c.in-Err.ensures.kinds (ap is_simple_and_free same ∙ command_free)))
