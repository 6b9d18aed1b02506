-- Which words are a command.
use Rattle.std.proofs.Common.{◌≡◌, ◌∙◌, true, false, List, ℕ, map, sym, ap, true≢false}
use Rattle.std.specs.String.{string_bytes}
use Rattle.clap.specs.Simple.{is_simple, matches_of}
use Rattle.clap.specs.Takes.{takes}
use Rattle.clap.specs.declared.error.kind.ErrorKind.TheVariants.{OutOfMemory}
use Rattle.command_line.proofs.Matched.{app_is_simple, all_taken, all_found}
use Rattle.command_line.proofs.Dashes.{kept_out}
use Rattle.command_line.proofs.reading.command_of.Goals as goal

pub returns-then-not-may_command : goal.returns-then-not-may_command
returns-then-not-may_command c = sym (kept_out (map (λ word. string_bytes word) c.args.words.now) (sym c.may_command.ensures ∙ c.if-not-may_command.true))

pub returns-in-Ok : goal.returns-in-Ok
returns-in-Ok c =
    let words = map (λ word. string_bytes word) c.args.words.now in
    let may = sym c.may_command.ensures ∙ c.if-not-may_command.false in
    let app = c.in_ok-words_of.ensures in
    c.matched.ensures ∙ all_found c.in-Ok.matches words may ((c.in-Ok.ensures.matches (ap is_simple app ∙ app_is_simple)).0 ∙ ap (λ a. matches_of a words) app)

pub returns-in-Err-2 : goal.returns-in-Err-2
returns-in-Err-2 c =
    let words = map (λ word. string_bytes word) c.args.words.now in
    let may = sym c.may_command.ensures ∙ c.if-not-may_command.false in
    let oom : c.kind.result ≡ OutOfMemory = c.kind.ensures ∙ c.in-Err.ensures.passes (ap (λ a. takes a words) c.in_ok-words_of.ensures ∙ all_taken words may) in
    let same : c.eq.result ≡ true = rw oom at c.eq.ensures in
    absurd (true≢false (sym same ∙ c.if-eq.false))
