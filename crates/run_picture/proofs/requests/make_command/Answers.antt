-- The command is built argument by argument.
use Rattle.std.proofs.Common.{◌≡◌, ◌∙◌, ap, ap₂, codes, rules, true}
use Rattle.std.proofs.lemmas.Result.{IfOk-weaker}
use Rattle.clap.specs.Words.{app_of, rule_of, new_app, with_rule}
use Rattle.clap.specs.Simple.{app_of_fields, on_top}
use Rattle.clap.specs.declared.builder.action.ArgAction.TheVariants.{Set, SetTrue}
use Rattle.run_picture.specs.Requests.{command, long_rule}
use Rattle.run_picture.proofs.requests.make_command.Goals as goal

pub returns : goal.returns
unfolding command
returns c =
    let from_is : rule_of c.action-from.result ≡ long_rule (codes "from") Set = search rules in
    let to_is : rule_of c.action-to.result ≡ long_rule (codes "to") Set = search rules in
    let text_is : rule_of c.action-text.result ≡ long_rule (codes "text") SetTrue = search rules in
    let bare : app_of c.no_binary_name.result ≡ on_top (λ s. record s { no_binary_name = true }) (new_app (codes "taskpicture")) =
    ap app_of_fields c.no_binary_name.ensures ∙ ap (on_top (λ s. record s { no_binary_name = true })) c.new-4.ensures.app in
    let plain : app_of c.disable_help_flag-plain.result ≡ on_top (λ s. record s { no_binary_name = true; disable_help_flag = true }) (new_app (codes "taskpicture")) =
    ap app_of_fields c.disable_help_flag-plain.ensures ∙ ap (on_top (λ s. record s { disable_help_flag = true })) bare in
    let one = c.in_ok-arg.ensures.shape (search rules) ∙ ap₂ with_rule plain from_is in
    let two = c.in_ok-arg-2.ensures.shape (search rules) ∙ ap₂ with_rule one to_is in
    IfOk-weaker c.arg-3.result _ _ (λ m h. h.shape (search rules) ∙ ap₂ with_rule two text_is) c.arg-3.ensures
