use Rattle.history_weave.proofs.RuleSaid.{Ready-said}
use Rattle.history_weave.proofs.laws.rule_is_in_words.Goals as goal

pub returns : goal.returns
returns c = Ready-said
