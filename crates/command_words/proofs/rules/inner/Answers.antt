use Rattle.command_words.proofs.Options.{none_map}
use Rattle.command_words.proofs.RuleLemmas.{not_within}
use Rattle.command_words.proofs.rules.inner.Goals as goal

pub returns-clause-none : goal.returns-clause-none
returns-clause-none c = none_map c.behind-2.result _ _ (not_within c.args.out.now c.args.name.now c.in_ok-behind.field-0.now c.in_ok-behind.ensures.some) c.behind-2.ensures.none
