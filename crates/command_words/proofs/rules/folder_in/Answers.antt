use Rattle.command_words.proofs.Options.{none_map}
use Rattle.command_words.proofs.RuleLemmas.{not_source, not_new}
use Rattle.command_words.proofs.rules.folder_in.Goals as goal

pub returns-in_err-before-clause-none : goal.returns-in_err-before-clause-none
returns-in_err-before-clause-none c = rw c.from_residual.ensures (not_source c.args.name.now c.args.new_name.now c.in_err-before.ensures.none)

pub returns-clause-none : goal.returns-clause-none
returns-clause-none c = none_map c.before-3.result _ _ (not_new c.args.name.now c.args.new_name.now c.in_ok-before.field-0.now c.in_ok-before.ensures.some) c.before-3.ensures.none
