use Rattle.std.proofs.Common.{refl, subst}
use Rattle.command_words.specs.declared.table.Command.{Command}
use Rattle.command_words.specs.Asked.{parts}
use Rattle.command_words.specs.Rules.{HasShape}
use Rattle.refactor_app.proofs.asked.extract_asked.Goals as goal

pub returns-in_err-named-clause-none : goal.returns-in_err-named-clause-none
returns-in_err-named-clause-none c =
    let r = c.args.request.now in
    let meets = c.requires.1.meets in
    rw c.from_residual.ensures (λ e. c.in_err-named.ensures.none e (subst (λ (k : Command). HasShape k (parts r)) e ((meets 2).shape refl)))
