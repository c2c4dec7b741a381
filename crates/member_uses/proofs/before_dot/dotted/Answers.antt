use Rattle.std.proofs.Common.{◌≡◌, IfOk, sym, subst}
use Rattle.java_tree.specs.View as view
use Rattle.java_tree.proofs.Views.{plain_name}
use Rattle.member_uses.specs.Receivers.{before}
use Rattle.member_uses.specs.Targets as spec
use Rattle.member_uses.proofs.before_dot.dotted.Goals as goal

pub returns-in-Name : goal.returns-in-Name
returns-in-Name c = λ f are.
    subst (λ x. IfOk c.named.result (λ r. before r ≡ spec.dotted f c.args.place.now c.args.locals.now x)) (sym (plain_name c.args.e.now c.in-Name.name c.in-Name.is)) (c.named.ensures f are)
