use Rattle.std.proofs.Common.{map, subst}
use Rattle.java_tree.specs.View as view
use Rattle.java_core.specs.View.{plain}
use Rattle.checked.specs.Checked.{Meets}
use Rattle.type_facts.specs.declared.scope.Place.{Place}
use Rattle.check_expr.specs.Typed.{typeds}
use Rattle.check_stmt.proofs.calls.args_before_this.Goals as goal

pub returns : goal.returns
returns c = λ f a.
    subst (λ (g : Place). Meets (map plain) c.check_all.result (typeds f g c.args.locals.now (view.plains c.args.es.now))) c.in_ok-before.ensures (c.check_all.ensures f a)
