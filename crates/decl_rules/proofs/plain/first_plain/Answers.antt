use Rattle.std.proofs.Common.{subst, sym, ap, ◌∙◌}
use Rattle.java_tree.specs.View.{unit_plain}
use Rattle.rule_order.specs.First.{IsFirst}
use Rattle.decl_rules.specs.PlainRules.{BreaksPlain}
use Rattle.decl_rules.specs.Looks as spec
use Rattle.decl_rules.proofs.Looking.{plain_first}
use Rattle.decl_rules.proofs.plain.first_plain.Goals as goal

pub returns : goal.returns
returns g c = λ generic told.
    let u = unit_plain c.args.unit.now in
    let user = c.args.user in
    let names = c.args.names.now in
    subst (IsFirst (BreaksPlain u user names generic)) (sym (c.look_at_types.ensures ∙ ap (spec.plain_types user names u.types) (c.walk_decls-first.ensures generic told)))
    (plain_first u user names generic)
