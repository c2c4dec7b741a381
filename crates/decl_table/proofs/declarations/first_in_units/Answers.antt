use Rattle.std.proofs.Common.{map, refl, subst}
use Rattle.std.proofs.lemmas.List.{take_all}
use Rattle.java_tree.specs.View.{unit_plain}
use Rattle.rule_order.specs.First.{IsFirst}
use Rattle.type_names.specs.Rules.{Among}
use Rattle.type_names.specs.Tables.{files_in}
use Rattle.type_names.proofs.Breaches.{among_file}
use Rattle.decl_rules.specs.DeclaredRules.{BreaksDeclared}
use Rattle.decl_table.proofs.declarations.first_in_units.Goals as goal

pub loop-unit-preserved : goal.loop-unit-preserved
loop-unit-preserved c = λ user.
    among_file (λ f. BreaksDeclared f.unit) user c.args.units.now c.loop-unit.unit-index c.unit-item.result (record { unit = unit_plain c.unit-item.result; user = user }) c.loop-unit.first
    c.in_ok-first_declared.field-0 c.earlier-first.result c.loop-unit-test.true c.unit-item.is refl (c.loop-unit.invariant user) c.in_ok-first_declared.ensures c.earlier-first.ensures

pub returns : goal.returns
returns c = λ user.
    subst (λ us. IsFirst (Among (λ f. BreaksDeclared f.unit) (files_in user (map unit_plain us))) c.loop-unit.first) (take_all c.loop-unit.unit-index c.args.units.now c.loop-unit-test.false)
    (c.loop-unit.invariant user)
