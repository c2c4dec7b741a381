use Rattle.std.proofs.Common.{map, inl, sym, subst}
use Rattle.java_tree.specs.View.{unit_plain}
use Rattle.java_tree.specs.declared.fault.Family.TheVariants as family
use Rattle.rule_order.specs.First.{IsFirst}
use Rattle.decl_rules.specs.DeclaredRules.{declared_types, declared_methods}
use Rattle.decl_table.specs.Program.{total, ScopeSet, IsEarlyRefusal, IsLimitOver}
use Rattle.decl_table.proofs.Judging.{first_of, none_first}
use Rattle.decl_table.proofs.program.first_early.Goals as goal

pub returns-in-Some : goal.returns-in-Some
returns-in-Some c = λ built bases stands is.
    let S = ScopeSet c.args.names.now c.args.java (map unit_plain c.args.user.now) (map unit_plain c.args.lib.now) c.args.types.now in
    let first = subst (IsFirst S) c.in-Some.is (c.in_ok-breach.ensures built bases stands is) in
    subst (IsEarlyRefusal S (total declared_types (map unit_plain c.args.user.now) (map unit_plain c.args.lib.now)) (total declared_methods (map unit_plain c.args.user.now) (map unit_plain c.args.lib.now)))
    (sym c.broken.ensures) (inl (first_of family.S S c.in-Some.breach first))

pub returns-in-None : goal.returns-in-None
returns-in-None c = λ built bases stands is.
    let S = ScopeSet c.args.names.now c.args.java (map unit_plain c.args.user.now) (map unit_plain c.args.lib.now) c.args.types.now in
    let types = total declared_types (map unit_plain c.args.user.now) (map unit_plain c.args.lib.now) in
    let methods = total declared_methods (map unit_plain c.args.user.now) (map unit_plain c.args.lib.now) in
    let limits = subst (IsLimitOver types methods) c.in-None.is c.broken_limit.ensures in
    (none_first S c.in_ok-breach.field-0 c.in_default.not-Some (c.in_ok-breach.ensures built bases stands is), limits.0, limits.1)
