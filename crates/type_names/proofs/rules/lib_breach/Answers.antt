use Rattle.rule_order.proofs.Firsts.{first_of_both}
use Rattle.java_tree.specs.View.{unit_plain}
use Rattle.type_names.specs.Rules.{BreaksNamedPackage, BreaksPackageName}
use Rattle.type_names.proofs.Tested.{name_by, unnamed_by}
use Rattle.std.proofs.Common.{false}
use Rattle.type_names.specs.Known.{File}
use Rattle.type_names.proofs.rules.lib_breach.Goals as goal

pub returns : goal.returns
returns c =
    let f : File = record { unit = unit_plain c.args.unit.now; user = false } in
    first_of_both (BreaksNamedPackage f.unit) (BreaksPackageName f) c.breach_if-named.result c.breach_if-name.result c.earlier.result c.earlier.ensures
    (unnamed_by f.unit c.is_empty.result c.breach_if-named.result c.is_empty.ensures c.breach_if-named.ensures)
    (name_by f c.as_slice.result.now c.begins_built_in.result c.breach_if-name.result c.as_slice.ensures c.begins_built_in.ensures c.breach_if-name.ensures)
