use Rattle.std.proofs.Common.{map, true}
use Rattle.rule_order.specs.First.{Either}
use Rattle.rule_order.proofs.Firsts.{first_of_both}
use Rattle.java_tree.specs.View.{unit_plain}
use Rattle.type_names.specs.Known.{File}
use Rattle.type_names.specs.Rules.{BreaksOnePackage, BreaksOwnPackage, BreaksPackageName}
use Rattle.type_names.proofs.Tested.{has_unit, apart_by, own_by, name_by}
use Rattle.type_names.proofs.rules.user_breach.Goals as goal

pub returns : goal.returns
returns c = λ lib is.
    let f : File = record { unit = unit_plain c.args.unit.now; user = true } in
    let user = map unit_plain c.args.user.now in
    first_of_both (BreaksOnePackage user f.unit) (Either (BreaksOwnPackage c.args.java lib f.unit) (BreaksPackageName f)) c.breach_if-one.result c.earlier.result c.earlier-2.result c.earlier-2.ensures
    (apart_by user f.unit c.as_slice-path.result.now c.is_apart.result c.breach_if-one.result c.as_slice-path.ensures c.is_apart.ensures c.breach_if-one.ensures)
    (first_of_both (BreaksOwnPackage c.args.java lib f.unit) (BreaksPackageName f) c.breach_if-own.result c.breach_if-name.result c.earlier.result c.earlier.ensures
    (own_by c.args.java lib f.unit c.as_slice-path.result.now c.is_built_in.result c.has.result c.breach_if-own.result c.as_slice-path.ensures c.is_built_in.ensures
    (has_unit lib c.args.library.now c.as_slice-path.result.now c.has.result is c.has.ensures) c.breach_if-own.ensures)
    (name_by f c.as_slice-path.result.now c.begins_built_in.result c.breach_if-name.result c.as_slice-path.ensures c.begins_built_in.ensures c.breach_if-name.ensures))
