use Rattle.std.proofs.Common.{map}
use Rattle.java_tree.specs.View.{unit_plain}
use Rattle.rule_order.specs.First.{Either}
use Rattle.rule_order.proofs.Firsts.{first_of_both}
use Rattle.type_names.specs.Known.{files_of}
use Rattle.type_names.specs.Rules.{Among, NameBreaches}
use Rattle.super_rules.specs.Rules.{GenericSuperBreaches}
use Rattle.decl_table.specs.Program.{PlainBreaches}
use Rattle.decl_table.proofs.scope.first_scope_breach.Goals as goal

pub returns : goal.returns
returns c = λ built bases stands is.
    let user = map unit_plain c.args.user.now in
    let lib = map unit_plain c.args.lib.now in
    let fs = files_of user lib in
    let ts = c.args.types.now in
    let behind = first_of_both (NameBreaches c.args.java user lib) (GenericSuperBreaches c.args.java fs ts) c.in_ok-in_names.in_names c.in_ok-in_supers.in_supers c.earlier-behind.result
    c.earlier-behind.ensures c.in_ok-in_names.ensures (c.in_ok-in_supers.ensures c.args.java built bases.count stands is) in
    first_of_both (Among (PlainBreaches c.args.names.now c.args.java fs ts) fs) (Either (NameBreaches c.args.java user lib) (GenericSuperBreaches c.args.java fs ts))
    c.in_ok-in_files.in_files c.earlier-behind.result c.earlier.result c.earlier.ensures (c.in_ok-in_files.ensures c.args.java stands) behind
