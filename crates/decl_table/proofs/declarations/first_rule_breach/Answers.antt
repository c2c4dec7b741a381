use Rattle.std.proofs.Common.{map}
use Rattle.java_tree.specs.View.{unit_plain}
use Rattle.rule_order.specs.First.{Either}
use Rattle.rule_order.proofs.Firsts.{first_of_both}
use Rattle.type_names.specs.Known.{files_of}
use Rattle.type_names.specs.Rules.{Among, ImportBreaches}
use Rattle.decl_rules.specs.DeclaredRules.{BreaksDeclared}
use Rattle.declared_types.specs.Rules.{DeclaredTypeBreaches}
use Rattle.super_rules.specs.Rules.{SuperBreaches}
use Rattle.method_rules.specs.Repeats.{RepeatsMethod}
use Rattle.decl_table.proofs.declarations.first_rule_breach.Goals as goal

pub returns : goal.returns
returns c = λ built count stands is.
    let fs = files_of (map unit_plain c.args.user.now) (map unit_plain c.args.lib.now) in
    let j = c.args.java in
    let ts = c.args.types.now in
    let ms = c.args.methods.now in
    let supers = first_of_both (SuperBreaches j fs ts) (RepeatsMethod ms) c.in_ok-in_supers.in_supers c.in_ok-in_methods.in_methods c.earlier-of_supers.result c.earlier-of_supers.ensures
    (c.in_ok-in_supers.ensures j built count stands is) c.in_ok-in_methods.ensures in
    let types = first_of_both (DeclaredTypeBreaches j fs ts) (Either (SuperBreaches j fs ts) (RepeatsMethod ms)) c.in_ok-in_types.in_types c.earlier-of_supers.result c.earlier-of_types.result
    c.earlier-of_types.ensures (c.in_ok-in_types.ensures j stands) supers in
    let imports = first_of_both (ImportBreaches j fs) (Either (DeclaredTypeBreaches j fs ts) (Either (SuperBreaches j fs ts) (RepeatsMethod ms))) c.first_import_breach-in_imports.result c.earlier-of_types.result
    c.earlier-of_imports.result c.earlier-of_imports.ensures (c.first_import_breach-in_imports.ensures stands) types in
    first_of_both (Among (λ f. BreaksDeclared f.unit) fs) (Either (ImportBreaches j fs) (Either (DeclaredTypeBreaches j fs ts) (Either (SuperBreaches j fs ts) (RepeatsMethod ms))))
    c.in_ok-in_files.in_files c.earlier-of_imports.result c.earlier.result c.earlier.ensures c.in_ok-in_files.ensures imports
