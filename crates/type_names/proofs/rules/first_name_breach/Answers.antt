use Rattle.std.proofs.Common.{◌≡◌, ◌∙◌, ◌↔◌, true, map, sym, subst, nat_eq}
use Rattle.std.specs.HashSet.{contains}
use Rattle.java_tree.specs.declared.tree.Name.{Name}
use Rattle.java_tree.specs.View.{unit_plain}
use Rattle.rule_order.specs.First.{Either, IsFirst}
use Rattle.rule_order.proofs.Firsts.{first_alike, first_of_both}
use Rattle.type_names.specs.Known.{types_of, files_of}
use Rattle.type_names.specs.Rules.{Among, BeginsPackage, NameBreaches}
use Rattle.type_names.specs.Tables.{brief}
use Rattle.type_names.specs.Searches.{UserBreaches, LibBreaches, TypeBreaches}
use Rattle.type_names.proofs.Named.{root_is, all_together}
use Rattle.type_names.proofs.rules.first_name_breach.Goals as goal

pub returns : goal.returns
returns c =
    let us = map unit_plain c.args.user.now in
    let ls = map unit_plain c.args.lib.now in
    let names = contains nat_eq c.in_ok-roots.roots in
    let tells : (x : Name) → (names x.0 ≡ true) ↔ BeginsPackage c.args.java (files_of us ls) x =
    λ x. let root = root_is c.args.java c.args.user.now c.args.lib.now x in (λ e. root.0 (sym (c.in_ok-roots.ensures x.0) ∙ e), λ h. c.in_ok-roots.ensures x.0 ∙ root.1 h) in
    let types = map (brief c.in_ok-library.library) (types_of c.args.java (files_of us ls)) in
    first_alike (Either (Either (Among (UserBreaches c.args.java us ls) us) (Among LibBreaches ls)) (TypeBreaches names types)) (NameBreaches c.args.java us ls)
    (all_together c.in_ok-library.library names c.args.java us ls tells) c.earlier.result
    (first_of_both (Either (Among (UserBreaches c.args.java us ls) us) (Among LibBreaches ls)) (TypeBreaches names types) c.earlier-in_files.result c.in_ok-in_types.in_types c.earlier.result c.earlier.ensures
    (first_of_both (Among (UserBreaches c.args.java us ls) us) (Among LibBreaches ls) c.first_user_breach.result c.first_lib_breach.result c.earlier-in_files.result c.earlier-in_files.ensures
    (c.first_user_breach.ensures ls c.in_ok-library.ensures) c.first_lib_breach.ensures)
    (subst (λ ts. IsFirst (TypeBreaches names ts) c.in_ok-in_types.in_types) (c.deref.ensures.value ∙ c.in_ok-types.ensures) c.in_ok-in_types.ensures))
