use Rattle.std.proofs.Common.{map, subst}
use Rattle.std.proofs.lemmas.List.{length-map}
use Rattle.std.specs.Prelude.{true, false}
use Rattle.java_tree.specs.View.{unit_plain}
use Rattle.rule_order.specs.First.{Either}
use Rattle.rule_order.proofs.Firsts.{first_alike, first_of_both}
use Rattle.type_names.specs.Known.{files_of}
use Rattle.type_names.specs.Rules.{Among}
use Rattle.type_names.specs.Tables.{files_in}
use Rattle.type_names.proofs.Breaches.{among_both}
use Rattle.decl_table.specs.Program.{PlainBreaches}
use Rattle.decl_table.specs.Files.{StandAt}
use Rattle.decl_table.proofs.FileLists.{user_at, lib_at}
use Rattle.decl_table.proofs.scope.first_plain_breach.Goals as goal

pub returns : goal.returns
returns c = λ j stands.
    let user = map unit_plain c.args.user.now in
    let lib = map unit_plain c.args.lib.now in
    let fs = files_of user lib in
    let broken = PlainBreaches c.args.names.now j fs c.args.types.now in
    let there = subst (λ n. StandAt fs n (files_in false lib)) (length-map c.args.user.now unit_plain) (lib_at user lib) in
    first_alike (Either (Among broken (files_in true user)) (Among broken (files_in false lib))) (Among broken fs) (among_both broken (files_in true user) (files_in false lib)) c.earlier.result
    (first_of_both (Among broken (files_in true user)) (Among broken (files_in false lib)) c.in_ok-in_user.in_user c.in_ok-in_lib.in_lib c.earlier.result c.earlier.ensures
    (c.in_ok-in_user.ensures j fs stands (user_at user lib)) (c.in_ok-in_lib.ensures j fs stands there))
