use Rattle.std.proofs.Common.{◌++◌, map, true, false, None}
use Rattle.std.proofs.lemmas.Result.{IfOk-weaker}
use Rattle.java_tree.specs.View.{unit_plain}
use Rattle.rule_order.proofs.Adding.{first_from_none}
use Rattle.type_names.specs.Tables.{files_in}
use Rattle.declared_types.specs.Rules.{DeclarationBreaches, DeclaredTypeBreaches}
use Rattle.declared_types.proofs.Declarations.{both_parts, stand_first, stand_behind}
use Rattle.declared_types.proofs.files.first_declared_breach.Goals as goal

pub returns : goal.returns
returns c = λ java stands.
    let us = files_in true (map unit_plain c.args.user.now) in
    let ls = files_in false (map unit_plain c.args.lib.now) in
    let fs = us ++ ls in
    let F = DeclarationBreaches java fs c.args.types.now in
    let front = c.in_ok-first.ensures java fs true stands (stand_first us ls) in
    IfOk-weaker c.note_units-2.result _ _
    (λ r back. first_from_none (DeclaredTypeBreaches java fs c.args.types.now) r (both_parts F c.args.user.now c.args.lib.now true false None c.in_ok-first.first r front back))
    (c.note_units-2.ensures java fs false stands (stand_behind true c.args.user.now ls))
