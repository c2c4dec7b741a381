use Rattle.std.proofs.Common.{map}
use Rattle.std.specs.Prelude.{true, false}
use Rattle.java_tree.specs.View.{unit_plain}
use Rattle.rule_order.specs.First.{Breaches, Either}
use Rattle.rule_order.proofs.Firsts.{first_alike, first_of_both}
use Rattle.type_names.specs.Known.{File, files_of}
use Rattle.type_names.specs.Rules.{Among}
use Rattle.type_names.specs.Tables.{files_in}
use Rattle.type_names.proofs.Breaches.{among_both}
use Rattle.decl_rules.specs.DeclaredRules.{BreaksDeclared}
use Rattle.decl_table.proofs.declarations.first_in_files.Goals as goal

pub returns : goal.returns
returns c =
    let user = files_in true (map unit_plain c.args.user.now) in
    let lib = files_in false (map unit_plain c.args.lib.now) in
    first_alike (Either (Among breaks user) (Among breaks lib)) (Among breaks (files_of (map unit_plain c.args.user.now) (map unit_plain c.args.lib.now))) (among_both breaks user lib) c.earlier.result
    (first_of_both (Among breaks user) (Among breaks lib) c.in_ok-in_user.in_user c.in_ok-in_lib.in_lib c.earlier.result c.earlier.ensures (c.in_ok-in_user.ensures true) (c.in_ok-in_lib.ensures false))
  where
    breaks : File → Breaches
    breaks f = BreaksDeclared f.unit
