use Rattle.std.proofs.Common.{map, List, true, false}
use Rattle.java_tree.specs.View.{unit_plain}
use Rattle.rule_order.specs.First.{Breaches, Either}
use Rattle.rule_order.proofs.Firsts.{first_alike, first_of_both}
use Rattle.type_names.specs.Known.{File, files_of}
use Rattle.type_names.specs.Rules.{Among, BreaksImport, ImportBreaches}
use Rattle.type_names.specs.Tables.{files_in}
use Rattle.type_names.proofs.Breaches.{among_both}
use Rattle.type_names.proofs.Held.{user_homes, lib_homes}
use Rattle.type_names.proofs.table.TypeNames.first_import_breach.Goals as goal

pub returns : goal.returns
returns c = λ stands.
    let us = map unit_plain c.args.user.now in
    let ls = map unit_plain c.args.lib.now in
    let fs : List File = files_of us ls in
    first_alike (Either (Among (breaks fs) (files_in true us)) (Among (breaks fs) (files_in false ls))) (ImportBreaches c.args.java fs)
    (among_both (breaks fs) (files_in true us) (files_in false ls)) c.earlier.result
    (first_of_both (Among (breaks fs) (files_in true us)) (Among (breaks fs) (files_in false ls)) c.first_breach_of-in_user.result c.first_breach_of-in_lib.result c.earlier.result c.earlier.ensures
    (c.first_breach_of-in_user.ensures fs stands (user_homes c.args.java us ls c.args.self.now.packages stands.homes))
    (c.first_breach_of-in_lib.ensures fs stands (lib_homes c.args.java us ls c.args.self.now.packages stands.homes)))
  where
    breaks : List File → File → Breaches
    breaks fs f = Among (BreaksImport c.args.java fs f) f.unit.imports
