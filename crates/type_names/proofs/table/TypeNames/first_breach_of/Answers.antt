use Rattle.std.proofs.Common.{map, refl, subst}
use Rattle.std.proofs.lemmas.List.{take_all}
use Rattle.java_tree.specs.View.{unit_plain}
use Rattle.rule_order.specs.First.{IsFirst}
use Rattle.type_names.specs.Known.{File}
use Rattle.type_names.specs.Rules.{Among, BreaksImport}
use Rattle.type_names.specs.Tables.{files_in}
use Rattle.type_names.proofs.Breaches.{among_file}
use Rattle.type_names.proofs.Held.{file_at}
use Rattle.type_names.proofs.table.TypeNames.first_breach_of.Goals as goal

pub loop-unit-preserved : goal.loop-unit-preserved
loop-unit-preserved c = λ fs stands homes.
    let f : File = record { unit = unit_plain c.unit-item.result; user = c.args.from_user } in
    let home = homes c.loop-unit.unit-index f (file_at c.args.from_user c.args.units.now c.loop-unit.unit-index c.unit-item.result c.loop-unit-test.true c.unit-item.is) in
    among_file (λ f. Among (BreaksImport c.args.java fs f) f.unit.imports) c.args.from_user c.args.units.now c.loop-unit.unit-index c.unit-item.result f c.loop-unit.found c.breach_in.result
    c.earlier-found.result c.loop-unit-test.true c.unit-item.is refl (c.loop-unit.invariant fs stands homes) (c.breach_in.ensures fs stands home) c.earlier-found.ensures

pub returns : goal.returns
returns c = λ fs stands homes.
    subst (λ us. IsFirst (Among (λ f. Among (BreaksImport c.args.java fs f) f.unit.imports) (files_in c.args.from_user (map unit_plain us))) c.loop-unit.found)
    (take_all c.loop-unit.unit-index c.args.units.now c.loop-unit-test.false) (c.loop-unit.invariant fs stands homes)
