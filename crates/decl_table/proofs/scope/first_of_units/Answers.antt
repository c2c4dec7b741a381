use Rattle.std.proofs.Common.{rules, ◌≡◌, ◌+◌, map, refl, sym, subst}
use Rattle.std.specs.Prelude.{Some, slice_get}
use Rattle.std.proofs.lemmas.List.{take_all}
use Rattle.java_tree.specs.View.{unit_plain}
use Rattle.rule_order.specs.First.{IsFirst}
use Rattle.type_names.specs.Known.{File}
use Rattle.type_names.specs.Rules.{Among}
use Rattle.type_names.specs.Tables.{files_in}
use Rattle.type_names.proofs.Breaches.{among_file}
use Rattle.decl_table.specs.Program.{is_generic_name, PlainBreaches}
use Rattle.decl_table.proofs.FileLists.{file_at}
use Rattle.decl_table.proofs.scope.first_of_units.Goals as goal

pub loop-at-preserved : goal.loop-at-preserved
loop-at-preserved c = λ j fs stands there.
    let ts = c.args.types.now in
    let f : File = record { unit = unit_plain c.index-units-at.result; user = c.args.user } in
    let number : c.in-Ok.file ≡ c.args.before + c.loop-at.at = search rules in
    let at : slice_get fs c.in-Ok.file ≡ Some f =
    subst (λ n. slice_get fs n ≡ Some f) (sym number) (there c.loop-at.at f (file_at c.args.user c.args.units.now c.loop-at.at c.index-units-at.result c.loop-at-test.true c.index-units-at.is)) in
    let here : IsFirst (PlainBreaches c.args.names.now j fs ts f) c.first_plain.result =
    c.first_plain.ensures (is_generic_name j fs ts f) (record { tells = λ n is said. said j fs f stands at }) in
    among_file (PlainBreaches c.args.names.now j fs ts) c.args.user c.args.units.now c.loop-at.at c.index-units-at.result f c.loop-at.first c.first_plain.result c.earlier-first.result
    c.loop-at-test.true c.index-units-at.is refl (c.loop-at.invariant j fs stands there) here c.earlier-first.ensures

pub returns : goal.returns
returns c = λ j fs stands there.
    subst (λ us. IsFirst (Among (PlainBreaches c.args.names.now j fs c.args.types.now) (files_in c.args.user (map unit_plain us))) c.loop-at.first)
    (take_all c.loop-at.at c.args.units.now c.loop-at-test.false) (c.loop-at.invariant j fs stands there)
