use Rattle.std.proofs.Common.{◌++◌, map, take, sym, subst, [], ◌∷◌}
use Rattle.std.proofs.lemmas.List.{take_all}
use Rattle.java_tree.specs.View.{unit_plain}
use Rattle.type_names.specs.Known.{File}
use Rattle.type_names.specs.Paths.{place_in}
use Rattle.type_names.specs.Tables.{files_in, HoldsFiles}
use Rattle.type_names.proofs.Held.{append_none, file_at, file_more, files_more}
use Rattle.type_names.proofs.table.push_files.Goals as goal

pub loop-unit-init : goal.loop-unit-init
loop-unit-init c = λ ts fs holds homes held. subst (λ l. HoldsFiles c.args.packages.now c.args.java ts l c.args.files.now.items) (sym (append_none fs)) held

pub loop-unit-preserved : goal.loop-unit-preserved
loop-unit-preserved c = λ ts fs holds homes held.
    let file : File = record { unit = unit_plain c.unit-item.result; user = c.args.user } in
    let before = c.loop-unit.invariant ts fs holds homes held in
    let at = file_at c.args.user c.args.units.now c.loop-unit.unit-index c.unit-item.result c.loop-unit-test.true c.unit-item.is in
    let one = c.in_ok-of.ensures ts (place_in c.args.packages.now file.unit.«package») holds (homes c.loop-unit.unit-index file at) in
    rw c.in_ok-push.ensures.items
    (subst (λ l. HoldsFiles c.args.packages.now c.args.java ts l (c.loop-unit.files.items ++ c.in_ok-of.field-0 ∷ []))
    (sym (files_more c.args.user fs c.args.units.now c.loop-unit.unit-index c.unit-item.result c.loop-unit-test.true c.unit-item.is))
    (file_more c.args.packages.now c.args.java ts (fs ++ files_in c.args.user (map unit_plain (take c.loop-unit.unit-index c.args.units.now))) c.loop-unit.files.items file c.in_ok-of.field-0 before one))

pub returns : goal.returns
returns c = λ ts fs holds homes held.
    subst (λ us. HoldsFiles c.args.packages.now c.args.java ts (fs ++ files_in c.args.user (map unit_plain us)) c.loop-unit.files.items)
    (take_all c.loop-unit.unit-index c.args.units.now c.loop-unit-test.false) (c.loop-unit.invariant ts fs holds homes held)
