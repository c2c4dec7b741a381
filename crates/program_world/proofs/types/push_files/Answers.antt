use Rattle.std.proofs.Common.{◌≡◌, ◌+◌, ap, ◌∙◌, arith}
use Rattle.java_tree.specs.View.{unit_plain}
use Rattle.type_names.specs.Known.{File}
use Rattle.type_headers.specs.Declared.{place_of}
use Rattle.std.specs.Prelude.{slice_get, Some}
use Rattle.program_world.proofs.Walking.{file_passed, file_at}
use Rattle.program_world.proofs.types.push_files.Goals as goal

pub loop-at-preserved : goal.loop-at-preserved
loop-at-preserved c = λ j fs stands from.
    let f : File = record { unit = unit_plain c.index-units-at.result; user = c.args.user } in
    let here : c.in-Some.file ≡ c.args.scope.now.file + c.loop-at.at = omega (arith, c.in-Some.ensures, c.in_ok-number.ensures) in
    let there : slice_get fs c.in-Some.file ≡ Some f = ap (slice_get fs) here ∙ from c.loop-at.at f (file_at c.args.user c.args.units.now c.loop-at.at c.index-units-at.result c.loop-at-test.true c.index-units-at.is) in
    file_passed (place_of j fs c.args.scope.now.types.now) c.args.user c.args.units.now c.args.scope.now.file c.loop-at.at c.in-Some.file c.index-units-at.result c.loop-at.world c.push_types.new.world _
    c.loop-at-test.true c.index-units-at.is here (c.in_ok-push_types.ensures j fs stands there) (c.loop-at.invariant j fs stands from)
