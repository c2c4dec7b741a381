use Rattle.std.proofs.Common.{sym, ap, ◌∙◌, map}
use Rattle.java_tree.specs.View.{unit_plain, decl_plain}
use Rattle.type_names.specs.Known.{File}
use Rattle.written_types.specs.Places.{place_in}
use Rattle.type_headers.specs.Declared.{Declaration, place_of}
use Rattle.program_world.specs.Steps.{with_types, declared_in}
use Rattle.program_world.proofs.Walking.{type_passed, types_passed}
use Rattle.program_world.proofs.types.push_types.Goals as goal

pub loop-class-preserved : goal.loop-class-preserved
loop-class-preserved c = λ j fs stands at.
    let f : File = record { unit = unit_plain c.args.unit.now; user = c.args.user } in
    let types = c.args.scope.now.types.now in
    let x : Declaration = record { file = f; number = c.args.scope.now.file; decl = decl_plain c.class-item.result } in
    type_passed (place_of j fs types) c.args.scope.now.file f c.as_slice-class-items.result.now c.loop-class.class-index c.class-item.result c.loop-class.world c.push_type.new.world _
    c.loop-class-test.true c.class-item.is
    (c.in_ok-push_type.ensures (place_of j fs types x) (record { java = j; files = fs; file = f; stands = stands; at = at; same = ap (place_in j fs f types) (sym c.as_slice.ensures) }))
    (c.loop-class.invariant j fs stands at)

pub returns : goal.returns
returns c = λ j fs stands at.
    let f : File = record { unit = unit_plain c.args.unit.now; user = c.args.user } in
    let types = c.args.scope.now.types.now in
    types_passed (place_of j fs types) c.args.scope.now.file f c.as_slice-class-items.result.now c.loop-class.class-index c.loop-class.world _
    c.loop-class-test.false (c.loop-class.invariant j fs stands at)
    ∙ ap (λ ds. with_types (place_of j fs types) (declared_in c.args.scope.now.file f (map decl_plain ds)) c.args.world.now) c.as_slice-class-items.ensures
