use Rattle.std.proofs.Common.{◌<◌, length, arith}
use Rattle.program_maps.specs.Ways.{goes_to, ways}
use Rattle.alike_tables.specs.Tables.{IsTypeKept}
use Rattle.alike_tables.proofs.Loops.{refused, grown, finished}
use Rattle.alike_tables.proofs.types.are_types_kept.Goals as goal

pub returns-then-not-branch : goal.returns-then-not-branch
returns-then-not-branch c =
    let m = c.args.map.now in
    let n = length m.types.to in
    let k = c.loop-class.class in
    let low : k < n = omega (arith, c.loop-class-test.true, c.requires.count) in
    refused c.args.old.now c.args.new.now (IsTypeKept (ways m)) (goes_to m.types) n k c.target-to.result c.in_ok-is_type_kept.field-0 low c.target-to.ensures c.in_ok-is_type_kept.ensures c.if-not-branch.true

pub loop-class-preserved : goal.loop-class-preserved
loop-class-preserved c =
    let m = c.args.map.now in
    grown c.args.old.now c.args.new.now (IsTypeKept (ways m)) (goes_to m.types) c.loop-class.class c.target-to.result c.in_ok-is_type_kept.field-0 c.target-to.ensures c.in_ok-is_type_kept.ensures c.if-not-branch.false c.loop-class.invariant

pub returns : goal.returns
returns c =
    let m = c.args.map.now in
    let n = length m.types.to in
    finished c.args.old.now c.args.new.now (IsTypeKept (ways m)) (goes_to m.types) n (λ code code' told told' k low.
    c.loop-class.invariant code code' told told' k (omega (arith, low, c.loop-class-test.false, c.requires.count)))
