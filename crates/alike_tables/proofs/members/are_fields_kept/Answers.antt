use Rattle.std.proofs.Common.{◌<◌, length, arith}
use Rattle.program_maps.specs.Ways.{goes_to, ways}
use Rattle.alike_tables.specs.Tables.{IsFieldKept}
use Rattle.alike_tables.proofs.Loops.{refused, grown, finished}
use Rattle.alike_tables.proofs.members.are_fields_kept.Goals as goal

pub returns-then-not-is_field_kept : goal.returns-then-not-is_field_kept
returns-then-not-is_field_kept c =
    let m = c.args.map.now in
    let n = length m.fields.to in
    let k = c.loop-field.field in
    let low : k < n = omega (arith, c.loop-field-test.true, c.requires.count) in
    refused c.args.old.now c.args.new.now (IsFieldKept (ways m)) (goes_to m.fields) n k c.target.result c.is_field_kept.result low c.target.ensures c.is_field_kept.ensures c.if-not-is_field_kept.true

pub loop-field-preserved : goal.loop-field-preserved
loop-field-preserved c =
    let m = c.args.map.now in
    grown c.args.old.now c.args.new.now (IsFieldKept (ways m)) (goes_to m.fields) c.loop-field.field c.target.result c.is_field_kept.result c.target.ensures c.is_field_kept.ensures c.if-not-is_field_kept.false c.loop-field.invariant

pub returns : goal.returns
returns c =
    let m = c.args.map.now in
    let n = length m.fields.to in
    finished c.args.old.now c.args.new.now (IsFieldKept (ways m)) (goes_to m.fields) n (λ code code' told told' k low.
    c.loop-field.invariant code code' told told' k (omega (arith, low, c.loop-field-test.false, c.requires.count)))
