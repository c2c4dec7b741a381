use Rattle.std.proofs.Common.{◌<◌, length, arith}
use Rattle.program_maps.specs.Ways.{goes_to, ways}
use Rattle.alike_tables.specs.Tables.{IsMethodKept}
use Rattle.alike_tables.proofs.Loops.{refused}
use Rattle.alike_tables.proofs.members.are_methods_kept.Goals as goal

pub returns-then-not-is_method_kept : goal.returns-then-not-is_method_kept
returns-then-not-is_method_kept c =
    let m = c.args.map.now in
    let n = length m.methods.to in
    let k = c.loop-method.method in
    let low : k < n = omega (arith, c.loop-method-test.true, c.requires.count) in
    refused c.args.old.now c.args.new.now (IsMethodKept (ways m)) (goes_to m.methods) n k c.target.result c.is_method_kept.result low c.target.ensures c.is_method_kept.ensures c.if-not-is_method_kept.true
