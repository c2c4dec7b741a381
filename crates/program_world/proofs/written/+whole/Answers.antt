use Rattle.std.proofs.Common.{arith}
use Rattle.class_world.proofs.Weights.{lighter}
use Rattle.program_world.proofs.Supers.{class_whole, array_whole}
use Rattle.program_world.proofs.written.+whole.Goals as goal

pub are_whole-is_whole-requires : goal.are_whole-is_whole-requires
are_whole-is_whole-requires t c =
    let low = lighter c.args.args.now c.loop-arg.arg-index c.arg-item.result c.loop-arg-test.true c.arg-item.is in
    (rw (← c.decreases) (omega (arith, low)), tt)

pub is_whole-returns-in-Class : goal.is_whole-returns-in-Class
is_whole-returns-in-Class t c =
    class_whole c.args.ty.now c.in-Class.field-0 c.in-Class.args c.as_slice.result.now c.are_whole.result c.in-Class.is c.as_slice.ensures c.are_whole.ensures

pub is_whole-returns-in-Array : goal.is_whole-returns-in-Array
is_whole-returns-in-Array t c = array_whole c.args.ty.now c.in-Array.element c.get.result.now c.is_whole.result c.in-Array.is c.get.ensures c.is_whole.ensures
