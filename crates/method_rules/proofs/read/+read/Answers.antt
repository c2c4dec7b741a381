use Rattle.std.proofs.Common.{arith}
use Rattle.class_world.proofs.Weights.{lighter}
use Rattle.method_rules.proofs.Reading.{class_told, array_told}
use Rattle.method_rules.proofs.read.+read.Goals as goal

pub are_read-is_read-requires : goal.are_read-is_read-requires
are_read-is_read-requires t c =
    let low = lighter c.args.ts.now c.loop-t.t-index c.t-item.result c.loop-t-test.true c.t-item.is in
    (rw (← c.decreases) (omega (arith, low)), tt)

pub is_read-returns-in-Class : goal.is_read-returns-in-Class
is_read-returns-in-Class t c =
    class_told c.are_read.result c.args.t.now c.in-Class.field-0 c.in-Class.args c.as_slice.result.now c.in-Class.is c.as_slice.ensures c.are_read.ensures

pub is_read-returns-in-Array : goal.is_read-returns-in-Array
is_read-returns-in-Array t c = array_told c.is_read.result c.args.t.now c.in-Array.element c.get.result.now c.in-Array.is c.get.ensures c.is_read.ensures
