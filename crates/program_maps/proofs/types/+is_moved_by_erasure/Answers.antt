use Rattle.program_maps.specs.Ways.{goes_to}
use Rattle.program_maps.proofs.Arrays.{by_elements}
use Rattle.program_maps.proofs.types.+is_moved_by_erasure.Goals as goal

pub returns-in-Array-t : goal.returns-in-Array-t
returns-in-Array-t t c =
    by_elements (goes_to c.args.types.now) c.args.s.now c.args.t.now c.in-Array.x c.in-Array-t.y c.get.result.now c.get-in-Array-t.result.now _ c.in-Array.is c.in-Array-t.is
    c.get.ensures c.get-in-Array-t.ensures c.is_moved_by_erasure.ensures
