use Rattle.std.proofs.Common.{◌≡◌, map, take}
use Rattle.java_tree.specs.View.{type_plain}
use Rattle.written_types.specs.Places.{Place, IsPlace}
use Rattle.program_world.specs.ProgramWorld as spec
use Rattle.program_world.proofs.written.read_thrown.Given as goal

abbrev pub invariant-loop-x : goal.invariant-loop-x
invariant-loop-x l = (p : Place) → IsPlace l.scope p → l.tys ≡ map (spec.member_type p 0) (map type_plain (take l.x-index l.xs))
