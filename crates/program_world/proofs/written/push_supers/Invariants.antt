use Rattle.std.proofs.Common.{◌≡◌, ◌++◌, map, filter, take}
use Rattle.java_tree.specs.View.{type_plain}
use Rattle.written_types.specs.Places.{Place, IsPlace}
use Rattle.program_world.specs.ProgramWorld as spec
use Rattle.program_world.proofs.written.push_supers.Given as goal

abbrev pub invariant-loop-x : goal.invariant-loop-x
invariant-loop-x l = (p : Place) → IsPlace l.scope p → l.tys ≡ l.initial.tys ++ filter spec.is_super (map (spec.read p) (map type_plain (take l.x-index l.xs)))
