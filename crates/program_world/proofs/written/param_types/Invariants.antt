use Rattle.std.proofs.Common.{◌≡◌, map, take}
use Rattle.java_tree.specs.View.{param_plain}
use Rattle.written_types.specs.Places.{Place, IsPlace}
use Rattle.program_world.specs.ProgramWorld as spec
use Rattle.program_world.proofs.written.param_types.Given as goal

abbrev pub invariant-loop-param : goal.invariant-loop-param
invariant-loop-param l = (p : Place) → IsPlace l.scope p → l.tys ≡ map (spec.param_type p) (map param_plain (take l.param-index l.params))
