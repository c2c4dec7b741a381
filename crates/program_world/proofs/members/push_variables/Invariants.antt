use Rattle.std.proofs.Common.{◌≡◌, ◌++◌, map, take}
use Rattle.java_tree.specs.View.{type_plain, var_plain}
use Rattle.written_types.specs.Places.{Place, IsPlace}
use Rattle.program_world.specs.ProgramWorld as spec
use Rattle.program_world.proofs.members.push_variables.Given as goal

abbrev pub invariant-loop-var : goal.invariant-loop-var
invariant-loop-var l = (p : Place) → IsPlace l.scope p
    → l.fields ≡ l.initial.fields ++ map (spec.field_info p l.owner l.mods (type_plain l.ty)) (map var_plain (take l.var-index l.var-items))
