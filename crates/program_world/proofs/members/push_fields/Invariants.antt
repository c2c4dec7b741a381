use Rattle.std.proofs.Common.{◌≡◌, ◌++◌, map, flat_map, take}
use Rattle.java_tree.specs.View.{member_plain}
use Rattle.written_types.specs.Places.{Place, IsPlace}
use Rattle.program_world.specs.Steps as step
use Rattle.program_world.proofs.members.push_fields.Given as goal

abbrev pub invariant-loop-member : goal.invariant-loop-member
invariant-loop-member l = (p : Place) → IsPlace l.scope p
    → l.fields ≡ l.initial.fields ++ flat_map (step.fields_in p l.owner) (map member_plain (take l.member-index l.member-items))
