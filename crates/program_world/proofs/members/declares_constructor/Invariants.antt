use Rattle.std.proofs.Common.{◌≡◌, false, take}
use Rattle.std.specs.List.{list_any}
use Rattle.java_tree.specs.View.{member_plain}
use Rattle.program_world.specs.Steps as step
use Rattle.program_world.proofs.members.declares_constructor.Given as goal

abbrev pub invariant-loop-member : goal.invariant-loop-member
invariant-loop-member l = list_any (λ m. step.constructs (member_plain m)) (take l.member-index l.members) ≡ false
