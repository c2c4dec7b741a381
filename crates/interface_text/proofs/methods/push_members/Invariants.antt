use Rattle.std.proofs.Common.{◌≡◌, ◌++◌, map, drop}
use Rattle.std.specs.Prelude.{flat_map}
use Rattle.java_core.specs.View.{member_plain}
use Rattle.interface_text.specs.Text as spec
use Rattle.interface_text.proofs.methods.push_members.Given as goal

abbrev pub invariant-loop-member : goal.invariant-loop-member
invariant-loop-member l = l.out.items ++ flat_map (spec.member_text l.q) (map member_plain (drop l.member-index l.members)) ≡ l.fn.out.items ++ flat_map (spec.member_text l.q) (map member_plain l.members)
