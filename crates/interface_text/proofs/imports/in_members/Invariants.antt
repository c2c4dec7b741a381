use Rattle.std.proofs.Common.{◌≡◌, map, drop}
use Rattle.java_core.specs.View.{member_plain}
use Rattle.interface_text.specs.Imports as spec
use Rattle.interface_text.proofs.imports.in_members.Given as goal

abbrev pub invariant-loop-member : goal.invariant-loop-member
invariant-loop-member l = spec.in_members l.q (map member_plain (drop l.member-index l.members)) l.found ≡ spec.in_members l.q (map member_plain l.members) l.fn.found
