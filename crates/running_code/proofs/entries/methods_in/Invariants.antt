use Rattle.std.proofs.Common.{◌≡◌, ◌++◌, map, drop}
use Rattle.std.specs.Prelude.{flat_map}
use Rattle.java_core.specs.View.{member_plain, method_plain}
use Rattle.core_meaning.specs.Code as code
use Rattle.running_code.proofs.entries.methods_in.Given as goal

abbrev pub invariant-loop-member : goal.invariant-loop-member
invariant-loop-member l =
    map (λ x. method_plain x.now) l.methods ++ flat_map code.methods_of (map member_plain (drop l.member-index l.class.members))
    ≡ flat_map code.methods_of (map member_plain l.class.members)
