use Rattle.std.proofs.Common.{◌≡◌, ◌++◌, map, drop}
use Rattle.std.specs.Prelude.{flat_map}
use Rattle.java_core.specs.View.{field_plain, member_plain}
use Rattle.core_meaning.specs.Code as code
use Rattle.running_code.proofs.entries.push_fields.Given as goal

abbrev pub invariant-loop-member : goal.invariant-loop-member
invariant-loop-member l =
    map (λ x. field_plain x.now) l.out ++ flat_map code.variables_of (map member_plain (drop l.member-index l.class.members))
    ≡ map (λ x. field_plain x.now) l.fn.out ++ flat_map code.variables_of (map member_plain l.class.members)
