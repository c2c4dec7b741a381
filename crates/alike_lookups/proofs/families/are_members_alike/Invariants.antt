use Rattle.std.proofs.Common.{ℕ, ◌<◌, true, get_or}
use Rattle.alike_lookups.specs.Lookups.{sides}
use Rattle.alike_lookups.specs.Families.{IsMemberAlike}
use Rattle.alike_lookups.proofs.families.are_members_alike.Given as goal

abbrev pub invariant-loop-member : goal.invariant-loop-member
invariant-loop-member l = (i : ℕ) → i < l.member-index → IsMemberAlike (sides l.old l.new l.map true) l.method l.other (get_or l.family i 0)
