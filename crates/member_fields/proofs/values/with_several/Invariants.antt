use Rattle.std.proofs.Common.{take}
use Rattle.std.specs.List.{fold}
use Rattle.member_fields.specs.Values.{Changes, several_at}
use Rattle.member_fields.proofs.values.with_several.Given as goal

abbrev pub invariant-loop-name : goal.invariant-loop-name
invariant-loop-name l = Changes l.fn.maps l.maps l.fn.start (λ k v. fold (several_at k) v (take l.name-index l.names)) l.map
