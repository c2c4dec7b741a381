use Rattle.std.proofs.Common.{take}
use Rattle.std.specs.List.{fold}
use Rattle.member_fields.specs.Values.{Changes, without_at}
use Rattle.member_fields.proofs.values.without_names.Given as goal

abbrev pub invariant-loop-f : goal.invariant-loop-f
invariant-loop-f l = Changes l.fn.maps l.maps l.fn.start (λ k v. fold (without_at l.w k) v (take l.f-index l.fields)) l.map
