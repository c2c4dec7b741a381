use Rattle.std.proofs.Common.{take}
use Rattle.std.specs.List.{fold}
use Rattle.member_fields.specs.Values.{Changes, with_at}
use Rattle.member_fields.proofs.values.with_fields.Given as goal

abbrev pub invariant-loop-f : goal.invariant-loop-f
invariant-loop-f l = Changes l.fn.maps l.maps l.fn.start (λ k v. fold (with_at l.w l.private_too k) v (take l.f-index l.fields)) l.map
