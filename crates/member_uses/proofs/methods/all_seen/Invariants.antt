use Rattle.std.proofs.Common.{◌≡◌, ◌++◌, drop, map}
use Rattle.type_facts.specs.Members.{as_seen}
use Rattle.member_uses.proofs.methods.all_seen.Given as goal

abbrev pub invariant-loop-ty : goal.invariant-loop-ty
invariant-loop-ty l = l.done ++ map (as_seen l.seen) (drop l.ty-index l.tys) ≡ map (as_seen l.seen) l.tys
