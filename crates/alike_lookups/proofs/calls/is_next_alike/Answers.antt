use Rattle.alike_lookups.proofs.Plains.{family_on, family_back}
use Rattle.alike_lookups.proofs.calls.is_next_alike.Goals as goal

pub returns-then-is_later : goal.returns-then-is_later
returns-then-is_later c h before j is = let first = c.is_later.ensures c.if-is_later.true in before first.0 first.1 j (family_on (family_back first.2) is)
