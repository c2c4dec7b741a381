use Rattle.std.proofs.Common.{arith, rules}
use Rattle.std.proofs.lemmas.Int.{to_z-of_z, SFits-int_wrap}
use Rattle.std.specs.Int.{w32}
use Rattle.run_calls.proofs.Units.{unit_there}
use Rattle.run_calls.proofs.strings.unit_at.Goals as goal

pub returns-then-at-length_of : goal.returns-then-at-length_of
returns-then-at-length_of c s =
    unit_there c.args.units.now c.args.at _ _ c.unsigned_abs.result s (to_z-of_z w32 c.args.at c.ranges.at)
    (grind (arith, to_z-of_z, SFits-int_wrap)) c.if-at-ge0.true c.if-at-length_of.true (search (rules, c.unsigned_abs.ensures.value, to_z-of_z w32 c.args.at c.ranges.at))
