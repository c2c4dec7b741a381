use Rattle.std.proofs.Common.{◌-◌}
use Rattle.inherited_rules.specs.Chains.{IsBelow, IsCut}
use Rattle.inherited_rules.proofs.chain.place_in.Given as goal

abbrev pub invariant-loop-low : goal.invariant-loop-low
invariant-loop-low l = IsCut (λ q. IsBelow l.w q l.r) (IsBelow l.w l.r) l.chain l.low l.high

abbrev pub decreases-loop-low : goal.decreases-loop-low
decreases-loop-low l = l.high - l.low
