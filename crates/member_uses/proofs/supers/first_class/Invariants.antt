use Rattle.std.proofs.Common.{◌≡◌, drop}
use Rattle.member_uses.specs.Targets.{first_class}
use Rattle.member_uses.proofs.supers.first_class.Given as goal

-- the types from here on decide
abbrev pub invariant-loop-above : goal.invariant-loop-above
invariant-loop-above l = first_class l.w (drop l.above-index l.supers) ≡ first_class l.w l.supers
