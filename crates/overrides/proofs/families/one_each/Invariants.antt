use Rattle.overrides.proofs.Groups.{AreSingle}
use Rattle.overrides.proofs.families.one_each.Given as goal

abbrev pub invariant-loop-m : goal.invariant-loop-m
invariant-loop-m l = AreSingle l.labels.items l.members.items l.m
