use Rattle.std.proofs.Common.{◌≡◌, []}
use Rattle.std.specs.Prelude.{replicate}
use Rattle.overrides.proofs.Groups.{AreListed}
use Rattle.overrides.proofs.listed.lists_of.Given as goal

abbrev pub invariant-loop : goal.invariant-loop
invariant-loop l = l.lists.items ≡ replicate l.counter []

abbrev pub invariant-loop-m : goal.invariant-loop-m
invariant-loop-m l = AreListed l.labels l.lists.items l.m
