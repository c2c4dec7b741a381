use Rattle.std.proofs.Common.{◌-◌}
use Rattle.shared_maps.specs.Maps.{KeepsMaps}
use Rattle.overrides.specs.Rounds.{IsDerived, IsStep}
use Rattle.overrides.proofs.Lacking.{HasThirds}
use Rattle.overrides.proofs.rounds.add_thirds.Given as goal

abbrev pub decreases-lacking : goal.decreases-lacking
decreases-lacking l = l.table.maps.keys - l.from

abbrev pub invariant-lacking : goal.invariant-lacking
invariant-lacking l = record {
  derived : IsDerived l.w l.table;
  maps : KeepsMaps l.fn.table.maps l.table.maps;
  step : IsStep l.fn.table l.table l.added;
  thirds : HasThirds l.w l.m l.t l.fn.table l.table l.from;
}
