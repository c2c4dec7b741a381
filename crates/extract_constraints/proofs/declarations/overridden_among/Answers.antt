use Rattle.std.proofs.Common.{refl}
use Rattle.std.specs.Prelude.{filter}
use Rattle.type_constraints.proofs.Steps.{gathered}
use Rattle.extract_constraints.proofs.Numbers.{filter_number}
use Rattle.extract_constraints.proofs.declarations.overridden_among.Goals as goal

pub loop-j-preserved : goal.loop-j-preserved
loop-j-preserved c =
    λ k told.
    filter_number (k.ties.overrides c.args.m) c.args.methods.now c.loop-j.j-index c.overrides.result c.loop-j.found c.in_ok-found.found _ c.loop-j-test.true
    (c.overrides.ensures k told) c.in_ok-found.ensures (c.loop-j.invariant k told)

pub returns : goal.returns
returns c =
    λ k told.
    gathered (filter (k.ties.overrides c.args.m)) refl c.args.methods.now c.loop-j.j-index c.loop-j.found _ c.loop-j-test.false (c.loop-j.invariant k told)
