use Rattle.std.proofs.Common.{refl}
use Rattle.std.specs.Prelude.{filter}
use Rattle.extract_constraints.specs.Told.{where_of}
use Rattle.type_constraints.proofs.Steps.{gathered}
use Rattle.extract_constraints.proofs.Numbers.{filter_number}
use Rattle.extract_constraints.specs.Declarations as de
use Rattle.extract_constraints.proofs.declarations.hidden_among.Goals as goal

pub loop-m-preserved : goal.loop-m-preserved
loop-m-preserved c =
    λ k told.
    let a = where_of c.args.at.now in
    filter_number (de.hides k a c.args.info.now) c.args.methods.now c.loop-m.m-index c.in_ok-wanted.wanted c.loop-m.hidden c.in_ok-hidden.hidden _ c.loop-m-test.true
    (c.in_ok-wanted.ensures k told) c.in_ok-hidden.ensures (c.loop-m.invariant k told)

pub returns : goal.returns
returns c =
    λ k told.
    let a = where_of c.args.at.now in
    gathered (filter (de.hides k a c.args.info.now)) refl c.args.methods.now c.loop-m.m-index c.loop-m.hidden _ c.loop-m-test.false (c.loop-m.invariant k told)
