use Rattle.override_rules.specs.Judged.{NamesMore}
use Rattle.override_rules.specs.Rules.{ThrowsMore}
use Rattle.override_rules.proofs.Judging.{throws_of_world, throws_told, ok_told}
use Rattle.override_rules.proofs.throwing.throws_more.Goals as goal

pub names_more-requires-clause-lower : goal.names_more-requires-clause-lower
names_more-requires-clause-lower c = throws_of_world c.args.w.now c.requires.typed c.args.m c.in-Some.low.now c.as_slice.result.now c.in-Some.ensures.some c.requires.owners.0 c.as_slice.ensures

pub names_more-requires-clause-upper : goal.names_more-requires-clause-upper
names_more-requires-clause-upper c = throws_of_world c.args.w.now c.requires.typed c.args.k c.in-Some-method_of.high.now c.as_slice-2.result.now c.in-Some-method_of.ensures.some c.requires.owners.1 c.as_slice-2.ensures

pub returns : goal.returns
returns c =
    ok_told c.names_more.result (NamesMore c.args.w.now c.as_slice.result.now c.as_slice-2.result.now) (ThrowsMore c.args.w.now c.args.m c.args.k)
    (throws_told c.args.w.now c.args.m c.args.k c.in-Some.low.now c.in-Some-method_of.high.now c.as_slice.result.now c.as_slice-2.result.now c.in-Some.ensures.some c.in-Some-method_of.ensures.some c.as_slice.ensures
    c.as_slice-2.ensures) c.names_more.ensures
