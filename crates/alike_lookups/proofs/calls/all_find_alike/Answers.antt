use Rattle.std.proofs.Common.{below_more, arith}
use Rattle.class_world.specs.Overriding as by
use Rattle.alike_lookups.specs.Lookups.{sides}
use Rattle.alike_lookups.specs.Families.{FamilyFindsAlike}
use Rattle.alike_lookups.proofs.calls.all_find_alike.Goals as goal

pub loop-method-preserved : goal.loop-method-preserved
loop-method-preserved c =
    below_more (FamilyFindsAlike (sides c.args.old.now c.args.new.now c.args.map.now c.args.strict)) c.loop-method.method c.loop-method.invariant (c.is_next_alike.ensures c.if-not-is_next_alike.false c.loop-method.invariant)

pub returns : goal.returns
returns c h m low = let known = c.requires.whole.methods in c.loop-method.invariant m (omega (arith, low, known)) m by.itself
