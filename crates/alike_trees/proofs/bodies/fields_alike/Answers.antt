use Rattle.std.proofs.Common.{length, refl}
use Rattle.alike_trees.specs.Compared.{pair}
use Rattle.alike_trees.proofs.Lists.{fields_walk}
use Rattle.alike_trees.proofs.Walks.{ended}
use Rattle.alike_trees.proofs.bodies.fields_alike.Goals as goal

pub returns : goal.returns
returns c =
    let a = c.args in
    ended (fields_walk (pair a.sides.now)) c.loop-at.at a.old.now a.old.now a.new.now refl (length a.new.now) (length a.old.now) c.loop-at-test.false refl refl c.check.ensures
    c.loop-at.invariant
