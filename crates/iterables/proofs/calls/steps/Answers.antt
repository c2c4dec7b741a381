use Rattle.std.proofs.Common.{subst}
use Rattle.std.specs.Prelude.{codes}
use Rattle.java_tree.specs.declared.tree.Primitive.TheVariants as prim
use Rattle.class_world.specs.declared.world.JavaType.TheVariants as ty
use Rattle.iterables.specs.Walks.{IsCalled}
use Rattle.iterables.specs.Told.{Finds}
use Rattle.iterables.proofs.calls.steps.Goals as goal

pub returns-in_default : goal.returns-in_default
returns-in_default c = λ x h.
    subst (Finds (IsCalled c.args.names.now c.args.w.now c.args.d (codes "hasNext") (ty.Prim prim.Boolean))) c.in_default.is c.in_ok-has_next.ensures x.has_next h.0

pub returns-in_default-2 : goal.returns-in_default-2
returns-in_default-2 c = λ x h. subst (Finds (IsCalled c.args.names.now c.args.w.now c.args.d (codes "next") (ty.Var 0))) c.in_default-2.is c.in_ok-next.ensures x.next h.1
