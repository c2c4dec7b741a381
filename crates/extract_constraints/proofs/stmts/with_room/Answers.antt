use Rattle.std.proofs.Common.{ap, arith, length, ◌∙◌}
use Rattle.std.proofs.lemmas.List.{length_push}
use Rattle.class_world.specs.declared.world.JavaType.TheVariants as ty
use Rattle.extract_constraints.specs.Links as li
use Rattle.extract_constraints.proofs.Locals.{one_more}
use Rattle.extract_constraints.proofs.stmts.with_room.Goals as goal

pub loop-preserved : goal.loop-preserved
loop-preserved c = (
  omega (arith, length_push c.loop.locals ty.Null, ap length c.in_ok-push.ensures.ok, c.loop.invariant.0),
  λ t. ap (λ ls. li.with_local ls c.args.slot t) c.in_ok-push.ensures.ok ∙ one_more c.loop.locals c.args.slot t (omega (arith, c.loop.invariant.0)) ∙ c.loop.invariant.1 t,
)
