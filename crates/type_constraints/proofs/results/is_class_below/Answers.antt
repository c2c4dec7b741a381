use Rattle.std.proofs.Common.{◌∙◌}
use Rattle.class_world.specs.declared.world.JavaType.TheVariants as ty
use Rattle.thrown_exceptions.proofs.Steps.{pair}
use Rattle.type_constraints.proofs.results.is_class_below.Goals as goal

pub returns : goal.returns
returns c = λ f are t ties. c.is_below.ensures f are t ties ∙ pair (λ xs ys. f.sub (ty.Class c.args.c xs) (ty.Class c.args.d ys)) _ _ _ _ c.new.ensures c.new-2.ensures
