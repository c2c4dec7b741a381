use Rattle.std.proofs.Common.{refl, sym, subst}
use Rattle.class_world.specs.Types.{IsReference, of_class, of_variable, of_array}
use Rattle.type_kinds.proofs.of_world.refers.Goals as goal

pub returns-in-Class : goal.returns-in-Class
returns-in-Class c = (λ h. subst IsReference (sym c.in-Class.is) (of_class _ _), λ h. refl)

pub returns-in-Var : goal.returns-in-Var
returns-in-Var c = (λ h. subst IsReference (sym c.in-Var.is) (of_variable _), λ h. refl)

pub returns-in-Array : goal.returns-in-Array
returns-in-Array c = (λ h. subst IsReference (sym c.in-Array.is) (of_array _), λ h. refl)
