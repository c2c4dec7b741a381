use Rattle.std.proofs.Common.{◌≡◌, ◌++◌, Bool, drop, map}
use Rattle.class_world.specs.declared.world.JavaType.{JavaType}
use Rattle.java_core.specs.View.{var_plain}
use Rattle.type_facts.specs.Facts.{AreFacts, Facts}
use Rattle.unchecked_ops.specs.Casting.{AreCasts}
use Rattle.unchecked_ops.specs.Operations as spec
use Rattle.unchecked_ops.proofs.stmts.var_ops.Given as goal

abbrev pub invariant-loop-var : goal.invariant-loop-var
invariant-loop-var l = (f : Facts) → AreFacts l.q f → (u : JavaType → JavaType → Bool) → AreCasts l.q.world.now u
    → l.out ++ spec.var_ops f u l.above (map var_plain (drop l.var-index l.vars)) ≡ l.fn.out ++ spec.var_ops f u l.above (map var_plain l.vars)
