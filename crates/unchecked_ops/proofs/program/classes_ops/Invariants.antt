use Rattle.std.proofs.Common.{◌≡◌, ◌++◌, Bool, drop, map}
use Rattle.class_world.specs.declared.world.JavaType.{JavaType}
use Rattle.java_core.specs.View.{class_plain}
use Rattle.type_facts.specs.Facts.{AreFacts, Facts}
use Rattle.unchecked_ops.specs.Casting.{AreCasts}
use Rattle.unchecked_ops.specs.Programs as spec
use Rattle.unchecked_ops.proofs.program.classes_ops.Given as goal

abbrev pub invariant-loop-class : goal.invariant-loop-class
invariant-loop-class l = (f : Facts) → AreFacts l.q f → (u : JavaType → JavaType → Bool) → AreCasts l.q.world.now u
    → l.out ++ spec.classes_ops f u (map class_plain (drop l.class-index l.classes)) ≡ l.fn.out ++ spec.classes_ops f u (map class_plain l.classes)
