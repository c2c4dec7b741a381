use Rattle.std.proofs.Common.{map, refl}
use Rattle.java_core.specs.declared.program.CoreClass.{CoreClass}
use Rattle.java_core.specs.View.{class_plain, member_plain}
use Rattle.definite_assignment.specs.Bodies as spec
use Rattle.definite_assignment.proofs.Steps.{step}
use Rattle.definite_assignment.proofs.members.in_classes.Goals as goal

pub loop-class-preserved : goal.loop-class-preserved
loop-class-preserved c =
    step (λ xs. spec.in_classes c.args.w.now (map class_plain xs)) (λ (x : CoreClass). spec.in_class c.args.w.now (spec.blanks c.args.w.now (map member_plain x.members)) (class_plain x)) (λ x xs s. refl) c.args.classes.now c.loop-class.class-index c.class-item.result c.loop-class.first c.in_class.new.first _
    c.loop-class-test.true c.class-item.is (c.in_ok-in_class.ensures {u = tt}) c.loop-class.invariant
