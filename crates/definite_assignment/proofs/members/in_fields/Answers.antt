use Rattle.std.proofs.Common.{map, refl}
use Rattle.std.specs.Option.{option_map}
use Rattle.java_core.specs.declared.program.CoreField.{CoreField}
use Rattle.java_core.specs.View.{field_plain, plain}
use Rattle.definite_assignment.specs.Bodies as spec
use Rattle.definite_assignment.proofs.Steps.{step}
use Rattle.definite_assignment.proofs.members.in_fields.Goals as goal

pub loop-x-preserved : goal.loop-x-preserved
loop-x-preserved c =
    step (λ xs. spec.in_fields c.args.w.now c.args.blanks.now (map field_plain xs)) (λ (x : CoreField). spec.in_value c.args.w.now c.args.blanks.now (field_plain x) (option_map plain x.init)) (λ x xs s. refl) c.args.xs.now c.loop-x.x-index c.x-item.result c.loop-x.first c.in_value.new.first _
    c.loop-x-test.true c.x-item.is (c.in_ok-in_value.ensures {u = tt}) c.loop-x.invariant
