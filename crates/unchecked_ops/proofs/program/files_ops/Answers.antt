use Rattle.std.proofs.Common.{map, refl}
use Rattle.java_core.specs.View.{file_plain}
use Rattle.unchecked_ops.specs.Programs as spec
use Rattle.unchecked_ops.proofs.Arms.{ended}
use Rattle.unchecked_ops.proofs.Steps.{step}
use Rattle.unchecked_ops.proofs.program.files_ops.Goals as goal

pub loop-i-preserved : goal.loop-i-preserved
loop-i-preserved c =
    λ fs d u m. step (λ i xs. spec.files_ops fs u i (map file_plain xs)) (λ i x. spec.file_ops (fs i) u i (file_plain x)) (λ i x xs. refl)
    c.args.files.now c.loop-i.i c.index-files-i.result c.loop-i.out c.file_ops.new.out _ c.loop-i-test.true c.index-files-i.is
    (c.in_ok-file_ops.ensures {u = tt} (fs c.loop-i.i) (d c.loop-i.i c.loop-i-test.true) u m) (c.loop-i.invariant fs d u m)

pub returns : goal.returns
returns c = λ fs d u m. ended (λ xs. spec.files_ops fs u c.loop-i.i (map file_plain xs)) refl c.args.files.now c.loop-i.i c.loop-i.out _ c.loop-i-test.false (c.loop-i.invariant fs d u m)
