use Rattle.std.proofs.Common.{◌++◌, map, subst, Result}
use Rattle.java_tree.specs.View as view
use Rattle.java_core.specs.declared.program.CoreFile.{CoreFile}
use Rattle.java_core.specs.View.{file_plain}
use Rattle.checked.specs.declared.stop.Stop.{Stop}
use Rattle.checked.specs.Checked.{Meets}
use Rattle.check_program.specs.Typing as spec
use Rattle.check_program.proofs.Steps.{file_step, file_stops}
use Rattle.check_program.proofs.program.check_files.Goals as goal

pub loop-file-preserved : goal.loop-file-preserved
loop-file-preserved c = λ fs facts.
    file_step fs (c.args.user.now ++ c.args.lib.now) c.loop-file.file c.loop-file.number c.in-Some.next c.unit_at-unit.result.now c.loop-file.done c.push.new.self c.in-Ok.made
    (spec.files_of fs 0 19 (map view.unit_plain (c.args.user.now ++ c.args.lib.now)))
    c.unit_at-unit.ensures
    (subst (λ (r : Result CoreFile Stop). Meets file_plain r (spec.file_of (fs c.loop-file.file) c.loop-file.number (view.unit_plain c.unit_at-unit.result.now))) c.in-Ok.is
    (c.check_file.ensures (fs c.loop-file.file) (facts c.loop-file.file c.loop-file-test.true)))
    c.in_ok-push-in-Ok.ensures.ok c.in-Some.ensures (c.loop-file.invariant fs facts)

pub returns-in-Err : goal.returns-in-Err
returns-in-Err c = λ fs facts.
    file_stops fs (c.args.user.now ++ c.args.lib.now) c.loop-file.file c.loop-file.number c.unit_at-unit.result.now c.loop-file.done
    (spec.files_of fs 0 19 (map view.unit_plain (c.args.user.now ++ c.args.lib.now))) c.in-Err.stop
    c.unit_at-unit.ensures
    (subst (λ (r : Result CoreFile Stop). Meets file_plain r (spec.file_of (fs c.loop-file.file) c.loop-file.number (view.unit_plain c.unit_at-unit.result.now))) c.in-Err.is
    (c.check_file.ensures (fs c.loop-file.file) (facts c.loop-file.file c.loop-file-test.true)))
    (c.loop-file.invariant fs facts)
