use Rattle.std.proofs.Common.{◌++◌, Err, map, subst, sym}
use Rattle.java_tree.specs.View.{unit_plain}
use Rattle.java_core.specs.View.{program_plain}
use Rattle.checked.specs.Checked.{Meets}
use Rattle.type_names.specs.Known.{files_of}
use Rattle.type_names.specs.Tables.{StandsFor}
use Rattle.type_facts.specs.declared.questions.Questions.{Questions}
use Rattle.check_program.specs.Typing.{program}
use Rattle.checker.specs.Checking.{IsCheckedBy}
use Rattle.checker.proofs.Answered.{judged, stopped}
use Rattle.checker.proofs.check.check_files.Goals as goal

pub returns-in-Ok : goal.returns-in-Ok
returns-in-Ok c = λ p is.
    let us = c.args.user.now in
    let ls = c.args.lib.now in
    let q : Questions = record { world = c.args.world; members = c.args.members; names = _; file = 0; length_name = c.length_name.result } in
    let stands = subst (λ j. StandsFor c.in_ok-meant.meant j (files_of (map unit_plain us) (map unit_plain ls))) (c.java_names.ensures p.words is.2) c.in_ok-meant.ensures in
    judged p q c.args.names.now us ls is stands (c.length_name.ensures p.words is.2) c.in-Ok.core c.flowing.result
    (λ fs are. subst (λ r. Meets program_plain r (program fs (map unit_plain (us ++ ls)))) c.in-Ok.is (c.check_program.ensures fs are))
    c.flowing.ensures

pub returns : goal.returns
returns c = λ p is.
    let us = c.args.user.now in
    let ls = c.args.lib.now in
    let q : Questions = record { world = c.args.world; members = c.args.members; names = _; file = 0; length_name = c.length_name.result } in
    let stands = subst (λ j. StandsFor c.in_ok-meant.meant j (files_of (map unit_plain us) (map unit_plain ls))) (c.java_names.ensures p.words is.2) c.in_ok-meant.ensures in
    subst (λ e. IsCheckedBy p c.args.world.now (Err e)) (sym c.type_fault.ensures)
    (stopped p q c.args.names.now us ls is stands (c.length_name.ensures p.words is.2) c.in-Err.stop
    (λ fs are. subst (λ r. Meets program_plain r (program fs (map unit_plain (us ++ ls)))) c.in-Err.is (c.check_program.ensures fs are)))
