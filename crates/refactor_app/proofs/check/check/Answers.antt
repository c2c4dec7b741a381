use Rattle.std.proofs.Common.{subst}
use Rattle.checker.specs.Checking.{IsCheckedBy}
use Rattle.checked_files.proofs.Tables.{of_split}
use Rattle.refactor_app.proofs.check.check.Goals as goal

pub check_files-requires-clause-program : goal.check_files-requires-clause-program
check_files-requires-clause-program c =
    let p = c.requires.program in
    (p.0, of_split c.args.users c.args.table.now c.args.units.now _ _ p.0 c.split_at.ensures.front c.split_at.ensures.back p.1)

pub returns-in-Err : goal.returns-in-Err
returns-in-Err c = λ p fs is same.
    c.stopped.ensures p c.args.declared.now.world fs same (subst (λ r. IsCheckedBy p c.args.declared.now.world r) c.in-Err.is
    (c.check_files.ensures p (of_split c.args.users c.args.table.now c.args.units.now _ _ p c.split_at.ensures.front c.split_at.ensures.back is)))
