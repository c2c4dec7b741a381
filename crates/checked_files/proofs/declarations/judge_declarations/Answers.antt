use Rattle.std.proofs.Common.{◌≡◌, ◌∙◌, Result, Err, map, sym, ap, subst}
use Rattle.std.proofs.lemmas.Result.{err_from_is_err_and}
use Rattle.java_tree.specs.View.{unit_plain}
use Rattle.java_tree.specs.declared.fault.Fault.{Fault}
use Rattle.checked_files.specs.declared.declarations.Declared.{Declared}
use Rattle.checked_files.specs.Judged.{AreJudged}
use Rattle.checked_files.proofs.Judging.{judged_world, judged_fault, judged_members}
use Rattle.checked_files.proofs.declarations.judge_declarations.Goals as goal

pub returns-in_err-world-clause-judged : goal.returns-in_err-world-clause-judged
returns-in_err-world-clause-judged c =
    let exit = err_from_is_err_and c.from_residual.result c.from_residual.ensures.1 in
    let same : c.from_residual.result ≡ Err c.in_err-world.field-0.0 = exit.1 ∙ ap (λ (f : Fault). Err f) exit.2 in
    subst (λ (r : Result Declared Fault). AreJudged c.args.users c.args.names.now (map unit_plain c.args.units.now) r) (sym same)
    (judged_fault c.args.users c.args.names.now _ c.args.units.now _ _ c.split_at.ensures.front c.split_at.ensures.back _ c.in_err-world.ensures.named c.in_err-world.ensures.built)

pub returns-clause-table : goal.returns-clause-table
returns-clause-table c = c.in_ok-world.ensures.named (λ e. cc)

pub returns-clause-judged : goal.returns-clause-judged
returns-clause-judged c =
    judged_world c.args.users c.args.names.now _ c.args.units.now _ _ c.split_at.ensures.front c.split_at.ensures.back _ (c.in_ok-world.ensures.named (λ e. cc)) c.in_ok-world.ensures.built
    c.in_ok-members.ensures

pub tabulate-requires-clause-sound : goal.tabulate-requires-clause-sound
tabulate-requires-clause-sound c = c.in_ok-world.ensures.built.2.sound

pub tabulate-requires-clause-typed : goal.tabulate-requires-clause-typed
tabulate-requires-clause-typed c = c.in_ok-world.ensures.built.2.typed

pub returns-in_err-members-clause-judged : goal.returns-in_err-members-clause-judged
returns-in_err-members-clause-judged c =
    let exit = err_from_is_err_and c.from_residual-in_err-members.result c.from_residual-in_err-members.ensures.1 in
    let same : c.from_residual-in_err-members.result ≡ Err c.in_err-members.field-0.0 = exit.1 ∙ ap (λ (f : Fault). Err f) exit.2 in
    subst (λ (r : Result Declared Fault). AreJudged c.args.users c.args.names.now (map unit_plain c.args.units.now) r) (sym same)
    (judged_members c.args.users c.args.names.now _ c.args.units.now _ _ c.split_at.ensures.front c.split_at.ensures.back _ _ (c.in_ok-world.ensures.named (λ e. cc)) c.in_ok-world.ensures.built
    c.in_err-members.ensures)
