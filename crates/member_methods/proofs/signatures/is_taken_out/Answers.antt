use Rattle.std.proofs.Common.{subst}
use Rattle.std.specs.Prelude.{IfSome}
use Rattle.member_methods.specs.SignatureSets.{HasSignaturesOf}
use Rattle.member_methods.proofs.Maps.{if_ok}
use Rattle.member_methods.proofs.signatures.is_taken_out.Goals as goal

pub returns-in-Some : goal.returns-in-Some
returns-in-Some c =
    let methods = c.args.methods.now in
    let has = subst (λ o. IfSome o (HasSignaturesOf c.args.w.now methods)) c.in-Some.is c.requires.set in
    if_ok c.is_in_set.result _ _ (λ r told t own named. told t methods own has named) c.is_in_set.ensures
