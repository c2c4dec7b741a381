use Rattle.inherited_rules.specs.Rules.{IsConcrete}
use Rattle.inherited_rules.proofs.bodies.lacks_body.Goals as goal

pub returns : goal.returns
returns c =
    let concrete : IsConcrete c.args.w.now c.args.c = c.is_concrete.ensures.0 (cc (c.if-not-is_concrete.false)) in
    let told = c.in_ok-found.ensures in (
      λ h. let unmet = told.0 h in (concrete, (unmet.0, unmet.1, unmet.2.0, λ k member body over. unmet.2.1 k (member, body, over))),
      λ h. told.1 (h.1.0, h.1.1, (h.1.2, λ k body. h.1.3 k body.0 body.1 body.2)),
    )
