use Rattle.inherited_rules.proofs.unresolved.are_unresolved.Goals as goal

pub returns-then-are_overridden : goal.returns-then-are_overridden
returns-then-are_overridden c = (λ h. absurd (cc h), λ h. absurd (h.1 ((c.are_overridden.ensures c.args.w.now c.requires.overrides).0 c.if-are_overridden.true)))

pub returns : goal.returns
returns c = (
  λ h. (c.in_ok-found.ensures.0 h, λ over. let yes = (c.are_overridden.ensures c.args.w.now c.requires.overrides).1 over in cc (yes, c.if-are_overridden.false)),
  λ h. c.in_ok-found.ensures.1 h.0,
)
