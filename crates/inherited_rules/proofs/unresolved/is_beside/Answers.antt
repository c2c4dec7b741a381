use Rattle.inherited_rules.proofs.unresolved.is_beside.Goals as goal

pub returns-then-overrides : goal.returns-then-overrides
returns-then-overrides c = (λ h. absurd (cc h), λ h. absurd (h.0 ((c.overrides.ensures c.args.w.now c.requires.overrides).0 c.if-overrides.true)))

pub returns : goal.returns
returns c = (
  λ h. (λ over. let yes = (c.overrides.ensures c.args.w.now c.requires.overrides).1 over in cc (yes, c.if-overrides.false), c.in_ok-found.ensures.0 h),
  λ h. c.in_ok-found.ensures.1 h.1,
)
