use Rattle.method_ties.proofs.Members.{member_is_method}
use Rattle.method_ties.proofs.meet.is_inherited.Goals as goal

pub returns-in-None : goal.returns-in-None
returns-in-None c = (λ e. absurd (cc e), λ h. let is = member_is_method c.args.w.now c.args.c c.args.m h.0 in absurd (c.in-None.ensures.none is.0 is.1))
