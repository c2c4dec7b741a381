use Rattle.std.proofs.Common.{refl}
use Rattle.override_rules.specs.Rules.{access}
use Rattle.override_rules.proofs.over.is_weaker.Goals as goal

pub returns-in-None-access_of : goal.returns-in-None-access_of
returns-in-None-access_of c = (λ e. absurd (cc e), λ h. absurd (c.in-None-access_of.ensures.none (access h.5.interface h.1.mods) (h.1, h.3, h.5, h.7, refl)))

pub returns-in-None : goal.returns-in-None
returns-in-None c = (λ e. absurd (cc e), λ h. absurd (c.in-None.ensures.none (access h.4.interface h.0.mods) (h.0, h.2, h.4, h.6, refl)))
