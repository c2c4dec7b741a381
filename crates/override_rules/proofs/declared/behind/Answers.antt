use Rattle.std.proofs.Common.{inr}
use Rattle.override_rules.proofs.declared.behind.Goals as goal

pub returns-in_default : goal.returns-in_default
returns-in_default c = λ w h. let are = (c.replaced.ensures w h).0 in (λ k on. (are k).0 on, inr (λ k rep. (are k).1 rep))
