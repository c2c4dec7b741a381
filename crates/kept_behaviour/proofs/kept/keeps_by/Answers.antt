use Rattle.kept_behaviour.proofs.Nones.{then_so}
use Rattle.kept_behaviour.proofs.kept.keeps_by.Goals as goal

pub returns-in-Ok : goal.returns-in-Ok
returns-in-Ok c = then_so c.is_alike.result (λ keeps. record { files = c.in-Ok.files; checked = c.in-Ok.ensures.checked; keeps = keeps }) c.is_alike.ensures
