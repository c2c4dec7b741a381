use Rattle.std.proofs.Common.{◌↔◌}
use Rattle.std.specs.Prelude.{IsTrue}
use Rattle.class_world.specs.Signatures.{AgreeBelow}
use Rattle.seen_methods.proofs.Tells.{some_of}
use Rattle.seen_methods.proofs.Belows.{agree_turned}
use Rattle.seen_methods.proofs.agree.agree_below.Goals as goal

pub returns-in-Some-2 : goal.returns-in-Some-2
returns-in-Some-2 c =
    let told = some_of c.in_ok-agree-2.field-0 c.in-Some-2.agree (λ r. IsTrue r ↔ AgreeBelow c.args.w.now c.args.k c.args.m) c.in-Some-2.is c.in_ok-agree-2.ensures in
    let turned = agree_turned c.args.w.now c.args.m c.args.k in
    (λ e. turned.0 (told.0 e), λ h. told.1 (turned.1 h))
