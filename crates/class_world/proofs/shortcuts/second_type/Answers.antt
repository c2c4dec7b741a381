use Rattle.std.proofs.Common.{subst}
use Rattle.std.specs.Prelude.{IfSome}
use Rattle.class_world.specs.Subtypes.{through}
use Rattle.class_world.specs.Merged.{LeadsUp}
use Rattle.class_world.proofs.shortcuts.second_type.Goals as goal

pub returns-then-is_even : goal.returns-then-is_even
returns-then-is_even c = λ n is.
    let w = c.args.w.now in
    let first = subst (λ o. IfSome o (LeadsUp w c.args.s.now)) c.in-Some.is c.in_ok-t.ensures n is in
    let second = subst (λ o. IfSome o (LeadsUp w c.in-Some.t)) c.in-Some-2.is c.in_ok-u.ensures n first.0 in
    (second.0, through first.1 second.1)
