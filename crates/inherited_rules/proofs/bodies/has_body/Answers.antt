use Rattle.std.proofs.Common.{subst}
use Rattle.std.specs.Prelude.{IfSome}
use Rattle.inherited_rules.specs.Parts.{HasBodies}
use Rattle.inherited_rules.proofs.Overriders.{body_alike}
use Rattle.inherited_rules.proofs.bodies.has_body.Goals as goal

pub returns-in_ok-alike-in-Some : goal.returns-in_ok-alike-in-Some
returns-in_ok-alike-in-Some c =
    let w = c.args.w.now in
    let has = subst (λ o. IfSome o (HasBodies w c.args.c)) c.in-Some.is c.requires.bodies in
    body_alike w c.requires.sound c.requires.typed c.args.c c.args.m c.in-Some.table c.in_ok-alike-in-Some.alike.now c.is_one_body.result c.requires.known c.requires.member has c.in_ok-alike-in-Some.ensures
    c.is_one_body.ensures
