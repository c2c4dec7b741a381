use Rattle.std.proofs.Common.{Option, subst}
use Rattle.class_world.specs.declared.world.JavaType.{JavaType}
use Rattle.seen_methods.specs.Seen.{TellsResult}
use Rattle.inherited_rules.specs.Parts.{IsUnlike}
use Rattle.inherited_rules.proofs.Members.{result_of_world}
use Rattle.inherited_rules.proofs.unresolved.are_unlike.Goals as goal

pub has_unlike_result-requires-clause-result : goal.has_unlike_result-requires-clause-result
has_unlike_result-requires-clause-result c =
    let w = c.args.w.now in
    result_of_world w c.requires.sound c.requires.typed c.args.c c.args.m c.in-Some.r (subst (TellsResult w c.args.c c.args.m) c.in-Some.is c.in_ok-r.ensures).0

pub returns-in_ok-unlike-in-Some : goal.returns-in_ok-unlike-in-Some
returns-in_ok-unlike-in-Some c =
    let w = c.args.w.now in
    let seen = subst (TellsResult w c.args.c c.args.m) c.in-Some.is c.in_ok-r.ensures in
    let told = c.in_ok-unlike-in-Some.ensures in (
      λ h. let q = told.0 h in (c.in-Some.r, q.0, seen.0, q.1, q.2),
      λ u. told.1 (u.1, u.3, subst (λ (x : Option JavaType). IsUnlike w x u.1) (seen.1 u.0 u.2) u.4),
    )

pub returns-in-None : goal.returns-in-None
returns-in-None c =
    let unseen = subst (TellsResult c.args.w.now c.args.c c.args.m) c.in-None.is c.in_ok-r.ensures in
    (λ h. absurd (cc h), λ u. absurd (unseen u.0 u.2))
