use Rattle.std.proofs.Common.{subst}
use Rattle.seen_methods.specs.Seen.{TellsResult}
use Rattle.inherited_rules.specs.Parts.{IsUnlike}
use Rattle.inherited_rules.proofs.Members.{result_of_world}
use Rattle.inherited_rules.proofs.unresolved.has_unlike_result.Goals as goal

pub is_unlike-unlike-requires-clause-types : goal.is_unlike-unlike-requires-clause-types
is_unlike-unlike-requires-clause-types c =
    let w = c.args.w.now in
    (c.requires.result, result_of_world w c.requires.sound c.requires.typed c.args.c c.args.k c.in-Some.q (subst (TellsResult w c.args.c c.args.k) c.in-Some.is c.in_ok-q.ensures).0)

pub returns-in-Some : goal.returns-in-Some
returns-in-Some c =
    let w = c.args.w.now in
    let seen = subst (TellsResult w c.args.c c.args.k) c.in-Some.is c.in_ok-q.ensures in
    let told = c.is_unlike-unlike.ensures in
    (λ h. (c.in-Some.q, seen.0, told.0 h), λ h. told.1 (subst (IsUnlike w c.args.r.now) (seen.1 h.0 h.1) h.2))

pub returns-in-None : goal.returns-in-None
returns-in-None c =
    let unseen = subst (TellsResult c.args.w.now c.args.c c.args.k) c.in-None.is c.in_ok-q.ensures in
    (λ h. absurd (cc h), λ h. absurd (unseen h.0 h.1))
