use Rattle.std.proofs.Common.{inl, inr, subst}
use Rattle.seen_methods.specs.Seen.{TellsResult}
use Rattle.inherited_rules.proofs.Judged.{result_told}
use Rattle.inherited_rules.proofs.Members.{result_of_world}
use Rattle.inherited_rules.proofs.unresolved.add_result.Goals as goal

pub add-requires-clause-result : goal.add-requires-clause-result
add-requires-clause-result c =
    let w = c.args.w.now in
    result_of_world w c.requires.sound c.requires.typed c.args.c c.args.m c.in-Some.r (subst (TellsResult w c.args.c c.args.m) c.in-Some.is c.in_ok-r.ensures).0

pub returns-in-Some-clause-no : goal.returns-in-Some-clause-no
returns-in-Some-clause-no c =
    let w = c.args.w.now in
    result_told w c.args.c c.args.m c.args.results.now c.add.new.self c.in-Some.r c.add.result (subst (TellsResult w c.args.c c.args.m) c.in-Some.is c.in_ok-r.ensures) c.add.ensures

pub returns-in-None-clause-no : goal.returns-in-None-clause-no
returns-in-None-clause-no c none =
    let unseen = subst (TellsResult c.args.w.now c.args.c c.args.m) c.in-None.is c.in_ok-r.ensures in
    (c.requires.kept, λ q. (λ h. inl h, λ h. elim h [ inl was ↦ was | inr has ↦ absurd (unseen q has) ]))
