use Rattle.inherited_rules.proofs.Firsts.{lowest_body, lowest_results, lowest_clash, none_lowest}
use Rattle.inherited_rules.proofs.search.lowest_rule.Goals as goal

pub returns-then-branch : goal.returns-then-branch
returns-then-branch c = lowest_body c.args.w.now c.args.c (c.in_ok-lacks_body.ensures.0 c.if-branch.true)

pub returns-then-branch-2 : goal.returns-then-branch-2
returns-then-branch-2 c =
    lowest_results c.args.w.now c.args.c (λ h. let yes = c.in_ok-lacks_body.ensures.1 h in cc (yes, c.if-branch.false)) (c.in_ok-has_unlike_results.ensures.0 c.if-branch-2.true)

pub returns-then-branch-3 : goal.returns-then-branch-3
returns-then-branch-3 c =
    lowest_clash c.args.w.now c.args.c (λ h. let yes = c.in_ok-lacks_body.ensures.1 h in cc (yes, c.if-branch.false))
    (λ h. let yes = c.in_ok-has_unlike_results.ensures.1 h in cc (yes, c.if-branch-2.false)) (c.in_ok-has_clash.ensures.0 c.if-branch-3.true)

pub returns : goal.returns
returns c =
    none_lowest c.args.w.now c.args.c (λ h. let yes = c.in_ok-lacks_body.ensures.1 h in cc (yes, c.if-branch.false))
    (λ h. let yes = c.in_ok-has_unlike_results.ensures.1 h in cc (yes, c.if-branch-2.false)) (λ h. let yes = c.in_ok-has_clash.ensures.1 h in cc (yes, c.if-branch-3.false))
