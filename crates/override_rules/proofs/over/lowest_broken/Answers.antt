use Rattle.override_rules.proofs.Judging.{of_kinds, of_two_kinds, lowest_static, lowest_result, lowest_access, lowest_throws, lowest_final, lowest_nothing, not_told}
use Rattle.override_rules.proofs.over.lowest_broken.Goals as goal

pub returns-then-has_mod : goal.returns-then-has_mod
returns-then-has_mod c =
    lowest_static c.args.w.now c.args.c c.args.m c.args.k (of_two_kinds c.args.w.now c.args.c c.args.m c.args.k c.has_mod.result c.has_mod-2.result c.has_mod.ensures c.has_mod-2.ensures c.if-has_mod.true)

pub returns-then-branch : goal.returns-then-branch
returns-then-branch c =
    lowest_result c.args.w.now c.args.c c.args.m c.args.k (of_kinds c.args.w.now c.args.c c.args.m c.args.k c.has_mod.result c.has_mod-2.result c.has_mod.ensures c.has_mod-2.ensures c.if-has_mod.false)
    (c.in_ok-breaks_result.ensures.0 c.if-branch.true)

pub returns-then-is_weaker : goal.returns-then-is_weaker
returns-then-is_weaker c =
    lowest_access c.args.w.now c.args.c c.args.m c.args.k (of_kinds c.args.w.now c.args.c c.args.m c.args.k c.has_mod.result c.has_mod-2.result c.has_mod.ensures c.has_mod-2.ensures c.if-has_mod.false)
    (not_told _ _ c.in_ok-breaks_result.ensures c.if-branch.false) (c.is_weaker.ensures.0 c.if-is_weaker.true)

pub returns-then-branch-2 : goal.returns-then-branch-2
returns-then-branch-2 c =
    lowest_throws c.args.w.now c.args.c c.args.m c.args.k (of_kinds c.args.w.now c.args.c c.args.m c.args.k c.has_mod.result c.has_mod-2.result c.has_mod.ensures c.has_mod-2.ensures c.if-has_mod.false)
    (not_told _ _ c.in_ok-breaks_result.ensures c.if-branch.false) (not_told _ _ c.is_weaker.ensures c.if-is_weaker.false) (c.in_ok-throws_more.ensures.0 c.if-branch-2.true)

pub returns-then-has_mod-2 : goal.returns-then-has_mod-2
returns-then-has_mod-2 c =
    lowest_final c.args.w.now c.args.c c.args.m c.args.k (of_kinds c.args.w.now c.args.c c.args.m c.args.k c.has_mod.result c.has_mod-2.result c.has_mod.ensures c.has_mod-2.ensures c.if-has_mod.false)
    (not_told _ _ c.in_ok-breaks_result.ensures c.if-branch.false) (not_told _ _ c.is_weaker.ensures c.if-is_weaker.false) (not_told _ _ c.in_ok-throws_more.ensures c.if-branch-2.false)
    (c.has_mod-3.ensures.0 c.if-has_mod-2.true)

pub returns : goal.returns
returns c =
    lowest_nothing c.args.w.now c.args.c c.args.m c.args.k (of_kinds c.args.w.now c.args.c c.args.m c.args.k c.has_mod.result c.has_mod-2.result c.has_mod.ensures c.has_mod-2.ensures c.if-has_mod.false)
    (not_told _ _ c.in_ok-breaks_result.ensures c.if-branch.false) (not_told _ _ c.is_weaker.ensures c.if-is_weaker.false) (not_told _ _ c.in_ok-throws_more.ensures c.if-branch-2.false)
    (not_told _ _ c.has_mod-3.ensures c.if-has_mod-2.false)
