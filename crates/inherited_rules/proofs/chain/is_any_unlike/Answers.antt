use Rattle.std.proofs.Common.{Option, refl}
use Rattle.class_world.specs.declared.world.JavaType.{JavaType}
use Rattle.method_ties.proofs.Firsts.{among_all, none_next, at_contains}
use Rattle.inherited_rules.specs.Chains.{IsUnlikeOne}
use Rattle.inherited_rules.proofs.Chained.{item_is}
use Rattle.inherited_rules.proofs.chain.is_any_unlike.Goals as goal

pub is_unlike_one-requires-clause-result : goal.is_unlike_one-requires-clause-result
is_unlike_one-requires-clause-result c =
    let xs = c.args.bare.now in
    let r = c.r-item.result in
    c.requires.bare.types r (at_contains xs c.loop-r.r-index r (item_is xs c.loop-r.r-index r c.loop-r-test.true c.r-item.is))

pub is_unlike_one-requires-clause-bare : goal.is_unlike_one-requires-clause-bare
is_unlike_one-requires-clause-bare c =
    let xs = c.args.bare.now in
    let r = c.r-item.result in
    c.requires.bare.sort r (at_contains xs c.loop-r.r-index r (item_is xs c.loop-r.r-index r c.loop-r-test.true c.r-item.is))

pub returns-then-is_unlike_one : goal.returns-then-is_unlike_one
returns-then-is_unlike_one c =
    let xs = c.args.bare.now in
    let r = c.r-item.result in
    let found = c.is_unlike_one.ensures.0 c.if-is_unlike_one.true in
    (λ h. (r, at_contains xs c.loop-r.r-index r (item_is xs c.loop-r.r-index r c.loop-r-test.true c.r-item.is), found), λ h. refl)

pub loop-r-preserved : goal.loop-r-preserved
loop-r-preserved c =
    let xs = c.args.bare.now in
    let r = c.r-item.result in
    none_next (λ (r : Option JavaType). IsUnlikeOne c.args.w.now r c.args.others.now) xs c.loop-r.r-index r c.loop-r.invariant
    (item_is xs c.loop-r.r-index r c.loop-r-test.true c.r-item.is) (λ unlike. let yes = c.is_unlike_one.ensures.1 unlike in cc (yes, c.if-is_unlike_one.false))

pub returns : goal.returns
returns c = (λ h. absurd (cc h), λ h. absurd (c.loop-r.invariant h.0 (among_all c.args.bare.now c.loop-r.r-index h.0 c.loop-r-test.false h.1) h.2))
