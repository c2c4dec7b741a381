use Rattle.std.proofs.Common.{◌-◌, refl, arith}
use Rattle.inherited_rules.proofs.Chained.{item_is}
use Rattle.inherited_rules.proofs.Sorts.{like_between, like_none_between, not_told, unlike_inside}
use Rattle.inherited_rules.proofs.chain.is_unlike_one.Goals as goal

pub first_not_below-start-requires-clause-results : goal.first_not_below-start-requires-clause-results
first_not_below-start-requires-clause-results c = c.requires.others.types

pub first_not_below-start-requires-clause-chain : goal.first_not_below-start-requires-clause-chain
first_not_below-start-requires-clause-chain c = c.requires.others.chain

pub first_above-end-requires-clause-results : goal.first_above-end-requires-clause-results
first_above-end-requires-clause-results c = c.requires.others.types

pub first_above-end-requires-clause-chain : goal.first_above-end-requires-clause-chain
first_above-end-requires-clause-chain c = c.requires.others.chain

pub returns-then-end-start : goal.returns-then-end-start
returns-then-end-start c = (
  λ h. absurd (cc h),
  λ h. absurd (like_none_between c.args.w.now c.requires.sound c.args.r.now c.args.chain.now c.first_not_below-start.result c.first_above-end.result c.requires.result c.requires.bare c.requires.others c.first_not_below-start.ensures c.first_above-end.ensures c.if-end-start.true h),
)

pub returns-then-not-fits_result : goal.returns-then-not-fits_result
returns-then-not-fits_result c =
    let xs = c.args.chain.now in
    let start = c.first_not_below-start.result in
    let a = c.index-chain-start.result in
    let lt = c.if-end-start.false in
    let within = c.first_above-end.ensures.within in
    let at_a = item_is xs start a (omega (arith, lt, within)) c.index-chain-start.is in (
      λ h.
          unlike_inside c.args.w.now c.requires.sound c.args.r.now xs start c.first_above-end.result c.requires.result c.requires.bare c.requires.others c.first_not_below-start.ensures c.first_above-end.ensures start a (omega arith) at_a
          (λ fits. let yes = c.fits_result.ensures.1 fits in cc (yes, c.if-not-fits_result.true)),
      λ h. refl,
    )

pub returns : goal.returns
returns c =
    let w = c.args.w.now in
    let r = c.args.r.now in
    let xs = c.args.chain.now in
    let start = c.first_not_below-start.result in
    let end = c.first_above-end.result in
    let from = c.first_not_below-start.ensures in
    let to = c.first_above-end.ensures in
    let a = c.index-chain-start.result in
    let b = c.index-chain-last.result in
    let lt = c.if-end-start.false in
    let within = to.within in
    let at_a = item_is xs start a (omega (arith, lt, within)) c.index-chain-start.is in
    let at_b = item_is xs (end - 1) b (omega (arith, lt, within)) c.index-chain-last.is in (
      λ h.
          unlike_inside w c.requires.sound r xs start end c.requires.result c.requires.bare c.requires.others from to (end - 1) b (omega (arith, lt)) at_b
          (λ fits. let yes = c.fits_result-2.ensures.1 fits in cc (h, yes)),
      λ h. not_told c.fits_result-2.result (λ fits.
          like_between w c.requires.sound r xs start end c.requires.result c.requires.bare c.requires.others from to (end - 1) a b (omega (arith, lt)) at_a at_b (omega (arith, lt))
          (c.fits_result.ensures.0 c.if-not-fits_result.false) (c.fits_result-2.ensures.0 fits) h),
    )
