use Rattle.std.proofs.Common.{◌≡◌, Some, inl, inr, sym, ap, ◌∙◌, arith}
use Rattle.std.specs.Prelude.{slice_get}
use Rattle.std.proofs.lemmas.Option.{slice_get_within}
use Rattle.method_groups.proofs.Firsts.{low_or_last}
use Rattle.method_groups.proofs.differences.place_from.Goals as goal

pub loop-at-init : goal.loop-at-init
loop-at-init c i k lt is = inl lt

pub loop-at-smaller : goal.loop-at-smaller
loop-at-smaller c =
    let its = c.is_below.ensures.0 c.loop-at-test.true in
    let lt = slice_get_within c.args.list.now c.loop-at.at its.0 its.1 in
    omega (arith, lt)

pub loop-at-preserved : goal.loop-at-preserved
loop-at-preserved c i k lt is = elim (low_or_last i c.loop-at.at lt) [
  | inl early ↦ c.loop-at.invariant i k early is
  | inr last ↦
      let its = c.is_below.ensures.0 c.loop-at-test.true in
      let both : Some k ≡ Some its.0 = sym is ∙ ap (slice_get c.args.list.now) last ∙ its.1 in
      let same : k ≡ its.0 = cc both in
      let under = its.2 in
      inr (omega (arith, same, under))
]

pub returns-clause-below : goal.returns-clause-below
returns-clause-below c i k lt is = c.loop-at.invariant i k lt is
