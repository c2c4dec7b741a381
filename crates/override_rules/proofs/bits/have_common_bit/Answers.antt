use Rattle.std.proofs.Common.{refl, arith}
use Rattle.std.proofs.lemmas.Option.{slice_get-get_or}
use Rattle.override_rules.proofs.Clauses.{common_here, none_next, none_common}
use Rattle.override_rules.proofs.bits.have_common_bit.Goals as goal

pub loop-at-init : goal.loop-at-init
loop-at-init c = λ g lt in_a in_b. omega (arith, lt)

pub returns-then-both-ne0 : goal.returns-then-both-ne0
returns-then-both-ne0 c =
    let a = c.args.a.now in
    let b = c.args.b.now in
    let i = c.loop-at.at in (
      λ yes.
          common_here a b i _ _ (slice_get-get_or a i 0 (omega (arith, c.loop-at-test.true))) (slice_get-get_or b i 0 (omega (arith, c.loop-at-test.true))) ((c.type_inv.a i).fits) c.if-both-ne0.true,
      λ h. refl,
    )

pub loop-at-preserved : goal.loop-at-preserved
loop-at-preserved c =
    let a = c.args.a.now in
    let b = c.args.b.now in
    let i = c.loop-at.at in
    none_next a b i _ _ (slice_get-get_or a i 0 (omega (arith, c.loop-at-test.true))) (slice_get-get_or b i 0 (omega (arith, c.loop-at-test.true))) c.loop-at.invariant c.if-both-ne0.false

pub returns : goal.returns
returns c = (λ e. absurd (cc e), λ h. absurd (none_common c.args.a.now c.args.b.now c.loop-at.at c.loop-at.invariant (omega arith) h))
