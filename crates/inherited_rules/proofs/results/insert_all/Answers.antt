use Rattle.std.proofs.Common.{nat_eq, inl, inr, arith, get_or}
use Rattle.std.specs.HashSet.{contains}
use Rattle.std.proofs.lemmas.Option.{slice_get-get_or}
use Rattle.method_ties.proofs.Firsts.{among_all, at_contains}
use Rattle.inherited_rules.proofs.Judged.{put_next}
use Rattle.inherited_rules.proofs.results.insert_all.Goals as goal

pub loop-x-init : goal.loop-x-init
loop-x-init c x = (λ h. inl h, λ h. elim h [ inl was ↦ was | inr low ↦ let lt = low.1 in absurd (omega (arith, lt)) ])

pub loop-x-preserved : goal.loop-x-preserved
loop-x-preserved c =
    let xs = c.args.xs.now in
    let i = c.loop-x.x-index in
    put_next xs i (get_or xs i 0) (contains nat_eq c.args.set.now) (contains nat_eq c.loop-x.set) (contains nat_eq c.insert.new.self) (slice_get-get_or xs i 0 c.loop-x-test.true) c.loop-x.invariant c.in_ok-insert.ensures.updates.0

pub returns : goal.returns
returns c x =
    let xs = c.args.xs.now in
    let both = c.loop-x.invariant x in (
      λ h. elim (both.0 h) [ inl was ↦ inl was | inr low ↦ inr (at_contains xs low.0 x low.2) ],
      λ h. both.1 (elim h [ inl was ↦ inl was | inr has ↦ inr (among_all xs c.loop-x.x-index x c.loop-x-test.false has) ]),
    )
