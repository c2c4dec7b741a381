use Rattle.std.proofs.Common.{◌≡◌, true, false, inl, inr, slice_get, sym, ◌∙◌, subst}
use Rattle.class_world.specs.declared.world.World.{World}
use Rattle.generalize_declared.specs.Allowed.{is_candidate}
use Rattle.generalize_declared.specs.Plans.{IsTried}
use Rattle.generalize_declared.proofs.allowed.may_go.Goals as goal

pub returns-then-not-is_candidate : goal.returns-then-not-is_candidate
returns-then-not-is_candidate c =
    λ fs are.
    let first = are 0 c.requires.some in
    inl (subst (λ (w : World). is_candidate (fs 0) c.args.home.now c.args.place.now c.args.interface c.args.number (slice_get w.types c.args.number) ≡ false) (sym first.world)
    (sym (c.is_candidate.ensures (fs 0) first) ∙ c.if-not-is_candidate.true))

pub returns-in-None : goal.returns-in-None
returns-in-None c =
    λ fs are.
    let first = are 0 c.requires.some in
    let tried = c.in_ok-tried.tried in (
      subst (λ (w : World). is_candidate (fs 0) c.args.home.now c.args.place.now c.args.interface c.args.number (slice_get w.types c.args.number) ≡ true) (sym first.world)
          (sym (c.is_candidate.ensures (fs 0) first) ∙ c.if-not-is_candidate.false),
      (tried.changes, subst (IsTried (fs 0) c.args.source.now c.args.place.now c.args.number tried.changes) c.in-None.is (c.in_ok-tried.ensures fs are)),
    )

pub returns : goal.returns
returns c =
    λ fs are.
    let tried = c.in_ok-tried.tried in
    inr (tried.changes, c.in-Some._unmet, subst (IsTried (fs 0) c.args.source.now c.args.place.now c.args.number tried.changes) c.in-Some.is (c.in_ok-tried.ensures fs are))
