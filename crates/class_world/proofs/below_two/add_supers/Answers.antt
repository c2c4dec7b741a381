use Rattle.std.proofs.Common.{◌≡◌, ◌+◌, ◌<◌, ◌∙◌, length, refl, sym, ap, subst, arith}
use Rattle.std.proofs.lemmas.Option.{slice_get_read, slice_get_within}
use Rattle.class_world.specs.declared.world.JavaType.TheVariants as ty
use Rattle.class_world.specs.Climbs.{Collide, IsClassType, IsClimbing, IsDeclaredAbove, IsSuperBy}
use Rattle.class_world.proofs.Searches.{direct_in}
use Rattle.class_world.proofs.Climbs as by
use Rattle.class_world.proofs.below_two.add_supers.Goals as goal

pub index-requires-in-loop-d : goal.index-requires-in-loop-d
index-requires-in-loop-d c =
    let t = c.requires.class.0 in
    let there = (c.loop-d.invariant.climbs t c.requires.class.1).kept c.args.at t c.requires.class.1 in
    subst (λ n. c.args.at < n) (sym c.loop-d.found.ok.0) (slice_get_within c.loop-d.found.items c.args.at t there)

pub declared_super-requires : goal.declared_super-requires
declared_super-requires c =
    let t = c.requires.class.0 in
    let there = (c.loop-d.invariant.climbs t c.requires.class.1).kept c.args.at t c.requires.class.1 in
    subst (IsClassType c.args.w.now) (sym (by.read_as c.loop-d.found.items c.args.at c.index-in-loop-d.result.now t there c.index-in-loop-d.ensures)) c.requires.class.2

pub add-requires-clause-class : goal.add-requires-clause-class
add-requires-clause-class c =
    let w = c.args.w.now in
    let t = c.requires.class.0 in
    let type = c.requires.class.2 in
    let items = c.supers_of-d-items.result.now in
    let there = (c.loop-d.invariant.climbs t c.requires.class.1).kept c.args.at t c.requires.class.1 in
    let is = by.read_as c.loop-d.found.items c.args.at c.index-in-loop-d.result.now t there c.index-in-loop-d.ensures in
    let first = by.read_as c.args.found.now.items c.args.at c.index.result.now t c.requires.class.1 c.index.ensures in
    let above : IsDeclaredAbove w t c.in_ok-u.u = by.super_read w t c.index.result.now type.1.0 c.class_of.result type.1.1 items c.loop-d.d-index c.d-item.result c.in_ok-u.u type.1.2 first c.class_of.ensures
    (direct_in w c.class_of.result items c.supers_of-d-items.ensures) (slice_get_read items (length items) c.loop-d.d-index c.d-item.result refl c.loop-d-test.true c.d-item.is)
    (subst (λ x. IsSuperBy w x c.d-item.result c.in_ok-u.u) is c.in_ok-u.ensures) in
    let class = by.class_within w c.requires.supers type.0.0 c.in_ok-u.u (by.above_over w c.requires.supers type.0.0 t c.in_ok-u.u type.0.1 above) in
    (class.0, class.1, class.2, subst (λ n. class.0 < n) (sym (c.loop-d.auto.places ∙ c.requires.size)) class.3)

pub returns-then-not-branch-clause-collide : goal.returns-then-not-branch-clause-collide
returns-then-not-branch-clause-collide c = λ not u at.
    let w = c.args.w.now in
    let t = c.requires.class.0 in
    let type = c.requires.class.2 in
    let items = c.supers_of-d-items.result.now in
    let climbs = c.loop-d.invariant.climbs t c.requires.class.1 in
    let there = climbs.kept c.args.at t c.requires.class.1 in
    let is = by.read_as c.loop-d.found.items c.args.at c.index-in-loop-d.result.now t there c.index-in-loop-d.ensures in
    let first = by.read_as c.args.found.now.items c.args.at c.index.result.now t c.requires.class.1 c.index.ensures in
    let above : IsDeclaredAbove w t c.in_ok-u.u = by.super_read w t c.index.result.now type.1.0 c.class_of.result type.1.1 items c.loop-d.d-index c.d-item.result c.in_ok-u.u type.1.2 first c.class_of.ensures
    (direct_in w c.class_of.result items c.supers_of-d-items.ensures) (slice_get_read items (length items) c.loop-d.d-index c.d-item.result refl c.loop-d-test.true c.d-item.is)
    (subst (λ x. IsSuperBy w x c.d-item.result c.in_ok-u.u) is c.in_ok-u.ensures) in
    let same : t ≡ u = cc (c.requires.class.1, at) in
    subst (λ t. Collide w t c.args.found.now.items) same
    (by.climbing_collides w t c.args.found.now.items c.loop-d.found.items items c.loop-d.d-index c.in_ok-u.u climbs above (c.in_ok-add.ensures.other (λ h. absurd (cc (h, c.if-not-branch.true)))))

pub loop-d-preserved : goal.loop-d-preserved
loop-d-preserved c =
    let w = c.args.w.now in
    let t = c.requires.class.0 in
    let type = c.requires.class.2 in
    let items = c.supers_of-d-items.result.now in
    let climbs = c.loop-d.invariant.climbs t c.requires.class.1 in
    let there = climbs.kept c.args.at t c.requires.class.1 in
    let is = by.read_as c.loop-d.found.items c.args.at c.index-in-loop-d.result.now t there c.index-in-loop-d.ensures in
    let first = by.read_as c.args.found.now.items c.args.at c.index.result.now t c.requires.class.1 c.index.ensures in
    let at = slice_get_read items (length items) c.loop-d.d-index c.d-item.result refl c.loop-d-test.true c.d-item.is in
    let seen = subst (λ x. IsSuperBy w x c.d-item.result c.in_ok-u.u) is c.in_ok-u.ensures in
    let above : IsDeclaredAbove w t c.in_ok-u.u = by.super_read w t c.index.result.now type.1.0 c.class_of.result type.1.1 items c.loop-d.d-index c.d-item.result c.in_ok-u.u type.1.2 first c.class_of.ensures
    (direct_in w c.class_of.result items c.supers_of-d-items.ensures) at seen in
    let class = by.class_within w c.requires.supers type.0.0 c.in_ok-u.u (by.above_over w c.requires.supers type.0.0 t c.in_ok-u.u type.0.1 above) in
    record {
      placed = c.in_ok-add.ensures.placed c.if-not-branch.false;
      climbs = λ v at_v.
          let same : t ≡ v = cc (c.requires.class.1, at_v) in
          subst (λ t. IsClimbing w t c.args.found.now.items c.add.new.types.items items (c.loop-d.d-index + 1)) same
          (by.climbing_next w t c.args.found.now.items c.loop-d.found.items c.add.new.types.items items c.loop-d.d-index c.d-item.result c.in_ok-u.u class.0 class.1 climbs at seen above class.2
          (c.in_ok-add.ensures.takes c.if-not-branch.false));
    }

pub returns-clause-climbs : goal.returns-clause-climbs
returns-clause-climbs c = λ yes v at_v.
    let t = c.requires.class.0 in
    let type = c.requires.class.2 in
    let items = c.supers_of-d-items.result.now in
    let first = by.read_as c.args.found.now.items c.args.at c.index.result.now t c.requires.class.1 c.index.ensures in
    let same : t ≡ v = cc (c.requires.class.1, at_v) in
    by.climbing_ends c.args.w.now v c.args.found.now.items c.loop-d.found.items items c.loop-d.d-index c.class_of.result type.1.1
    (sym same ∙ type.1.2 ∙ ap (λ g. ty.Class g type.1.1) (sym (c.class_of.ensures type.1.0 type.1.1 (first ∙ type.1.2)))) (c.loop-d.invariant.climbs v at_v) (omega arith)
    (λ d h. (direct_in c.args.w.now c.class_of.result items c.supers_of-d-items.ensures d).1 h)
