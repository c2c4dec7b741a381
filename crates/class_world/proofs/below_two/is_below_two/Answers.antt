use Rattle.std.proofs.Common.{◌≡◌, ◌≤◌, ◌∙◌, [], ◌∷◌, length, sym, ap, arith}
use Rattle.std.specs.Option.{option_copied}
use Rattle.class_world.specs.declared.world.TypeInfo.{TypeInfo}
use Rattle.class_world.specs.declared.world.JavaType.TheVariants as ty
use Rattle.class_world.specs.Types.{with_own}
use Rattle.class_world.proofs.Substs.{there_is}
use Rattle.class_world.proofs.Climbs as by
use Rattle.class_world.proofs.below_two.is_below_two.Goals as goal

pub loop-next-init : goal.loop-next-init
loop-next-init c = λ info at.
    let here = sym c.get.ensures.value ∙ ap option_copied c.in-Some.is in
    let alike : c.in-Some.info.now ≡ info = cc (here, at) in
    by.climb_begins c.args.w.now c.args.c info c.in_ok-found.found.items c.listed.new.places at (c.listed.auto.places ∙ c.requires.size) c.in_ok-found.ensures.placed
    (c.in_ok-found.ensures.one ∙ ap (λ xs. ty.Class c.args.c xs ∷ []) c.in_ok-own_variables.ensures ∙ ap (λ (i : TypeInfo). with_own c.args.c i.params ∷ []) alike)

pub add_supers-requires-clause-class : goal.add_supers-requires-clause-class
add_supers-requires-clause-class c =
    let info = c.in-Some.info.now in
    let climb = c.loop-next.invariant info (sym c.get.ensures.value ∙ ap option_copied c.in-Some.is) in
    let there = there_is c.loop-next.found.items c.loop-next.next (omega (arith, c.loop-next-test.true, c.len.ensures, c.loop-next.found.ok.0)) in
    let type = by.climb_type c.args.w.now c.requires.supers info.params (with_own c.args.c info.params) c.loop-next.found.items c.loop-next.places c.loop-next.next climb there.0 there.1 in
    (there.0, there.1, ((info.params, type.0), type.1))

pub returns-then-not-branch-clause-two : goal.returns-then-not-branch-clause-two
returns-then-not-branch-clause-two c = λ h.
    let info = c.in-Some.info.now in
    let at = sym c.get.ensures.value ∙ ap option_copied c.in-Some.is in
    let climb = c.loop-next.invariant info at in
    let there = there_is c.loop-next.found.items c.loop-next.next (omega (arith, c.loop-next-test.true, c.len.ensures, c.loop-next.found.ok.0)) in
    let two = by.climb_collides c.args.w.now c.requires.supers info.params (with_own c.args.c info.params) c.loop-next.found.items c.loop-next.places c.loop-next.next climb there.0 there.1
    (c.in_ok-add_supers.ensures.collide (λ h. absurd (cc (h, c.if-not-branch.true))) there.0 there.1) in
    (info, at, two.0, two.1)

pub loop-next-smaller : goal.loop-next-smaller
loop-next-smaller c =
    let info = c.in-Some.info.now in
    let climb = c.loop-next.invariant info (sym c.get.ensures.value ∙ ap option_copied c.in-Some.is) in
    let short = by.climb_short c.args.w.now c.requires.supers info.params (with_own c.args.c info.params) c.loop-next.found.items c.loop-next.places c.loop-next.next climb in
    omega (arith, short, c.loop-next-test.true, c.len.ensures, c.loop-next.found.ok.0)

pub loop-next-preserved : goal.loop-next-preserved
loop-next-preserved c = λ info at.
    let climb = c.loop-next.invariant info at in
    let there = there_is c.loop-next.found.items c.loop-next.next (omega (arith, c.loop-next-test.true, c.len.ensures, c.loop-next.found.ok.0)) in
    by.climb_on c.args.w.now c.requires.supers info.params (with_own c.args.c info.params) c.loop-next.found.items c.loop-next.places c.loop-next.next climb c.add_supers.new.found.items
    c.add_supers.new.places there.0 there.1 (c.add_supers.auto.places ∙ c.loop-next.auto.places ∙ c.listed.auto.places ∙ c.requires.size) (c.in_ok-add_supers.ensures.placed c.if-not-branch.false)
    (c.in_ok-add_supers.ensures.climbs c.if-not-branch.false there.0 there.1)

pub returns-clause-single : goal.returns-clause-single
returns-clause-single c = λ h info at.
    let le : length c.loop-next.found.items ≤ c.loop-next.next = omega (arith, c.loop-next-test.false, c.len.ensures, c.loop-next.found.ok.0) in
    by.climb_ends c.args.w.now c.requires.supers info.params c.args.c c.loop-next.found.items c.loop-next.places c.loop-next.next (c.loop-next.invariant info at) le
