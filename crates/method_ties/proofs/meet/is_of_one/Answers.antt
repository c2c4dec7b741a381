use Rattle.std.proofs.Common.{refl, sym}
use Rattle.std.proofs.lemmas.Option.{slice_get-get_or}
use Rattle.class_world.specs.Inheritance.{IsMemberMethod}
use Rattle.method_ties.proofs.Firsts.{among_all, none_next}
use Rattle.method_ties.proofs.Members.{member_is_method}
use Rattle.method_ties.proofs.meet.is_of_one.Goals as goal

pub returns-in_default : goal.returns-in_default
returns-in_default c = (λ e. absurd (cc e), λ h. let is = member_is_method c.args.w.now h.0 c.args.m h.2 in absurd (c.in_default.ensures.none is.0 is.1))

pub loop-s-preserved : goal.loop-s-preserved
loop-s-preserved c =
    none_next (λ s. IsMemberMethod c.args.w.now s c.args.m) c.args.types.now c.loop-s.s-index _ c.loop-s.invariant (slice_get-get_or c.args.types.now c.loop-s.s-index 0 c.loop-s-test.true)
    (λ h.
    let named = c.named.ensures c.args.w.now c.requires in
    let yes = c.is_among.ensures.1 ((named.0 c.args.m).1 (h, (c.in-Some.info.now, c.in-Some.ensures.some, refl, sym c.len.ensures))) in
    absurd (cc (yes, c.if-is_among.false)))

pub returns : goal.returns
returns c = (λ e. absurd (cc e), λ h. absurd (c.loop-s.invariant h.0 (among_all c.args.types.now c.loop-s.s-index h.0 c.loop-s-test.false h.1) h.2))
