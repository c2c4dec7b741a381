use Rattle.std.proofs.Common.{sym, subst}
use Rattle.class_world.specs.Overriding.{IsSuperclass}
use Rattle.program_maps.specs.Ways.{goes_to}
use Rattle.alike_lookups.proofs.Ups.{both_up, neither_up, none_said}
use Rattle.alike_lookups.proofs.classes.is_up_kept.Goals as goal

pub returns-in-Some-superclass-2 : goal.returns-in-Some-superclass-2
returns-in-Some-superclass-2 c h =
    let v = c.args.new.now in
    both_up c.args.old.now v (goes_to c.args.types.now) c.args.class c.in-Some-superclass.above c.in-Some-superclass-2.above_to c.in-Some-superclass.ensures.some
    (subst (λ t. IsSuperclass v t c.in-Some-superclass-2.above_to) c.in-Some.ensures.some c.in-Some-superclass-2.ensures.some) (c.goes.ensures.0 h)

pub returns-in-None : goal.returns-in-None
returns-in-None c h =
    let v = c.args.new.now in
    neither_up c.args.old.now v (goes_to c.args.types.now) c.args.class c.in-None.ensures.none
    (λ s is. none_said c.superclass-in-None.result c.is_none.result c.is_none.ensures h c.superclass-in-None.ensures.none s (subst (λ t. IsSuperclass v t s) (sym c.in-Some.ensures.some) is))
