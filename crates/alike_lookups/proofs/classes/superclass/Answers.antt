use Rattle.std.proofs.Common.{sym}
use Rattle.alike_lookups.proofs.Ups.{up_among, none_weaker}
use Rattle.alike_lookups.proofs.classes.superclass.Goals as goal

pub returns-else-info-clause-none : goal.returns-else-info-clause-none
returns-else-info-clause-none c =
    none_weaker c.first_class.result c.first_class.ensures.none
    (λ none s is. none s (up_among c.args.w.now c.args.class c.in-Some.info.now (sym c.in-Some.ensures.value) c.if-info.false c.as_slice.result.now c.as_slice.ensures s is))
