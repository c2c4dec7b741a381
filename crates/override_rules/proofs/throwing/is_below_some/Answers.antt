use Rattle.std.proofs.Common.{sym, subst}
use Rattle.class_world.proofs.Meets.{at_some}
use Rattle.override_rules.specs.Judged.{AreClassBits}
use Rattle.override_rules.proofs.Clauses.{below_told}
use Rattle.override_rules.proofs.throwing.is_below_some.Goals as goal

pub returns-in-Some-bits_above : goal.returns-in-Some-bits_above
returns-in-Some-bits_above c =
    let are = at_some (AreClassBits c.args.upper.now) c.args.bits.now c.in-Some.words c.in-Some.is c.requires.bits in
    below_told c.args.w.now c.args.e.now c.args.upper.now c.in-Some-bits_above.row.now c.as_slice.result.now c.have_common_bit.result c.in-Some-bits_above.ensures
    (subst (AreClassBits c.args.upper.now) (sym c.as_slice.ensures) are) c.have_common_bit.ensures
