use Rattle.std.proofs.Common.{sym, ap, ◌∙◌}
use Rattle.std.specs.Option.{option_copied}
use Rattle.override_rules.proofs.Clauses.{above_told}
use Rattle.override_rules.proofs.bits.bits_above.Goals as goal

pub returns : goal.returns
returns c =
    above_told c.args.w.now c.requires c.args.t.now c.in_ok-c.c c.in_ok-info.info.now c.in_ok-row.row.now c.as_slice.result.now c.in_ok-c.ensures (sym c.get.ensures.value ∙ ap option_copied c.in_ok-info.was) c.if-info-ne0.false
    (sym c.get-2.ensures.value ∙ ap option_copied c.in_ok-row.was) c.as_slice.ensures
