use Rattle.std.proofs.Common.{◌≡◌, Some, slice_get, sym, ap, ◌∙◌}
use Rattle.std.specs.Option.{option_copied}
use Rattle.generalize_declared.proofs.Targets.{none_target}
use Rattle.generalize_declared.proofs.asked.target_of.Goals as goal

pub returns-clause-none : goal.returns-clause-none
returns-clause-none c =
    let there : slice_get c.args.source.now.units.now c.args.file ≡ Some c.in-Some.unit.now = sym c.item_at.ensures ∙ ap option_copied c.in-Some.is in
    none_target c.args.w.now c.args.source.now c.args.file c.args.name.now c.in-Some.unit.now there c.in-Some-find.name.0 c.in-Some-find.ensures.found c.requires.distinct c.target_among.result
    (rw c.as_slice.ensures at c.target_among.ensures.none)
