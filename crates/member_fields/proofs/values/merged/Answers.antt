use Rattle.std.proofs.Common.{subst, sym}
use Rattle.shared_maps.specs.Maps.{AreDiffering, value_in}
use Rattle.member_fields.proofs.Steps.{if_ok, several_merged}
use Rattle.member_fields.proofs.values.merged.Goals as goal

pub returns : goal.returns
returns c =
    let old = c.args.maps.now in
    let are = subst (AreDiffering (value_in old c.args.a) (value_in old c.args.b)) (sym c.as_slice.ensures.value) c.in_ok-different.ensures in
    if_ok _ c.with_several.ensures (λ r changes.
    several_merged old c.union.new.self c.with_several.new.maps c.args.a c.args.b c.in_ok-both.both r c.as_slice.result.now are c.in_ok-both.ensures.kept c.in_ok-both.ensures.value changes)
