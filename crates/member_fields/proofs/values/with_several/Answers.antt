use Rattle.member_fields.specs.Values.{several_at}
use Rattle.member_fields.proofs.Steps.{changes_next}
use Rattle.member_fields.proofs.values.with_several.Goals as goal

pub loop-name-preserved : goal.loop-name-preserved
loop-name-preserved c = changes_next c.args.maps.now c.loop-name.maps c.with_several_of.new.maps c.args.start c.loop-name.map c.in_ok-map.map several_at c.args.names.now c.loop-name.name-index 0 c.loop-name-test.true c.loop-name.invariant c.in_ok-map.ensures
