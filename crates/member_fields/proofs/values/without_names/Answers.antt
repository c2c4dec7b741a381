use Rattle.member_fields.specs.Values.{without_at}
use Rattle.member_fields.proofs.Steps.{changes_next}
use Rattle.member_fields.proofs.values.without_names.Goals as goal

pub loop-f-preserved : goal.loop-f-preserved
loop-f-preserved c = changes_next c.args.maps.now c.loop-f.maps c.without_name.new.maps c.args.start c.loop-f.map c.in_ok-map.map (without_at c.args.w.now) c.args.fields.now c.loop-f.f-index 0 c.loop-f-test.true c.loop-f.invariant c.in_ok-map.ensures
