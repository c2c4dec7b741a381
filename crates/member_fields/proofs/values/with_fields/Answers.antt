use Rattle.member_fields.specs.Values.{with_at}
use Rattle.member_fields.proofs.Steps.{changes_next}
use Rattle.member_fields.proofs.values.with_fields.Goals as goal

pub loop-f-preserved : goal.loop-f-preserved
loop-f-preserved c = changes_next c.args.maps.now c.loop-f.maps c.with_field.new.maps c.args.start c.loop-f.map c.in_ok-map.map (with_at c.args.w.now c.args.private_too) c.args.fields.now c.loop-f.f-index 0 c.loop-f-test.true c.loop-f.invariant c.in_ok-map.ensures
