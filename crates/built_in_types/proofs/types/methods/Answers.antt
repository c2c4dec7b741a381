use Rattle.std.proofs.Common.{◌∙◌, None}
use Rattle.built_in_types.specs.BuiltIns.{method_info}
use Rattle.built_in_types.specs.declared.rows.TheConstants.{METHODS}
use Rattle.built_in_types.proofs.Lists.{mapped_more}
use Rattle.built_in_types.proofs.types.methods.Goals as goal

pub loop-row-preserved : goal.loop-row-preserved
loop-row-preserved c =
    mapped_more (method_info c.args.words.now) METHODS c.loop-row.methods c.push.new.self c.loop-row.row-index
    (record { owner = 0; word = None; first = None; second = None; result = None })
    c.in_ok-method.field-0 c.loop-row-test.true c.in_ok-push.ensures.ok c.in_ok-method.ensures
    ∙ c.loop-row.invariant
