use Rattle.std.proofs.Common.{◌∙◌}
use Rattle.built_in_types.specs.declared.types.TheConstants.{SUPERCLASSES}
use Rattle.built_in_types.proofs.Lists.{type_more}
use Rattle.built_in_types.proofs.types.types.Goals as goal

pub loop-number-preserved : goal.loop-number-preserved
loop-number-preserved c =
    type_more c.args.words.now SUPERCLASSES c.loop-number.types c.push.new.self c.loop-number.number
    c.in_ok-built_in.field-0 c.loop-number-test.true c.in_ok-push.ensures.ok c.in_ok-built_in.ensures
    ∙ c.loop-number.invariant
