use Rattle.std.proofs.Common.{ap, sym}
use Rattle.std.specs.Option.{option_map}
use Rattle.java_core.specs.View.{stmt_plain}
use Rattle.unchecked_ops.specs.Operations as spec
use Rattle.unchecked_ops.proofs.Arms.{whole}
use Rattle.unchecked_ops.proofs.operations.given_ops.Goals as goal

pub returns-in-Some : goal.returns-in-Some
returns-in-Some c =
    λ f d u m. whole c.stmt_ops.result c.args.out.now c.stmt_ops.new.out (spec.stmt_ops f u c.args.own.now c.args.above.now c.args.given.now (stmt_plain c.in-Some.body)) _
    (sym (ap (λ o. spec.body_ops f u c.args.own.now c.args.above.now c.args.given.now (option_map stmt_plain o)) c.in-Some.is)) (c.stmt_ops.ensures f d u m)
