use Rattle.std.proofs.Common.{ap, refl}
use Rattle.java_core.specs.declared.expr.CoreForm.TheOpen as o
use Rattle.java_core.specs.declared.expr.CoreForm.TheVariants as v
use Rattle.java_core.specs.View.{plain}
use Rattle.core_meaning.specs.Expressions.{value}
use Rattle.run_frames.proofs.Outcomes.{two_ways}
use Rattle.run_frames.specs.Runs.{comes, place_of, whole}
use Rattle.run_frames.proofs.Steps.{ok_as}
use Rattle.run_expressions.proofs.Forms.{static_variable, variable_first, variable_within}
use Rattle.run_expressions.proofs.variables.variable.Goals as goal

pub returns-in-Field : goal.returns-in-Field
returns-in-Field c k is =
    let i = c.in-Field in
    let old = c.args.run.now in
    ok_as c.evaluate.result (whole k c.evaluate.new.run) (comes k old) _ _
    (variable_first (place_of k old) old.state c.args.x.now (v.Field i.of i.simple i.field) (o.Field i.of i.simple i.field) i.is (v.outs-Field i.of i.simple i.field) c.get.result.now i.of _ _ c.get.ensures refl (λ a s. refl))
    (c.evaluate.ensures k)

pub returns-in-StaticField : goal.returns-in-StaticField
returns-in-StaticField c k is =
    let i = c.in-StaticField in
    let old = c.args.run.now in
    ok_as c.static_variable.result (whole k c.static_variable.new.run) (comes k old) _ _
    (static_variable (place_of k old) old.state c.args.x.now i.before i.of i.field i.is)
    (c.static_variable.ensures k)

pub returns-in-Index : goal.returns-in-Index
returns-in-Index c k is =
    let i = c.in-Index in
    let old = c.args.run.now in
    ok_as c.evaluate-in-Index.result (whole k c.evaluate-in-Index.new.run) (comes k old) _ _
    (variable_first (place_of k old) old.state c.args.x.now (v.Index i.of i.at) (o.Index i.of i.at) i.is (v.outs-Index i.of i.at) c.get-in-Index.result.now i.of _ _ c.get-in-Index.ensures refl (λ a s. two_ways (value (place_of k old) (plain i.at) s) _ _ _ _ (λ b s. refl)))
    (c.evaluate-in-Index.ensures k)

pub returns-in-Paren : goal.returns-in-Paren
returns-in-Paren c k is =
    let i = c.in-Paren in
    let old = c.args.run.now in
    ap (comes k old) (variable_within (place_of k old) old.state c.args.x.now (v.Paren i.of) (o.Paren i.of) i.is (v.outs-Paren i.of) c.get-in-Paren.result.now i.of c.get-in-Paren.ensures refl)

pub returns-in-Implied : goal.returns-in-Implied
returns-in-Implied c k is =
    let i = c.in-Implied in
    let old = c.args.run.now in
    ap (comes k old) (variable_within (place_of k old) old.state c.args.x.now (v.Implied i.of) (o.Implied i.of) i.is (v.outs-Implied i.of) c.get-in-Implied.result.now i.of c.get-in-Implied.ensures refl)
