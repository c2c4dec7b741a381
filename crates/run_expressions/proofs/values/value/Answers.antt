use Rattle.std.proofs.Common.{ap, refl}
use Rattle.java_core.specs.declared.expr.CoreForm.TheOpen as o
use Rattle.java_core.specs.declared.expr.CoreForm.TheVariants as v
use Rattle.java_core.specs.View.{plain, plains}
use Rattle.core_meaning.specs.Variables.{cast, instance_of}
use Rattle.core_meaning.specs.Expressions.{current, value, values}
use Rattle.run_frames.specs.Frames.{valued}
use Rattle.run_frames.proofs.Outcomes.{two_ways}
use Rattle.run_frames.specs.Runs.{comes, place_of, whole}
use Rattle.run_frames.proofs.Steps.{ok_as}
use Rattle.run_expressions.proofs.Forms.{all_first, at_once, first, found_first, logic, said_written, static_call, within}
use Rattle.run_expressions.proofs.values.value.Goals as goal

pub returns-in-Widen : goal.returns-in-Widen
returns-in-Widen c k is =
    let i = c.in-Widen in
    let old = c.args.run.now in
    ok_as c.evaluate.result (whole k c.evaluate.new.run) (comes k old) _ _
    (first (place_of k old) old.state c.args.x.now (v.Widen i.of) (o.Widen i.of) i.is (v.outs-Widen i.of) c.get-in-Widen.result.now i.of _ _ c.get-in-Widen.ensures refl (λ a s. refl))
    (c.evaluate.ensures k)

pub returns-in-Implied : goal.returns-in-Implied
returns-in-Implied c k is =
    let i = c.in-Implied in
    let old = c.args.run.now in
    ok_as c.evaluate-in-Implied.result (whole k c.evaluate-in-Implied.new.run) (comes k old) _ _
    (first (place_of k old) old.state c.args.x.now (v.Implied i.of) (o.Implied i.of) i.is (v.outs-Implied i.of) c.get-in-Implied.result.now i.of _ _ c.get-in-Implied.ensures refl (λ a s. refl))
    (c.evaluate-in-Implied.ensures k)

pub returns-in-Field : goal.returns-in-Field
returns-in-Field c k is =
    let i = c.in-Field in
    let old = c.args.run.now in
    ok_as c.evaluate-in-Field.result (whole k c.evaluate-in-Field.new.run) (comes k old) _ _
    (first (place_of k old) old.state c.args.x.now (v.Field i.of i.simple i.field) (o.Field i.of i.simple i.field) i.is (v.outs-Field i.of i.simple i.field) c.get-in-Field.result.now i.of _ _ c.get-in-Field.ensures refl (λ a s. refl))
    (c.evaluate-in-Field.ensures k)

pub returns-in-Length : goal.returns-in-Length
returns-in-Length c k is =
    let i = c.in-Length in
    let old = c.args.run.now in
    ok_as c.evaluate-in-Length.result (whole k c.evaluate-in-Length.new.run) (comes k old) _ _
    (first (place_of k old) old.state c.args.x.now (v.Length i.of) (o.Length i.of) i.is (v.outs-Length i.of) c.get-in-Length.result.now i.of _ _ c.get-in-Length.ensures refl (λ a s. refl))
    (c.evaluate-in-Length.ensures k)

pub returns-in-Index : goal.returns-in-Index
returns-in-Index c k is =
    let i = c.in-Index in
    let old = c.args.run.now in
    ok_as c.evaluate-in-Index.result (whole k c.evaluate-in-Index.new.run) (comes k old) _ _
    (first (place_of k old) old.state c.args.x.now (v.Index i.of i.at) (o.Index i.of i.at) i.is (v.outs-Index i.of i.at) c.get-in-Index.result.now i.of _ _ c.get-in-Index.ensures refl (λ a s. two_ways (value (place_of k old) (plain i.at) s) _ _ _ _ (λ b s. refl)))
    (c.evaluate-in-Index.ensures k)

pub returns-in-Call : goal.returns-in-Call
returns-in-Call c k is =
    let i = c.in-Call in
    let old = c.args.run.now in
    ok_as c.evaluate-in-Call.result (whole k c.evaluate-in-Call.new.run) (comes k old) _ _
    (first (place_of k old) old.state c.args.x.now (v.Call i.of i.simple i.method i.args) (o.Call i.of i.simple i.method i.args) i.is (v.outs-Call i.of i.simple i.method i.args) c.get-in-Call.result.now i.of _ _ c.get-in-Call.ensures refl (λ a s. two_ways (values (place_of k old) (plains i.args) s) _ _ _ _ (λ ys s. refl)))
    (c.evaluate-in-Call.ensures k)

pub returns-in-SuperCall : goal.returns-in-SuperCall
returns-in-SuperCall c k is =
    let i = c.in-SuperCall in
    let old = c.args.run.now in
    ok_as c.evaluate_all.result (whole k c.evaluate_all.new.run) (comes k old) _ _
    (all_first (place_of k old) old.state c.args.x.now (v.SuperCall i.method i.args) (o.SuperCall i.method i.args) i.is (v.outs-SuperCall i.method i.args) i.args _ _ refl (λ ys s. refl))
    (c.evaluate_all.ensures k)

pub returns-in-StaticCall : goal.returns-in-StaticCall
returns-in-StaticCall c k is =
    let i = c.in-StaticCall in
    let old = c.args.run.now in
    ok_as c.static_call.result (whole k c.static_call.new.run) (comes k old) _ _
    (static_call (place_of k old) old.state c.args.x.now i.before i.of i.method i.args i.is)
    (c.static_call.ensures k)

pub returns-in-NewArray : goal.returns-in-NewArray
returns-in-NewArray c k is =
    let i = c.in-NewArray in
    let old = c.args.run.now in
    ok_as c.evaluate_all-in-NewArray.result (whole k c.evaluate_all-in-NewArray.new.run) (comes k old) _ _
    (all_first (place_of k old) old.state c.args.x.now (v.NewArray i.written i.sizes) (o.NewArray i.written i.sizes) i.is (v.outs-NewArray i.written i.sizes) i.sizes _ _ refl (λ ys s. refl))
    (c.evaluate_all-in-NewArray.ensures k)

pub returns-in-NewFilled : goal.returns-in-NewFilled
returns-in-NewFilled c k is =
    let i = c.in-NewFilled in
    let old = c.args.run.now in
    ap (comes k old) (within (place_of k old) old.state c.args.x.now (v.NewFilled i.written i.items) (o.NewFilled i.written i.items) i.is (v.outs-NewFilled i.written i.items) c.get-in-NewFilled.result.now i.items c.get-in-NewFilled.ensures refl)

pub returns-in-Unary : goal.returns-in-Unary
returns-in-Unary c k is =
    let i = c.in-Unary in
    let old = c.args.run.now in
    ok_as c.evaluate-in-Unary.result (whole k c.evaluate-in-Unary.new.run) (comes k old) _ _
    (first (place_of k old) old.state c.args.x.now (v.Unary i.op i.of) (o.Unary i.op i.of) i.is (v.outs-Unary i.op i.of) c.get-in-Unary.result.now i.of _ _ c.get-in-Unary.ensures refl (λ a s. refl))
    (c.evaluate-in-Unary.ensures k)

pub returns-in-Step : goal.returns-in-Step
returns-in-Step c k is =
    let i = c.in-Step in
    let old = c.args.run.now in
    ok_as c.find_variable.result (whole k c.find_variable.new.run) (comes k old) _ _
    (found_first (place_of k old) old.state c.args.x.now (v.Step i.up i.before i.of) (o.Step i.up i.before i.of) i.is (v.outs-Step i.up i.before i.of) c.get-in-Step.result.now i.of _ _ c.get-in-Step.ensures refl (λ z s. two_ways (current (place_of k old) (plain i.of) z s) _ _ _ _ (λ a s. refl)))
    (c.find_variable.ensures k)

pub returns-in-Cast : goal.returns-in-Cast
returns-in-Cast c k is =
    let i = c.in-Cast in
    let old = c.args.run.now in
    ok_as c.evaluate-in-Cast.result (whole k c.evaluate-in-Cast.new.run) (comes k old) _ _
    (first (place_of k old) old.state c.args.x.now (v.Cast i.written i.close i.of) (o.Cast i.written i.close i.of) i.is (v.outs-Cast i.written i.close i.of) c.get-in-Cast.result.now i.of _ _ c.get-in-Cast.ensures refl (λ a s. ap (λ t. valued (cast (place_of k old) t a s)) (said_written i.written)))
    (c.evaluate-in-Cast.ensures k)

pub returns-in-Binary : goal.returns-in-Binary
returns-in-Binary c k is =
    let i = c.in-Binary in
    let old = c.args.run.now in
    ok_as c.binary.result (whole k c.binary.new.run) (comes k old) _ _
    (at_once (place_of k old) old.state c.args.x.now (v.Binary i.op i.kind i.left i.right) (o.Binary i.op i.kind i.left i.right) i.is (v.outs-Binary i.op i.kind i.left i.right))
    (c.binary.ensures k)

pub returns-in-Logic : goal.returns-in-Logic
returns-in-Logic c k is =
    let i = c.in-Logic in
    let old = c.args.run.now in
    ok_as c.evaluate-in-Logic.result (whole k c.evaluate-in-Logic.new.run) (comes k old) _ _
    (logic (place_of k old) old.state c.args.x.now c.get-in-Logic.result.now i.both i.left i.right _ i.is c.get-in-Logic.ensures refl)
    (c.evaluate-in-Logic.ensures k)

pub returns-in-InstanceOf : goal.returns-in-InstanceOf
returns-in-InstanceOf c k is =
    let i = c.in-InstanceOf in
    let old = c.args.run.now in
    ok_as c.evaluate-in-InstanceOf.result (whole k c.evaluate-in-InstanceOf.new.run) (comes k old) _ _
    (first (place_of k old) old.state c.args.x.now (v.InstanceOf i.of i.written) (o.InstanceOf i.of i.written) i.is (v.outs-InstanceOf i.of i.written) c.get-in-InstanceOf.result.now i.of _ _ c.get-in-InstanceOf.ensures refl (λ a s. ap (λ t. valued (instance_of (place_of k old) t a s)) (said_written i.written)))
    (c.evaluate-in-InstanceOf.ensures k)

pub returns-in-Cond : goal.returns-in-Cond
returns-in-Cond c k is =
    let i = c.in-Cond in
    let old = c.args.run.now in
    ok_as c.evaluate-in-Cond.result (whole k c.evaluate-in-Cond.new.run) (comes k old) _ _
    (first (place_of k old) old.state c.args.x.now (v.Cond i.test i.yes i.no) (o.Cond i.test i.yes i.no) i.is (v.outs-Cond i.test i.yes i.no) c.get-in-Cond.result.now i.test _ _ c.get-in-Cond.ensures refl (λ a s. refl))
    (c.evaluate-in-Cond.ensures k)

pub returns-in-Assign : goal.returns-in-Assign
returns-in-Assign c k is =
    let i = c.in-Assign in
    let old = c.args.run.now in
    ok_as c.find_variable-in-Assign.result (whole k c.find_variable-in-Assign.new.run) (comes k old) _ _
    (found_first (place_of k old) old.state c.args.x.now (v.Assign i.to i.from) (o.Assign i.to i.from) i.is (v.outs-Assign i.to i.from) c.get-in-Assign.result.now i.to _ _ c.get-in-Assign.ensures refl (λ z s. two_ways (value (place_of k old) (plain i.from) s) _ _ _ _ (λ a s. refl)))
    (c.find_variable-in-Assign.ensures k)

pub returns-in-Compound : goal.returns-in-Compound
returns-in-Compound c k is =
    let i = c.in-Compound in
    let old = c.args.run.now in
    ok_as c.find_variable-in-Compound.result (whole k c.find_variable-in-Compound.new.run) (comes k old) _ _
    (found_first (place_of k old) old.state c.args.x.now (v.Compound i.op i.kind i.to i.from) (o.Compound i.op i.kind i.to i.from) i.is (v.outs-Compound i.op i.kind i.to i.from) c.get-in-Compound.result.now i.to _ _ c.get-in-Compound.ensures refl (λ z s. two_ways (current (place_of k old) (plain i.to) z s) _ _ _ _ (λ a s. two_ways (value (place_of k old) (plain i.from) s) _ _ _ _ (λ b s. refl))))
    (c.find_variable-in-Compound.ensures k)
