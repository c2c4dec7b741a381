use Rattle.std.proofs.Common.{ap, map, refl, ◌∙◌}
use Rattle.java_core.specs.View.{param_plain}
use Rattle.marked_types.specs.Table.{param_mark}
use Rattle.type_constraints.proofs.Steps.{ended, step_at}
use Rattle.extract_constraints.specs.Told.{where_of}
use Rattle.extract_constraints.specs.Links as li
use Rattle.extract_constraints.proofs.program.param_locals.Goals as goal

pub loop-index-init : goal.loop-index-init
loop-index-init c = ap (li.param_locals (where_of c.args.at.now) c.args.method 0 (map param_plain c.args.params.now)) c.new-locals.ensures

pub loop-index-preserved : goal.loop-index-preserved
loop-index-preserved c =
    let a = where_of c.args.at.now in
    let m = c.args.method in
    let i = c.loop-index.index in
    let x = c.index-params-index.result in
    step_at (λ i xs s. li.param_locals a m i (map param_plain xs) s) (λ i x s. li.with_local s x.slot (li.or_own (param_mark a.reading.marks m i) x.ty)) (λ i x xs s. refl)
    c.args.params.now i x c.loop-index.locals c.in_ok-locals.locals _ c.loop-index-test.true c.index-params-index.is
    (c.in_ok-locals.ensures ∙ ap (li.with_local c.loop-index.locals x.slot) (c.in_ok-t.ensures ∙ ap (λ o. li.or_own o x.ty) c.param.ensures)) c.loop-index.invariant

pub returns : goal.returns
returns c =
    let a = where_of c.args.at.now in
    ended (λ xs s. li.param_locals a c.args.method c.loop-index.index (map param_plain xs) s) (λ s. refl) c.args.params.now c.loop-index.index c.loop-index.locals _ c.loop-index-test.false c.loop-index.invariant
