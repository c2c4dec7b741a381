use Rattle.std.proofs.Common.{arith, ◌≡◌, ◌+◌, drop, length, map, sym, ap, ◌∙◌}
use Rattle.std.proofs.Math.Seq.{drop-length}
use Rattle.java_core.specs.View.{field_plain}
use Rattle.core_meaning.specs.Calls.{place_at}
use Rattle.core_meaning.specs.Runs.{constants_given}
use Rattle.run_frames.specs.Frames.{nothing}
use Rattle.run_frames.proofs.Pieces.{dropped_next}
use Rattle.program_runs.proofs.Constants.{bound_on, goes_on, threw_on}
use Rattle.program_runs.proofs.runs.give_constants.Goals as goal

pub loop-field-preserved : goal.loop-field-preserved
loop-field-preserved c k i =
    let fs = c.all_fields-fields.result.now in
    let n = c.loop-field.field-index in
    let p = place_at k c.args.base.depth c.args.base.class in
    let next = dropped_next fs n c.field-item.result c.loop-field-test.true c.field-item.is in
    goes_on _ (constants_given p (map (λ x. field_plain x.now) (drop (n + 1) fs))) c.in-Gave.field-0 c.in_ok-piece.piece.state (rw c.in-Gave.is at (c.in_ok-piece.ensures k i))
    ∙ ap (λ ys. nothing (constants_given p (map (λ x. field_plain x.now) ys) c.loop-field.state)) (sym next)
    ∙ c.loop-field.invariant k i

pub returns-in-Threw : goal.returns-in-Threw
returns-in-Threw c k i =
    let fs = c.all_fields-fields.result.now in
    let n = c.loop-field.field-index in
    let p = place_at k c.args.base.depth c.args.base.class in
    let next = dropped_next fs n c.field-item.result c.loop-field-test.true c.field-item.is in
    threw_on _ (constants_given p (map (λ x. field_plain x.now) (drop (n + 1) fs))) c.in-Threw.thrown c.in_ok-piece.piece.state (rw c.in-Threw.is at (c.in_ok-piece.ensures k i))
    ∙ ap (λ ys. nothing (constants_given p (map (λ x. field_plain x.now) ys) c.loop-field.state)) (sym next)
    ∙ c.loop-field.invariant k i
    ∙ ap (λ ys. nothing (constants_given p ys c.args.state)) (c.all_fields-fields.ensures k i)

pub returns-in-Bound : goal.returns-in-Bound
returns-in-Bound c k i =
    let fs = c.all_fields-fields.result.now in
    let n = c.loop-field.field-index in
    let p = place_at k c.args.base.depth c.args.base.class in
    let next = dropped_next fs n c.field-item.result c.loop-field-test.true c.field-item.is in
    bound_on _ (constants_given p (map (λ x. field_plain x.now) (drop (n + 1) fs))) c.in_ok-piece.piece.state (rw c.in-Bound.is at (c.in_ok-piece.ensures k i))
    ∙ ap (λ ys. nothing (constants_given p (map (λ x. field_plain x.now) ys) c.loop-field.state)) (sym next)
    ∙ c.loop-field.invariant k i
    ∙ ap (λ ys. nothing (constants_given p ys c.args.state)) (c.all_fields-fields.ensures k i)

pub returns : goal.returns
returns c k i =
    let fs = c.all_fields-fields.result.now in
    let n = c.loop-field.field-index in
    let p = place_at k c.args.base.depth c.args.base.class in
    let e : n ≡ length fs = omega (arith, c.loop-field-test.false, c.loop-field.auto.field-index-end) in
    sym (ap (λ ys. nothing (constants_given p (map (λ x. field_plain x.now) ys) c.loop-field.state)) (ap (λ m. drop m fs) e ∙ drop-length fs))
    ∙ c.loop-field.invariant k i
    ∙ ap (λ ys. nothing (constants_given p ys c.args.state)) (c.all_fields-fields.ensures k i)
