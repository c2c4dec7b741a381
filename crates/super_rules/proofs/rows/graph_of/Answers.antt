use Rattle.std.proofs.Common.{◌≡◌, ◌+◌, ◌∙◌, length, Some, refl, ap, arith}
use Rattle.std.specs.Prelude.{slice_get}
use Rattle.std.proofs.lemmas.Option.{slice_get_read}
use Rattle.std.proofs.lemmas.List.{length_push}
use Rattle.super_rules.specs.Looks.{IsDrawn}
use Rattle.super_rules.proofs.Edged.{drawn_none, drawn_more}
use Rattle.super_rules.proofs.Graphs.{drawn_within}
use Rattle.super_rules.proofs.rows.graph_of.Goals as goal

pub loop-number-init : goal.loop-number-init
loop-number-init c = record {
  size = ap length c.new-graph.ensures;
  drawn = λ java fs has. drawn_none (IsDrawn java fs c.args.types.now c.args.edges) c.new-graph.result c.new-graph.ensures;
}

pub loop-number-preserved : goal.loop-number-preserved
loop-number-preserved c =
    let types = c.args.types.now in
    let n = c.loop-number.number in
    let info = c.index-types-number.result in
    let row = c.in_ok-drawn_row.field-0 in
    let here : slice_get types n ≡ Some info = slice_get_read types (length types) n info refl c.loop-number-test.true c.index-types-number.is in
    record {
      size = ap length c.in_ok-push.ensures.ok ∙ length_push c.loop-number.graph row ∙ ap (λ k. k + 1) c.loop-number.invariant.size;
      drawn = λ java fs has.
          rw c.in_ok-push.ensures.ok (drawn_more (IsDrawn java fs types c.args.edges) c.loop-number.graph n row c.loop-number.invariant.size
          (c.in_ok-drawn_row.ensures java fs types has.entries here) (c.loop-number.invariant.drawn java fs has));
    }

pub returns : goal.returns
returns c = λ java fs has.
    let types = c.args.types.now in
    let drawn = c.loop-number.invariant.drawn java fs has in
    let all : c.loop-number.number ≡ length types = omega (arith, c.loop-number-test.false, c.loop-number.auto.number-end) in
    record {
      size = c.loop-number.invariant.size ∙ all;
      edge = λ d g. (
        λ h. ((drawn d g).0 h).1,
        λ h.
            let lt = drawn_within java fs types has.few c.args.edges d g h in
            (drawn d g).1 (omega (arith, lt, all), h),
      );
    }
