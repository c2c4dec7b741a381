use Rattle.std.proofs.Common.{◌≡◌, ◌<◌, ◌∙◌, ◌++◌, [], inl, inr, true, false, Some, length, refl, sym, ap, subst, arith}
use Rattle.std.specs.Prelude.{slice_get, slice_set, not}
use Rattle.std.proofs.lemmas.Option.{slice_get_read}
use Rattle.std.proofs.lemmas.List.{length_push, length-append, nil_from_length}
use Rattle.type_reach.specs.Spread.{IsSpread}
use Rattle.type_reach.proofs.Lists.{left_set}
use Rattle.type_reach.proofs.Spreading.{spread_passes, spread_takes, spread_ends}
use Rattle.type_reach.proofs.marked.reaching.Goals as goal
use Rattle.type_reach.proofs.marked.reaching.Goals.{else-node-len-via-then-node-len+else-not-index, else-node-len-via-else-node-len}

within : (c : goal.In_ok-extend_from_slice) → c.in-Some.node < length c.loop-node.reached.items
within c = omega (arith, c.if-node-len.true, c.len-in-Some.ensures, c.loop-node.reached.ok.0)

row_at : (c : goal.In_ok-extend_from_slice) → slice_get c.in_ok-sources.sources.items c.in-Some.node ≡ Some c.index-then-not-index.result.now
row_at c =
    let sources = c.in_ok-sources.sources.items in
    slice_get_read sources (length sources) c.in-Some.node c.index-then-not-index.result.now refl (omega (arith, within c, c.loop-node.invariant.size, c.in_ok-sources.ensures.0)) c.index-then-not-index.ensures

pub loop-node-smaller-then-not-index : goal.loop-node-smaller-then-not-index
loop-node-smaller-then-not-index c =
    let reached = c.loop-node.reached.items in
    let n = c.in-Some.node in
    let new : slice_get reached n ≡ Some false = slice_get_read reached (length reached) n c.index.result.now refl (within c) c.index.ensures ∙ ap Some c.if-not-index.true in
    let fewer = left_set not reached c.in_ok-sources.sources.items n false true c.index-then-not-index.result.now new refl refl (row_at c) in
    let popped = ap length c.in-Some.ensures.items ∙ length_push c.pop.new.self.items n in
    let pushed = ap length c.in_ok-extend_from_slice.ensures.items ∙ length-append c.pop.new.self.items c.as_slice.result.now in
    let same = ap length c.as_slice.ensures in
    omega (arith, fewer, popped, pushed, same)

pub loop-node-preserved-then-not-index : goal.loop-node-preserved-then-not-index
loop-node-preserved-then-not-index c =
    let g = c.args.graph.now in
    let marks = c.args.marks.now in
    let reached = c.loop-node.reached.items in
    let rest = c.pop.new.self.items in
    let h = subst (IsSpread g marks reached) c.in-Some.ensures.items c.loop-node.invariant in
    subst (IsSpread g marks (slice_set reached c.in-Some.node true)) (ap (λ row. rest ++ row) (sym c.as_slice.ensures) ∙ sym c.in_ok-extend_from_slice.ensures.items)
    (spread_takes g marks reached rest c.index-then-not-index.result.now c.in_ok-sources.sources.items c.in-Some.node h c.in_ok-sources.ensures (within c) (row_at c))

pub loop-node-preserved : goal.loop-node-preserved
loop-node-preserved c =
    let reached = c.loop-node.reached.items in
    let n = c.in-Some.node in
    let h = subst (IsSpread c.args.graph.now c.args.marks.now reached) c.in-Some.ensures.items c.loop-node.invariant in
    spread_passes c.args.graph.now c.args.marks.now reached c.pop.new.self.items n h
    (elim c.else-node-len.branch [
      | else-node-len-via-then-node-len+else-not-index w ↦
          let lt : n < length reached = omega (arith, w.if-node-len.true, c.len-in-Some.ensures, c.loop-node.reached.ok.0) in
          inr (slice_get_read reached (length reached) n w.index.result.now refl lt w.index.ensures ∙ ap Some w.if-not-index.false)
      | else-node-len-via-else-node-len w ↦ inl (omega (arith, w.if-node-len.false, c.len-in-Some.ensures, c.loop-node.reached.ok.0))
    ])

pub returns : goal.returns
returns c =
    let empty : c.loop-node.waiting.items ≡ [] = nil_from_length c.loop-node.waiting.items (omega (arith, c.in_default.ensures.cases.0, c.loop-node.waiting.ok.0)) in
    let h = subst (IsSpread c.args.graph.now c.args.marks.now c.loop-node.reached.items) empty c.loop-node.invariant in
    record { len = h.size; reach = spread_ends c.args.graph.now c.args.marks.now c.loop-node.reached.items h }
