use Rattle.std.proofs.Common.{◌≡◌, ◌∙◌, Some, length, refl, sym, ap, subst, arith}
use Rattle.std.specs.Prelude.{slice_get}
use Rattle.std.proofs.lemmas.Option.{slice_get_read, slice_get_within}
use Rattle.type_reach.proofs.Turned.{Added, from_more}
use Rattle.type_reach.proofs.sources.reversed.Goals as goal

pub loop-node-preserved : goal.loop-node-preserved
loop-node-preserved c =
    let g = c.args.graph.now in
    let now = c.loop-node.sources.items in
    let items = c.as_slice-targets-items.result.now in
    let row = c.targets-item.result in
    let here : slice_get g c.loop-node.node ≡ Some row =
    ap (λ xs. slice_get xs c.loop-node.node) (sym c.as_slice-targets-items.ensures) ∙ slice_get_read items (length items) c.loop-node.node row refl c.loop-node-test.true c.targets-item.is in
    let added = c.in_ok-add_source.ensures in
    record {
      size = added.size ∙ c.loop-node.invariant.size;
      added = from_more g now c.add_source.new.sources.items c.loop-node.node row c.loop-node.invariant.size here c.loop-node.invariant.added
          (subst (λ ts. Added now c.add_source.new.sources.items c.loop-node.node ts) c.as_slice.ensures added.added);
    }

pub returns : goal.returns
returns c =
    let h = c.loop-node.invariant in (
      h.size,
      λ a b. (
        λ has. ((h.added a b).0 has).1,
        λ edge.
            let lt = slice_get_within c.args.graph.now a edge.0 edge.1 in
            (h.added a b).1 (omega (arith, lt, c.loop-node-test.false, ap length c.as_slice-targets-items.ensures), edge),
      ),
    )
