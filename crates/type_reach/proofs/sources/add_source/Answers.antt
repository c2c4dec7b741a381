use Rattle.std.proofs.Common.{◌≡◌, ◌∙◌, ◌++◌, ◌∷◌, [], Some, length, get_or, subst, refl, ap, arith}
use Rattle.std.specs.Prelude.{slice_get, slice_set}
use Rattle.std.proofs.lemmas.List.{take_all, length-set}
use Rattle.std.proofs.lemmas.Option.{slice_get_read}
use Rattle.type_reach.proofs.Turned.{Added, added_here, added_nowhere}
use Rattle.type_reach.proofs.sources.add_source.Goals as goal
use Rattle.type_reach.proofs.sources.add_source.Goals.{then-at-len+in_ok-push, else-at-len}

pub loop-target-preserved : goal.loop-target-preserved
loop-target-preserved c = elim c.if-at-len.branch [
  | then-at-len+in_ok-push w ↦
      let sources = c.loop-target.sources.items in
      let target = get_or c.args.targets.now c.loop-target.target-index 0 in
      let row : slice_get sources target ≡ Some w.index_mut.result.now =
      slice_get_read sources (length sources) target w.index_mut.result.now refl (omega (arith, w.if-at-len.true, c.len.ensures, c.loop-target.sources.ok.0)) w.index_mut.ensures.value in
      let items : c.if-at-len.sources.items ≡ slice_set sources target (w.index_mut.result.now ++ c.args.node ∷ []) = ap (λ v. v.items) w.sources-is ∙ ap (slice_set sources target) w.in_ok-push.ensures.ok in
      rw items (record {
        size = length-set sources target (w.index_mut.result.now ++ c.args.node ∷ []) ∙ c.loop-target.invariant.size;
        added = added_here c.args.sources.now.items sources c.args.node c.args.targets.now c.loop-target.target-index target c.loop-target-test.true refl c.loop-target.invariant.size
            c.loop-target.invariant.added w.index_mut.result.now row;
      })
  | else-at-len w ↦ rw w.sources-is (record {
    size = c.loop-target.invariant.size;
    added = added_nowhere c.args.sources.now.items c.loop-target.sources.items c.args.node c.args.targets.now c.loop-target.target-index _ c.loop-target-test.true refl c.loop-target.invariant.size
        c.loop-target.invariant.added (omega (arith, w.if-at-len.false, c.len.ensures, c.loop-target.sources.ok.0));
  })
]

pub returns-clause-added : goal.returns-clause-added
returns-clause-added c = subst (λ ts. Added c.args.sources.now.items c.loop-target.sources.items c.args.node ts) (take_all c.loop-target.target-index c.args.targets.now c.loop-target-test.false) c.loop-target.invariant.added
