use Rattle.std.proofs.Common.{◌≡◌, ℕ, [], Some, true, length, refl, subst, ap, ◌∙◌, arith}
use Rattle.std.specs.Prelude.{slice_get, slice_set, IfNone}
use Rattle.std.proofs.lemmas.Option.{slice_get_read}
use Rattle.class_world.specs.Merged.{IsSearch}
use Rattle.class_world.proofs.Words.{set_here}
use Rattle.class_world.proofs.Transports.{all_next}
use Rattle.class_world.proofs.Searches as by
use Rattle.class_world.proofs.sequence.sort.Goals as goal
use Rattle.class_world.proofs.sequence.sort.Goals.{then-not-index+in_ok-c+in-None, else-not-index}

pub finish-requires-clause-search : goal.finish-requires-clause-search
finish-requires-clause-search c =
    by.search_enters c.args.w.now c.requires.supers c.loop-start.seen.items _ c.loop-start.finished.items c.loop-start.listed.items c.loop-start.start c.loop-start.invariant.search
    (omega (arith, c.loop-start-test.true, c.len-count.ensures))
    (slice_get_read c.loop-start.seen.items (length c.loop-start.seen.items) c.loop-start.start c.index.result.now refl
    (omega (arith, c.loop-start-test.true, c.len-count.ensures, c.loop-start.invariant.search.seen_size)) c.index.ensures ∙ ap (λ b. Some b) c.if-not-index.true) refl

pub loop-start-preserved : goal.loop-start-preserved
loop-start-preserved c = elim c.if-not-index.branch [
  | then-not-index+in_ok-c+in-None w ↦
      let found : IsSearch c.args.w.now w.finish.new.seen.items w.finish.new.finished.items [] w.finish.new.listed.items =
      subst (λ o. IfNone o (IsSearch c.args.w.now w.finish.new.seen.items w.finish.new.finished.items [] w.finish.new.listed.items)) w.in-None.is w.in_ok-c.ensures.search in
      let kept =
      subst (λ o. IfNone o ((k : ℕ) → slice_get (slice_set c.loop-start.seen.items c.loop-start.start true) k ≡ Some true → slice_get w.finish.new.seen.items k ≡ Some true)) w.in-None.is
      w.in_ok-c.ensures.kept in
      let here = set_here c.loop-start.seen.items c.loop-start.start true (omega (arith, c.loop-start-test.true, c.len-count.ensures, c.loop-start.invariant.search.seen_size)) in
      rw (w.seen-is, w.finished-is, w.listed-is) (record {
        search = found;
        all = all_next w.finish.new.seen.items true c.loop-start.start (λ k lt. kept k (by.set_kept c.loop-start.seen.items c.loop-start.start k (c.loop-start.invariant.all k lt))) (kept c.loop-start.start here);
      })
  | else-not-index w ↦
      let here = slice_get_read c.loop-start.seen.items (length c.loop-start.seen.items) c.loop-start.start c.index.result.now refl
      (omega (arith, c.loop-start-test.true, c.len-count.ensures, c.loop-start.invariant.search.seen_size)) c.index.ensures ∙ ap (λ b. Some b) w.if-not-index.false in
      rw (w.seen-is, w.finished-is, w.listed-is) (record { search = c.loop-start.invariant.search; all = all_next c.loop-start.seen.items true c.loop-start.start c.loop-start.invariant.all here })
]

pub returns : goal.returns
returns c = by.search_ends c.args.w.now c.requires.supers c.loop-start.seen.items c.loop-start.finished.items c.loop-start.listed.items c.loop-start.invariant.search
    (λ k lt. c.loop-start.invariant.all k (omega (arith, lt, c.loop-start-test.false, c.len-count.ensures)))
