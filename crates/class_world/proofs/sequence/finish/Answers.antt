use Rattle.std.proofs.Common.{◌≡◌, ◌∙◌, ◌++◌, ◌∷◌, [], Some, true, false, length, refl, sym, ap, subst, arith}
use Rattle.std.specs.Prelude.{slice_get}
use Rattle.std.proofs.lemmas.Option.{slice_get_read}
use Rattle.class_world.specs.declared.sequence.Visit.{Visit}
use Rattle.class_world.specs.Merged.{FinishedBefore, declared_supers}
use Rattle.class_world.proofs.Searches as by
use Rattle.class_world.proofs.sequence.finish.Goals as goal

pub index_mut-requires : goal.index_mut-requires
index_mut-requires c =
    let alike = by.classes_snoc c.loop-top.stack.items c.pop.new.self.items c.in-Some.top c.in-Some.ensures.items in
    let lt = by.last_stacked c.args.w.now c.requires.supers c.loop-top.seen.items c.loop-top.finished.items (by.classes c.loop-top.stack.items) (by.classes c.pop.new.self.items) c.loop-top.listed.items c.in-Some.top.class
    c.loop-top.invariant.search alike in
    omega (arith, lt, c.loop-top.invariant.search.finished_size, c.loop-top.finished.ok.0)

pub loop-top-preserved-in-Continue-branch-2 : goal.loop-top-preserved-in-Continue-branch-2
loop-top-preserved-in-Continue-branch-2 c =
    let finished = c.loop-top.finished.items in
    record {
      search = by.search_leaves c.args.w.now c.requires.supers c.loop-top.seen.items finished _ (by.classes c.loop-top.stack.items) (by.classes c.pop.new.self.items) c.loop-top.listed.items
          c.push.new.self.items c.in-Some.top.class c.loop-top.invariant.search (by.classes_snoc c.loop-top.stack.items c.pop.new.self.items c.in-Some.top c.in-Some.ensures.items) refl
          c.in_ok-push-in-None.ensures.items (λ g args super. ap (λ bs. slice_get bs g) (sym c.as_slice.ensures.value) ∙ c.in-None.ensures.none g args super);
      passed = by.passed_below c.args.w.now finished _ c.loop-top.stack.items c.pop.new.self.items c.in-Some.top c.loop-top.invariant.passed c.in-Some.ensures.items
          (λ g. by.set_kept finished c.in-Some.top.class g);
      kept = c.loop-top.invariant.kept;
    }

pub index-requires : goal.index-requires
index-requires c =
    let direct = c.in-Some-first_unfinished.ensures.some.0 in
    let lt = by.super_within c.args.w.now c.requires.supers c.in-Some.top.class c.in-Some-first_unfinished.g direct.0 direct.1 in
    omega (arith, lt, c.loop-top.invariant.search.seen_size, c.loop-top.seen.ok.0)

pub index_mut-requires-in-Some-first_unfinished : goal.index_mut-requires-in-Some-first_unfinished
index_mut-requires-in-Some-first_unfinished c =
    let direct = c.in-Some-first_unfinished.ensures.some.0 in
    let lt = by.super_within c.args.w.now c.requires.supers c.in-Some.top.class c.in-Some-first_unfinished.g direct.0 direct.1 in
    omega (arith, lt, c.loop-top.invariant.search.seen_size, c.loop-top.seen.ok.0)

pub returns-then-index-clause-above : goal.returns-then-index-clause-above
returns-then-index-clause-above c =
    let found = c.in-Some-first_unfinished.ensures.some in
    let g = c.in-Some-first_unfinished.g in
    let lt = by.super_within c.args.w.now c.requires.supers c.in-Some.top.class g found.0.0 found.0.1 in
    let seen : slice_get c.loop-top.seen.items g ≡ Some true =
    slice_get_read c.loop-top.seen.items (length c.loop-top.seen.items) g c.index.result.now refl (omega (arith, lt, c.loop-top.invariant.search.seen_size)) c.index.ensures ∙ ap (λ b. Some b) c.if-index.true in
    by.search_meets c.args.w.now c.requires.supers c.loop-top.seen.items c.loop-top.finished.items (by.classes c.loop-top.stack.items) (by.classes c.pop.new.self.items) c.loop-top.listed.items
    c.in-Some.top.class g found.0.0 c.loop-top.invariant.search (by.classes_snoc c.loop-top.stack.items c.pop.new.self.items c.in-Some.top c.in-Some.ensures.items) seen
    (ap (λ bs. slice_get bs g) (sym c.as_slice.ensures.value) ∙ found.1) found.0.1

pub loop-top-smaller : goal.loop-top-smaller
loop-top-smaller c =
    let found = c.in-Some-first_unfinished.ensures.some in
    let g = c.in-Some-first_unfinished.g in
    let lt = by.super_within c.args.w.now c.requires.supers c.in-Some.top.class g found.0.0 found.0.1 in
    let not_seen : slice_get c.loop-top.seen.items g ≡ Some false =
    slice_get_read c.loop-top.seen.items (length c.loop-top.seen.items) g c.index.result.now refl (omega (arith, lt, c.loop-top.invariant.search.seen_size)) c.index.ensures ∙ ap (λ b. Some b) c.if-index.false in
    let fewer = by.one_seen c.loop-top.seen.items g not_seen in
    let old = ap length c.in-Some.ensures.items ∙ by.length_snoc c.pop.new.self.items c.in-Some.top in
    let first = ap length c.in_ok-push-in-Some-first_unfinished.ensures.items ∙ by.length_snoc c.pop.new.self.items _ in
    let second = ap length c.in_ok-push-in-Some-first_unfinished-2.ensures.items ∙ by.length_snoc c.push-in-Some-first_unfinished.new.self.items _ in
    omega (arith, fewer, old, first, second)

pub loop-top-preserved : goal.loop-top-preserved
loop-top-preserved c =
    let w = c.args.w.now in
    let found = c.in-Some-first_unfinished.ensures.some in
    let g = c.in-Some-first_unfinished.g in
    let rest = c.pop.new.self.items in
    let finished = c.loop-top.finished.items in
    let again : Visit = record { class = c.in-Some.top.class; passed = c.in-Some-first_unfinished.place } in
    let next : Visit = record { class = g; passed = 0 } in
    let lt = by.super_within w c.requires.supers c.in-Some.top.class g found.0.0 found.0.1 in
    let fresh : slice_get c.loop-top.seen.items g ≡ Some false =
    slice_get_read c.loop-top.seen.items (length c.loop-top.seen.items) g c.index.result.now refl (omega (arith, lt, c.loop-top.invariant.search.seen_size)) c.index.ensures ∙ ap (λ b. Some b) c.if-index.false in
    let is_rest = by.classes_snoc c.loop-top.stack.items rest c.in-Some.top c.in-Some.ensures.items in
    let is_again = by.classes_snoc c.push-in-Some-first_unfinished.new.self.items rest again c.in_ok-push-in-Some-first_unfinished.ensures.items in
    let is_longer = by.classes_snoc c.push-in-Some-first_unfinished-2.new.self.items c.push-in-Some-first_unfinished.new.self.items next c.in_ok-push-in-Some-first_unfinished-2.ensures.items in
    record {
      search = by.search_goes_up w c.requires.supers c.loop-top.seen.items _ finished (by.classes c.loop-top.stack.items) (by.classes rest)
          (by.classes c.push-in-Some-first_unfinished-2.new.self.items) c.loop-top.listed.items c.in-Some.top.class g found.0.0 c.loop-top.invariant.search is_rest fresh refl
          (is_longer ∙ ap (λ xs. xs ++ g ∷ []) (is_again ∙ sym is_rest)) found.0.1;
      passed =
          let below = by.passed_below w finished finished c.loop-top.stack.items rest c.in-Some.top c.loop-top.invariant.passed c.in-Some.ensures.items (λ g h. h) in
          let passed = subst (λ bs. FinishedBefore bs (declared_supers w c.in-Some.top.class) c.in-Some-first_unfinished.place) c.as_slice.ensures.value c.in-Some-first_unfinished.ensures.passed in
          let first = by.passed_push w finished rest c.push-in-Some-first_unfinished.new.self.items again below c.in_ok-push-in-Some-first_unfinished.ensures.items passed in
          by.passed_push w finished c.push-in-Some-first_unfinished.new.self.items c.push-in-Some-first_unfinished-2.new.self.items next first c.in_ok-push-in-Some-first_unfinished-2.ensures.items
          (by.none_before finished _);
      kept = λ k h. by.set_kept c.loop-top.seen.items g k (c.loop-top.invariant.kept k h);
    }
