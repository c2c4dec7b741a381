use Rattle.std.proofs.Common.{◌≡◌, false, Some, sym, ap, ◌∙◌, subst, length, arith}
use Rattle.std.specs.Prelude.{slice_get}
use Rattle.std.proofs.lemmas.Option.{slice_get-get_or, slice_get_within}
use Rattle.class_world.specs.Sequences.{IsSequence}
use Rattle.class_world.proofs.Words.{length_set}
use Rattle.class_world.proofs.Searches.{length_replicate, none_seen}
use Rattle.class_world.proofs.Singles.{marked_next, single_next, single_past}
use Rattle.class_world.proofs.below_two.doubled_classes.Goals as goal
use Rattle.class_world.proofs.below_two.doubled_classes.Goals.{then-not-branch+in_ok-is_below_two+then-branch, else-not-branch, else-not-branch-via-then-not-branch+in_ok-is_below_two+else-branch, else-not-branch-via-else-not-branch}

pub loop-c-init : goal.loop-c-init
loop-c-init c =
    let made = c.in_ok-doubled.ensures.items_if_clones_equal (λ y e. e) in
    record {
      len = ap length made ∙ length_replicate _ false ∙ c.len-2.ensures;
      marked = λ k set. absurd (none_seen _ k (ap (λ ms. slice_get ms k) (sym made) ∙ set));
      single = λ i k lt. absurd (omega (arith, lt));
      paths = c.new-paths.ensures c.args.w.now;
    }

pub is_known_single-requires-clause-told : goal.is_known_single-requires-clause-told
is_known_single-requires-clause-told c = λ g args direct not.
    let items = c.as_slice-c-items.result.now in
    let sequence = subst (IsSequence c.args.w.now) (sym c.as_slice-c-items.ensures) c.requires.rows.sequence in
    let at = slice_get-get_or items c.loop-c.c-index 0 c.loop-c-test.true in
    let k = sequence.before c.loop-c.c-index _ g args at direct in
    c.loop-c.invariant.single k.0 g k.1 k.2 (λ was. not (ap (λ ms. slice_get ms g) c.as_slice.ensures.value ∙ was))

pub loop-c-preserved : goal.loop-c-preserved
loop-c-preserved c =
    let w = c.args.w.now in
    let items = c.as_slice-c-items.result.now in
    let sequence = subst (IsSequence w) (sym c.as_slice-c-items.ensures) c.requires.rows.sequence in
    let at = slice_get-get_or items c.loop-c.c-index 0 c.loop-c-test.true in
    let marks = c.loop-c.doubled.items in
    elim c.if-not-branch.branch [
      | then-not-branch+in_ok-is_below_two+then-branch v ↦
          let lt = sequence.known c.loop-c.c-index _ at in
          rw v.doubled-is (record {
            len = length_set marks _ _ ∙ c.loop-c.invariant.len;
            marked = marked_next w marks _ c.loop-c.invariant.marked (v.in_ok-is_below_two.ensures.two v.if-branch.true);
            single = single_past w items marks c.loop-c.c-index _ c.loop-c.invariant.single at (omega (arith, lt, c.loop-c.invariant.len));
            paths = c.in_ok-is_known_single.ensures.paths;
          })
      | else-not-branch v ↦ rw v.doubled-is (record {
        len = c.loop-c.invariant.len;
        marked = c.loop-c.invariant.marked;
        single = single_next w items marks c.loop-c.c-index _ c.loop-c.invariant.single at (elim v.else-not-branch.branch [
          | else-not-branch-via-then-not-branch+in_ok-is_below_two+else-branch u ↦ u.in_ok-is_below_two.ensures.single (λ h. absurd (cc (h, u.if-branch.false)))
          | else-not-branch-via-else-not-branch u ↦ c.in_ok-is_known_single.ensures.single u.if-not-branch.false
        ]);
        paths = c.in_ok-is_known_single.ensures.paths;
      })
    ]

pub returns : goal.returns
returns c = λ k. (
  λ set. c.loop-c.invariant.marked k set,
  λ not info at.
      let place = c.requires.rows.sequence.all k (slice_get_within c.args.w.now.types k info at) in
      let there : slice_get c.as_slice-c-items.result.now place.0 ≡ Some k = ap (λ l. slice_get l place.0) c.as_slice-c-items.ensures ∙ place.1 in
      let lt = slice_get_within c.as_slice-c-items.result.now place.0 k there in
      c.loop-c.invariant.single place.0 k (omega (arith, lt)) there not info at,
)
