use Rattle.std.proofs.Common.{arith}
use Rattle.std.proofs.lemmas.Option.{slice_get_within}
use Rattle.class_world.specs.Ordered.{IsSingleClass}
use Rattle.class_world.proofs.Climbs.{next_too}
use Rattle.class_world.proofs.Singles.{not_two, unflagged_single}
use Rattle.class_world.proofs.below_two.search.Goals as goal
use Rattle.class_world.proofs.below_two.search.Goals.{else-is_marked-via-then-is_marked+in_ok-is_below_two+else-branch, else-is_marked-via-else-is_marked}

pub returns-then-branch-clause-first : goal.returns-then-branch-clause-first
returns-then-branch-clause-first c = (c.in_ok-is_below_two.ensures.two c.if-branch.true, λ d lt h. not_two c.args.w.now d (c.loop-c.invariant d lt) h)

pub loop-c-preserved : goal.loop-c-preserved
loop-c-preserved c =
    next_too (IsSingleClass c.args.w.now) c.loop-c.c c.loop-c.invariant
    (elim c.else-is_marked.branch [
      | else-is_marked-via-then-is_marked+in_ok-is_below_two+else-branch v ↦ v.in_ok-is_below_two.ensures.single (λ h. absurd (cc (h, v.if-branch.false)))
      | else-is_marked-via-else-is_marked v ↦
          unflagged_single c.args.w.now c.args.flags.now c.requires.flags c.loop-c.c (λ h. let never = c.is_marked.ensures.1 h in absurd (cc (never, v.if-is_marked.false)))
    ])

pub returns-clause-first : goal.returns-clause-first
returns-clause-first c = λ d h.
    let lt = slice_get_within c.args.w.now.types d h.0 h.1 in
    not_two c.args.w.now d (c.loop-c.invariant d (omega (arith, lt, c.loop-c-test.false, c.len-count.ensures))) h

pub returns-clause-single : goal.returns-clause-single
returns-clause-single c = λ d info at.
    let lt = slice_get_within c.args.w.now.types d info at in
    c.loop-c.invariant d (omega (arith, lt, c.loop-c-test.false, c.len-count.ensures)) info at
