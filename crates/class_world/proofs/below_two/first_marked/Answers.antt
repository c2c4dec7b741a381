use Rattle.std.proofs.Common.{arith}
use Rattle.std.proofs.lemmas.Option.{slice_get_within}
use Rattle.class_world.proofs.Singles.{not_two}
use Rattle.class_world.proofs.below_two.first_marked.Goals as goal

pub returns-then-is_marked-clause-first : goal.returns-then-is_marked-clause-first
returns-then-is_marked-clause-first c = (
  (c.requires.doubled c.loop-c.c).0 (c.is_marked.ensures.0 c.if-is_marked.true),
  λ d lt h. not_two c.args.w.now d ((c.requires.doubled d).1 (c.loop-c.invariant d lt)) h,
)

pub returns-clause-first : goal.returns-clause-first
returns-clause-first c = λ d h.
    let lt = slice_get_within c.args.w.now.types d h.0 h.1 in
    not_two c.args.w.now d ((c.requires.doubled d).1 (c.loop-c.invariant d (omega (arith, lt, c.loop-c-test.false)))) h

pub returns-clause-single : goal.returns-clause-single
returns-clause-single c = λ d info at.
    let lt = slice_get_within c.args.w.now.types d info at in
    (c.requires.doubled d).1 (c.loop-c.invariant d (omega (arith, lt, c.loop-c-test.false))) info at
