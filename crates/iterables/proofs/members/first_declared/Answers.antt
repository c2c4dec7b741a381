use Rattle.std.proofs.Common.{inl, inr, subst}
use Rattle.member_methods.proofs.Firsts.{low_or_last}
use Rattle.iterables.specs.Told.{DeclaresNamed}
use Rattle.iterables.proofs.members.first_declared.Goals as goal

pub loop-m-preserved : goal.loop-m-preserved
loop-m-preserved c = λ k lt h. elim (low_or_last k c.loop-m.m lt) [
  | inl low ↦ c.loop-m.invariant k low h
  | inr last ↦
      let yes = c.declares.ensures.1 (subst (DeclaresNamed c.args.w.now c.args.c c.args.name) last h) in
      absurd (cc (yes, c.if-declares.false))
]
