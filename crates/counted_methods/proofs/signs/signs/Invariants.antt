use Rattle.counted_methods.proofs.Signing.{AreFirst}
use Rattle.counted_methods.proofs.signs.signs.Given as goal

abbrev pub invariant-loop-m : goal.invariant-loop-m
invariant-loop-m l = AreFirst l.w l.c l.name l.numbers l.methods l.signs.items l.m-index
