use Rattle.std.proofs.Common.{◌≡◌}
use Rattle.numbered_methods.specs.Added.{AreListed}
use Rattle.numbered_methods.proofs.Firsts.{Among}
use Rattle.numbered_methods.proofs.NumberedMethods.of.Given as goal

abbrev pub invariant-loop-m : goal.invariant-loop-m
invariant-loop-m l = (l.numbered.class ≡ l.class) × AreListed l.w (Among l.methods l.m-index) l.numbered
