use Rattle.std.proofs.Common.{◌≡◌, ◌++◌, map, drop}
use Rattle.java_core.specs.View.{written}
use Rattle.interface_text.specs.Text as spec
use Rattle.interface_text.proofs.methods.push_throws.Given as goal

abbrev pub invariant-loop-ty : goal.invariant-loop-ty
invariant-loop-ty l = l.out.items ++ spec.throws_behind l.q l.before (map written (drop l.ty-index l.throws)) ≡ l.fn.out.items ++ spec.throws_text l.q (map written l.throws)
