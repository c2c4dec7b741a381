use Rattle.std.proofs.Common.{◌≡◌, drop}
use Rattle.java_core.specs.View.{plain}
use Rattle.type_constraints.specs.Arguments as spec
use Rattle.type_constraints.proofs.Each.{Each}
use Rattle.type_constraints.proofs.arguments.each_constructs_alike.Given as goal

abbrev pub invariant-loop-k : goal.invariant-loop-k
invariant-loop-k l = Each l.at (λ a. spec.each_constructs_alike a l.t l.arity l.index (plain l.x) (drop l.k-index l.methods) ≡ spec.each_constructs_alike a l.t l.arity l.index (plain l.x) l.methods)
