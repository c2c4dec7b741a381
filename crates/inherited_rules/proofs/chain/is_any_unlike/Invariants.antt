use Rattle.std.proofs.Common.{Option}
use Rattle.class_world.specs.declared.world.JavaType.{JavaType}
use Rattle.method_ties.proofs.Firsts.{Among}
use Rattle.inherited_rules.specs.Chains.{IsUnlikeOne}
use Rattle.inherited_rules.proofs.chain.is_any_unlike.Given as goal

abbrev pub invariant-loop-r : goal.invariant-loop-r
invariant-loop-r l = (r : Option JavaType) → Among l.bare l.r-index r → IsUnlikeOne l.w r l.others → ⊥
