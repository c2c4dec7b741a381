use Rattle.std.proofs.Common.{ℕ, nat_eq}
use Rattle.std.specs.HashSet.{contains}
use Rattle.method_ties.proofs.Firsts.{Among}
use Rattle.inherited_rules.specs.Parts.{AreJudged, IsJudged}
use Rattle.inherited_rules.proofs.results.has_unresolved_pair.Given as goal

abbrev pub invariant-loop-m : goal.invariant-loop-m
invariant-loop-m l = AreJudged l.w l.c l.methods (contains nat_eq l.judged) × ((x : ℕ) → Among l.methods l.m-index x → IsJudged l.w l.c l.methods x)
