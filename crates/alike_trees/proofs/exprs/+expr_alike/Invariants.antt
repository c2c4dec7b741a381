use Rattle.std.proofs.Common.{◌+◌}
use Rattle.std.specs.Option.{option_map}
use Rattle.java_core.specs.View.{maybe, plain, plains}
use Rattle.program_maps.specs.Trees.{ExprsAlike}
use Rattle.alike_trees.specs.Compared.{pair}
use Rattle.alike_trees.proofs.Heights.{height, heights, maybe_height}
use Rattle.alike_trees.proofs.Walks.{SoFar}
use Rattle.alike_trees.proofs.exprs.+expr_alike.Given as goal

abbrev pub decreases-expr_alike : goal.decreases-expr_alike
decreases-expr_alike l = height (plain l.old.now)

abbrev pub decreases-two_alike : goal.decreases-two_alike
decreases-two_alike l = height (plain l.first.now) + height (plain l.second.now) + 1

abbrev pub decreases-cond_alike : goal.decreases-cond_alike
decreases-cond_alike l = height (plain l.test.now) + height (plain l.yes.now) + height (plain l.no.now) + 1

abbrev pub decreases-call_alike : goal.decreases-call_alike
decreases-call_alike l = height (plain l.of.now) + heights (plains l.args.now) + 1

abbrev pub decreases-static_call_alike : goal.decreases-static_call_alike
decreases-static_call_alike l = maybe_height (maybe (option_map plain l.of.now)) + heights (plains l.args.now) + 1

abbrev pub decreases-maybe_alike : goal.decreases-maybe_alike
decreases-maybe_alike l = maybe_height (maybe (option_map plain l.old.now))

abbrev pub decreases-exprs_alike : goal.decreases-exprs_alike
decreases-exprs_alike l = heights (plains l.old.now)

abbrev pub invariant-exprs_alike-loop-at : goal.invariant-exprs_alike-loop-at
invariant-exprs_alike-loop-at l = SoFar (λ xs ys. ExprsAlike (pair l.sides) (plains xs) (plains ys)) l.at l.old l.new
