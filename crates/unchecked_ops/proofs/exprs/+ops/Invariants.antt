use Rattle.std.proofs.Common.{◌≡◌, ◌+◌, ◌++◌, Bool, drop}
use Rattle.std.specs.Option.{option_map}
use Rattle.class_world.specs.declared.world.JavaType.{JavaType}
use Rattle.java_core.specs.View.{maybe, plain, plains}
use Rattle.type_facts.specs.Facts.{AreFacts, Facts}
use Rattle.unchecked_ops.specs.Casting.{AreCasts}
use Rattle.unchecked_ops.specs.Operations as spec
use Rattle.unchecked_ops.proofs.Heights.{height, heights, maybe_height}
use Rattle.unchecked_ops.proofs.exprs.+ops.Given as goal

abbrev pub decreases-ops : goal.decreases-ops
decreases-ops l = height (plain l.e.now)

abbrev pub decreases-maybe_ops : goal.decreases-maybe_ops
decreases-maybe_ops l = maybe_height (maybe (option_map plain l.of.now))

abbrev pub decreases-each_ops : goal.decreases-each_ops
decreases-each_ops l = heights (plains l.xs.now)

abbrev pub decreases-item_ops : goal.decreases-item_ops
decreases-item_ops l = heights (plains l.xs.now)

abbrev pub decreases-args : goal.decreases-args
decreases-args l = heights (plains l.xs.now)

abbrev pub decreases-method_args : goal.decreases-method_args
decreases-method_args l = heights (plains l.xs.now) + 1

abbrev pub decreases-static_args : goal.decreases-static_args
decreases-static_args l = heights (plains l.xs.now) + 1

abbrev pub invariant-each_ops-loop-x : goal.invariant-each_ops-loop-x
invariant-each_ops-loop-x l = (f : Facts) → AreFacts l.q f → (u : JavaType → JavaType → Bool) → AreCasts l.q.world.now u
    → l.out ++ spec.each_ops f u l.above (plains (drop l.x-index l.xs)) ≡ l.fn.out ++ spec.each_ops f u l.above (plains l.xs)

abbrev pub invariant-item_ops-loop-x : goal.invariant-item_ops-loop-x
invariant-item_ops-loop-x l = (f : Facts) → AreFacts l.q f → (u : JavaType → JavaType → Bool) → AreCasts l.q.world.now u
    → l.out ++ spec.item_ops f u l.above l.ty (plains (drop l.x-index l.xs)) ≡ l.fn.out ++ spec.item_ops f u l.above l.ty (plains l.xs)

abbrev pub invariant-args-loop-i : goal.invariant-args-loop-i
invariant-args-loop-i l = (f : Facts) → AreFacts l.q f → (u : JavaType → JavaType → Bool) → AreCasts l.q.world.now u
    → l.out ++ spec.args f u l.above l.ts l.i (plains (drop l.i l.xs)) ≡ l.fn.out ++ spec.args f u l.above l.ts 0 (plains l.xs)
