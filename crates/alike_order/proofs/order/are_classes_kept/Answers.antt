use Rattle.std.proofs.Common.{ℕ, ◌<◌, below_more}
use Rattle.program_maps.specs.Ways.{goes_to}
use Rattle.alike_order.specs.Order.{IsPairKept}
use Rattle.alike_order.proofs.order.are_classes_kept.Goals as goal

pub returns-then-not-is_class_kept : goal.returns-then-not-is_class_kept
returns-then-not-is_class_kept c = (
  λ h. absurd (cc h),
  λ all.
      let is = c.is_class_kept.ensures.1 (λ g low. all c.loop-class.class g c.loop-class-test.true low) in
      absurd (cc (is, c.if-not-is_class_kept.true)),
)

pub loop-class-preserved : goal.loop-class-preserved
loop-class-preserved c k g low high =
    below_more (λ k. (g : ℕ) → g < c.args.count → IsPairKept c.args.old.now c.args.new.now (goes_to c.args.types.now) k g) c.loop-class.class
    (λ k low g high. c.loop-class.invariant k g low high) (c.is_class_kept.ensures.0 c.if-not-is_class_kept.false) k low g high
