use Rattle.std.proofs.Common.{below_more, arith}
use Rattle.program_maps.specs.Ways.{goes_to}
use Rattle.alike_lookups.specs.Classes.{IsUpKept}
use Rattle.alike_lookups.proofs.classes.are_ups_kept.Goals as goal

pub loop-class-preserved : goal.loop-class-preserved
loop-class-preserved c =
    below_more (λ k. IsUpKept c.args.old.now c.args.new.now (goes_to c.args.types.now) k) c.loop-class.class c.loop-class.invariant (c.is_up_kept.ensures c.if-not-is_up_kept.false)

pub returns : goal.returns
returns c h k low = c.loop-class.invariant k (omega (arith, low))
