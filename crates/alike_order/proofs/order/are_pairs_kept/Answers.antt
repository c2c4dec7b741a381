use Rattle.std.proofs.Common.{◌≡◌, ◌∙◌, length, subst, arith}
use Rattle.alike_order.specs.Supers.{KeepAllSupers}
use Rattle.alike_order.proofs.KeptSupers.{pairs_kept}
use Rattle.alike_order.proofs.order.are_pairs_kept.Goals as goal

pub returns-then-keep_all_supers : goal.returns-then-keep_all_supers
returns-then-keep_all_supers c = (
  λ h k g low high.
      let all : c.args.count ≡ length c.args.old.now.types = c.requires.count ∙ c.requires.to in
      let kept = subst (KeepAllSupers c.args.old.now c.args.new.now c.args.types.now) all (c.keep_all_supers.ensures.0 h) in
      pairs_kept c.args.old.now c.args.new.now c.args.types.now c.requires.old c.requires.new c.requires.to c.requires.back c.requires.top kept k g (omega (arith, low, all)) (omega (arith, high, all)),
  λ all. c.if-keep_all_supers.true,
)
