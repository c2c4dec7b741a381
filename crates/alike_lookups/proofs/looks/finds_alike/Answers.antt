use Rattle.alike_lookups.specs.Lookups.{sides}
use Rattle.alike_lookups.proofs.Alike.{fixed_alike, free_alike}
use Rattle.alike_lookups.proofs.looks.finds_alike.Goals as goal

pub returns-then-goes : goal.returns-then-goes
returns-then-goes c h =
    fixed_alike (sides c.args.old.now c.args.new.now c.args.map.now c.args.strict) c.args.method c.args.other (c.is_fixed.ensures.0 c.if-is_fixed.true) (c.is_fixed-then-goes.ensures.0 h) (c.goes.ensures.0 c.if-goes.true)

pub returns-then-not-is_fixed : goal.returns-then-not-is_fixed
returns-then-not-is_fixed c h =
    free_alike (sides c.args.old.now c.args.new.now c.args.map.now c.args.strict) c.args.method c.args.other c.requires.whole
    (λ f. let is = c.is_fixed.ensures.1 f in cc (is, c.if-is_fixed.false)) (λ f. let is = c.is_fixed-else-is_fixed.ensures.1 f in cc (is, c.if-not-is_fixed.true)) (c.finds_on_all.ensures h)
