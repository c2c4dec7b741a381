use Rattle.std.proofs.Common.{◌≡◌, ap, ◌∙◌, arith}
use Rattle.class_world.specs.declared.world.JavaType.TheVariants as ty
use Rattle.class_world.specs.Types.{variables}
use Rattle.seen_methods.proofs.Arguments.{next_variable}
use Rattle.seen_methods.proofs.seen.own_type.Goals as goal

pub loop-k-preserved : goal.loop-k-preserved
loop-k-preserved c = next_variable c.loop-k.k c.loop-k.xs c.push.new.self c.loop-k.invariant c.in_ok-push.ensures.ok

pub returns : goal.returns
returns c info at =
    let counted = c.count_of-k-end.ensures info at in
    let all : c.loop-k.k ≡ info.params = omega (arith, counted, c.loop-k-test.false, c.loop-k.auto.k-end) in
    ap (ty.Class c.args.c) (c.loop-k.invariant ∙ ap (variables 0) all)
