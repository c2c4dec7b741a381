use Rattle.std.proofs.Common.{◌≡◌, length, subst, arith}
use Rattle.found_methods.specs.Own.{HoldsOwn}
use Rattle.found_methods.proofs.own.Own.of.Goals as goal

pub returns : goal.returns
returns c =
    let w = c.args.w.now in
    let all : c.loop-m.m ≡ length w.methods = omega (arith, c.loop-m-test.false, c.loop-m.auto.m-end, c.requires.count) in
    subst (λ n. HoldsOwn w c.args.labels.now n c.loop-m.own) all c.loop-m.invariant
