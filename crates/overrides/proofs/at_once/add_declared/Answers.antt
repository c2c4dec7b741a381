use Rattle.std.proofs.Common.{ℕ, arith}
use Rattle.std.proofs.lemmas.Option.{slice_get_within}
use Rattle.class_world.specs.Overriding.{AreInstanceMethods, Replaces}
use Rattle.overrides.specs.AtOnce.{IsTied}
use Rattle.overrides.proofs.Places.{numbers_more}
use Rattle.overrides.proofs.at_once.add_declared.Goals as goal

pub add_replaced-requires-clause-replaced : goal.add_replaced-requires-clause-replaced
add_replaced-requires-clause-replaced c = c.replaced.ensures c.args.w.now c.requires.ties

pub loop-m-preserved : goal.loop-m-preserved
loop-m-preserved c =
    let w = c.args.w.now in
    let added = c.in_ok-add_replaced.ensures in
    record {
      ties = added.table;
      all = numbers_more (λ m. (own k : ℕ) → Replaces w own m k → AreInstanceMethods w m k → IsTied c.add_replaced.new.table m k) c.loop-m.m
          (λ m lt own k takes are. added.kept m k (c.loop-m.invariant.all m lt own k takes are)) added.all;
    }

pub returns-clause-all : goal.returns-clause-all
returns-clause-all c own m k takes are =
    let lt = slice_get_within c.args.w.now.methods m are.0.0 are.0.1.0 in
    c.loop-m.invariant.all m (omega (arith, lt, c.requires.count, c.loop-m-test.false)) own k takes are
