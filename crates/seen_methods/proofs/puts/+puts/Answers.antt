use Rattle.std.proofs.Common.{sym, ◌∙◌, arith}
use Rattle.class_world.specs.Types.{substitute}
use Rattle.class_world.proofs.Substs.{put_known, put_unknown, next_put}
use Rattle.class_world.proofs.Weights.{lighter}
use Rattle.seen_methods.proofs.Arguments.{put_there}
use Rattle.seen_methods.proofs.puts.+puts.Goals as goal

pub all_substituted-substituted-requires : goal.all_substituted-substituted-requires
all_substituted-substituted-requires t c =
    let low = lighter c.args.xs.now c.loop-x.x-index c.x-item.result c.loop-x-test.true c.x-item.is in
    (rw (← c.decreases) (omega (arith, low)), tt)

pub all_substituted-loop-x-preserved : goal.all_substituted-loop-x-preserved
all_substituted-loop-x-preserved t c =
    next_put (substitute c.args.args.now) c.args.xs.now c.loop-x.ys c.push.new.self c.loop-x.x-index c.x-item.result c.in_ok-substituted.field-0
    c.loop-x.invariant c.loop-x-test.true c.x-item.is c.in_ok-substituted.ensures c.in_ok-push.ensures.ok

pub substituted-substituted-requires : goal.substituted-substituted-requires
substituted-substituted-requires t c =
    let at = c.in-Some.ensures.lookup in
    let low = lighter c.args.args.now c.in-Var.k c.in-Some.a.now at.3.0 at.1 in
    (rw (← c.decreases) (omega (arith, low)), tt)

pub substituted-returns-in-Some : goal.substituted-returns-in-Some
substituted-returns-in-Some t c =
    let at = c.in-Some.ensures.lookup in
    put_there c.args.args.now c.args.t.now c.in-Some.a.now c.in-Var.k _ (put_known c.args.args.now c.args.t.now c.in-Some.a.now c.in-Var.k c.in-Var.is at.3.0 at.1) c.substituted.ensures

pub substituted-returns-in-None : goal.substituted-returns-in-None
substituted-returns-in-None t c = sym c.in-Var.is ∙ sym (put_unknown c.args.args.now c.args.t.now c.in-Var.k c.in-Var.is c.in-None.ensures.lookup.3)
