use Rattle.std.proofs.Common.{arith}
use Rattle.std.proofs.lemmas.Option.{slice_get_within}
use Rattle.seen_methods.specs.Scopes.{IsScoped}
use Rattle.overrides.proofs.Places.{numbers_more}
use Rattle.overrides.proofs.scopes.are_scoped.Goals as goal

pub loop-m-preserved : goal.loop-m-preserved
loop-m-preserved c = numbers_more (IsScoped c.args.w.now) c.loop-m.m c.loop-m.invariant (c.is_scoped.ensures c.if-not-is_scoped.false)

pub returns : goal.returns
returns c h m info owner at at_owner =
    let lt = slice_get_within c.args.w.now.methods m info at in
    c.loop-m.invariant m (omega (arith, lt, c.loop-m-test.false, c.requires)) info owner at at_owner
