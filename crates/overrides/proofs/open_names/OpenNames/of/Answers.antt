use Rattle.std.proofs.Common.{◌≡◌, false, arith}
use Rattle.std.proofs.lemmas.Option.{slice_get_within}
use Rattle.class_world.specs.declared.world.MethodInfo.{MethodInfo}
use Rattle.class_world.specs.Signatures.{IsMethod}
use Rattle.seen_methods.specs.Closed.{AreClosed}
use Rattle.overrides.specs.Scopes.{is_open}
use Rattle.overrides.proofs.Places.{numbers_more}
use Rattle.overrides.proofs.open_names.OpenNames.of.Goals as goal

pub loop-m-preserved : goal.loop-m-preserved
loop-m-preserved c =
    let added = c.in_ok-add.ensures in
    numbers_more (λ m. (info : MethodInfo) → IsMethod c.args.w.now m info → is_open c.add.new.self info.name ≡ false → AreClosed info.params) c.loop-m.m
    (λ m lt info is none. c.loop-m.invariant m lt info is (added.kept info.name none)) added.added

pub returns : goal.returns
returns c m info is none =
    let lt = slice_get_within c.args.w.now.methods m info is.0 in
    c.loop-m.invariant m (omega (arith, lt, c.loop-m-test.false, c.requires)) info is none
