use Rattle.std.proofs.Common.{subst}
use Rattle.class_world.specs.Subtypes.{IsSuperAs}
use Rattle.member_methods.specs.Signed.{IsOwnType}
use Rattle.member_methods.proofs.Seen.{own_of_world, told_seen}
use Rattle.member_methods.proofs.signatures.seen_with.Goals as goal

pub super_as-requires-clause-types : goal.super_as-requires-clause-types
super_as-requires-clause-types c = let own = c.requires.own in own_of_world c.args.w.now own.0 c.in-Some.own (subst (IsOwnType c.args.w.now own.0) c.in-Some.is own.1)

pub returns-in-Some-2 : goal.returns-in-Some-2
returns-in-Some-2 c = λ t own.
    told_seen c.args.w.now c.requires.sound t c.args.g c.in-Some.own c.in-Some-2.above c.arguments.result (subst (IsOwnType c.args.w.now t) c.in-Some.is own)
    (subst (IsSuperAs c.args.w.now c.in-Some.own c.args.g) c.in-Some-2.is c.in_ok-above.ensures) c.arguments.ensures.some c.arguments.ensures.none
