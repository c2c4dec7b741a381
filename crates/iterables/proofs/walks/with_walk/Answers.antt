use Rattle.std.proofs.Common.{refl}
use Rattle.class_world.specs.declared.world.World.{World}
use Rattle.iterables.proofs.Alike.{AreAlike, sound_there, walk_there}
use Rattle.iterables.proofs.walks.with_walk.Goals as goal

pub returns : goal.returns
returns c =
    let v : World = record { types = c.args.w.types; methods = c.args.w.methods; fields = c.args.w.fields; walk = c.in_ok-walk.walk; above = c.args.w.above } in
    let alike : AreAlike c.args.w v = record { types = refl; methods = refl } in
    record {
      types = refl;
      methods = refl;
      fields = refl;
      sound = sound_there c.args.w v alike refl c.requires.sound;
      walk = walk_there c.args.names.now c.args.w v alike c.in_ok-walk.walk c.in_ok-walk.ensures;
    }
