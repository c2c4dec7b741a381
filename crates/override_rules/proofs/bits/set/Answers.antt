use Rattle.std.proofs.Common.{refl}
use Rattle.class_world.proofs.Words.{one_set}
use Rattle.override_rules.proofs.bits.set.Goals as goal

pub returns-clause-sets : goal.returns-clause-sets
returns-clause-sets c = one_set c.args.words.now _ c.args.g c.requires refl
