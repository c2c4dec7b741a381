use Rattle.std.proofs.Common.{length}
use Rattle.decl_rules.proofs.modifiers.+repeats.Given as goal

abbrev pub decreases-repeats : goal.decreases-repeats
decreases-repeats l = length l.mods.now
