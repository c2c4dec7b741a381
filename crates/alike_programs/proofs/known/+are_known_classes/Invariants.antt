use Rattle.std.proofs.Common.{length}
use Rattle.alike_programs.proofs.known.+are_known_classes.Given as goal

abbrev pub decreases-are_known_classes : goal.decreases-are_known_classes
decreases-are_known_classes l = length l.classes.now
